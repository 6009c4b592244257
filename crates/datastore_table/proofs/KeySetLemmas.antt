-- A set of keys: its index leads to the number of each key.
use Rattle.std.proofs.Common.{◌≡◌, ◌∙◌, ◌⊎◌, inl, inr, ◌++◌, ℕ, zero, suc, Bool, true, false, ◌||◌, List, [], ◌∷◌}
use Rattle.std.proofs.Common.{Option, Some, None, ap, length, refl, slice_get, subst, sym}
use Rattle.std.specs.List.{Contains, list_any}
use Rattle.std.specs.Option.{option_map_or}
use Rattle.digest_index.specs.Index.{Enters, IndexState, IsUnder, entries_under, first_under, further_under}
use Rattle.digest_index.specs.declared.Further.{Further}
use Rattle.portal_base.proofs.Unique.{IsIn-Contains}
use Rattle.table_schema.specs.declared.cell.Cell.{Cell}
use Rattle.datastore_table.specs.Cells.{same_cells}
use Rattle.datastore_table.specs.Index.{digest_of}
use Rattle.datastore_table.specs.KeySet.{AreNumbered, is_key_number}
use Rattle.datastore_table.specs.Put.{has_key}
use Rattle.datastore_table.proofs.ApartLemmas.{any_map}
use Rattle.datastore_table.proofs.KeyLemmas.{cells-is}
use Rattle.datastore_table.proofs.ReferenceLemmas.{any-found, found-any}
use Rattle.datastore_table.proofs.StoreLemmas.{entered_kept, entered_one}

-- ---- a key is found

-- A key at some number is in the list.
number_has : (keys : List (List Cell)) (key : List Cell) (number : ℕ) → is_key_number keys key number ≡ true
    → has_key keys key ≡ true
number_has [] key number h = absurd (cc)
number_has (k ∷ keys) key zero h = ap (λ b. b || has_key keys key) h
number_has (k ∷ keys) key (suc number) h =
    ap (λ b. same_cells k key || b) (number_has keys key number h) ∙ or_true (same_cells k key)
  where
    or_true : (b : Bool) → (b || true) ≡ true
    or_true true = refl
    or_true false = refl

-- A key that is in the list is at some number.
number_of : (keys : List (List Cell)) (key : List Cell) → has_key keys key ≡ true
    → (number : ℕ) × (slice_get keys number ≡ Some key) × (is_key_number keys key number ≡ true)
number_of [] key h = absurd (cc)
number_of (k ∷ keys) key h = by (same_cells k key) refl (λ rest. number_of keys key rest) h
  where
    by : (b : Bool) → same_cells k key ≡ b
        → (has_key keys key ≡ true
        → (number : ℕ) × (slice_get keys number ≡ Some key) × (is_key_number keys key number ≡ true))
        → (b || has_key keys key) ≡ true
        → (number : ℕ) × (slice_get (k ∷ keys) number ≡ Some key) × (is_key_number (k ∷ keys) key number ≡ true)
    by true same more t = (0, ap Some (cells-is k key same), same)
    by false other more t = let rest = more t in (suc rest.0, rest.1, rest.2)

same_tests : (a b : Bool) → (a ≡ true → b ≡ true) → (b ≡ true → a ≡ true) → a ≡ b
same_tests true b to from = sym (to refl)
same_tests false true to from = from refl
same_tests false false to from = refl

-- The numbers under a key's digest are all that have to be tried.
pub has_key_is : (keys : List (List Cell)) (key : List Cell) (index : IndexState ℕ) → AreNumbered keys index
    → has_key keys key
    ≡ (option_map_or (is_key_number keys key) (first_under (digest_of [] key) index) false
    || list_any (λ (e : Further ℕ). is_key_number keys key e.number)
    (entries_under (digest_of [] key) index.further))
has_key_is keys key index numbered = same_tests (has_key keys key) (first || beside) to from
  where
    d : ℕ
    d = digest_of [] key

    test : ℕ → Bool
    test = is_key_number keys key

    first : Bool
    first = option_map_or test (first_under d index) false

    beside : Bool
    beside = list_any (λ (e : Further ℕ). test e.number) (entries_under d index.further)

    or_true : (b : Bool) → (b || true) ≡ true
    or_true true = refl
    or_true false = refl

    found : (number : ℕ) → test number ≡ true → IsUnder index d number → (first || beside) ≡ true
    found number has (inl e) = ap (λ o. option_map_or test o false || beside) e ∙ ap (λ b. b || beside) has
    found number has (inr m) =
        ap (λ b. first || b)
        (sym (any_map (λ (e : Further ℕ). e.number) test (entries_under d index.further))
        ∙ found-any test number (further_under d index.further)
        (IsIn-Contains number (further_under d index.further) m) has)
        ∙ or_true first

    to : has_key keys key ≡ true → (first || beside) ≡ true
    to h = let at = number_of keys key h in found at.0 at.2 (numbered at.0 key at.1)

    by_first : (o : Option ℕ) → option_map_or test o false ≡ true → has_key keys key ≡ true
    by_first None h = absurd (cc)
    by_first (Some number) h = number_has keys key number h

    by_beside : beside ≡ true → has_key keys key ≡ true
    by_beside h =
        let at = any-found (λ (e : Further ℕ). test e.number) (entries_under d index.further) h in
        number_has keys key at.0.number at.2

    split : (b : Bool) → first ≡ b → (b || beside) ≡ true → has_key keys key ≡ true
    split true e t = by_first (first_under d index) e
    split false e t = by_beside t

    from : (first || beside) ≡ true → has_key keys key ≡ true
    from h = split first refl h

-- The first number under the digest is a key's.
pub has_first : (keys : List (List Cell)) (key : List Cell) (index : IndexState ℕ) → AreNumbered keys index
    → option_map_or (is_key_number keys key) (first_under (digest_of [] key) index) false ≡ true
    → has_key keys key ≡ true
has_first keys key index numbered first =
    has_key_is keys key index numbered
    ∙ ap (λ b. b || list_any (λ (e : Further ℕ). is_key_number keys key e.number)
    (entries_under (digest_of [] key) index.further)) first

-- Otherwise a further one is, if there is any.
pub has_further : (keys : List (List Cell)) (key : List Cell) (index : IndexState ℕ) → AreNumbered keys index
    → option_map_or (is_key_number keys key) (first_under (digest_of [] key) index) false ≡ false
    → has_key keys key ≡ list_any (λ (e : Further ℕ). is_key_number keys key e.number)
    (entries_under (digest_of [] key) index.further)
has_further keys key index numbered first =
    has_key_is keys key index numbered
    ∙ ap (λ b. b || list_any (λ (e : Further ℕ). is_key_number keys key e.number)
    (entries_under (digest_of [] key) index.further)) first

-- ---- a key is added

-- A key of the longer list is one of the shorter, or the added one at its end.
get_more : (keys : List (List Cell)) (added key : List Cell) (number : ℕ)
    → slice_get (keys ++ added ∷ []) number ≡ Some key
    → (slice_get keys number ≡ Some key) ⊎ ((number ≡ length keys) × (added ≡ key))
get_more [] added key zero at = inr (refl, cc)
get_more [] added key (suc number) at = absurd (cc)
get_more (k ∷ keys) added key zero at = inl at
get_more (k ∷ keys) added key (suc number) at = by (get_more keys added key number at)
  where
    by : (slice_get keys number ≡ Some key) ⊎ ((number ≡ length keys) × (added ≡ key))
        → (slice_get keys number ≡ Some key) ⊎ ((suc number ≡ length (k ∷ keys)) × (added ≡ key))
    by (inl there) = inl there
    by (inr last) = inr (ap suc last.0, last.1)

pub numbered_more : (keys : List (List Cell)) (added : List Cell) (old new : IndexState ℕ) → AreNumbered keys old
    → Enters old new (digest_of [] added) (length keys) → AreNumbered (keys ++ added ∷ []) new
numbered_more keys added old new numbered enters number key at = by (get_more keys added key number at)
  where
    by : (slice_get keys number ≡ Some key) ⊎ ((number ≡ length keys) × (added ≡ key))
        → IsUnder new (digest_of [] key) number
    by (inl there) =
        entered_kept old new (digest_of [] added) (length keys) enters (digest_of [] key) number
        (numbered number key there)
    by (inr last) =
        subst (λ n. IsUnder new (digest_of [] key) n) (sym last.0)
        (subst (λ k. IsUnder new (digest_of [] k) (length keys)) last.1
        (entered_one old new (digest_of [] added) (length keys) enters))

-- Reserved room changes nothing.
pub numbered_same : (keys : List (List Cell)) (old new : IndexState ℕ)
    → ((d : ℕ) → first_under d new ≡ first_under d old) → new.further ≡ old.further → AreNumbered keys old
    → AreNumbered keys new
numbered_same keys old new first further numbered number key at = by (numbered number key at)
  where
    d : ℕ
    d = digest_of [] key

    by : IsUnder old d number → IsUnder new d number
    by (inl there) = inl (first d ∙ there)
    by (inr among) = inr (subst (λ es. Contains (further_under d es) number) (sym further) among)
