-- What is restored from a list of datasets, and which lists have unique keys.
use Rattle.std.proofs.Common.{◌≡◌, ℕ, suc, Bool, true, false, not, ◌&&◌, List, [], ◌∷◌, ◌++◌, Option, Some}
use Rattle.std.proofs.Common.{None, map, refl, sym, ap, ap₂, ◌∙◌, subst, inl, inr, true≢false, arith}
use Rattle.std.proofs.Common.{is_some, append_assoc, Contains}
use Rattle.std.specs.Prelude.{find}
use Rattle.std.specs.List.{AllPairs}
use Rattle.std.specs.Option.{option_map}
use Rattle.std.specs.Ordering.{is_eq}
use Rattle.std.specs.Str.{bytes_eq}
use Rattle.std.specs.declared.cmp.Ordering.TheVariants.{Less}
use Rattle.std.proofs.lemmas.Bool.{and_from, and_left, and_parts, and_right, or_right}
use Rattle.std.proofs.lemmas.List.Kept.{AllPairs-cons}
use Rattle.std.proofs.lemmas.Slice.Eq.{bytes_eq-Decides}
use Rattle.portal_base.specs.Ordered.{IsAscending, IsBelowAll, ascending, inserted, upserted}
use Rattle.portal_base.proofs.Filtered.{find-list_any, is_some-find_any}
use Rattle.portal_base.proofs.Inserted.{AreApart, IsAscending-ascending, list_any-ascending}
use Rattle.portal_base.proofs.Unique.{IsIn, IsIn-Contains, Contains-IsIn, IsIn-ascending, ascending-IsIn, below_in}
use Rattle.portal_base.proofs.Unique.{not_below_itself}
use Rattle.portal_base.proofs.Upserted.{All-each, upserted-none}
use Rattle.packages.specs.Named.{is_named}
use Rattle.packages.specs.Order.{dataset_cmp, dataset_cmp_total}
use Rattle.packages.specs.Restored.{ShareNoKey, have_unique_keys, is_free, is_in_use}
use Rattle.packages.specs.Shelf.{ShelfState, IsValidShelf, datasets_of, number_in}
use Rattle.packages.specs.declared.package.Package.{Package}
use Rattle.packages.proofs.DatasetLemmas.{id_like, unlike}
use Rattle.packages.proofs.FindLemmas.{fails, find-none, list_any-map, none-find, none-list_any}
use Rattle.packages.proofs.ShelfInvariantLemmas.{id_named, named-cases}

-- ---- keys in use

is_some-mapped : {X Y : Type 0} (f : X → Y) (o : Option X) → is_some (option_map f o) ≡ is_some o
is_some-mapped f None = refl
is_some-mapped f (Some x) = refl

-- A text finds a number exactly if it is in use.
pub found_in_use : (key : List ℕ) (s : ShelfState) → is_some (number_in key s) ≡ is_in_use key (datasets_of s)
found_in_use key s =
    is_some-mapped (λ (e : ℕ × Package). e.0) (find (λ e. is_named key e.1) s.entries)
    ∙ is_some-find_any (λ (e : ℕ × Package). is_named key e.1) s.entries
    ∙ sym (list_any-ascending dataset_cmp (is_named key) (map (λ e. e.1) s.entries)
    ∙ list_any-map (λ (e : ℕ × Package). e.1) (is_named key) s.entries)

not_found : (o : Option ℕ) → is_some o ≡ false → o ≡ None
not_found None none = refl
not_found (Some n) none = absurd (cc)

-- No dataset has a text that isn't in use.
not_named : (key : List ℕ) (ds : List Package) → is_in_use key ds ≡ false → (d : Package) → IsIn d ds
    → is_named key d ≡ false
not_named key ds free d m = find-none (is_named key) d ds (find-list_any (is_named key) ds free) m

-- ---- a dataset that is free

both_not : (a b : Bool) → (not a && not b) ≡ true → (a ≡ false) × (b ≡ false)
both_not false false h = (refl, refl)
both_not false true h = absurd (cc)
both_not true b h = absurd (cc)

free-parts : (d : Package) (ds : List Package) → is_free d ds ≡ true
    → (is_in_use d.id ds ≡ false) × (is_in_use d.name ds ≡ false)
free-parts d ds free = both_not (is_in_use d.id ds) (is_in_use d.name ds) free

-- Neither its id nor its name finds a number.
pub free-number_in : (d : Package) (s : ShelfState) → is_free d (datasets_of s) ≡ true
    → (number_in d.id s ≡ None) × (number_in d.name s ≡ None)
free-number_in d s free =
    let parts = free-parts d (datasets_of s) free in (
      not_found (number_in d.id s) (found_in_use d.id s ∙ parts.0),
      not_found (number_in d.name s) (found_in_use d.name s ∙ parts.1),
    )

-- It is free exactly if neither its id nor its name finds a number.
pub free_by_numbers : (d : Package) (s : ShelfState) (id name : Bool) → id ≡ is_some (number_in d.id s)
    → name ≡ is_some (number_in d.name s) → (not id && not name) ≡ is_free d (datasets_of s)
free_by_numbers d s id name by_id by_name =
    ap₂ (λ (a b : Bool). not a && not b) (by_id ∙ found_in_use d.id s) (by_name ∙ found_in_use d.name s)

-- Its id and its name aren't among the others' exactly if they share no key with it.
free-from : (d : Package) (ds : List Package) → ((e : Package) → IsIn e ds → is_named d.id e ≡ true → ⊥)
    → ((e : Package) → IsIn e ds → is_named d.name e ≡ true → ⊥) → is_free d ds ≡ true
free-from d ds id name =
    ap₂ (λ (a b : Bool). not a && not b)
    (none-list_any (is_named d.id) ds (λ e m. fails (is_named d.id e) (id e m)))
    (none-list_any (is_named d.name) ds (λ e m. fails (is_named d.name e) (name e m)))

free-ShareNoKey : (d : Package) (ds : List Package) → is_free d ds ≡ true → (e : Package) → IsIn e ds → ShareNoKey d e
free-ShareNoKey d ds free e m =
    λ key mine its.
    let parts = free-parts d ds free in
    elim (named-cases key d mine) [
      | inl id ↦ true≢false (sym its ∙ ap (λ k. is_named k e) (sym id) ∙ not_named d.id ds parts.0 e m)
      | inr name ↦ true≢false (sym its ∙ ap (λ k. is_named k e) (sym name) ∙ not_named d.name ds parts.1 e m)
    ]

-- It has another id than the others.
free-unlike : (d : Package) (ds : List Package) → is_free d ds ≡ true → (e : Package) → IsIn e ds
    → is_eq (dataset_cmp e d) ≡ false
free-unlike d ds free e m =
    unlike e d
    (λ same. free-ShareNoKey d ds free e m e.id (ap (λ k. is_named k d) same ∙ id_named d) (id_named e))

-- It is inserted.
pub upserted-free : (d : Package) (ds : List Package) → is_free d ds ≡ true
    → upserted dataset_cmp d ds ≡ inserted dataset_cmp d ds
upserted-free d ds free =
    upserted-none dataset_cmp d ds (none-find (λ e. is_eq (dataset_cmp e d)) ds (free-unlike d ds free))

-- Whether it is free doesn't depend on the order of the others.
free-ascending : (d : Package) (ds : List Package) → is_free d (ascending dataset_cmp ds) ≡ is_free d ds
free-ascending d ds =
    ap₂ (λ (a b : Bool). not a && not b) (list_any-ascending dataset_cmp (is_named d.id) ds)
    (list_any-ascending dataset_cmp (is_named d.name) ds)

-- ---- a list of datasets that are put one after another

-- The shelf has these datasets, and their keys are unique.
pub record IsRestored (s : ShelfState) (done : List Package) : Type 0 where
  pub by_id : datasets_of s ≡ ascending dataset_cmp done
  pub unique : have_unique_keys done ≡ true
  pub valid : IsValidShelf s

IsValidShelf-none : IsValidShelf (record { entries = []; room = None })
IsValidShelf-none = record {
  numbers = tt;
  below = λ n d there. absurd (cc);
  apart = λ key m n d e there also. absurd (cc);
  vacant = tt;
}

pub IsRestored-none : (s : ShelfState) → s.entries ≡ [] → s.room ≡ None → IsRestored s []
IsRestored-none s none room =
    let same : s ≡ record { entries = []; room = None } =
    ap₂ (λ (es : List (ℕ × Package)) (r : Option ℕ). record { entries = es; room = r }) none room in
    subst (λ (t : ShelfState). IsRestored t []) (sym same)
    (record { by_id = refl; unique = refl; valid = IsValidShelf-none })

pub IsRestored-put : (old new : ShelfState) (d : Package) (done : List Package) → IsRestored old done
    → is_free d (datasets_of old) ≡ true → datasets_of new ≡ inserted dataset_cmp d (datasets_of old)
    → IsValidShelf new → IsRestored new (d ∷ done)
IsRestored-put old new d done was free put valid =
    record {
      by_id = put ∙ ap (inserted dataset_cmp d) was.by_id;
      unique = and_from (is_free d done) (have_unique_keys done)
          (sym (ap (is_free d) was.by_id ∙ free-ascending d done) ∙ free) was.unique;
      valid = valid;
    }

-- The last dataset of the rest comes before those that were put.
pub moved-last : (all rest left done : List Package) (d : Package) → rest ++ done ≡ all → rest ≡ left ++ d ∷ []
    → left ++ d ∷ done ≡ all
moved-last all rest left done d whole last =
    sym (append_assoc left (d ∷ []) done) ∙ ap (λ l. l ++ done) (sym last) ∙ whole

-- Where the last datasets don't have unique keys, all don't.
repeated-last : (xs ys : List Package) → have_unique_keys ys ≡ false → have_unique_keys (xs ++ ys) ≡ false
repeated-last [] ys repeated = repeated
repeated-last (x ∷ xs) ys repeated =
    and_right (is_free x (xs ++ ys)) (have_unique_keys (xs ++ ys)) (repeated-last xs ys repeated)

pub repeated-put : (s : ShelfState) (d : Package) (rest done : List Package) → IsRestored s done
    → is_free d (datasets_of s) ≡ false → have_unique_keys (rest ++ d ∷ done) ≡ false
repeated-put s d rest done was taken =
    repeated-last rest (d ∷ done)
    (and_left (is_free d done) (have_unique_keys done)
    (sym (ap (is_free d) was.by_id ∙ free-ascending d done) ∙ taken))

-- ---- unique keys, as a property of each two datasets

pub unique-ShareNoKey : (ds : List Package) → have_unique_keys ds ≡ true → AllPairs ShareNoKey ds
unique-ShareNoKey [] unique = λ i j d lt within. absurd (omega arith)
unique-ShareNoKey (d ∷ ds) unique =
    let parts = and_parts (is_free d ds) (have_unique_keys ds) unique in
    AllPairs-cons ShareNoKey d ds (All-each (ShareNoKey d) ds (free-ShareNoKey d ds parts.0))
    (unique-ShareNoKey ds parts.1)

name_named : (d : Package) → is_named d.name d ≡ true
name_named d = or_right (bytes_eq d.id d.name) (bytes_eq d.name d.name) ((bytes_eq-Decides d.name d.name).1 refl)

-- The first dataset shares no key with a later one.
first-ShareNoKey : (d : Package) (ds : List Package) → AllPairs ShareNoKey (d ∷ ds) → (e : Package) → IsIn e ds
    → ShareNoKey d e
first-ShareNoKey d ds apart e m =
    let at = Contains-IsIn e ds m in
    subst (ShareNoKey d) at.2 (apart 0 (suc at.0) e (omega arith) (omega (arith, at.1)))

pub ShareNoKey-unique : (ds : List Package) → AllPairs ShareNoKey ds → have_unique_keys ds ≡ true
ShareNoKey-unique [] apart = refl
ShareNoKey-unique (d ∷ ds) apart =
    and_from (is_free d ds) (have_unique_keys ds)
    (free-from d ds (λ e m. first-ShareNoKey d ds apart e m d.id (id_named d))
    (λ e m. first-ShareNoKey d ds apart e m d.name (name_named d)))
    (ShareNoKey-unique ds (λ i j x lt within. apart (suc i) (suc j) x (omega arith) (omega arith)))

-- ---- the datasets of a valid state

-- A dataset with this value of a field, among these, is the one whose other field has that value.
abbrev AreOne : (Package → List ℕ) → (Package → List ℕ) → List Package → Type 0
AreOne one other ds = (d e : Package) → IsIn d ds → IsIn e ds → one d ≡ other e → d ≡ e

-- A dataset that is below all isn't among them.
not_below : (d e : Package) (ds : List Package) → IsBelowAll dataset_cmp d ds → IsIn e ds → d ≡ e → ⊥
not_below d e ds below m same =
    not_below_itself dataset_cmp dataset_cmp_total d
    (subst (λ f. dataset_cmp d f ≡ Less) (sym same) (below_in dataset_cmp d e ds below m))

other_id : (d e : Package) (ds : List Package) → IsBelowAll dataset_cmp d ds → IsIn e ds → d.id ≡ e.id → ⊥
other_id d e ds below m same =
    let less : dataset_cmp d e ≡ Less = below_in dataset_cmp d e ds below m in
    true≢false (sym (id_like d e same) ∙ ap is_eq less)

ascending-unique : (ds : List Package) → IsAscending dataset_cmp ds → AreOne (λ d. d.name) (λ d. d.name) ds
    → AreOne (λ d. d.name) (λ d. d.id) ds → have_unique_keys ds ≡ true
ascending-unique [] up names ids = refl
ascending-unique (d ∷ ds) up names ids =
    and_from (is_free d ds) (have_unique_keys ds) (free-from d ds by_id by_name)
    (ascending-unique ds up.1 (λ e f m n. names e f (inr m) (inr n)) (λ e f m n. ids e f (inr m) (inr n)))
  where
    by_id : (e : Package) → IsIn e ds → is_named d.id e ≡ true → ⊥
    by_id e m named =
        elim (named-cases d.id e named) [
          | inl id ↦ other_id d e ds up.0 m (sym id)
          | inr name ↦ not_below d e ds up.0 m (sym (ids e d (inr m) (inl refl) name))
        ]

    by_name : (e : Package) → IsIn e ds → is_named d.name e ≡ true → ⊥
    by_name e m named =
        elim (named-cases d.name e named) [
          | inl id ↦ not_below d e ds up.0 m (ids d e (inl refl) (inr m) (sym id))
          | inr name ↦ not_below d e ds up.0 m (names d e (inl refl) (inr m) (sym name))
        ]

pub valid-unique : (ds : List Package) → IsAscending dataset_cmp ds
    → ((d e : Package) → Contains ds d → Contains ds e → d.name ≡ e.name → d ≡ e)
    → ((d e : Package) → Contains ds d → Contains ds e → d.name ≡ e.id → d ≡ e) → have_unique_keys ds ≡ true
valid-unique ds up names ids =
    ascending-unique ds up (λ d e m n. names d e (Contains-IsIn d ds m) (Contains-IsIn e ds n))
    (λ d e m n. ids d e (Contains-IsIn d ds m) (Contains-IsIn e ds n))

-- ---- the restored datasets

unique-AreApart : (ds : List Package) → have_unique_keys ds ≡ true → AreApart dataset_cmp ds
unique-AreApart [] unique = tt
unique-AreApart (d ∷ ds) unique =
    let parts = and_parts (is_free d ds) (have_unique_keys ds) unique in
    (none-list_any (λ e. is_eq (dataset_cmp e d)) ds (free-unlike d ds parts.0), unique-AreApart ds parts.1)

pub IsAscending-restored : (ds : List Package) → have_unique_keys ds ≡ true
    → IsAscending dataset_cmp (ascending dataset_cmp ds)
IsAscending-restored ds unique = IsAscending-ascending dataset_cmp dataset_cmp_total ds (unique-AreApart ds unique)

pub Contains-ascending : (ds : List Package) (d : Package) → Contains (ascending dataset_cmp ds) d → Contains ds d
Contains-ascending ds d c =
    Contains-IsIn d ds (ascending-IsIn dataset_cmp d ds (IsIn-Contains d (ascending dataset_cmp ds) c))

pub ascending-Contains : (ds : List Package) (d : Package) → Contains ds d → Contains (ascending dataset_cmp ds) d
ascending-Contains ds d c =
    Contains-IsIn d (ascending dataset_cmp ds) (IsIn-ascending dataset_cmp d ds (IsIn-Contains d ds c))
