-- The entries of slots, while slots are made, written to and removed.
use Rattle.std.proofs.Common.{◌≡◌, ◌∙◌, ℕ, ◌+◌, ◌≤◌, Bool, true, false, not, ◌||◌, ◌&&◌, cond, List, [], ◌∷◌, ◌++◌, refl, sym, ap}
use Rattle.std.proofs.Common.{Option, Some, None, subst, length, arith}
use Rattle.std.specs.Prelude.{filter, flat_map, map, is_some, IsOk, IsSome, IfOk, Result, Ok, Err, OnErr, OnOk}
use Rattle.std.specs.BTreeMap.{insert_entry, is_at}
use Rattle.std.specs.List.{AllByRecursion}
use Rattle.std.specs.List.Sorted.{IsStrictlySortedBy}
use Rattle.std.specs.Map.{keys_of, lookup, remove_entry, values_of}
use Rattle.std.specs.Cmp.Lexicographic.{slice_cmp, nat_list_cmp_total}
use Rattle.std.specs.Str.{bytes_eq}
use Rattle.std.specs.declared.cmp.Ordering.{Ordering}
use Rattle.std.specs.declared.cmp.Ordering.TheVariants.{Less, Equal, Greater}
use Rattle.std.specs.Ordering.{is_eq, is_lt, match_ordering, nat_cmp, ordering_reverse}
use Rattle.std.proofs.lemmas.Cmp.{tied_back}
use Rattle.std.proofs.lemmas.List.Sums.{count_by-le-length, length-filter}
use Rattle.std.proofs.lemmas.Map.Text.{is_eq-slice_cmp}
use Rattle.std.proofs.lemmas.Slice.Eq.{bytes_eq-Decides}
use Rattle.portal_base.specs.Ordered.{dropped, inserted, upserted}
use Rattle.visibility.specs.declared.class.Class.{Class}
use Rattle.facets.specs.Counters.{Entry, at_id, entry_cmp}
use Rattle.facets.specs.Facts.{texts_at}
use Rattle.facets.specs.Slots.{Slot, has_slot, slot_entries, slot_entry_and, slot_passes, slot_values}
use Rattle.facets.specs.Tally.{own_values}
use Rattle.facets.specs.declared.facts.Facts.{Facts}
use Rattle.facets.specs.declared.field.FacetField.{FacetField}

-- the order of ids
abbrev pub id_cmp : List ℕ → List ℕ → Ordering
id_cmp = slice_cmp nat_cmp

-- ---- whether there is a slot

pub lookup-has_slot : (id : List ℕ) (slots : List Slot) → is_some (lookup (is_at (id_cmp id)) slots) ≡ has_slot id slots
lookup-has_slot id [] = refl
lookup-has_slot id (slot ∷ slots) =
    ap (λ b. is_some (cond b (Some slot.1) (lookup (is_at (id_cmp id)) slots))) (is_eq-slice_cmp id slot.0)
    ∙ by (bytes_eq id slot.0) (lookup-has_slot id slots)
  where
    by : (b : Bool) → is_some (lookup (is_at (id_cmp id)) slots) ≡ has_slot id slots
        → is_some (cond b (Some slot.1) (lookup (is_at (id_cmp id)) slots)) ≡ (b || has_slot id slots)
    by true more = refl
    by false more = more

-- What is not there is none.
pub none_from_absent : {X : Type 0} (o : Option X) → is_some o ≡ false → o ≡ None
none_from_absent None absent = refl
none_from_absent (Some x) absent = absurd (cc)

pub no_slot : (id : List ℕ) (slots : List Slot) → has_slot id slots ≡ false → lookup (is_at (id_cmp id)) slots ≡ None
no_slot id slots none = none_from_absent (lookup (is_at (id_cmp id)) slots) (lookup-has_slot id slots ∙ none)

-- A slot that is there is one of the slots.
pub slot_there : (id other : List ℕ) (slots : List Slot) → has_slot id slots ≡ true
    → has_slot other slots ≡ (bytes_eq id other || has_slot other slots)
slot_there id other slots there = by (bytes_eq id other) refl
  where
    by : (b : Bool) → bytes_eq id other ≡ b → has_slot other slots ≡ (b || has_slot other slots)
    by true same = ap (λ (key : List ℕ). has_slot key slots) (sym ((bytes_eq-Decides id other).0 same)) ∙ there
    by false apart = refl

-- A written slot is there, and the others stay.
pub slots_after_write : (id other : List ℕ) (facts : Option Facts) (old new : List Slot)
    → lookup (is_at (id_cmp other)) new ≡ cond (is_eq (id_cmp id other)) (Some facts) (lookup (is_at (id_cmp other)) old)
    → has_slot other new ≡ (bytes_eq id other || has_slot other old)
slots_after_write id other facts old new written =
    sym (lookup-has_slot other new) ∙ ap is_some written
    ∙ ap (λ b. is_some (cond b (Some facts) (lookup (is_at (id_cmp other)) old))) (is_eq-slice_cmp id other)
    ∙ by (bytes_eq id other)
  where
    by : (b : Bool) → is_some (cond b (Some facts) (lookup (is_at (id_cmp other)) old)) ≡ (b || has_slot other old)
    by true = refl
    by false = lookup-has_slot other old

-- A removed slot is gone, and the others stay.
pub slots_after_removal : (id other : List ℕ) (old new : List Slot)
    → lookup (is_at (id_cmp other)) new ≡ cond (is_eq (id_cmp id other)) None (lookup (is_at (id_cmp other)) old)
    → has_slot other new ≡ (not (bytes_eq id other) && has_slot other old)
slots_after_removal id other old new written =
    sym (lookup-has_slot other new) ∙ ap is_some written
    ∙ ap (λ b. is_some (cond {A = Option (Option Facts)} b None (lookup (is_at (id_cmp other)) old)))
    (is_eq-slice_cmp id other)
    ∙ by (bytes_eq id other)
  where
    by : (b : Bool) → is_some (cond {A = Option (Option Facts)} b None (lookup (is_at (id_cmp other)) old))
        ≡ (not b && has_slot other old)
    by true = refl
    by false = lookup-has_slot other old

-- ---- a slot that is made

-- A slot that is made without facts adds no entry.
pub slot_entries-made : (id : List ℕ) (slots : List Slot) → lookup (is_at (id_cmp id)) slots ≡ None
    → slot_entries (insert_entry id_cmp slots id None) ≡ slot_entries slots
slot_entries-made id [] none = refl
slot_entries-made id (slot ∷ slots) none = by (id_cmp id slot.0) none (slot_entries-made id slots)
  where
    by : (r : Ordering) → cond (is_eq r) (Some slot.1) (lookup (is_at (id_cmp id)) slots) ≡ None
        → (lookup (is_at (id_cmp id)) slots ≡ None
        → slot_entries (insert_entry id_cmp slots id None) ≡ slot_entries slots)
        → slot_entries (match_ordering r ((id, None) ∷ slot ∷ slots) ((slot.0, None) ∷ slots)
        (slot ∷ insert_entry id_cmp slots id None))
        ≡ slot_entry_and slot.0 slot.1 (slot_entries slots)
    by Less none go = refl
    by Equal none go = absurd (cc)
    by Greater none go = ap (slot_entry_and slot.0 slot.1) (go none)

-- ---- entries after an id

-- Entries of slots after an id aren't dropped at it.
dropped-above : (id : List ℕ) (slots : List Slot) → AllByRecursion (λ key. id_cmp id key ≡ Less) (keys_of slots)
    → dropped (at_id id) (slot_entries slots) ≡ slot_entries slots
dropped-above id [] above = refl
dropped-above id (slot ∷ slots) above = by slot.1 (dropped-above id slots above.1)
  where
    after : is_eq (id_cmp slot.0 id) ≡ false
    after = ap is_eq (nat_list_cmp_total.antisymm slot.0 id ∙ ap ordering_reverse above.0)

    by : (facts : Option Facts) → dropped (at_id id) (slot_entries slots) ≡ slot_entries slots
        → dropped (at_id id) (slot_entry_and slot.0 facts (slot_entries slots))
        ≡ slot_entry_and slot.0 facts (slot_entries slots)
    by None go = go
    by (Some facts) go =
        ap (λ b. cond (not b) ((slot.0, facts) ∷ dropped (at_id id) (slot_entries slots))
        (dropped (at_id id) (slot_entries slots))) after
        ∙ ap (λ es. (slot.0, facts) ∷ es) go

-- An entry is inserted before those of slots after its id.
inserted-above : (id : List ℕ) (facts : Facts) (slots : List Slot)
    → AllByRecursion (λ key. id_cmp id key ≡ Less) (keys_of slots)
    → inserted entry_cmp (id, facts) (slot_entries slots) ≡ (id, facts) ∷ slot_entries slots
inserted-above id facts [] above = refl
inserted-above id facts (slot ∷ slots) above = by slot.1 (inserted-above id facts slots above.1)
  where
    after : is_lt (id_cmp slot.0 id) ≡ false
    after = ap is_lt (nat_list_cmp_total.antisymm slot.0 id ∙ ap ordering_reverse above.0)

    by : (its : Option Facts)
        → inserted entry_cmp (id, facts) (slot_entries slots) ≡ (id, facts) ∷ slot_entries slots
        → inserted entry_cmp (id, facts) (slot_entry_and slot.0 its (slot_entries slots))
        ≡ (id, facts) ∷ slot_entry_and slot.0 its (slot_entries slots)
    by None go = go
    by (Some its) go =
        ap (λ b. cond b ((slot.0, its) ∷ inserted entry_cmp (id, facts) (slot_entries slots))
        ((id, facts) ∷ (slot.0, its) ∷ slot_entries slots)) after

upserted-above : (id : List ℕ) (facts : Facts) (slots : List Slot)
    → AllByRecursion (λ key. id_cmp id key ≡ Less) (keys_of slots)
    → upserted entry_cmp (id, facts) (slot_entries slots) ≡ (id, facts) ∷ slot_entries slots
upserted-above id facts slots above =
    ap (inserted entry_cmp (id, facts)) (dropped-above id slots above) ∙ inserted-above id facts slots above

-- An id below one that is below all is below all.
all_above : (id key : List ℕ) (keys : List (List ℕ)) → id_cmp id key ≡ Less
    → AllByRecursion (λ other. id_cmp key other ≡ Less) keys → AllByRecursion (λ other. id_cmp id other ≡ Less) keys
all_above id key [] less above = tt
all_above id key (other ∷ keys) less above =
    (nat_list_cmp_total.trans id key other less above.0, all_above id key keys less above.1)

same_id : (id key : List ℕ) → id_cmp id key ≡ Equal → id ≡ key
same_id id key e = (bytes_eq-Decides id key).0 (sym (is_eq-slice_cmp id key) ∙ ap is_eq e)

-- ---- a slot before or at the id

-- An entry of another id stays where entries are dropped.
dropped-past : (id : List ℕ) (e : Entry) (es : List Entry) → is_eq (id_cmp e.0 id) ≡ false
    → dropped (at_id id) (e ∷ es) ≡ e ∷ dropped (at_id id) es
dropped-past id e es apart =
    ap (λ b. cond (not b) (e ∷ dropped (at_id id) es) (dropped (at_id id) es)) apart

dropped-here : (id : List ℕ) (e : Entry) (es : List Entry) → is_eq (id_cmp e.0 id) ≡ true
    → dropped (at_id id) (e ∷ es) ≡ dropped (at_id id) es
dropped-here id e es same = ap (λ b. cond (not b) (e ∷ dropped (at_id id) es) (dropped (at_id id) es)) same

upserted-past : (id : List ℕ) (facts : Facts) (e : Entry) (es : List Entry) → id_cmp e.0 id ≡ Less
    → upserted entry_cmp (id, facts) (e ∷ es) ≡ e ∷ upserted entry_cmp (id, facts) es
upserted-past id facts e es less =
    ap (inserted entry_cmp (id, facts)) (dropped-past id e es (ap is_eq less))
    ∙ ap (λ r. cond (is_lt r) (e ∷ inserted entry_cmp (id, facts) (dropped (at_id id) es))
    ((id, facts) ∷ e ∷ dropped (at_id id) es)) less

-- ---- facts that are written

pub slot_entries-written : (id : List ℕ) (facts : Facts) (slots : List Slot) → IsStrictlySortedBy id_cmp (keys_of slots)
    → slot_entries (insert_entry id_cmp slots id (Some facts)) ≡ upserted entry_cmp (id, facts) (slot_entries slots)
unfolding IsStrictlySortedBy
slot_entries-written id facts [] up = refl
slot_entries-written id facts (slot ∷ slots) up =
    by (slot_entries-written id facts slots up.1) (id_cmp id slot.0) refl
  where
    by : slot_entries (insert_entry id_cmp slots id (Some facts)) ≡ upserted entry_cmp (id, facts) (slot_entries slots)
        → (r : Ordering) → id_cmp id slot.0 ≡ r
        → slot_entries (match_ordering r ((id, Some facts) ∷ slot ∷ slots) ((slot.0, Some facts) ∷ slots)
        (slot ∷ insert_entry id_cmp slots id (Some facts)))
        ≡ upserted entry_cmp (id, facts) (slot_entry_and slot.0 slot.1 (slot_entries slots))
    by go Less e = sym (upserted-above id facts (slot ∷ slots) (e, all_above id slot.0 (keys_of slots) e up.0))
    by go Equal e = in_place ∙ written slot.1
      where
        same : slot.0 ≡ id
        same = sym (same_id id slot.0 e)

        above : AllByRecursion (λ key. id_cmp id key ≡ Less) (keys_of slots)
        above =
            subst (λ (it : List ℕ). AllByRecursion (λ key. id_cmp it key ≡ Less) (keys_of slots)) same up.0

        in_place : (slot.0, facts) ∷ slot_entries slots ≡ upserted entry_cmp (id, facts) (slot_entries slots)
        in_place =
            ap (λ (it : List ℕ). (it, facts) ∷ slot_entries slots) same ∙ sym (upserted-above id facts slots above)

        written : (its : Option Facts) → upserted entry_cmp (id, facts) (slot_entries slots)
            ≡ upserted entry_cmp (id, facts) (slot_entry_and slot.0 its (slot_entries slots))
        written None = refl
        written (Some its) =
            sym (ap (inserted entry_cmp (id, facts)) (dropped-here id (slot.0, its) (slot_entries slots)
            (ap is_eq (tied_back nat_list_cmp_total id slot.0 e))))
    by go Greater e = written slot.1
      where
        below : id_cmp slot.0 id ≡ Less
        below = nat_list_cmp_total.antisymm slot.0 id ∙ ap ordering_reverse e

        written : (its : Option Facts)
            → slot_entry_and slot.0 its (slot_entries (insert_entry id_cmp slots id (Some facts)))
            ≡ upserted entry_cmp (id, facts) (slot_entry_and slot.0 its (slot_entries slots))
        written None = go
        written (Some its) =
            ap (λ es. (slot.0, its) ∷ es) go ∙ sym (upserted-past id facts (slot.0, its) (slot_entries slots) below)

-- ---- a slot that is removed

pub slot_entries-removed : (id : List ℕ) (slots : List Slot) → IsStrictlySortedBy id_cmp (keys_of slots)
    → slot_entries (remove_entry (is_at (id_cmp id)) slots) ≡ dropped (at_id id) (slot_entries slots)
unfolding IsStrictlySortedBy
slot_entries-removed id [] up = refl
slot_entries-removed id (slot ∷ slots) up = by (slot_entries-removed id slots up.1) (id_cmp id slot.0) refl
  where
    by : slot_entries (remove_entry (is_at (id_cmp id)) slots) ≡ dropped (at_id id) (slot_entries slots)
        → (r : Ordering) → id_cmp id slot.0 ≡ r
        → slot_entries (cond (is_eq r) slots (slot ∷ remove_entry (is_at (id_cmp id)) slots))
        ≡ dropped (at_id id) (slot_entry_and slot.0 slot.1 (slot_entries slots))
    by go Equal e = gone slot.1
      where
        same : slot.0 ≡ id
        same = sym (same_id id slot.0 e)

        kept : slot_entries slots ≡ dropped (at_id id) (slot_entries slots)
        kept =
            sym (dropped-above id slots
            (subst (λ (it : List ℕ). AllByRecursion (λ key. id_cmp it key ≡ Less) (keys_of slots)) same up.0))

        gone : (its : Option Facts)
            → slot_entries slots ≡ dropped (at_id id) (slot_entry_and slot.0 its (slot_entries slots))
        gone None = kept
        gone (Some its) =
            kept ∙ sym (dropped-here id (slot.0, its) (slot_entries slots)
            (ap is_eq (tied_back nat_list_cmp_total id slot.0 e)))
    by go Less e = past slot.1
      where
        apart : is_eq (id_cmp slot.0 id) ≡ false
        apart = ap is_eq (nat_list_cmp_total.antisymm slot.0 id ∙ ap ordering_reverse e)

        past : (its : Option Facts)
            → slot_entry_and slot.0 its (slot_entries (remove_entry (is_at (id_cmp id)) slots))
            ≡ dropped (at_id id) (slot_entry_and slot.0 its (slot_entries slots))
        past None = go
        past (Some its) = ap (λ es. (slot.0, its) ∷ es) go ∙ sym (dropped-past id (slot.0, its) (slot_entries slots) apart)
    by go Greater e = past slot.1
      where
        apart : is_eq (id_cmp slot.0 id) ≡ false
        apart = ap is_eq (nat_list_cmp_total.antisymm slot.0 id ∙ ap ordering_reverse e)

        past : (its : Option Facts)
            → slot_entry_and slot.0 its (slot_entries (remove_entry (is_at (id_cmp id)) slots))
            ≡ dropped (at_id id) (slot_entry_and slot.0 its (slot_entries slots))
        past None = go
        past (Some its) = ap (λ es. (slot.0, its) ∷ es) go ∙ sym (dropped-past id (slot.0, its) (slot_entries slots) apart)

-- ---- walks over slots

-- the facts of slots
abbrev pub slot_facts : List Slot → List Facts
slot_facts slots = map (λ e. e.1) (slot_entries slots)

-- The slots whose facts pass two tests are as many as the facts that do.
pub count-slots : (p q : Facts → Bool) (slots : List Slot)
    → length (filter (slot_passes (λ facts. q facts && p facts)) (values_of slots))
    ≡ length (filter p (filter q (slot_facts slots)))
count-slots p q [] = refl
count-slots p q (slot ∷ slots) = by slot.1 (count-slots p q slots)
  where
    by : (its : Option Facts)
        → length (filter (slot_passes (λ facts. q facts && p facts)) (values_of slots))
        ≡ length (filter p (filter q (slot_facts slots)))
        → length (filter (slot_passes (λ facts. q facts && p facts)) (its ∷ values_of slots))
        ≡ length (filter p (filter q (map (λ e. e.1) (slot_entry_and slot.0 its (slot_entries slots)))))
    by None go = go
    by (Some its) go = then (q its)
      where
        inner : (c : Bool)
            → length (cond c (Some its ∷ filter (slot_passes (λ facts. q facts && p facts)) (values_of slots))
            (filter (slot_passes (λ facts. q facts && p facts)) (values_of slots)))
            ≡ length (cond c (its ∷ filter p (filter q (slot_facts slots))) (filter p (filter q (slot_facts slots))))
        inner true = omega (arith, go)
        inner false = go

        then : (b : Bool)
            → length (cond (b && p its) (Some its ∷ filter (slot_passes (λ facts. q facts && p facts)) (values_of slots))
            (filter (slot_passes (λ facts. q facts && p facts)) (values_of slots)))
            ≡ length (filter p (cond b (its ∷ filter q (slot_facts slots)) (filter q (slot_facts slots))))
        then true = inner (p its)
        then false = go

-- The values of slots are those of the facts whose class passes.
pub slot_values-facts : (test other : Class → Bool) → ((class : Class) → test class ≡ other class) → (field : FacetField)
    (slots : List Slot)
    → flat_map (slot_values test field) (values_of slots)
    ≡ flat_map (λ facts. own_values (texts_at field facts)) (filter (λ facts. other facts.class) (slot_facts slots))
slot_values-facts test other same field [] = refl
slot_values-facts test other same field (slot ∷ slots) = by slot.1 (slot_values-facts test other same field slots)
  where
    rest : List (List ℕ)
    rest = flat_map (slot_values test field) (values_of slots)

    kept : List Facts
    kept = filter (λ facts. other facts.class) (slot_facts slots)

    by : (its : Option Facts) → rest ≡ flat_map (λ facts. own_values (texts_at field facts)) kept
        → (slot_values test field its ++ rest)
        ≡ flat_map (λ facts. own_values (texts_at field facts))
        (filter (λ facts. other facts.class) (map (λ e. e.1) (slot_entry_and slot.0 its (slot_entries slots))))
    by None go = go
    by (Some its) go =
        ap (λ b. cond b (own_values (texts_at field its)) [] ++ rest) (same its.class) ∙ then (other its.class)
      where
        then : (b : Bool) → (cond b (own_values (texts_at field its)) [] ++ rest)
            ≡ flat_map (λ facts. own_values (texts_at field facts)) (cond b (its ∷ kept) kept)
        then true = ap (λ values. own_values (texts_at field its) ++ values) go
        then false = go

-- At an item that passes, the count is below that of all items.
pub count_below : {X : Type 0} (test : X → Bool) (count : ℕ) (all left rest : List X) (x : X)
    → count + length (filter test left) ≡ length (filter test all) → left ≡ x ∷ rest → test x ≡ true
    → count + 1 ≤ length all
count_below test count all left rest x counted is passes =
    let more : length (filter test left) ≡ length (filter test rest) + 1 =
    ap (λ xs. length (filter test xs)) is
    ∙ ap (λ b. length (cond b (x ∷ filter test rest) (filter test rest))) passes ∙ omega arith in
    let bound : length (filter test all) ≤ length all =
    omega (arith, length-filter test all, count_by-le-length test all) in
    omega (arith, counted, more, bound)

-- ---- results

-- A call that fails only for an absent value doesn't fail where there is one.
pub ok_if_there : {T E X : Type 0} (r : Result T E) (o : Option X) → OnErr r (o ≡ None) → is_some o ≡ true → IsOk r
ok_if_there (Ok y) o absent there = refl
ok_if_there (Err e) o absent there = absurd (cc)

-- What holds of a call that gave a value that was there.
pub from_there : {E X P : Type 0} (r : Result (Option X) E) (y o : Option X) → r ≡ Ok y → IfOk r (λ old. old ≡ o)
    → IfOk r (λ old. IsSome old → P) → is_some o ≡ true → P
from_there (Ok old) y o is was holds there = holds (ap is_some was ∙ there)
from_there (Err e) y o is was holds there = absurd (cc)

-- What holds on Ok holds of a call that gave Ok.
pub from_ok : {T E P : Type 0} (r : Result T E) (x : T) → r ≡ Ok x → OnOk r P → P
from_ok (Ok y) x is holds = holds
from_ok (Err e) x is holds = absurd (cc)
