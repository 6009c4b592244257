-- Changes that keep the references between tables.
use Rattle.std.proofs.Common.{◌≡◌, ◌∙◌, ◌⊎◌, inl, inr, ℕ, ◌==◌, Bool, true, false, ◌&&◌, List, [], ◌∷◌, map}
use Rattle.std.proofs.Common.{◌||◌, cond, zero, suc, ap₂, Option, Some, None, refl, sym, ap, subst, slice_get, arith}
use Rattle.std.proofs.Common.{if◌then◌else◌}
use Rattle.std.specs.Prelude.{option_map}
use Rattle.std.specs.List.{list_any}
use Rattle.std.specs.Ordering.{is_eq}
use Rattle.std.specs.Str.{bytes_eq}
use Rattle.std.specs.declared.cmp.Ordering.TheVariants.{Equal, Less}
use Rattle.std.proofs.lemmas.Bool.Decides.{nat_tests}
use Rattle.std.proofs.lemmas.Slice.Eq.{bytes_eq-Decides}
use Rattle.std.proofs.lemmas.Option.{same_Some}
use Rattle.packages.proofs.FindLemmas.{IsIn-find, map-IsIn}
use Rattle.portal_base.specs.Ordered.{IsAscending, IsBelowAll, dropped, found, upserted}
use Rattle.portal_base.proofs.Filtered.{filter-IsIn}
use Rattle.portal_base.proofs.Upserted.{IsAscending-dropped, IsAscending-upserted, IsIn-dropped, IsIn-upserted}
use Rattle.portal_base.proofs.Upserted.{found-dropped_other, found-upserted_other}
use Rattle.portal_base.proofs.Removed.{is_eq_true}
use Rattle.portal_base.proofs.Unique.{IsIn, below_in}
use Rattle.table_schema.specs.Field.{SchemaValue}
use Rattle.table_schema.specs.declared.foreign.Foreign.{Foreign}
use Rattle.table_schema.specs.Written.{IsDescribed}
use Rattle.datastore_table.specs.Meets.{IsTable}
use Rattle.datastore_table.specs.References.{is_self}
use Rattle.datastore_table.proofs.KeyLemmas.{true_false}
use Rattle.datastore_table.proofs.RowLemmas.{both_hold}
use Rattle.datastore_answers.specs.Changed.{with_table_at}
use Rattle.datastore_answers.specs.Consistent.{AreConsistent, is_fitted, own_resolved}
use Rattle.datastore_answers.specs.Resolution.{refers_to_key}
use Rattle.datastore_answers.specs.Order.{IsKey-at_address, address_cmp, at_address, is_at, table_cmp, table_cmp_total}
use Rattle.datastore_answers.specs.Restrict.{is_referenced, refers_to}
use Rattle.datastore_answers.specs.Tables.{table_at, tables_in}
use Rattle.datastore_answers.specs.declared.address.Address.{Address}
use Rattle.datastore_answers.specs.declared.resource_table.ResourceTable.{ResourceTable}
use Rattle.datastore_answers.proofs.ReferenceLemmas.{AllHeld, Holds, HoldsAt, IsKept, address, beside-found}
use Rattle.datastore_answers.proofs.ReferenceLemmas.{each-kept, kept-each}
use Rattle.datastore_answers.proofs.TableLemmas.{is_at-parts}

-- ---- contradictions

pub there_gone : {A X : Type 0} (o : Option X) (x : X) → o ≡ Some x → o ≡ None → A
there_gone o x is none = absurd (cc)

-- ---- addresses

pub number_is : (a b : ℕ) → (a == b) ≡ true → a ≡ b
number_is a b h = grind (arith, nat_tests)

pub number_itself : (n : ℕ) → (n == n) ≡ true
number_itself n = grind (arith, nat_tests)

-- A table is at no address but its own.
pub at-is : (key : Address) (t : ResourceTable) → is_at key t ≡ true → t.address ≡ key
at-is key t is =
    let parts = both_hold (bytes_eq t.address.dataset key.dataset) (t.address.number == key.number)
    (sym (is_at-parts key t) ∙ is) in
    ap₂ address ((bytes_eq-Decides t.address.dataset key.dataset).0 parts.0)
    (number_is t.address.number key.number parts.1)

pub none-passes : {X : Type 0} (p : X → Bool) (xs : List X) → list_any p xs ≡ false → (x : X) → IsIn x xs
    → p x ≡ false
none-passes p [] none x m = absurd m
none-passes {X} p (y ∷ ys) none x m = by (p y) refl none m (none-passes p ys)
  where
    by : (b : Bool) → p y ≡ b → (b || list_any p ys) ≡ false → IsIn x (y ∷ ys)
        → (list_any p ys ≡ false → (z : X) → IsIn z ys → p z ≡ false) → p x ≡ false
    by true is h n rest = absurd (cc)
    by false is h (inl same) rest = ap p same ∙ is
    by false is h (inr n) rest = rest h x n

-- ---- referenced tables that are still found

-- What holds among some tables holds among others, if these have the same referenced tables.
pub holds-among : (before after : List ResourceTable) (t : ResourceTable)
    → ((number : ℕ) (target : ResourceTable) → list_any (λ n. n == number) t.targets ≡ true
    → table_at number before ≡ Some target → table_at number after ≡ Some target)
    → Holds before t → Holds after t
holds-among before after t found_still holds = λ index foreign there self.
    let h = holds index foreign there self in record {
      number = h.number;
      resolved = h.resolved;
      other = h.other;
      target = h.target;
      there = found_still h.number h.target (listed h.number t.targets index h.resolved) h.there;
      fits = h.fits;
      held = h.held;
    }
  where
    or_true : (b : Bool) → (b || true) ≡ true
    or_true true = refl
    or_true false = refl

    listed : (number : ℕ) (targets : List ℕ) (index : ℕ) → slice_get targets index ≡ Some number
        → list_any (λ n. n == number) targets ≡ true
    listed number [] index is = absurd (cc)
    listed number (n ∷ ns) zero is =
        let same : n ≡ number = cc in
        ap (λ b. b || list_any (λ m. m == number) ns)
        (subst (λ m. (m == number) ≡ true) (sym same) (number_itself number))
    listed number (n ∷ ns) (suc index) is =
        ap (λ b. (n == number) || b) (listed number ns index is) ∙ or_true (n == number)

-- ---- a table that is added

-- A new table of a resource without one keeps the references of the other tables.
pub create-kept : (ts : List ResourceTable) (t : ResourceTable) → AreConsistent ts → found (at_address t.address) ts
    ≡ None
    → IsDescribed t.table.schema → t.table.room ≡ 0 → IsTable t.table.schema t.table.rows t.table.next_id
    → own_resolved t.address.number t.table.schema.foreign t.targets ≡ true → Holds (tables_in t.address.dataset ts) t
    → AreConsistent (upserted table_cmp t ts)
create-kept ts t kept none described unready valid resolved holds =
    each-kept (upserted table_cmp t ts) (IsAscending-upserted table_cmp table_cmp_total t ts kept.ascending)
    (λ u m. by u (IsIn-upserted table_cmp t u ts m))
  where
    still : (u : ResourceTable) (number : ℕ) (target : ResourceTable)
        → table_at number (tables_in u.address.dataset ts) ≡ Some target
        → table_at number (tables_in u.address.dataset (upserted table_cmp t ts)) ≡ Some target
    still u number target there = apart (is_at key t) refl
      where
        key : Address
        key = address u.address.dataset number

        was : found (at_address key) ts ≡ Some target
        was = sym (beside-found u.address.dataset number ts) ∙ there

        alike : is_at key t ≡ true → found (at_address key) ts ≡ None
        alike here = ap (λ a. found (at_address a) ts) (sym (at-is key t here)) ∙ none

        apart : (b : Bool) → is_at key t ≡ b
            → table_at number (tables_in u.address.dataset (upserted table_cmp t ts)) ≡ Some target
        apart false is =
            beside-found u.address.dataset number (upserted table_cmp t ts)
            ∙ found-upserted_other table_cmp table_cmp_total (at_address key) (IsKey-at_address key) t ts is
            ∙ was
        apart true is = there_gone (found (at_address key) ts) target was (alike is)

    by : (u : ResourceTable) → (u ≡ t) ⊎ (IsIn u ts × (is_eq (table_cmp u t) ≡ false))
        → IsKept (upserted table_cmp t ts) u
    by u (inl same) = subst (IsKept (upserted table_cmp t ts)) (sym same) (record {
      described = described;
      unready = unready;
      valid = valid;
      resolved = resolved;
      holds = holds-among (tables_in t.address.dataset ts) (tables_in t.address.dataset (upserted table_cmp t ts)) t
          (λ number target among there. still t number target there) holds;
    })
    by u (inr was) =
        let before = kept-each ts kept u was.0 in record {
          described = before.described;
          unready = before.unready;
          valid = before.valid;
          resolved = before.resolved;
          holds = holds-among (tables_in u.address.dataset ts) (tables_in u.address.dataset (upserted table_cmp t ts)) u
              (λ number target among there. still u number target there) before.holds;
        }

-- ---- a table that is deleted

-- Deleting a table that no other references keeps the references of the others.
pub remove-kept : (ts : List ResourceTable) (key : Address) → AreConsistent ts
    → is_referenced key.number (tables_in key.dataset ts) ≡ false → AreConsistent (dropped (at_address key) ts)
remove-kept ts key kept keeps_references =
    each-kept (dropped (at_address key) ts)
    (IsAscending-dropped table_cmp (at_address key) ts kept.ascending)
    (λ u m. by u (IsIn-dropped (at_address key) u ts m))
  where
    -- The target of another resource's table isn't the deleted table.
    unmeant : (u : ResourceTable) → IsIn u ts → is_at key u ≡ false → (number : ℕ)
        → list_any (λ n. n == number) u.targets ≡ true → u.address.dataset ≡ key.dataset → number ≡ key.number → ⊥
    unmeant u m other number among dataset same =
        let beside : IsIn u (tables_in key.dataset ts) =
        filter-IsIn (λ v. bytes_eq v.address.dataset key.dataset) u ts m
        ((bytes_eq-Decides u.address.dataset key.dataset).1 dataset) in
        let none : refers_to key.number u ≡ false =
        none-passes (refers_to key.number) (tables_in key.dataset ts) keeps_references u beside in
        let apart : (u.address.number == key.number) ≡ false = away u other dataset in
        let listed : list_any (λ n. n == key.number) u.targets ≡ true =
        subst (λ k. list_any (λ n. n == k) u.targets ≡ true) same among in
        let refers : refers_to key.number u ≡ true = rw (apart, listed) refl in
        true_false (refers_to key.number u) refers none
      where
        away : (v : ResourceTable) → is_at key v ≡ false → v.address.dataset ≡ key.dataset
            → (v.address.number == key.number) ≡ false
        away v e d =
            let is : is_at key v ≡ (v.address.number == key.number) =
            is_at-parts key v
            ∙ ap (λ b. b && (v.address.number == key.number))
            ((bytes_eq-Decides v.address.dataset key.dataset).1 d) in
            sym is ∙ e

    still : (u : ResourceTable) → IsIn u ts → is_at key u ≡ false → (number : ℕ) (target : ResourceTable)
        → list_any (λ n. n == number) u.targets ≡ true → table_at number (tables_in u.address.dataset ts) ≡ Some target
        → table_at number (tables_in u.address.dataset (dropped (at_address key) ts)) ≡ Some target
    still u m other number target among there =
        beside-found u.address.dataset number (dropped (at_address key) ts)
        ∙ found-dropped_other (at_address key) (at_address (address u.address.dataset number)) ts apart
        ∙ sym (beside-found u.address.dataset number ts)
        ∙ there
      where
        apart : (v : ResourceTable) → at_address key v ≡ Equal → is_at (address u.address.dataset number) v ≡ false
        apart v here = by (is_at (address u.address.dataset number) v) refl
          where
            by : (b : Bool) → is_at (address u.address.dataset number) v ≡ b → b ≡ false
            by false is = refl
            by true is =
                let one : v.address ≡ key = at-is key v (ap is_eq here) in
                let two : v.address ≡ address u.address.dataset number =
                at-is (address u.address.dataset number) v is in
                let same : address u.address.dataset number ≡ key = sym two ∙ one in
                absurd (unmeant u m other number among (ap (λ (a : Address). a.dataset) same)
                (ap (λ (a : Address). a.number) same))

    by : (u : ResourceTable) → IsIn u ts × (is_at key u ≡ false) → IsKept (dropped (at_address key) ts) u
    by u was =
        let before = kept-each ts kept u was.0 in record {
          described = before.described;
          unready = before.unready;
          valid = before.valid;
          resolved = before.resolved;
          holds = holds-among (tables_in u.address.dataset ts)
              (tables_in u.address.dataset (dropped (at_address key) ts)) u
              (λ number target among there. still u was.0 was.1 number target among there) before.holds;
        }

-- ---- a table that is changed

abbrev pub made_at : Address → (ResourceTable → ResourceTable) → ResourceTable → ResourceTable
made_at key make u = if is_at key u then make u else u

-- A change of the table at an address that keeps its address, its schema, its targets and the memory that is ready.
pub record IsMade (make : ResourceTable → ResourceTable) (t : ResourceTable) : Type 0 where
  pub address : (make t).address ≡ t.address
  pub targets : (make t).targets ≡ t.targets
  pub schema : (make t).table.schema ≡ t.table.schema
  pub room : (make t).table.room ≡ t.table.room

-- In ordered tables, the table found at the address of one of them is that one.
pub found-in : (key : Address) (ts : List ResourceTable) (u : ResourceTable) → IsAscending table_cmp ts → IsIn u ts
    → is_at key u ≡ true → found (at_address key) ts ≡ Some u
found-in key [] u up m is = absurd m
found-in key (t ∷ ts) u up (inl same) is =
    ap (λ b. cond b (Some t) (found (at_address key) ts)) (ap (is_at key) (sym same) ∙ is) ∙ ap Some (sym same)
found-in key (t ∷ ts) u up (inr m) is =
    let before : at_address key t ≡ table_cmp t u =
    IsKey-at_address key u t (is_eq_true (at_address key u) is) in
    let less : table_cmp t u ≡ Less = below_in table_cmp t u ts up.0 m in
    ap (λ r. cond (is_eq r) (Some t) (found (at_address key) ts)) (before ∙ less) ∙ found-in key ts u up.1 m is

-- If each table is replaced by one at its own address, the tables still ascend.
pub ascending-made : (f : ResourceTable → ResourceTable) (ts : List ResourceTable)
    → ((u : ResourceTable) → IsIn u ts → (f u).address ≡ u.address) → IsAscending table_cmp ts
    → IsAscending table_cmp (map f ts)
ascending-made f [] same up = tt
ascending-made f (t ∷ ts) same up =
    (below ts (λ u m. same u (inr m)) up.0, ascending-made f ts (λ u m. same u (inr m)) up.1)
  where
    below : (us : List ResourceTable) → ((u : ResourceTable) → IsIn u us → (f u).address ≡ u.address)
        → IsBelowAll table_cmp t us → IsBelowAll table_cmp (f t) (map f us)
    below [] stay under = tt
    below (u ∷ us) stay under = (
      subst (λ a. address_cmp a (f u).address ≡ Less) (sym (same t (inl refl)))
          (subst (λ a. address_cmp t.address a ≡ Less) (sym (stay u (inl refl))) under.0),
      below us (λ v m. stay v (inr m)) under.1,
    )

found-made : (f : ResourceTable → ResourceTable) (key : Address) (ts : List ResourceTable)
    → ((u : ResourceTable) → IsIn u ts → (f u).address ≡ u.address)
    → found (at_address key) (map f ts) ≡ option_map f (found (at_address key) ts)
found-made f key [] same = refl
found-made f key (t ∷ ts) same =
    ap (λ a. cond (is_eq (address_cmp a key)) (Some (f t)) (found (at_address key) (map f ts))) (same t (inl refl))
    ∙ by (is_at key t) (found-made f key ts (λ u m. same u (inr m)))
  where
    by : (b : Bool) → found (at_address key) (map f ts) ≡ option_map f (found (at_address key) ts)
        → cond b (Some (f t)) (found (at_address key) (map f ts))
        ≡ option_map f (cond b (Some t) (found (at_address key) ts))
    by true rest = refl
    by false rest = rest

-- A change of the table at an address keeps the tables consistent if it makes a valid table, the table's own
-- references hold, and the references of the others to it hold.
pub made-kept : (ts : List ResourceTable) (key : Address) (make : ResourceTable → ResourceTable) (t : ResourceTable)
    → AreConsistent ts → found (at_address key) ts ≡ Some t → IsMade make t
    → IsTable (make t).table.schema (make t).table.rows (make t).table.next_id
    → ((index : ℕ) (foreign : Foreign) → slice_get t.table.schema.foreign index ≡ Some foreign
    → is_self foreign ≡ false → (h : HoldsAt (tables_in t.address.dataset ts) t index foreign)
    → AllHeld foreign h.target (make t).table.rows)
    → ((u : ResourceTable) → IsIn u ts → (index : ℕ) (foreign : Foreign)
    → slice_get u.table.schema.foreign index ≡ Some foreign → is_self foreign ≡ false
    → (h : HoldsAt (tables_in u.address.dataset ts) u index foreign) → u.address.dataset ≡ t.address.dataset
    → h.number ≡ t.address.number → AllHeld foreign t u.table.rows → AllHeld foreign (make t) u.table.rows)
    → AreConsistent (with_table_at key make ts)
made-kept ts key make t kept there made valid own others =
    each-kept after (ascending-made f ts stays kept.ascending)
    (λ z m. let w = map-IsIn f z ts m in subst (IsKept after) (sym w.2) (image w.0 w.1 (is_at key w.0) refl))
  where
    f : ResourceTable → ResourceTable
    f = made_at key make

    after : List ResourceTable
    after = with_table_at key make ts

    own_kept : IsKept ts t
    own_kept = kept-each ts kept t (IsIn-find (is_at key) t ts there).0

    own_address : t.address ≡ key
    own_address = at-is key t (IsIn-find (is_at key) t ts there).1

    one : (u : ResourceTable) → IsIn u ts → is_at key u ≡ true → u ≡ t
    one u m is = same_Some u t (sym (found-in key ts u kept.ascending m is) ∙ there)

    stays : (u : ResourceTable) → IsIn u ts → (f u).address ≡ u.address
    stays u m = by (is_at key u) refl
      where
        by : (b : Bool) → is_at key u ≡ b → (if b then make u else u).address ≡ u.address
        by false is = refl
        by true is = subst (λ v. (make v).address ≡ v.address) (sym (one u m is)) made.address

    schema_stays : (u : ResourceTable) → IsIn u ts → (f u).table.schema ≡ u.table.schema
    schema_stays u m = by (is_at key u) refl
      where
        by : (b : Bool) → is_at key u ≡ b → (if b then make u else u).table.schema ≡ u.table.schema
        by false is = refl
        by true is = subst (λ v. (make v).table.schema ≡ v.table.schema) (sym (one u m is)) made.schema

    found_after : (dataset : List ℕ) (number : ℕ) (target : ResourceTable)
        → table_at number (tables_in dataset ts) ≡ Some target
        → table_at number (tables_in dataset after) ≡ Some (f target)
    found_after dataset number target was =
        beside-found dataset number after
        ∙ found-made f (address dataset number) ts stays
        ∙ ap (option_map f) (sym (beside-found dataset number ts) ∙ was)

    -- the target that is found is at its address
    target_in : (dataset : List ℕ) (number : ℕ) (target : ResourceTable)
        → table_at number (tables_in dataset ts) ≡ Some target
        → IsIn target ts × (target.address ≡ address dataset number)
    target_in dataset number target was =
        let at_key : found (at_address (address dataset number)) ts ≡ Some target =
        sym (beside-found dataset number ts) ∙ was in
        let found_there = IsIn-find (is_at (address dataset number)) target ts at_key in
        (found_there.0, at-is (address dataset number) target found_there.1)

    -- the foreign key fits it as before
    fits_after : (u : ResourceTable) (index : ℕ) (foreign : Foreign)
        → (h : HoldsAt (tables_in u.address.dataset ts) u index foreign)
        → is_fitted u foreign (Some (f h.target)) ≡ true
    fits_after u index foreign h =
        subst (λ (s : SchemaValue). refers_to_key u.table.schema.fields s.fields foreign.fields s.key foreign.target
        ≡ true)
        (sym (schema_stays h.target (target_in u.address.dataset h.number h.target h.there).0)) h.fits

    other_held : (u : ResourceTable) → IsIn u ts → (index : ℕ) (foreign : Foreign)
        → slice_get u.table.schema.foreign index ≡ Some foreign → is_self foreign ≡ false
        → (h : HoldsAt (tables_in u.address.dataset ts) u index foreign) → (b : Bool) → is_at key h.target ≡ b
        → AllHeld foreign (if b then make h.target else h.target) u.table.rows
    other_held u m index foreign slot self h false is = h.held
    other_held u m index foreign slot self h true is =
        let found_there = target_in u.address.dataset h.number h.target h.there in
        let same : h.target ≡ t = one h.target found_there.0 is in
        let key_same : address u.address.dataset h.number ≡ t.address =
        sym found_there.1 ∙ ap (λ (v : ResourceTable). v.address) same in
        subst (λ v. AllHeld foreign (make v) u.table.rows) (sym same)
        (others u m index foreign slot self h (ap (λ (a : Address). a.dataset) key_same)
        (ap (λ (a : Address). a.number) key_same)
        (subst (λ v. AllHeld foreign v u.table.rows) same h.held))

    own_held : (index : ℕ) (foreign : Foreign) → slice_get t.table.schema.foreign index ≡ Some foreign
        → is_self foreign ≡ false → (h : HoldsAt (tables_in t.address.dataset ts) t index foreign) → (b : Bool)
        → is_at key h.target ≡ b → AllHeld foreign (if b then make h.target else h.target) (make t).table.rows
    own_held index foreign slot self h false is = own index foreign slot self h
    own_held index foreign slot self h true is =
        let found_there = target_in t.address.dataset h.number h.target h.there in
        let same : h.target ≡ t = one h.target found_there.0 is in
        let key_same : address t.address.dataset h.number ≡ t.address =
        sym found_there.1 ∙ ap (λ (v : ResourceTable). v.address) same in
        let number : h.number ≡ t.address.number = ap (λ (a : Address). a.number) key_same in
        let same_number : (h.number == t.address.number) ≡ true =
        ap (λ n. n == t.address.number) number ∙ number_itself t.address.number in
        true_false (h.number == t.address.number) same_number h.other

    own_meant_after : own_resolved (make t).address.number (make t).table.schema.foreign (make t).targets ≡ true
    own_meant_after =
        ap (λ (a : Address). own_resolved a.number (make t).table.schema.foreign (make t).targets) made.address
        ∙ ap (λ (s : SchemaValue). own_resolved t.address.number s.foreign (make t).targets) made.schema
        ∙ ap (own_resolved t.address.number t.table.schema.foreign) made.targets
        ∙ own_kept.resolved

    image : (u : ResourceTable) → IsIn u ts → (b : Bool) → is_at key u ≡ b → IsKept after (if b then make u else u)
    image u m false is =
        let before = kept-each ts kept u m in record {
          described = before.described;
          unready = before.unready;
          valid = before.valid;
          resolved = before.resolved;
          holds = λ index foreign slot self.
              let h = before.holds index foreign slot self in record {
                number = h.number;
                resolved = h.resolved;
                other = h.other;
                target = f h.target;
                there = found_after u.address.dataset h.number h.target h.there;
                fits = fits_after u index foreign h;
                held = other_held u m index foreign slot self h (is_at key h.target) refl;
              };
        }
    image u m true is = subst (λ v. IsKept after (make v)) (sym (one u m is)) (record {
      described = subst (λ (s : SchemaValue). IsDescribed s) (sym made.schema) own_kept.described;
      unready = made.room ∙ own_kept.unready;
      valid = valid;
      resolved = own_meant_after;
      holds = λ index foreign slot self.
          let was : slice_get t.table.schema.foreign index ≡ Some foreign =
          ap (λ (s : SchemaValue). slice_get s.foreign index) (sym made.schema) ∙ slot in
          let h = own_kept.holds index foreign was self in record {
            number = h.number;
            resolved = ap (λ ms. slice_get ms index) made.targets ∙ h.resolved;
            other = ap (λ (a : Address). h.number == a.number) made.address ∙ h.other;
            target = f h.target;
            there = ap (λ (a : Address). table_at h.number (tables_in a.dataset after)) made.address
                ∙ found_after t.address.dataset h.number h.target h.there;
            fits = subst (λ (s : SchemaValue). refers_to_key s.fields (f h.target).table.schema.fields foreign.fields
                (f h.target).table.schema.key foreign.target ≡ true) (sym made.schema) (fits_after t index foreign h);
            held = own_held index foreign was self h (is_at key h.target) refl;
          };
    })
