-- References between tables, one by one: the table that a foreign key finds, and the rows whose references hold.
use Rattle.std.proofs.Common.{◌≡◌, ◌∙◌, ℕ, zero, suc, ◌+◌, ◌==◌, Bool, true, false, ◌&&◌, ◌||◌, not, cond, List, []}
use Rattle.std.proofs.Common.{◌∷◌, Option, Some, None, refl, sym, ap, subst, arith, slice_get, add-zero}
use Rattle.std.specs.Prelude.{option_and_then}
use Rattle.std.specs.List.{list_all}
use Rattle.std.specs.Str.{bytes_eq}
use Rattle.portal_base.specs.Ordered.{IsAscending, found}
use Rattle.portal_base.proofs.Filtered.{IsIn-list_all, list_all-IsIn}
use Rattle.portal_base.proofs.Upserted.{All-IsIn, All-each}
use Rattle.portal_base.proofs.Unique.{IsIn}
use Rattle.table_schema.specs.declared.foreign.Foreign.{Foreign}
use Rattle.table_schema.specs.Written.{IsDescribed}
use Rattle.datastore_table.specs.Meets.{IsTable}
use Rattle.datastore_table.specs.References.{is_broken, is_self}
use Rattle.datastore_table.specs.declared.row.Row.{Row}
use Rattle.datastore_table.proofs.RowLemmas.{both_hold}
use Rattle.datastore_answers.specs.Consistent.{AreConsistent, is_another, is_fitted, links_found, own_resolved}
use Rattle.datastore_answers.specs.Linked.{holds_in, is_linked, links_hold, target_of}
use Rattle.datastore_answers.specs.Order.{at_address, is_at, table_cmp}
use Rattle.datastore_answers.specs.Tables.{table_at, tables_in}
use Rattle.datastore_answers.specs.declared.address.Address.{Address}
use Rattle.datastore_answers.specs.declared.resource_table.ResourceTable.{ResourceTable}
use Rattle.datastore_answers.proofs.TableLemmas.{is_at-parts}

-- ---- one foreign key

-- each row references, by the foreign key, a row of the target
abbrev pub AllHeld : Foreign → ResourceTable → List Row → Type 0
AllHeld foreign target rows =
    list_all (λ row. not (is_broken foreign.fields target.table.schema.key target.table.rows row)) rows ≡ true

-- The foreign key with this index references another resource, whose table it fits, and the references of all rows
-- hold.
pub record HoldsAt (beside : List ResourceTable) (t : ResourceTable) (index : ℕ) (foreign : Foreign) : Type 0 where
  pub number : ℕ
  pub resolved : slice_get t.targets index ≡ Some number
  pub other : (number == t.address.number) ≡ false
  pub target : ResourceTable
  pub there : table_at number beside ≡ Some target
  pub fits : is_fitted t foreign (Some target) ≡ true
  pub held : AllHeld foreign target t.table.rows

-- this holds of each of the table's foreign keys to other tables
abbrev pub Holds : List ResourceTable → ResourceTable → Type 0
Holds beside t = (index : ℕ) (foreign : Foreign) → slice_get t.table.schema.foreign index ≡ Some foreign
    → is_self foreign ≡ false → HoldsAt beside t index foreign

or_right : (a b : Bool) → a ≡ false → (a || b) ≡ true → b ≡ true
or_right true b none h = absurd (cc)
or_right false b none h = h

and_parts : (a b : Bool) → (a && b) ≡ true → (a ≡ true) × (b ≡ true)
and_parts true true h = (refl, refl)
and_parts true false h = absurd (cc)
and_parts false b h = absurd (cc)

false_of : (b : Bool) → not b ≡ true → b ≡ false
false_of true h = absurd (cc)
false_of false h = refl

-- ---- all of them

holds-one : (beside : List ResourceTable) (t : ResourceTable) (index : ℕ) (foreign : Foreign)
    → is_another beside t foreign (slice_get t.targets index) ≡ true
    → holds_in (target_of beside t index) foreign t.table.rows ≡ true → HoldsAt beside t index foreign
holds-one beside t index foreign another held = by (slice_get t.targets index) refl another held
  where
    by_target : (number : ℕ) → slice_get t.targets index ≡ Some number → (number == t.address.number) ≡ false
        → (target : Option ResourceTable) → table_at number beside ≡ target → is_fitted t foreign target ≡ true
        → holds_in target foreign t.table.rows ≡ true → HoldsAt beside t index foreign
    by_target number resolved other None there fits h = absurd (cc)
    by_target number resolved other (Some target) there fits h = record {
      number = number;
      resolved = resolved;
      other = other;
      target = target;
      there = there;
      fits = fits;
      held = h;
    }

    by : (number : Option ℕ) → slice_get t.targets index ≡ number
        → is_another beside t foreign number ≡ true
        → holds_in (option_and_then (λ n. table_at n beside) number) foreign t.table.rows ≡ true
        → HoldsAt beside t index foreign
    by None resolved some h = absurd (cc)
    by (Some number) resolved some h =
        let parts = and_parts (not (number == t.address.number)) (is_fitted t foreign (table_at number beside)) some in
        by_target number resolved (false_of (number == t.address.number) parts.0) (table_at number beside) refl
        parts.1 h

pub zero_add : (k : ℕ) → 0 + k ≡ k
zero_add k = omega arith

pub holds-from : (beside : List ResourceTable) (t : ResourceTable) (at : ℕ) (foreigns : List Foreign)
    → links_found beside t at foreigns ≡ true → links_hold beside t at foreigns ≡ true → (index : ℕ)
    (foreign : Foreign) → slice_get foreigns index ≡ Some foreign → is_self foreign ≡ false
    → HoldsAt beside t (at + index) foreign
holds-from beside t at [] f h index foreign there self = absurd (cc)
holds-from beside t at (x ∷ xs) f h zero foreign there self =
    let same : x ≡ foreign = cc in
    let none : is_self x ≡ false = ap is_self same ∙ self in
    let first = both_hold (is_self x || is_another beside t x (slice_get t.targets at))
    (links_found beside t (at + 1) xs) f in
    let holds = both_hold (is_self x || holds_in (target_of beside t at) x t.table.rows)
    (links_hold beside t (at + 1) xs) h in
    subst (λ k. HoldsAt beside t k foreign) (sym (add-zero at))
    (subst (HoldsAt beside t at) same
    (holds-one beside t at x
    (or_right (is_self x) (is_another beside t x (slice_get t.targets at)) none first.0)
    (or_right (is_self x) (holds_in (target_of beside t at) x t.table.rows) none holds.0)))
holds-from beside t at (x ∷ xs) f h (suc index) foreign there self =
    let first = both_hold (is_self x || is_another beside t x (slice_get t.targets at))
    (links_found beside t (at + 1) xs) f in
    let holds = both_hold (is_self x || holds_in (target_of beside t at) x t.table.rows)
    (links_hold beside t (at + 1) xs) h in
    let step : at + 1 + index ≡ at + suc index = omega arith in
    subst (λ k. HoldsAt beside t k foreign) step
    (holds-from beside t (at + 1) xs first.1 holds.1 index foreign there self)

-- If it holds of each foreign key, it holds of all.
found-at : (beside : List ResourceTable) (t : ResourceTable) (at : ℕ) (foreign : Foreign)
    → HoldsAt beside t at foreign
    → (is_another beside t foreign (slice_get t.targets at) ≡ true)
    × (holds_in (target_of beside t at) foreign t.table.rows ≡ true)
found-at beside t at foreign holds = (
  rw (holds.resolved, holds.other, holds.there) holds.fits,
  ap (λ o. holds_in (option_and_then (λ n. table_at n beside) o) foreign t.table.rows) holds.resolved
      ∙ ap (λ o. holds_in o foreign t.table.rows) holds.there
      ∙ holds.held,
)

pub from-holds : (beside : List ResourceTable) (t : ResourceTable) (at : ℕ) (foreigns : List Foreign)
    → ((index : ℕ) (foreign : Foreign) → slice_get foreigns index ≡ Some foreign → is_self foreign ≡ false
    → HoldsAt beside t (at + index) foreign)
    → (links_found beside t at foreigns ≡ true) × (links_hold beside t at foreigns ≡ true)
from-holds beside t at [] holds = (refl, refl)
from-holds beside t at (x ∷ xs) holds =
    let rest = from-holds beside t (at + 1) xs
    (λ index foreign there self.
    let step : at + suc index ≡ at + 1 + index = omega arith in
    subst (λ k. HoldsAt beside t k foreign) step (holds (suc index) foreign there self)) in
    by (is_self x) refl rest.0 rest.1
  where
    by : (self : Bool) → is_self x ≡ self → links_found beside t (at + 1) xs ≡ true
        → links_hold beside t (at + 1) xs ≡ true
        → (((self || is_another beside t x (slice_get t.targets at))
        && links_found beside t (at + 1) xs) ≡ true)
        × (((self || holds_in (target_of beside t at) x t.table.rows) && links_hold beside t (at + 1) xs) ≡ true)
    by true is f h = (f, h)
    by false is f h =
        let here : HoldsAt beside t at x =
        subst (λ k. HoldsAt beside t k x) (add-zero at) (holds 0 x refl is) in
        let parts = found-at beside t at x here in
        (rw (parts.0, f) refl, rw (parts.1, h) refl)

-- ---- tables by their addresses

abbrev pub address : List ℕ → ℕ → Address
address dataset number = record { dataset = dataset; number = number }

-- A table is found among its dataset's tables just as at its address.
pub beside-found : (dataset : List ℕ) (number : ℕ) (ts : List ResourceTable)
    → table_at number (tables_in dataset ts) ≡ found (at_address (address dataset number)) ts
beside-found dataset number [] = refl
beside-found dataset number (t ∷ ts) =
    by (bytes_eq t.address.dataset dataset) (t.address.number == number) (is_at-parts (address dataset number) t)
    refl refl (beside-found dataset number ts)
  where
    by : (b c : Bool)
        → is_at (address dataset number) t ≡ (bytes_eq t.address.dataset dataset && (t.address.number == number))
        → bytes_eq t.address.dataset dataset ≡ b → (t.address.number == number) ≡ c
        → table_at number (tables_in dataset ts) ≡ found (at_address (address dataset number)) ts
        → table_at number (cond (bytes_eq t.address.dataset dataset) (t ∷ tables_in dataset ts) (tables_in dataset ts))
        ≡ cond (is_at (address dataset number) t) (Some t) (found (at_address (address dataset number)) ts)
    by true true is e f rest = rw (is, e, f) refl
    by true false is e f rest = rw (is, e, f) rest
    by false c is e f rest = rw (is, e) rest

-- ---- consistent tables

-- consistency, table by table
pub record IsKept (ts : List ResourceTable) (t : ResourceTable) : Type 0 where
  pub described : IsDescribed t.table.schema
  pub unready : t.table.room ≡ 0
  pub valid : IsTable t.table.schema t.table.rows t.table.next_id
  pub resolved : own_resolved t.address.number t.table.schema.foreign t.targets ≡ true
  pub holds : Holds (tables_in t.address.dataset ts) t

pub kept-each : (ts : List ResourceTable) → AreConsistent ts → (t : ResourceTable) → IsIn t ts → IsKept ts t
kept-each ts kept t m = record {
  described = All-IsIn (λ (u : ResourceTable). IsDescribed u.table.schema) ts kept.described t m;
  unready = All-IsIn (λ (u : ResourceTable). u.table.room ≡ 0) ts kept.unready t m;
  valid = All-IsIn (λ (u : ResourceTable). IsTable u.table.schema u.table.rows u.table.next_id) ts kept.valid t m;
  resolved = list_all-IsIn (λ u. own_resolved u.address.number u.table.schema.foreign u.targets) ts kept.resolved t m;
  holds = λ index foreign there self.
      subst (λ k. HoldsAt (tables_in t.address.dataset ts) t k foreign) (zero_add index)
      (holds-from (tables_in t.address.dataset ts) t 0 t.table.schema.foreign
      (list_all-IsIn (λ u. links_found (tables_in u.address.dataset ts) u 0 u.table.schema.foreign) ts kept.found t m)
      (list_all-IsIn (λ u. is_linked (tables_in u.address.dataset ts) u) ts kept.linked t m)
      index foreign there self);
}

pub each-kept : (ts : List ResourceTable) → IsAscending table_cmp ts
    → ((t : ResourceTable) → IsIn t ts → IsKept ts t) → AreConsistent ts
each-kept ts up each = record {
  ascending = up;
  described = All-each (λ (u : ResourceTable). IsDescribed u.table.schema) ts (λ t m. (each t m).described);
  unready = All-each (λ (u : ResourceTable). u.table.room ≡ 0) ts (λ t m. (each t m).unready);
  valid = All-each (λ (u : ResourceTable). IsTable u.table.schema u.table.rows u.table.next_id) ts
      (λ t m. (each t m).valid);
  resolved = IsIn-list_all (λ u. own_resolved u.address.number u.table.schema.foreign u.targets) ts
      (λ t m. (each t m).resolved);
  found = IsIn-list_all (λ u. links_found (tables_in u.address.dataset ts) u 0 u.table.schema.foreign) ts
      (λ t m. (both t m).0);
  linked = IsIn-list_all (λ u. is_linked (tables_in u.address.dataset ts) u) ts (λ t m. (both t m).1);
}
  where
    both : (t : ResourceTable) → IsIn t ts
        → (links_found (tables_in t.address.dataset ts) t 0 t.table.schema.foreign ≡ true)
        × (is_linked (tables_in t.address.dataset ts) t ≡ true)
    both t m =
        from-holds (tables_in t.address.dataset ts) t 0 t.table.schema.foreign
        (λ index foreign there self.
        subst (λ k. HoldsAt (tables_in t.address.dataset ts) t k foreign) (sym (zero_add index))
        ((each t m).holds index foreign there self))
