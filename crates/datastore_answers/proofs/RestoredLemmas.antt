-- Tables that are restored: their order, and when they are consistent.
use Rattle.std.proofs.Common.{◌≡◌, ◌≢◌, ◌∙◌, ◌+◌, ℕ, Bool, true, false, ◌&&◌, ◌||◌, ◌==◌, not, List, [], ◌∷◌, All, map}
use Rattle.std.proofs.Common.{inl, inr, length, refl, sym, ap, subst, arith}
use Rattle.std.specs.Prelude.{IsTrue}
use Rattle.std.specs.Cmp.{IsTotalOrder}
use Rattle.std.specs.List.{IsAllAdjacentAnswer, list_all, list_any}
use Rattle.std.specs.List.Sorted.{IsPermutation, IsSortedBy}
use Rattle.std.specs.Ordering.{is_eq, is_lt}
use Rattle.std.specs.declared.cmp.Ordering.{Ordering}
use Rattle.std.proofs.lemmas.Bool.{and_parts}
use Rattle.std.proofs.lemmas.List.Elements.{All-map}
use Rattle.std.proofs.lemmas.List.Sorted.{IsPermutation-sym}
use Rattle.portal_base.specs.Ordered.{IsAscending, are_apart, ascending, inserted}
use Rattle.portal_base.proofs.Halved.{IsAscending-adjacent, ascending_at}
use Rattle.portal_base.proofs.Inserted.{AreApart, IsAscending-ascending}
use Rattle.portal_base.proofs.Removed.{AreApart-are_apart}
use Rattle.portal_base.proofs.Sorted.{AreApart-permutation, IsAscending-sort, sort-ascending}
use Rattle.portal_base.proofs.Unique.{IsIn, ascending-IsIn}
use Rattle.portal_base.proofs.Upserted.{All-IsIn, All-each, are_apart-IsAscending, ascending-same}
use Rattle.packages.proofs.FindLemmas.{list_any-map}
use Rattle.table_schema.specs.declared.foreign.Foreign.{Foreign}
use Rattle.table_schema.specs.Written.{IsDescribed}
use Rattle.datastore_table.specs.Meets.{IsTable}
use Rattle.datastore_table.specs.References.{is_self}
use Rattle.datastore_answers.specs.Consistent.{AreConsistent, are_found, are_resolved, links_found, own_resolved}
use Rattle.datastore_answers.specs.Linked.{are_linked, is_linked}
use Rattle.datastore_answers.specs.Order.{table_cmp, table_cmp_total}
use Rattle.datastore_answers.specs.Restored.{are_related, are_restorable}
use Rattle.datastore_answers.specs.Tables.{tables_in, without_room}
use Rattle.datastore_answers.specs.declared.resource_table.ResourceTable.{ResourceTable}
use Rattle.datastore_answers.proofs.KeepLemmas.{ascending-made}
use Rattle.datastore_answers.proofs.TableLemmas.{inserted_without_room}

-- ---- sorted items

-- Whether each item is below the next one tells whether the list ascends.
pub adjacent-ascends : {X : Type 0} (cmp : X → X → Ordering) (o : IsTotalOrder cmp) (xs : List X) (r : Bool)
    → IsAllAdjacentAnswer (λ x y b. b ≡ is_lt (cmp x y)) xs r
    → (r ≡ true → IsAscending cmp xs) × (IsAscending cmp xs → r ≡ true)
adjacent-ascends cmp o xs true steps = (λ e. IsAscending-adjacent cmp o xs steps, λ up. refl)
adjacent-ascends cmp o [] false at = absurd (omega (arith, at.1))
adjacent-ascends cmp o (x ∷ rest) false at = (
  λ e. absurd (cc),
  λ up. at.2 x ∙ ap is_lt (ascending_at cmp x (x ∷ rest) up at.0 (at.0 + 1) (omega arith) at.1),
)

distinct-apart : {X : Type 0} (cmp : X → X → Ordering) (xs : List X) → AreApart cmp xs → are_apart cmp xs ≡ true
distinct-apart cmp [] apart = refl
distinct-apart cmp (x ∷ xs) apart =
    ap (λ b. not b && are_apart cmp xs) apart.0 ∙ distinct-apart cmp xs apart.1

-- If sorted items ascend, no two are equal, and they are the ascending list.
pub sorted-apart : {X : Type 0} (cmp : X → X → Ordering) (o : IsTotalOrder cmp) (xs ys : List X)
    → IsPermutation xs ys → IsSortedBy (λ x y. is_lt (cmp x y)) ys → IsAscending cmp ys
    → (are_apart cmp xs ≡ true) × (ys ≡ ascending cmp xs)
sorted-apart cmp o xs ys p sorted up =
    let apart : AreApart cmp xs =
    AreApart-permutation cmp o ys xs (IsPermutation-sym xs ys p)
    (AreApart-are_apart cmp ys (are_apart-IsAscending cmp o ys up)) in
    (distinct-apart cmp xs apart, sort-ascending cmp o xs ys apart p sorted)

-- If they don't ascend, two are equal.
pub sorted-equal : {X : Type 0} (cmp : X → X → Ordering) (o : IsTotalOrder cmp) (xs ys : List X)
    → IsPermutation xs ys → IsSortedBy (λ x y. is_lt (cmp x y)) ys → (IsAscending cmp ys → ⊥)
    → are_apart cmp xs ≡ false
sorted-equal cmp o xs ys p sorted never = by (are_apart cmp xs) refl
  where
    by : (b : Bool) → are_apart cmp xs ≡ b → b ≡ false
    by true is = absurd (never (IsAscending-sort cmp o xs ys (AreApart-are_apart cmp xs is) p sorted))
    by false is = refl

-- ---- targets

-- A table whose targets are resolved has one for each foreign key.
pub other_length : (own : ℕ) (foreigns : List Foreign) (numbers : List ℕ) → length foreigns ≢ length numbers
    → own_resolved own foreigns numbers ≡ false
other_length own [] [] other = absurd (other refl)
other_length own [] (n ∷ numbers) other = refl
other_length own (f ∷ foreigns) [] other = refl
other_length own (f ∷ foreigns) (n ∷ numbers) other =
    ap (λ b. (not (is_self f) || n == own) && b)
    (other_length own foreigns numbers (λ h. other (omega (arith, h))))
    ∙ and_false (not (is_self f) || n == own)
  where
    and_false : (b : Bool) → (b && false) ≡ false
    and_false true = refl
    and_false false = refl

-- ---- the memory that tables have ready changes nothing

all_map : {X Y : Type 0} (f : X → Y) (p : Y → Bool) (xs : List X)
    → list_all p (map f xs) ≡ list_all (λ x. p (f x)) xs
all_map f p [] = refl
all_map f p (x ∷ xs) = ap (λ b. p (f x) && b) (all_map f p xs)

resolved_without_room : (ts : List ResourceTable) → are_resolved (map without_room ts) ≡ are_resolved ts
resolved_without_room ts =
    all_map without_room (λ t. own_resolved t.address.number t.table.schema.foreign t.targets) ts

-- Tables whose targets are resolved relate to each other if all foreign keys and all references find theirs.
pub resolved-related : (ts all : List ResourceTable) → map without_room ts ≡ all → are_resolved ts ≡ true
    → (list_all (λ t. links_found (tables_in t.address.dataset all) t 0 t.table.schema.foreign) ts
    && list_all (λ t. is_linked (tables_in t.address.dataset all) t) ts)
    ≡ are_related all
resolved-related ts all same resolved =
    ap (λ b. b && list_all linked ts) (sym (all_map without_room found ts) ∙ ap (list_all found) same)
    ∙ ap (λ b. are_found all && b) (sym (all_map without_room linked ts) ∙ ap (list_all linked) same)
    ∙ ap (λ b. b && (are_found all && are_linked all))
    (sym (ap are_resolved (sym same) ∙ resolved_without_room ts ∙ resolved))
  where
    found : ResourceTable → Bool
    found t = links_found (tables_in t.address.dataset all) t 0 t.table.schema.foreign

    linked : ResourceTable → Bool
    linked t = is_linked (tables_in t.address.dataset all) t

pub unresolved-unrelated : (ts all : List ResourceTable) → map without_room ts ≡ all → are_resolved ts ≡ false
    → false ≡ are_related all
unresolved-unrelated ts all same unresolved =
    ap (λ b. b && (are_found all && are_linked all))
    (sym (ap are_resolved (sym same) ∙ resolved_without_room ts ∙ unresolved))

apart_without_room : (ts : List ResourceTable) → are_apart table_cmp (map without_room ts) ≡ are_apart table_cmp ts
apart_without_room [] = refl
apart_without_room (t ∷ ts) =
    ap (λ b. not b && are_apart table_cmp (map without_room ts))
    (list_any-map without_room (λ u. is_eq (table_cmp u t)) ts)
    ∙ ap (λ b. not (list_any (λ u. is_eq (table_cmp u t)) ts) && b) (apart_without_room ts)

ascending_without_room : (ts : List ResourceTable)
    → map without_room (ascending table_cmp ts) ≡ ascending table_cmp (map without_room ts)
ascending_without_room [] = refl
ascending_without_room (t ∷ ts) =
    inserted_without_room t (ascending table_cmp ts)
    ∙ ap (inserted table_cmp (without_room t)) (ascending_without_room ts)

-- ---- restored tables

-- The restored tables are those of the list in order.
pub restored-tables : (given items : List ResourceTable) → items ≡ ascending table_cmp given
    → map without_room items ≡ ascending table_cmp (map without_room given)
restored-tables given items is = ap (map without_room) is ∙ ascending_without_room given

-- Tables without a repeated address can be restored if the tables in order relate to each other.
pub restorable-related : (given items : List ResourceTable) → are_apart table_cmp given ≡ true
    → items ≡ ascending table_cmp given
    → are_related (map without_room items) ≡ are_restorable (map without_room given)
restorable-related given items apart is =
    ap are_related (restored-tables given items is)
    ∙ ap (λ b. b && are_related (ascending table_cmp (map without_room given)))
    (sym (apart_without_room given ∙ apart))

pub equal-unrestorable : (given : List ResourceTable) → are_apart table_cmp given ≡ false
    → false ≡ are_restorable (map without_room given)
equal-unrestorable given equal =
    ap (λ b. b && are_related (ascending table_cmp (map without_room given)))
    (sym (apart_without_room given ∙ equal))

-- what holds of each table of a list holds of each of the sorted list
all-ascending : (P : ResourceTable → Type 0) (ts : List ResourceTable) → All P ts → All P (ascending table_cmp ts)
all-ascending P ts all =
    All-each P (ascending table_cmp ts) (λ t m. All-IsIn P ts all t (ascending-IsIn table_cmp t ts m))

-- ---- consistency

-- the parts of consistency that a restored table doesn't have by itself
pub related-consistent : (ts : List ResourceTable) → IsAscending table_cmp ts → are_related ts ≡ true
    → All (λ (t : ResourceTable). IsDescribed t.table.schema) ts → All (λ (t : ResourceTable). t.table.room ≡ 0) ts
    → All (λ (t : ResourceTable). IsTable t.table.schema t.table.rows t.table.next_id) ts → AreConsistent ts
related-consistent ts up related described unready valid =
    let first = and_parts (are_resolved ts) (are_found ts && are_linked ts) related in
    let second = and_parts (are_found ts) (are_linked ts) first.1 in record {
      ascending = up;
      described = described;
      unready = unready;
      valid = valid;
      resolved = first.0;
      found = second.0;
      linked = second.1;
    }

unready_without_room : (ts : List ResourceTable)
    → All (λ (t : ResourceTable). t.table.room ≡ 0) (map without_room ts)
unready_without_room ts = All-map (λ (t : ResourceTable). t.table.room ≡ 0) without_room ts (λ k d lt. refl)

described_without_room : (ts : List ResourceTable) → All (λ (t : ResourceTable). IsDescribed t.table.schema) ts
    → All (λ (t : ResourceTable). IsDescribed t.table.schema) (map without_room ts)
described_without_room ts all = All-map (λ (t : ResourceTable). IsDescribed t.table.schema) without_room ts all

pub valid_without_room : (ts : List ResourceTable)
    → All (λ (t : ResourceTable). IsTable t.table.schema t.table.rows t.table.next_id) ts
    → All (λ (t : ResourceTable). IsTable t.table.schema t.table.rows t.table.next_id) (map without_room ts)
valid_without_room ts all =
    All-map (λ (t : ResourceTable). IsTable t.table.schema t.table.rows t.table.next_id) without_room ts all

-- Tables in order that relate to each other and are valid are consistent, if their schemas are described.
pub restored-consistent : (given items : List ResourceTable) → IsAscending table_cmp items
    → items ≡ ascending table_cmp given → are_related (map without_room items) ≡ true
    → All (λ (t : ResourceTable). IsTable t.table.schema t.table.rows t.table.next_id) (map without_room items)
    → All (λ (t : ResourceTable). IsDescribed t.table.schema) given → AreConsistent (map without_room items)
restored-consistent given items up is related valid described =
    related-consistent (map without_room items) (ascending-made without_room items (λ t m. refl) up) related
    (described_without_room items
    (subst (λ ts. All (λ (t : ResourceTable). IsDescribed t.table.schema) ts) (sym is)
    (all-ascending (λ t. IsDescribed t.table.schema) given described)))
    (unready_without_room items) valid

-- ---- laws

pub consistent-restorable : (ts : List ResourceTable) → AreConsistent ts → IsTrue (are_restorable ts)
consistent-restorable ts kept =
    rw (
      are_apart-IsAscending table_cmp table_cmp_total ts kept.ascending,
      ascending-same table_cmp table_cmp_total ts kept.ascending,
      kept.resolved,
      kept.found,
      kept.linked,
    ) refl

pub consistent-ordered : (ts : List ResourceTable) → AreConsistent ts → ascending table_cmp ts ≡ ts
consistent-ordered ts kept = ascending-same table_cmp table_cmp_total ts kept.ascending

pub consistent-unready : (ts : List ResourceTable) → AreConsistent ts → map without_room ts ≡ ts
consistent-unready ts kept =
    all_same ts (λ t m. All-IsIn (λ (u : ResourceTable). u.table.room ≡ 0) ts kept.unready t m)
  where
    own_room : (t : ResourceTable) → t.table.room ≡ 0 → without_room t ≡ t
    own_room t none = ap (λ n. record t { table = record t.table { room = n } }) (sym none)

    all_same : (us : List ResourceTable) → ((t : ResourceTable) → IsIn t us → t.table.room ≡ 0)
        → map without_room us ≡ us
    all_same [] none = refl
    all_same (u ∷ us) none =
        ap (λ t. t ∷ map without_room us) (own_room u (none u (inl refl)))
        ∙ ap (λ l. u ∷ l) (all_same us (λ t m. none t (inr m)))

pub restorable-consistent : (ts : List ResourceTable) → All (λ (t : ResourceTable). IsDescribed t.table.schema) ts
    → All (λ (t : ResourceTable). IsTable t.table.schema t.table.rows t.table.next_id) ts
    → IsTrue (are_restorable (map without_room ts)) → AreConsistent (ascending table_cmp (map without_room ts))
restorable-consistent ts described valid restorable =
    let us : List ResourceTable = map without_room ts in
    let parts = and_parts (are_apart table_cmp us) (are_related (ascending table_cmp us)) restorable in
    related-consistent (ascending table_cmp us)
    (IsAscending-ascending table_cmp table_cmp_total us (AreApart-are_apart table_cmp us parts.0)) parts.1
    (all-ascending (λ t. IsDescribed t.table.schema) us (described_without_room ts described))
    (all-ascending (λ t. t.table.room ≡ 0) us (unready_without_room ts))
    (all-ascending (λ t. IsTable t.table.schema t.table.rows t.table.next_id) us (valid_without_room ts valid))
