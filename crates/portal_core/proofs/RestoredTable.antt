-- A table that is read from a kept one, and tables that are read one after another.
use Rattle.std.proofs.Common.{◌≡◌, ◌≢◌, ◌∙◌, ℕ, ◌<◌, ◌≤◌, ◌^◌, List, [], ◌∷◌, ◌++◌, All, map, inl, inr, refl, sym, ap}
use Rattle.std.proofs.Common.{subst}
use Rattle.std.proofs.Common.{IfNone, IfOk, None, Option, Some, append_assoc, true≢false}
use Rattle.std.specs.Prelude.{Err, Ok, Result, is_some}
use Rattle.std.specs.List.{AllZip}
use Rattle.portal_base.proofs.Unique.{IsIn}
use Rattle.datastore_answers.specs.Tables.{without_room}
use Rattle.datastore_answers.specs.declared.address.Address.{Address}
use Rattle.datastore_answers.specs.declared.resource_table.ResourceTable.{ResourceTable}
use Rattle.datastore_table.specs.Meets.{IsTable, is_restorable}
use Rattle.datastore_table.specs.Table.{TableValue}
use Rattle.datastore_table.specs.declared.row.Row.{Row}
use Rattle.datastore_table.proofs.RuleLemmas.{restored_by_rules, table_by_rules}
use Rattle.packages.specs.Numbered.{AreNumbered}
use Rattle.packages.specs.declared.package.Package.{Package}
use Rattle.portal_rows.specs.KeptValues.{IsKeptTable}
use Rattle.portal_rows.specs.declared.kept_tables.KeptTable.{KeptTable}
use Rattle.table_schema.specs.Field.{SchemaValue}
use Rattle.portal_state.specs.KeptRows.{row_target}
use Rattle.portal_core.specs.Restored.{IsAddressOf, IsTableOf, target_of}
use Rattle.portal_state.specs.Valid.{HasHome}
use Rattle.portal_state.specs.Values.{kept_table}
use Rattle.portal_state.proofs.KeyLemmas.{same_address}
use Rattle.portal_core.proofs.RestoredTargets.{home-numbered, same-targets, targets-back, targets-other, targets-range}

-- ---- one table

pub table-made : (datasets : List Package) (kept : KeptTable) (address : Address) (targets : List ℕ)
    (table : TableValue) → All AreNumbered datasets → IsKeptTable kept → IsAddressOf datasets kept.resource address
    → targets ≡ map (target_of address.number) kept.head.targets → All (λ n. n ≢ address.number) kept.head.targets
    → table.schema ≡ kept.head.schema → table.rows ≡ kept.rows → table.next_id ≡ kept.head.next_id
    → IsTable kept.head.schema kept.rows kept.head.next_id
    → IsTableOf datasets kept (record { address = address; targets = targets; table = table })
table-made datasets kept address targets table numbered is at targets_now other schema rows next_id valid = record {
  same = λ i. record {
    resource = at.same i;
    head = record { schema = schema i; next_id = next_id i; targets = kept_targets i };
    rows = rows i;
  };
  number = at.number;
  home = home;
  targets = subst (All (λ n. (1 ≤ n) × (n < 2 ^ 32))) (sym targets_now)
      (targets-range address.number kept.head.targets (home-numbered datasets made numbered home) at.number
      is.head.targets);
  valid = subst (λ (k : KeptTable). IsTable k.head.schema k.rows k.head.next_id) (sym values) valid;
}
  where
    made : ResourceTable
    made = record { address = address; targets = targets; table = table }

    home : HasHome datasets made
    home = record {
      dataset = at.dataset;
      is_present = at.is_present;
      id = at.own;
      made = at.made;
      resource = at.resource;
    }

    kept_targets : map (row_target address.number) targets ≡ kept.head.targets
    kept_targets =
        ap (map (row_target address.number)) targets_now ∙ targets-back address.number kept.head.targets other

    values : kept_table made ≡ kept
    values = λ i. record {
      resource = at.same i;
      head = record { schema = schema i; next_id = next_id i; targets = kept_targets i };
      rows = rows i;
    }

-- The table is at an address that its resource's id names.
pub table-address : (datasets : List Package) (kept : KeptTable) (t : ResourceTable) → IsTableOf datasets kept t
    → IsAddressOf datasets kept.resource t.address
table-address datasets kept t is = record {
  same = ap (λ (k : KeptTable). k.resource) is.same;
  number = is.number;
  dataset = is.home.dataset;
  is_present = is.home.is_present;
  own = is.home.id;
  made = is.home.made;
  resource = is.home.resource;
}

one-address : (datasets : List Package) (id : List ℕ) (a b : Address) → IsAddressOf datasets id a
    → IsAddressOf datasets id b → a ≡ b
one-address datasets id a b first second =
    same_address a b first.number second.number (first.same ∙ sym second.same)

-- Its own number is kept for none of its targets,
pub table-targets : (datasets : List Package) (kept : KeptTable) (address : Address) → All AreNumbered datasets
    → IsAddressOf datasets kept.resource address → (t : ResourceTable) → IsTableOf datasets kept t
    → All (λ n. n ≢ address.number) kept.head.targets
table-targets datasets kept address numbered at t is =
    subst (λ (a : Address). All (λ n. n ≢ a.number) kept.head.targets)
    (one-address datasets kept.resource t.address address (table-address datasets kept t is) at)
    (targets-other t.address.number t.targets kept.head.targets (home-numbered datasets t numbered is.home)
    (ap (λ (k : KeptTable). k.head.targets) is.same))

-- and its rows are those of a valid table.
pub table-valid : (datasets : List Package) (kept : KeptTable) (t : ResourceTable) → IsTableOf datasets kept t
    → IsTable kept.head.schema kept.rows kept.head.next_id
table-valid datasets kept t is =
    subst (λ (k : KeptTable). IsTable k.head.schema k.rows k.head.next_id) is.same is.valid

-- Two tables with the same values differ at most in the memory that they have ready.
pub one-table : (datasets : List Package) (kept : KeptTable) (t u : ResourceTable) → IsTableOf datasets kept t
    → IsTableOf datasets kept u → without_room t ≡ without_room u
one-table datasets kept t u first second = λ i. record {
  address = address i;
  targets = targets i;
  table = record {
    schema = (values i).head.schema;
    rows = (values i).rows;
    next_id = (values i).head.next_id;
    room = 0;
  };
}
  where
    values : kept_table t ≡ kept_table u
    values = first.same ∙ sym second.same

    address : t.address ≡ u.address
    address =
        one-address datasets kept.resource t.address u.address (table-address datasets kept t first)
        (table-address datasets kept u second)

    targets : t.targets ≡ u.targets
    targets =
        same-targets t.address.number t.targets u.targets first.targets second.targets
        (ap (λ (k : KeptTable). k.head.targets) values
        ∙ ap (λ (a : Address). map (row_target a.number) u.targets) (sym address))

-- Rows that a table cannot be restored from are those of no valid table.
pub unfilled : {E : Type 0} (r : Result (Option TableValue) E) (schema : SchemaValue) (given rows : List Row)
    (next_id : ℕ) → given ≡ rows → IfOk r (λ made. is_some made ≡ is_restorable schema given next_id)
    → IfOk r (λ made. IfNone made (IsTable schema rows next_id → ⊥))
unfilled (Err e) schema given rows next_id same exact = tt
unfilled (Ok (Some table)) schema given rows next_id same exact = tt
unfilled (Ok None) schema given rows next_id same exact = λ valid.
    true≢false (sym ((restored_by_rules schema rows next_id).1 ((table_by_rules schema rows next_id).0 valid))
    ∙ ap (λ (l : List Row). is_restorable schema l next_id) (sym same) ∙ sym exact)

-- ---- one after another

zip-more : {A B : Type 0} (Is : A → B → Type 0) (xs : List A) (ys : List B) (x : A) (y : B) → AllZip Is xs ys → Is x y
    → AllZip Is (xs ++ x ∷ []) (ys ++ y ∷ [])
zip-more Is [] [] x y zip is = (is, tt)
zip-more Is [] (z ∷ ys) x y zip is = absurd zip
zip-more Is (z ∷ xs) [] x y zip is = absurd zip
zip-more Is (z ∷ xs) (w ∷ ys) x y zip is = (zip.0, zip-more Is xs ys x y zip.1 is)

zip-refused : {A B : Type 0} (Is : A → B → Type 0) (before after : List A) (x : A) (ys : List B)
    → ((y : B) → Is x y → ⊥) → AllZip Is (before ++ x ∷ after) ys → ⊥
zip-refused Is [] after x [] none zip = zip
zip-refused Is [] after x (y ∷ ys) none zip = none y zip.0
zip-refused Is (z ∷ before) after x [] none zip = zip
zip-refused Is (z ∷ before) after x (y ∷ ys) none zip = zip-refused Is before after x ys none zip.1

-- The same where the item is taken from the front of those that are left.
pub zip-step : {A B : Type 0} (Is : A → B → Type 0) (all before rest left : List A) (ys now : List B) (x : A) (y : B)
    → all ≡ before ++ rest → AllZip Is before ys → rest ≡ x ∷ left → Is x y → now ≡ ys ++ y ∷ []
    → (done : List A) × (all ≡ done ++ left) × AllZip Is done now
zip-step {A} Is all before rest left ys now x y whole zip first is grown = (
  before ++ x ∷ [],
  whole ∙ ap (λ (l : List A). before ++ l) first ∙ sym (append_assoc before (x ∷ []) left),
  subst (AllZip Is (before ++ x ∷ [])) (sym grown) (zip-more Is before ys x y zip is),
)

pub zip-stopped : {A B : Type 0} (Is : A → B → Type 0) (all before rest left : List A) (x : A) → all ≡ before ++ rest
    → rest ≡ x ∷ left → ((y : B) → Is x y → ⊥) → (ys : List B) → AllZip Is all ys → ⊥
zip-stopped {A} Is all before rest left x whole first none ys zip =
    zip-refused Is before left x ys none
    (subst (λ (l : List A). AllZip Is l ys) (whole ∙ ap (λ (l : List A). before ++ l) first) zip)

pub zip-back : {A B : Type 0} (Is : A → B → Type 0) (xs : List A) (ys : List B) → AllZip Is xs ys → (y : B) → IsIn y ys
    → (x : A) × IsIn x xs × Is x y
zip-back Is [] [] zip y m = absurd m
zip-back Is [] (w ∷ ys) zip y m = absurd zip
zip-back Is (x ∷ xs) [] zip y m = absurd m
zip-back Is (x ∷ xs) (w ∷ ys) zip y (inl same) = (x, inl refl, subst (Is x) (sym same) zip.0)
zip-back Is (x ∷ xs) (w ∷ ys) zip y (inr m) = let r = zip-back Is xs ys zip.1 y m in (r.0, inr r.1, r.2)

pub zip-on : {A B : Type 0} (Is : A → B → Type 0) (xs : List A) (ys : List B) → AllZip Is xs ys → (x : A) → IsIn x xs
    → (y : B) × IsIn y ys × Is x y
zip-on Is [] ys zip x m = absurd m
zip-on Is (z ∷ xs) [] zip x m = absurd zip
zip-on Is (z ∷ xs) (y ∷ ys) zip x (inl same) = (y, inl refl, subst (λ w. Is w y) (sym same) zip.0)
zip-on Is (z ∷ xs) (y ∷ ys) zip x (inr m) = let r = zip-on Is xs ys zip.1 x m in (r.0, inr r.1, r.2)

pub zip-of : {A B : Type 0} (Is : A → B → Type 0) (xs : List A) → ((x : A) → IsIn x xs → (y : B) × Is x y)
    → (ys : List B) × AllZip Is xs ys
zip-of Is [] each = ([], tt)
zip-of Is (x ∷ xs) each =
    let first = each x (inl refl) in
    let rest = zip-of Is xs (λ z m. each z (inr m)) in
    (first.0 ∷ rest.0, (first.1, rest.1))
