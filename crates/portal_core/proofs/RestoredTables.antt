-- Tables that are read from kept ones, and their relation to the tables of a valid state.
use Rattle.std.proofs.Common.{◌≡◌, ◌∙◌, ℕ, ◌<◌, ◌≤◌, ◌^◌, true, false, ◌&&◌, not, List, [], ◌∷◌, All, map}
use Rattle.std.proofs.Common.{inl, inr, refl, sym, ap, ap₂, subst, true≢false}
use Rattle.std.proofs.Common.{IfNone, IfSome, None, Option, Some}
use Rattle.std.specs.Prelude.{is_some}
use Rattle.std.specs.List.{AllZip}
use Rattle.std.specs.Cmp.Lexicographic.{slice_cmp}
use Rattle.std.specs.Ordering.{is_eq, nat_cmp}
use Rattle.std.specs.declared.cmp.Ordering.{Ordering}
use Rattle.std.specs.declared.cmp.Ordering.TheVariants.{Less}
use Rattle.std.proofs.lemmas.Cmp.{nat_list_cmp_total}
use Rattle.std.proofs.lemmas.Map.Text.{is_eq-slice_cmp}
use Rattle.std.proofs.lemmas.Slice.Eq.{bytes_eq-Decides}
use Rattle.portal_base.specs.Ordered.{IsAscending, are_apart, ascending}
use Rattle.portal_base.proofs.Inserted.{AreApart, IsAscending-ascending}
use Rattle.portal_base.proofs.Unique.{IsIn, IsIn-ascending, ascending-IsIn, below_in, not_below_itself, unique}
use Rattle.portal_base.proofs.Upserted.{All-IsIn, All-each}
use Rattle.datastore_answers.specs.Consistent.{AreConsistent}
use Rattle.datastore_answers.specs.Order.{table_cmp, table_cmp_total}
use Rattle.datastore_answers.specs.Restored.{are_related, are_restorable}
use Rattle.datastore_answers.specs.Tables.{Stored, tables_of, without_room}
use Rattle.datastore_answers.specs.declared.address.Address.{Address}
use Rattle.datastore_answers.specs.declared.resource_table.ResourceTable.{ResourceTable}
use Rattle.datastore_answers.proofs.KeepLemmas.{at-is}
use Rattle.datastore_answers.proofs.RestoredLemmas.{consistent-ordered, consistent-restorable}
use Rattle.datastore_table.specs.Meets.{IsTable}
use Rattle.datastore_table.proofs.RowLemmas.{both_hold}
use Rattle.packages.specs.Numbered.{AreNumbered}
use Rattle.packages.specs.declared.package.Package.{Package}
use Rattle.packages.proofs.FindLemmas.{IsIn-map, fails, map-IsIn, none-list_any}
use Rattle.portal_rows.specs.KeptValues.{IsKeptTable, kept_table_cmp, kept_table_cmp_total}
use Rattle.portal_rows.specs.declared.kept_tables.KeptTable.{KeptTable}
use Rattle.portal_rows.proofs.MemberLemmas.{made-ascending}
use Rattle.table_schema.specs.Written.{IsDescribed}
use Rattle.portal_state.specs.KeptRows.{resource_id}
use Rattle.portal_core.specs.Restored.{AreTablesOf, IsTableOf}
use Rattle.portal_state.specs.Valid.{HasHome}
use Rattle.portal_state.specs.Values.{kept_table}
use Rattle.portal_state.proofs.KeyLemmas.{same_address}
use Rattle.portal_core.proofs.RestoredTable.{one-table, zip-back, zip-of, zip-on}
use Rattle.portal_core.proofs.RestoredTargets.{targets-numbered}

-- ---- the values of all tables

zip-made : (datasets : List Package) (kept : List KeptTable) (ts : List ResourceTable)
    → AllZip (IsTableOf datasets) kept ts → map kept_table ts ≡ kept
zip-made datasets [] [] zip = refl
zip-made datasets [] (t ∷ ts) zip = absurd zip
zip-made datasets (k ∷ kept) [] zip = absurd zip
zip-made datasets (k ∷ kept) (t ∷ ts) zip =
    ap₂ (λ (first : KeptTable) (rest : List KeptTable). first ∷ rest) zip.0.same (zip-made datasets kept ts zip.1)

-- Items that are made of ascending ones are apart if they are not equal.
apart-made : {X Y : Type 0} (f : X → Y) (own : X → X → Ordering) (cmp : Y → Y → Ordering) (xs : List X)
    → ((x y : X) → IsIn x xs → IsIn y xs → own x y ≡ Less → is_eq (cmp (f y) (f x)) ≡ false) → IsAscending own xs
    → AreApart cmp (map f xs)
apart-made f own cmp [] differ up = tt
apart-made {X} {Y} f own cmp (x ∷ xs) differ up = (
  none-list_any (λ z. is_eq (cmp z (f x))) (map f xs) (λ z m. let w = map-IsIn f z xs m in
      subst (λ (y : Y). is_eq (cmp y (f x)) ≡ false) (sym w.2)
      (differ x w.0 (inl refl) (inr w.1) (below_in own x w.0 xs up.0 w.1))),
  apart-made f own cmp xs (λ y z m n. differ y z (inr m) (inr n)) up.1,
)

distinct-apart : {X : Type 0} (cmp : X → X → Ordering) (xs : List X) → AreApart cmp xs → are_apart cmp xs ≡ true
distinct-apart cmp [] apart = refl
distinct-apart cmp (x ∷ xs) apart =
    ap (λ b. not b && are_apart cmp xs) apart.0 ∙ distinct-apart cmp xs apart.1

-- Tables at two addresses have two keys.
keys-differ : (t u : ResourceTable) → t.address.number < 2 ^ 32 → u.address.number < 2 ^ 32 → table_cmp t u ≡ Less
    → is_eq (kept_table_cmp (kept_table u) (kept_table t)) ≡ false
keys-differ t u small also less =
    fails (is_eq (kept_table_cmp (kept_table u) (kept_table t)))
    (λ equal.
    let ids : resource_id u.address ≡ resource_id t.address =
    (bytes_eq-Decides (resource_id u.address) (resource_id t.address)).0
    (sym (is_eq-slice_cmp (resource_id u.address) (resource_id t.address)) ∙ equal) in
    let address : u.address ≡ t.address = same_address u.address t.address also small ids in
    not_below_itself table_cmp table_cmp_total t
    (subst (λ (a : Address). table_cmp t (record t { address = a }) ≡ Less) address less))

-- Tables with two keys are at two addresses.
addresses-differ : (t u : ResourceTable) → kept_table_cmp (kept_table t) (kept_table u) ≡ Less
    → is_eq (table_cmp (without_room u) (without_room t)) ≡ false
addresses-differ t u less =
    fails (is_eq (table_cmp (without_room u) (without_room t)))
    (λ equal.
    let address : u.address ≡ t.address = at-is t.address u equal in
    not_below_itself (slice_cmp nat_cmp) nat_list_cmp_total (resource_id t.address)
    (subst (λ (a : Address). slice_cmp nat_cmp (resource_id t.address) (resource_id a) ≡ Less) address less))

-- ---- tables that are read

-- each restored table is one of those that were read, up to the memory that it has ready
restored-IsIn : (datasets : List Package) (kept : List KeptTable) (ts : List ResourceTable)
    → AllZip (IsTableOf datasets) kept ts → (t : ResourceTable) → IsIn t (ascending table_cmp (map without_room ts))
    → (k : KeptTable) × IsIn k kept × ((u : ResourceTable) × IsTableOf datasets k u × (t ≡ without_room u))
restored-IsIn datasets kept ts zip t m =
    let w = map-IsIn without_room t ts (ascending-IsIn table_cmp t (map without_room ts) m) in
    let r = zip-back (IsTableOf datasets) kept ts zip w.0 w.1 in
    (r.0, r.1, (w.0, r.2, w.2))

-- what holds of each table that was read holds of each restored one
each-restored : (datasets : List Package) (kept : List KeptTable) (ts made : List ResourceTable)
    → AllZip (IsTableOf datasets) kept ts → made ≡ ascending table_cmp (map without_room ts)
    → (P : ResourceTable → Type 0)
    → ((k : KeptTable) (u : ResourceTable) → IsIn k kept → IsTableOf datasets k u → P (without_room u)) → All P made
each-restored datasets kept ts made zip is P each =
    subst (All P) (sym is)
    (All-each P (ascending table_cmp (map without_room ts))
    (λ t m.
    let w = restored-IsIn datasets kept ts zip t m in
    subst P (sym w.2.2) (each w.0 w.2.0 w.1 w.2.1)))

pub tables-described : (datasets : List Package) (kept : List KeptTable) (ts : List ResourceTable)
    → AllZip (IsTableOf datasets) kept ts → All IsKeptTable kept
    → All (λ (t : ResourceTable). IsDescribed t.table.schema) ts
tables-described datasets kept ts zip all =
    All-each (λ (t : ResourceTable). IsDescribed t.table.schema) ts
    (λ t m.
    let r = zip-back (IsTableOf datasets) kept ts zip t m in
    subst (λ (k : KeptTable). IsDescribed k.head.schema) (sym r.2.same)
    (All-IsIn IsKeptTable kept all r.0 r.1).head.described)

-- the values of the restored tables are those of the tables that were read
restored-values : (datasets : List Package) (kept : List KeptTable) (ts made : List ResourceTable)
    → AllZip (IsTableOf datasets) kept ts → made ≡ ascending table_cmp (map without_room ts)
    → IsAscending kept_table_cmp kept → AreConsistent made
    → All (λ (t : ResourceTable). t.address.number < 2 ^ 32) made
    → ascending kept_table_cmp (map kept_table made) ≡ kept
restored-values datasets kept ts made zip is up consistent small =
    unique kept_table_cmp kept_table_cmp_total (ascending kept_table_cmp (map kept_table made)) kept
    (IsAscending-ascending kept_table_cmp kept_table_cmp_total (map kept_table made)
    (apart-made kept_table table_cmp kept_table_cmp made
    (λ t u m n. keys-differ t u (fits t m) (fits u n)) consistent.ascending))
    up to from
  where
    fits : (t : ResourceTable) → IsIn t made → t.address.number < 2 ^ 32
    fits t m = All-IsIn (λ (u : ResourceTable). u.address.number < 2 ^ 32) made small t m

    to : (k : KeptTable) → IsIn k (ascending kept_table_cmp (map kept_table made)) → IsIn k kept
    to k m =
        let w = map-IsIn kept_table k made (ascending-IsIn kept_table_cmp k (map kept_table made) m) in
        let r = restored-IsIn datasets kept ts zip w.0 (subst (IsIn w.0) is w.1) in
        subst (λ (j : KeptTable). IsIn j kept) (sym (w.2 ∙ ap kept_table r.2.2 ∙ r.2.1.same)) r.1

    from : (k : KeptTable) → IsIn k kept → IsIn k (ascending kept_table_cmp (map kept_table made))
    from k m =
        let r = zip-on (IsTableOf datasets) kept ts zip k m in
        IsIn-ascending kept_table_cmp k (map kept_table made)
        (subst (λ (j : KeptTable). IsIn j (map kept_table made)) r.2.same
        (IsIn-map kept_table (without_room r.0) made
        (subst (IsIn (without_room r.0)) (sym is)
        (IsIn-ascending table_cmp (without_room r.0) (map without_room ts) (IsIn-map without_room r.0 ts r.1)))))

tables-restored : (datasets : List Package) (kept : List KeptTable) (ts made : List ResourceTable)
    → AllZip (IsTableOf datasets) kept ts → All IsKeptTable kept → IsAscending kept_table_cmp kept
    → made ≡ ascending table_cmp (map without_room ts)
    → (All (λ (t : ResourceTable). IsDescribed t.table.schema) ts → AreConsistent made)
    → AreTablesOf datasets kept made
tables-restored datasets kept ts made zip all up is consistent_if = record {
  same = restored-values datasets kept ts made zip is up consistent numbers;
  consistent = consistent;
  homes = each-restored datasets kept ts made zip is (HasHome datasets) (λ k u m of. record {
    dataset = of.home.dataset;
    is_present = of.home.is_present;
    id = of.home.id;
    made = of.home.made;
    resource = of.home.resource;
  });
  sized = record {
    numbers = numbers;
    next_ids = each-restored datasets kept ts made zip is (λ (t : ResourceTable). t.table.next_id < 2 ^ 64) (λ k u m of.
        subst (λ (j : KeptTable). j.head.next_id < 2 ^ 64) (sym of.same)
        (All-IsIn IsKeptTable kept all k m).head.next_id);
  };
  targets = each-restored datasets kept ts made zip is
      (λ (t : ResourceTable). All (λ number. number < 2 ^ 32) t.targets)
      (λ k u m of. All-each (λ number. number < 2 ^ 32) u.targets
      (λ n among. (All-IsIn (λ j. (1 ≤ j) × (j < 2 ^ 32)) u.targets of.targets n among).1));
}
  where
    consistent : AreConsistent made
    consistent = consistent_if (tables-described datasets kept ts zip all)

    numbers : All (λ (t : ResourceTable). t.address.number < 2 ^ 32) made
    numbers =
        each-restored datasets kept ts made zip is (λ (t : ResourceTable). t.address.number < 2 ^ 32)
        (λ k u m of. of.number)

-- ---- tables of a valid state

-- Each table of a valid state can be read.
each-table : (datasets : List Package) (kept : List KeptTable) (tables : List ResourceTable) → All AreNumbered datasets
    → AreTablesOf datasets kept tables → (t : ResourceTable) → IsIn t tables → IsTableOf datasets (kept_table t) t
each-table datasets kept tables numbered are t m = record {
  same = refl;
  number = All-IsIn (λ (u : ResourceTable). u.address.number < 2 ^ 32) tables are.sized.numbers t m;
  home = All-IsIn (HasHome datasets) tables are.homes t m;
  targets = All-each (λ n. (1 ≤ n) × (n < 2 ^ 32)) t.targets (λ n among. (
    targets-numbered datasets tables numbered are.consistent are.homes t m n among,
    All-IsIn (λ k. k < 2 ^ 32) t.targets
        (All-IsIn (λ (u : ResourceTable). All (λ k. k < 2 ^ 32) u.targets) tables are.targets t m) n among,
  ));
  valid = All-IsIn (λ (u : ResourceTable). IsTable u.table.schema u.table.rows u.table.next_id) tables
      are.consistent.valid t m;
}

-- a kept table is that of one of them
kept-table : (datasets : List Package) (kept : List KeptTable) (tables : List ResourceTable) → All AreNumbered datasets
    → AreTablesOf datasets kept tables → (k : KeptTable) → IsIn k kept
    → (t : ResourceTable) × IsIn t tables × IsTableOf datasets k t
kept-table datasets kept tables numbered are k m =
    let w = map-IsIn kept_table k tables
    (ascending-IsIn kept_table_cmp k (map kept_table tables) (subst (IsIn k) (sym are.same) m)) in (
      w.0,
      w.1,
      subst (λ (j : KeptTable). IsTableOf datasets j w.0) (sym w.2)
          (each-table datasets kept tables numbered are w.0 w.1),
    )

pub unread-tables : (datasets : List Package) (kept : List KeptTable) → All AreNumbered datasets
    → ((ts : List ResourceTable) → AllZip (IsTableOf datasets) kept ts → ⊥) → (tables : List ResourceTable)
    → AreTablesOf datasets kept tables → ⊥
unread-tables datasets kept numbered none tables are =
    let all = zip-of (IsTableOf datasets) kept
    (λ k m. let w = kept-table datasets kept tables numbered are k m in (w.0, w.2)) in
    none all.0 all.1

-- The tables that are read are those of the state, up to the memory that they have ready.
read-same : (datasets : List Package) (kept : List KeptTable) (ts tables : List ResourceTable)
    → All AreNumbered datasets → AllZip (IsTableOf datasets) kept ts → AreTablesOf datasets kept tables
    → AreApart table_cmp (map without_room ts) → ascending table_cmp (map without_room ts) ≡ tables
read-same datasets kept ts tables numbered zip are apart =
    unique table_cmp table_cmp_total (ascending table_cmp (map without_room ts)) tables
    (IsAscending-ascending table_cmp table_cmp_total (map without_room ts) apart) are.consistent.ascending to from
  where
    no_room : (t : ResourceTable) → IsIn t tables → without_room t ≡ t
    no_room t m =
        ap (λ (n : ℕ). record t { table = record t.table { room = n } })
        (sym (All-IsIn (λ (u : ResourceTable). u.table.room ≡ 0) tables are.consistent.unready t m))

    to : (t : ResourceTable) → IsIn t (ascending table_cmp (map without_room ts)) → IsIn t tables
    to t m =
        let r = restored-IsIn datasets kept ts zip t m in
        let w = kept-table datasets kept tables numbered are r.0 r.1 in
        subst (λ (u : ResourceTable). IsIn u tables)
        (sym (r.2.2 ∙ one-table datasets r.0 r.2.0 w.0 r.2.1 w.2 ∙ no_room w.0 w.1)) w.1

    from : (t : ResourceTable) → IsIn t tables → IsIn t (ascending table_cmp (map without_room ts))
    from t m =
        let among : IsIn (kept_table t) kept =
        subst (IsIn (kept_table t)) are.same
        (IsIn-ascending kept_table_cmp (kept_table t) (map kept_table tables) (IsIn-map kept_table t tables m)) in
        let r = zip-on (IsTableOf datasets) kept ts zip (kept_table t) among in
        subst (λ (u : ResourceTable). IsIn u (ascending table_cmp (map without_room ts)))
        (one-table datasets (kept_table t) r.0 t r.2 (each-table datasets kept tables numbered are t m) ∙ no_room t m)
        (IsIn-ascending table_cmp (without_room r.0) (map without_room ts) (IsIn-map without_room r.0 ts r.1))

-- by the bytes of the resource's id
abbrev by_id : ResourceTable → ResourceTable → Ordering
by_id t u = kept_table_cmp (kept_table t) (kept_table u)

-- So they can be restored.
unrestored-tables : (datasets : List Package) (kept : List KeptTable) (ts : List ResourceTable)
    → All AreNumbered datasets → AllZip (IsTableOf datasets) kept ts → IsAscending kept_table_cmp kept
    → are_restorable (map without_room ts) ≡ false → (tables : List ResourceTable) → AreTablesOf datasets kept tables
    → ⊥
unrestored-tables datasets kept ts numbered zip up unrestorable tables are =
    true≢false (sym restorable ∙ unrestorable)
  where
    apart : AreApart table_cmp (map without_room ts)
    apart =
        apart-made without_room by_id table_cmp ts (λ t u m n less. addresses-differ t u less)
        (made-ascending kept_table by_id kept_table_cmp ts (λ t u less. less)
        (subst (IsAscending kept_table_cmp) (sym (zip-made datasets kept ts zip)) up))

    related : are_related tables ≡ true
    related =
        ap are_related (sym (consistent-ordered tables are.consistent))
        ∙ (both_hold (are_apart table_cmp tables) (are_related (ascending table_cmp tables))
        (consistent-restorable tables are.consistent)).1

    restorable : are_restorable (map without_room ts) ≡ true
    restorable =
        ap (λ b. b && are_related (ascending table_cmp (map without_room ts)))
        (distinct-apart table_cmp (map without_room ts) apart)
        ∙ ap are_related (read-same datasets kept ts tables numbered zip are apart)
        ∙ related

-- ---- the result of restoring the tables that are read

pub restored-if : (o : Option Stored) (datasets : List Package) (kept : List KeptTable) (ts : List ResourceTable)
    → AllZip (IsTableOf datasets) kept ts → All IsKeptTable kept → IsAscending kept_table_cmp kept
    → IfSome o (λ made. tables_of made ≡ ascending table_cmp (map without_room ts))
    → IfSome o (λ made. All (λ (t : ResourceTable). IsDescribed t.table.schema) ts → AreConsistent (tables_of made))
    → IfSome o (λ made. AreTablesOf datasets kept (tables_of made))
restored-if None datasets kept ts zip all up is consistent = tt
restored-if (Some made) datasets kept ts zip all up is consistent =
    tables-restored datasets kept ts (tables_of made) zip all up is consistent

pub unrestored-if : (o : Option Stored) (datasets : List Package) (kept : List KeptTable) (ts : List ResourceTable)
    → All AreNumbered datasets → AllZip (IsTableOf datasets) kept ts → IsAscending kept_table_cmp kept
    → is_some o ≡ are_restorable (map without_room ts)
    → IfNone o ((tables : List ResourceTable) → AreTablesOf datasets kept tables → ⊥)
unrestored-if None datasets kept ts numbered zip up exact =
    unrestored-tables datasets kept ts numbered zip up (sym exact)
unrestored-if (Some made) datasets kept ts numbered zip up exact = tt
