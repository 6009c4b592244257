-- Fit changes keep the references between tables.
use Rattle.std.proofs.Common.{◌≡◌, ◌∙◌, ℕ, ◌+◌, ◌==◌, Bool, true, false, not, List, [], ◌∷◌, Option, Some, None}
use Rattle.std.proofs.Common.{Result, Ok, Err, refl, sym, ap, subst, slice_get, arith, if◌then◌else◌, find, inl}
use Rattle.std.proofs.Common.{inr, ◌++◌}
use Rattle.std.specs.Prelude.{codes, option_and_then}
use Rattle.std.specs.Str.{bytes_eq}
use Rattle.std.proofs.lemmas.Bool.Decides.{nat_tests}
use Rattle.std.proofs.lemmas.Option.{option_and_then_some}
use Rattle.std.proofs.lemmas.Slice.Eq.{bytes_eq-Decides}
use Rattle.portal_base.specs.Ordered.{found, upserted}
use Rattle.portal_base.specs.declared.json_value.Json.{Json}
use Rattle.portal_base.proofs.Filtered.{filter-IsIn}
use Rattle.portal_base.proofs.Unique.{IsIn}
use Rattle.packages.specs.Named.{Located}
use Rattle.packages.specs.declared.package.Resource.{Resource}
use Rattle.packages.proofs.FindLemmas.{IsIn-find}
use Rattle.table_schema.specs.Field.{SchemaValue}
use Rattle.table_schema.specs.Written.{IsDescribed}
use Rattle.table_schema.specs.declared.foreign.Foreign.{Foreign}
use Rattle.visibility.specs.CallView.{CallView}
use Rattle.datastore_table.specs.Batch.{delete_checked, referred_checked, removed_keys}
use Rattle.datastore_table.specs.Meets.{IsTable}
use Rattle.datastore_table.specs.Put.{Worked, put_records}
use Rattle.datastore_table.specs.References.{foreign_checked, is_broken, is_self}
use Rattle.datastore_table.specs.Results.{◌>>>◌, each_ok, in_turn}
use Rattle.datastore_table.specs.Table.{IsNumbered}
use Rattle.datastore_table.specs.declared.fault.TableFault.{TableFault}
use Rattle.datastore_table.specs.declared.method.Method.{Method}
use Rattle.datastore_table.specs.declared.method.Method.TheVariants as method
use Rattle.datastore_table.specs.declared.row.Row.{Row}
use Rattle.datastore_table.proofs.ReferenceLemmas.{KeepsKeys, Stems}
use Rattle.datastore_table.proofs.KeptLemmas.{cut_rows-table, empty-table, put_records-table}
use Rattle.datastore_table.proofs.KeyLemmas.{each-at}
use Rattle.datastore_table.proofs.ResultLemmas.{bound-ok}
use Rattle.datastore_answers.specs.TableAnswers.{address_of, tables_beside}
use Rattle.datastore_answers.specs.Changed.{TableChange, changed_tables, without_rows, put_into, with_table_at}
use Rattle.datastore_answers.specs.Changed.{with_worked}
use Rattle.datastore_answers.specs.Changed as change
use Rattle.datastore_answers.specs.Described.{empty_table}
use Rattle.datastore_answers.specs.Fit.{IsFitTable, IsOwn}
use Rattle.datastore_answers.specs.Consistent.{AreConsistent, own_resolved}
use Rattle.datastore_answers.specs.Linked.{target_checked, link_checked, links_checked, put_among, target_of}
use Rattle.datastore_answers.specs.Resolution.{resolved_targets, fitting, is_named_table, link_text, resolved_target}
use Rattle.datastore_answers.specs.Resolution.{refers_to_key, table_named}
use Rattle.datastore_answers.specs.Order.{at_address, is_at, table_cmp}
use Rattle.datastore_answers.specs.Restrict.{delete_among, is_number, is_referenced, key_restrict, table_restrict}
use Rattle.datastore_answers.specs.Restrict.{tables_restrict}
use Rattle.datastore_answers.specs.Tables.{table_at, tables_in}
use Rattle.datastore_answers.specs.Errors.{OrError, delete_rows_error, put_error}
use Rattle.datastore_answers.specs.declared.address.Address.{Address}
use Rattle.datastore_answers.specs.declared.resource_table.ResourceTable.{ResourceTable}
use Rattle.datastore_answers.proofs.ReferenceLemmas.{AllHeld, Holds, HoldsAt, beside-found, kept-each}
use Rattle.datastore_answers.proofs.ReferenceLemmas.{zero_add}
use Rattle.datastore_answers.proofs.KeepLemmas.{at-is, create-kept, made-kept, number_is, number_itself, remove-kept}
use Rattle.datastore_answers.proofs.KeepLemmas.{there_gone}
use Rattle.datastore_answers.proofs.RowReferences.{delete_rows-held_on, delete_rows-held_own, held-on, in_turn-first}
use Rattle.datastore_answers.proofs.RowReferences.{put-keeps, rows-held}

-- ---- results without an error

put-ok : (r : Result Worked TableFault) → put_error r ≡ None → (w : Worked) × (r ≡ Ok w)
put-ok (Ok w) none = (w, refl)
put-ok (Err f) none = absurd (cc)

delete_rows-ok : (r : Result (Unit {0}) TableFault) → delete_rows_error r ≡ None → (u : Unit {0}) × (r ≡ Ok u)
delete_rows-ok (Ok u) none = (u, refl)
delete_rows-ok (Err f) none = absurd (cc)

-- A foreign key to another table was checked against the table that it references.
link-checked : (beside : List ResourceTable) (t : ResourceTable) (w : Worked) (u : Unit {0}) (index : ℕ)
    (foreign : Foreign) (number : ℕ) (target : ResourceTable)
    → slice_get t.table.schema.foreign index ≡ Some foreign → is_self foreign ≡ false
    → slice_get t.targets index ≡ Some number → table_at number beside ≡ Some target
    → links_checked beside t w ≡ Ok u
    → (v : Unit {0}) × (foreign_checked foreign.fields target.table.schema.key target.table.rows w.rows w.written
    ≡ Ok v)
link-checked beside t w u index foreign number target slot self targets there checked =
    let link = in_turn-first (link_checked beside t w) t.table.schema.foreign u checked index foreign slot in
    let is : target_of beside t index ≡ Some target =
    ap (option_and_then (λ n. table_at n beside)) targets ∙ there in (
      link.0,
      sym (ap (λ b. if b then Ok tt else target_checked (target_of beside t index) foreign w) self
          ∙ ap (λ o. target_checked o foreign w) is)
          ∙ link.1,
    )

-- ---- records that are put into a table

put-kept : (ts : List ResourceTable) (key : Address) (how : Method) (records : List Json) (t : ResourceTable)
    → AreConsistent ts → found (at_address key) ts ≡ Some t
    → put_error (put_among (tables_in t.address.dataset ts) how records t) ≡ None
    → AreConsistent (with_table_at key (put_into how records) ts)
put-kept ts key how records t kept there taken =
    made-kept ts key (put_into how records) t kept there (record {
      address = ap (λ (v : ResourceTable). v.address) made;
      targets = ap (λ (v : ResourceTable). v.targets) made;
      schema = ap (λ (v : ResourceTable). v.table.schema) made;
      room = ap (λ (v : ResourceTable). v.table.room) made;
    })
    (subst (λ (v : ResourceTable). IsTable v.table.schema v.table.rows v.table.next_id) (sym made)
    (put_records-table how records t.table w valid put.1))
    (λ index foreign slot self h. subst (λ (v : ResourceTable). AllHeld foreign h.target v.table.rows) (sym made)
    (own index foreign slot self h))
    (λ u m index foreign slot self h dataset number held.
    subst (λ (v : ResourceTable). AllHeld foreign v u.table.rows) (sym made)
    (held-on foreign.fields t.table.schema.key t.table.rows w.rows u.table.rows keeps.2 held))
  where
    beside : List ResourceTable
    beside = tables_in t.address.dataset ts

    ok : (w : Worked) × (put_among beside how records t ≡ Ok w)
    ok = put-ok (put_among beside how records t) taken

    put : (w : Worked) × (put_records how records t.table ≡ Ok w)
        × ((links_checked beside t w >>> λ _. Ok w) ≡ Ok ok.0)
    put = bound-ok (put_records how records t.table) (λ w. links_checked beside t w >>> λ _. Ok w) ok.0 ok.1

    w : Worked
    w = put.0

    links : (u : Unit {0}) × (links_checked beside t w ≡ Ok u) × (◌≡◌ {A = Result Worked TableFault} (Ok w) (Ok ok.0))
    links = bound-ok (links_checked beside t w) (λ _. Ok w) ok.0 put.2

    made : put_into how records t ≡ with_worked t (Ok w)
    made = ap (with_worked t) put.1

    valid : IsTable t.table.schema t.table.rows t.table.next_id
    valid = (kept-each ts kept t (IsIn-find (is_at key) t ts there).0).valid

    keeps : IsNumbered w.rows w.next_id × Stems t.table.rows w × KeepsKeys t.table.schema.key t.table.rows w.rows
    keeps = put-keeps how records t.table w valid.numbered put.1

    own : (index : ℕ) (foreign : Foreign) → slice_get t.table.schema.foreign index ≡ Some foreign
        → is_self foreign ≡ false → (h : HoldsAt beside t index foreign) → AllHeld foreign h.target w.rows
    own index foreign slot self h =
        let checked = link-checked beside t w links.0 index foreign h.number h.target slot self h.resolved h.there
        links.1 in
        rows-held foreign.fields h.target.table.schema.key h.target.table.rows t.table.rows w.rows w.written checked.0
        keeps.0.ascending keeps.1 h.held checked.1

-- ---- rows that are deleted

keeps_references-each : (keys : List Row) (number : ℕ) (us : List ResourceTable) (v : Unit {0})
    → tables_restrict keys number us ≡ Ok v → (u : ResourceTable) → IsIn u us
    → (x : Unit {0}) × (table_restrict keys number u ≡ Ok x)
keeps_references-each keys number [] v all u m = absurd m
keeps_references-each keys number (t ∷ ts) v all u (inl same) =
    let first = bound-ok (table_restrict keys number t) (λ _. tables_restrict keys number ts) v all in
    (first.0, ap (table_restrict keys number) same ∙ first.1)
keeps_references-each keys number (t ∷ ts) v all u (inr m) =
    let first = bound-ok (table_restrict keys number t) (λ _. tables_restrict keys number ts) v all in
    keeps_references-each keys number ts v first.2 u m

turned : (a b : ℕ) → (a == b) ≡ false → (b == a) ≡ false
turned a b h = grind (arith, nat_tests)

delete_rows-kept : (ts : List ResourceTable) (key : Address) (ids : List ℕ) (t : ResourceTable) → AreConsistent ts
    → found (at_address key) ts ≡ Some t
    → delete_rows_error (delete_among (tables_in t.address.dataset ts) t.address.number ids t) ≡ None
    → AreConsistent (with_table_at key (without_rows ids) ts)
delete_rows-kept ts key ids t kept there keeps_references =
    made-kept ts key (without_rows ids) t kept there (record { address = refl; targets = refl; schema = refl; room = refl })
    (cut_rows-table ids t.table valid checked.1)
    (λ index foreign slot self h.
    delete_rows-held_own (λ row. not (is_broken foreign.fields h.target.table.schema.key h.target.table.rows row)) ids
    t.table.rows h.held)
    (λ u m index foreign slot self h dataset number held. other u m index foreign slot self h dataset number held)
  where
    beside : List ResourceTable
    beside = tables_in t.address.dataset ts

    keys : List Row
    keys = removed_keys t.table.schema.key ids t.table.rows

    valid : IsTable t.table.schema t.table.rows t.table.next_id
    valid = (kept-each ts kept t (IsIn-find (is_at key) t ts there).0).valid

    ok : (u : Unit {0}) × (delete_among beside t.address.number ids t ≡ Ok u)
    ok = delete_rows-ok (delete_among beside t.address.number ids t) keeps_references

    checked : (u : Unit {0}) × (delete_checked ids t.table ≡ Ok u)
        × (tables_restrict keys t.address.number beside ≡ Ok ok.0)
    checked = bound-ok (delete_checked ids t.table) (λ _. tables_restrict keys t.address.number beside) ok.0 ok.1

    other : (u : ResourceTable) → IsIn u ts → (index : ℕ) (foreign : Foreign)
        → slice_get u.table.schema.foreign index ≡ Some foreign → is_self foreign ≡ false
        → (h : HoldsAt (tables_in u.address.dataset ts) u index foreign) → u.address.dataset ≡ t.address.dataset
        → h.number ≡ t.address.number → AllHeld foreign t u.table.rows
        → AllHeld foreign (without_rows ids t) u.table.rows
    other u m index foreign slot self h dataset number held =
        let among : IsIn u beside =
        filter-IsIn (λ v. bytes_eq v.address.dataset t.address.dataset) u ts m
        ((bytes_eq-Decides u.address.dataset t.address.dataset).1 dataset) in
        let one = keeps_references-each keys t.address.number beside ok.0 checked.2 u among in
        let apart : (u.address.number == t.address.number) ≡ false =
        turned t.address.number u.address.number (ap (λ n. n == u.address.number) (sym number) ∙ h.other) in
        let all : in_turn (key_restrict keys t.address.number u) 0 u.table.schema.foreign tt ≡ Ok one.0 =
        sym (ap (λ b. if b then Ok tt else in_turn (key_restrict keys t.address.number u) 0 u.table.schema.foreign tt)
        apart)
        ∙ one.1 in
        let at = in_turn-first (key_restrict keys t.address.number u) u.table.schema.foreign one.0 all index foreign
        slot in
        let same : is_number t.address.number (slice_get u.targets index) ≡ true =
        ap (is_number t.address.number) h.resolved
        ∙ ap (λ n. n == t.address.number) number
        ∙ number_itself t.address.number in
        let referred : referred_checked foreign.fields keys u.table.rows ≡ Ok at.0 =
        sym (ap (λ b. if b then Ok tt
        else if is_number t.address.number (slice_get u.targets index)
        then referred_checked foreign.fields keys u.table.rows else Ok tt) self
        ∙ ap (λ b. if b then referred_checked foreign.fields keys u.table.rows else Ok tt) same)
        ∙ at.1 in
        delete_rows-held_on foreign.fields t.table.schema.key ids t.table.rows u.table.rows at.0 held referred

-- ---- a new table

fit-ok : (fits : Bool) (x number : ℕ) (message : List ℕ)
    → ◌≡◌ {A = OrError ℕ} (if fits then Ok x else Err message) (Ok number) → (fits ≡ true) × (x ≡ number)
fit-ok true x number message is = (refl, cc)
fit-ok false x number message is = absurd (cc)

-- The resource that a foreign key resolves to has a table, and the key fits it.
fitted : (beside : List ResourceTable) (resources : List Resource) (schema : SchemaValue) (n : ℕ) (foreign : Foreign)
    (number : ℕ) → fitting schema n foreign (table_named resources beside foreign.resource) ≡ Ok number
    → (target : ResourceTable) × (table_at number beside ≡ Some target)
    × (refers_to_key schema.fields target.table.schema.fields foreign.fields target.table.schema.key foreign.target
    ≡ true)
fitted beside resources schema n foreign number is =
    by (table_named resources beside foreign.resource) refl is
  where
    named : (target : ResourceTable) → table_named resources beside foreign.resource ≡ Some target
        → table_at target.address.number beside ≡ Some target
    named target found =
        option_and_then_some (λ (r : Resource). table_at r.number beside)
        (find (is_named_table beside foreign.resource) resources) target found
        (λ r first there.
        let same : (target.address.number == r.number) ≡ true =
        (IsIn-find (λ (t : ResourceTable). t.address.number == r.number) target beside there).1 in
        ap (λ k. table_at k beside) (number_is target.address.number r.number same) ∙ there)

    by : (o : Option ResourceTable) → table_named resources beside foreign.resource ≡ o
        → fitting schema n foreign o ≡ Ok number → (v : ResourceTable) × (table_at number beside ≡ Some v)
        × (refers_to_key schema.fields v.table.schema.fields foreign.fields v.table.schema.key foreign.target ≡ true)
    by None found e = absurd (cc)
    by (Some target) found e =
        let fits = fit-ok (refers_to_key schema.fields target.table.schema.fields foreign.fields target.table.schema.key
        foreign.target) target.address.number number
        (link_text n ++ codes ": not that table's key") e in
        (target, ap (λ k. table_at k beside) (sym fits.1) ∙ named target found, fits.0)

-- Each foreign key resolves to one number, and a reference to the table itself to the table's own.
resolved-own : (located : Located) (beside : List ResourceTable) (schema : SchemaValue) (n : ℕ) (foreigns : List Foreign)
    (targets : List ℕ) → each_ok (λ index foreign. resolved_target located beside schema (index + 1) foreign) n
    foreigns ≡ Ok targets
    → own_resolved located.resource.number foreigns targets ≡ true
resolved-own located beside schema n [] targets h =
    let none : [] ≡ targets = cc in subst (λ ms. own_resolved located.resource.number [] ms ≡ true) none refl
resolved-own located beside schema n (f ∷ fs) targets h =
    let each : ℕ → Foreign → OrError ℕ = λ index foreign. resolved_target located beside schema (index + 1) foreign in
    let one = bound-ok (each n f) (λ y. each_ok each (n + 1) fs >>> λ ys. Ok (y ∷ ys)) targets h in
    let rest = bound-ok (each_ok each (n + 1) fs) (λ ys. Ok (one.0 ∷ ys)) targets one.2 in
    let same : (one.0 ∷ rest.0) ≡ targets = cc in
    subst (λ ms. own_resolved located.resource.number (f ∷ fs) ms ≡ true) same
    (by one.0 rest.0 one.1 (is_self f) refl (resolved-own located beside schema (n + 1) fs rest.0 rest.1))
  where
    own : (x : ℕ) → ◌≡◌ {A = OrError ℕ} (Ok located.resource.number) (Ok x) → (x == located.resource.number) ≡ true
    own x is =
        let same : located.resource.number ≡ x = cc in
        subst (λ k. (k == located.resource.number) ≡ true) same (number_itself located.resource.number)

    by : (x : ℕ) (rest : List ℕ) → resolved_target located beside schema (n + 1) f ≡ Ok x → (b : Bool) → is_self f ≡ b
        → own_resolved located.resource.number fs rest ≡ true
        → own_resolved located.resource.number (f ∷ fs) (x ∷ rest) ≡ true
    by x rest is false self all = rw (self, all) refl
    by x rest is true self all =
        let mine : (x == located.resource.number) ≡ true =
        own x (sym (ap (λ b. if b then Ok located.resource.number else fitting schema (n + 1) f
        (table_named located.dataset.resources beside f.resource)) self) ∙ is) in
        rw (self, mine, all) refl

-- A new table of a resource without one, with records that it accepts, keeps the tables consistent.
new-kept : (ts : List ResourceTable) (resource : Located) (schema : SchemaValue) (targets : List ℕ) (records : List Json)
    → AreConsistent ts → table_at resource.resource.number (tables_beside resource ts) ≡ None → IsDescribed schema
    → resolved_targets resource (tables_beside resource ts) schema ≡ Ok targets
    → put_error (put_among (tables_beside resource ts) method.Insert records
    (empty_table (address_of resource) schema targets)) ≡ None
    → AreConsistent (upserted table_cmp
    (put_into method.Insert records (empty_table (address_of resource) schema targets)) ts)
new-kept ts located schema targets records kept none described meant_all taken =
    subst (λ v. AreConsistent (upserted table_cmp v ts)) (sym made)
    (create-kept ts (with_worked t (Ok w)) kept
    (sym (beside-found located.dataset.id located.resource.number ts) ∙ none) described refl
    (put_records-table method.Insert records t.table w empty put.1)
    (resolved-own located beside schema 0 schema.foreign targets meant_all) holds)
  where
    beside : List ResourceTable
    beside = tables_beside located ts

    t : ResourceTable
    t = empty_table (address_of located) schema targets

    empty : IsTable schema [] 1
    empty = empty-table schema [] refl

    ok : (w : Worked) × (put_among beside method.Insert records t ≡ Ok w)
    ok = put-ok (put_among beside method.Insert records t) taken

    put : (w : Worked) × (put_records method.Insert records t.table ≡ Ok w)
        × ((links_checked beside t w >>> λ _. Ok w) ≡ Ok ok.0)
    put = bound-ok (put_records method.Insert records t.table) (λ w. links_checked beside t w >>> λ _. Ok w) ok.0 ok.1

    w : Worked
    w = put.0

    links : (u : Unit {0}) × (links_checked beside t w ≡ Ok u) × (◌≡◌ {A = Result Worked TableFault} (Ok w) (Ok ok.0))
    links = bound-ok (links_checked beside t w) (λ _. Ok w) ok.0 put.2

    made : put_into method.Insert records t ≡ with_worked t (Ok w)
    made = ap (with_worked t) put.1

    keeps : IsNumbered w.rows w.next_id × Stems [] w × KeepsKeys schema.key [] w.rows
    keeps = put-keeps method.Insert records t.table w empty.numbered put.1

    apart : (number : ℕ) (target : ResourceTable) → table_at number beside ≡ Some target
        → (number == located.resource.number) ≡ false
    apart number target there = by (number == located.resource.number) refl
      where
        by : (b : Bool) → (number == located.resource.number) ≡ b → b ≡ false
        by false is = refl
        by true is =
            there_gone (table_at number beside) target there
            (ap (λ k. table_at k beside) (number_is number located.resource.number is) ∙ none)

    holds : Holds beside (with_worked t (Ok w))
    holds index foreign slot self =
        let one = each-at (λ p f. resolved_target located beside schema (p + 1) f) 0 schema.foreign targets meant_all
        index foreign
        slot in
        let fit : fitting schema (index + 1) foreign
        (table_named located.dataset.resources beside foreign.resource) ≡ Ok one.0 =
        sym (ap (λ b. if b then Ok located.resource.number else fitting schema (index + 1) foreign
        (table_named located.dataset.resources beside foreign.resource)) self)
        ∙ ap (λ k. resolved_target located beside schema (k + 1) foreign) (sym (zero_add index))
        ∙ one.2 in
        let target = fitted beside located.dataset.resources schema (index + 1) foreign one.0 fit in
        let checked = link-checked beside t w links.0 index foreign one.0 target.0 slot self one.1 target.1 links.1 in
        record {
          number = one.0;
          resolved = one.1;
          other = apart one.0 target.0 target.1;
          target = target.0;
          there = target.1;
          fits = target.2;
          held = rows-held foreign.fields target.0.table.schema.key target.0.table.rows [] w.rows w.written checked.0
              keeps.0.ascending keeps.1 refl checked.1;
        }

-- ---- fit changes

own-found : (view : CallView) (ts : List ResourceTable) (key : Address) (own : IsOwn view ts key)
    → found (at_address key) ts ≡ Some own.table
own-found view ts key own =
    ap (λ a. found (at_address a) ts) own.here
    ∙ sym (beside-found own.placed.dataset.id own.placed.resource.number ts)
    ∙ own.exists

own-address : (view : CallView) (ts : List ResourceTable) (key : Address) (own : IsOwn view ts key)
    → own.table.address ≡ address_of own.placed
own-address view ts key own =
    at-is key own.table (IsIn-find (is_at key) own.table ts (own-found view ts key own)).1 ∙ own.here

pub fit-kept : (view : CallView) (ts : List ResourceTable) (made : TableChange) → AreConsistent ts
    → IsFitTable view ts made
    → AreConsistent (changed_tables made ts)
fit-kept view ts (change.Create t) kept fit =
    subst (λ v. AreConsistent (upserted table_cmp v ts)) (sym fit.made)
    (new-kept ts fit.own.placed fit.schema fit.targets fit.records kept fit.none fit.described fit.resolved
    fit.taken)
fit-kept view ts (change.Remove key) kept fit =
    remove-kept ts key kept
    (subst (λ (a : Address). is_referenced a.number (tables_in a.dataset ts) ≡ false)
    (sym fit.own.here) fit.unreferenced)
fit-kept view ts (change.Put key how records) kept fit =
    put-kept ts key how records fit.own.table kept (own-found view ts key fit.own)
    (subst (λ (a : Address). put_error (put_among (tables_in a.dataset ts) how records fit.own.table) ≡ None)
    (sym (own-address view ts key fit.own)) fit.taken)
fit-kept view ts (change.DeleteRows key ids) kept fit =
    delete_rows-kept ts key ids fit.own.table kept (own-found view ts key fit.own)
    (subst (λ (a : Address). delete_rows_error (delete_among (tables_in a.dataset ts) a.number ids fit.own.table)
    ≡ None)
    (sym (own-address view ts key fit.own)) fit.keeps_references)
