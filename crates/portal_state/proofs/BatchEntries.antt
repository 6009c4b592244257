-- The entries of a batch make it.
use Rattle.std.proofs.Common.{◌≡◌, ℕ, ◌==◌, Bool, true, false, ◌||◌, List, [], ◌∷◌, ◌++◌, Option, Some, Result, Ok}
use Rattle.std.proofs.Common.{Err, refl, sym, ap, ap₂, ◌∙◌, ◌⊎◌, inl, inr, subst, arith}
use Rattle.std.specs.Cmp.{unsigned_tied}
use Rattle.std.specs.Ordering.{is_eq, nat_cmp}
use Rattle.std.proofs.lemmas.Bool.Decides.{nat_tests}
use Rattle.std.proofs.lemmas.Cmp.{tied_itself}
use Rattle.std.proofs.lemmas.List.Folds.{list_any-append}
use Rattle.std.proofs.lemmas.Option.{same_Some}
use Rattle.portal_base.specs.declared.json_value.Json.{Json}
use Rattle.portal_base.specs.Ordered.{IsAscending, found, upserted}
use Rattle.portal_base.proofs.Filtered.{IsAscending-filter, IsIn-filter, filter-IsIn}
use Rattle.portal_base.proofs.Unique.{IsIn, unique}
use Rattle.portal_base.proofs.Upserted.{IsAscending-upserted, upserted-IsIn, upserted-IsIn_other}
use Rattle.packages.proofs.FindLemmas.{IsIn-find}
use Rattle.table_schema.specs.Field.{SchemaValue}
use Rattle.table_schema.specs.declared.cell.Cell.{Cell}
use Rattle.datastore_table.specs.Batch.{is_among}
use Rattle.datastore_table.specs.Put.{Worked, begun, put_record, put_records, row_id, validated_record, with_cells}
use Rattle.datastore_table.specs.Put.{written_row}
use Rattle.datastore_table.specs.Rows.{row_cmp, row_cmp_total, rows_after}
use Rattle.datastore_table.specs.Table.{TableValue}
use Rattle.datastore_table.specs.declared.fault.TableFault.{TableFault}
use Rattle.datastore_table.specs.declared.method.Method.{Method}
use Rattle.datastore_table.specs.declared.row.Row.{Row}
use Rattle.datastore_table.proofs.Merged.{IsApart, IsAscending-merged, IsIn-merged, merged-IsIn, merged-IsIn_other}
use Rattle.datastore_table.proofs.PutLemmas.{put_records-keeps}
use Rattle.datastore_table.proofs.ReferenceLemmas.{Stems, put_record-stems}
use Rattle.datastore_table.proofs.ResultLemmas.{bound-ok}
use Rattle.datastore_answers.specs.Changed.{put_into, with_table_at, with_worked}
use Rattle.datastore_answers.specs.Order.{at_address, is_at, table_cmp, table_cmp_total}
use Rattle.datastore_answers.specs.declared.address.Address.{Address}
use Rattle.datastore_answers.specs.declared.resource_table.ResourceTable.{ResourceTable}
use Rattle.datastore_answers.proofs.KeepLemmas.{at-is, found-in, number_is}
use Rattle.datastore_answers.proofs.TableLemmas.{there-at}
use Rattle.portal_state.specs.State.{State}
use Rattle.portal_state.specs.Entries.{TableHead, rows_of, state_after, table_of, with_head}
use Rattle.portal_state.specs.EntriesOf.{entries_of_batch, head_with, puts_of, rows_written}
use Rattle.portal_state.proofs.DropLemmas.{upserted-replaced}
use Rattle.portal_state.proofs.StateLemmas.{with_tables}
use Rattle.portal_state.proofs.TableEntries.{state_after-rows, with_rows, with_table_at-agree, with_table_at-same}
use Rattle.portal_state.proofs.TableEntries.{with_table_at-twice}

-- ---- what a batch writes

-- The rows of a batch in progress ascend. Each of them was there before or was written, each row that was there before
-- stays or was written over, and each `_id` that was written belongs to one of them.
record Writes (old : List Row) (work : Worked) : Type 0 where
  pub ascending : IsAscending row_cmp work.rows
  pub stems : Stems old work
  pub stays : (r : Row) → IsIn r old → IsIn r work.rows ⊎ (is_among work.written r.id ≡ true)
  pub there : (id : ℕ) → is_among work.written id ≡ true → (r : Row) × IsIn r work.rows × (r.id ≡ id)

like-id : (a b : ℕ) → is_eq (nat_cmp a b) ≡ true → (b == a) ≡ true
like-id a b like = grind (arith, nat_tests, unsigned_tied)

id-like : (a b : ℕ) → a ≡ b → is_eq (nat_cmp a b) ≡ true
id-like a b same = grind (arith, nat_tests, unsigned_tied)

-- The row of one more record keeps this.
writes-row : (old : List Row) (work : Worked) (id : Option ℕ) (cells : List Cell) → Writes old work
    → Stems old (with_cells id cells work) → Writes old (with_cells id cells work)
writes-row old work id cells was stems = record {
  ascending = IsAscending-upserted row_cmp row_cmp_total row work.rows was.ascending;
  stems = stems;
  stays = λ r m. still r (was.stays r m);
  there = λ i among. belongs i (is_among work.written i) refl (sym (also i) ∙ among);
}
  where
    own : ℕ
    own = row_id id work.next_id

    row : Row
    row = written_row own cells

    now : List Row
    now = upserted row_cmp row work.rows

    also : (i : ℕ) → is_among (work.written ++ own ∷ []) i ≡ (is_among work.written i || ((own == i) || false))
    also i = list_any-append (λ j. j == i) work.written (own ∷ [])

    earlier : (a b : Bool) → a ≡ true → (a || b) ≡ true
    earlier a b is = ap (λ c. c || b) is

    last : (a b : Bool) → b ≡ true → (a || (b || false)) ≡ true
    last true b is = refl
    last false b is = ap (λ c. c || false) is

    apart : (r : Row) → IsIn r work.rows → (b : Bool) → is_eq (row_cmp r row) ≡ b
        → IsIn r now ⊎ (is_among (work.written ++ own ∷ []) r.id ≡ true)
    apart r m false other = inl (upserted-IsIn_other row_cmp row r work.rows m other)
    apart r m true like =
        inr (also r.id ∙ last (is_among work.written r.id) (own == r.id) (like-id r.id own like))

    still : (r : Row) → IsIn r work.rows ⊎ (is_among work.written r.id ≡ true)
        → IsIn r now ⊎ (is_among (work.written ++ own ∷ []) r.id ≡ true)
    still r (inl m) = apart r m (is_eq (row_cmp r row)) refl
    still r (inr among) = inr (also r.id ∙ earlier (is_among work.written r.id) _ among)

    kept : (i : ℕ) (r : Row) → IsIn r work.rows → r.id ≡ i → (b : Bool) → is_eq (row_cmp r row) ≡ b
        → (z : Row) × IsIn z now × (z.id ≡ i)
    kept i r m at false other = (r, upserted-IsIn_other row_cmp row r work.rows m other, at)
    kept i r m at true like =
        (row, upserted-IsIn row_cmp row work.rows, number_is own r.id (like-id r.id own like) ∙ at)

    or_false : (b : Bool) → (b || false) ≡ true → b ≡ true
    or_false true is = refl
    or_false false is = is

    belongs : (i : ℕ) (b : Bool) → is_among work.written i ≡ b → (b || ((own == i) || false)) ≡ true
        → (z : Row) × IsIn z now × (z.id ≡ i)
    belongs i true among is =
        let r = was.there i among in kept i r.0 r.1 r.2 (is_eq (row_cmp r.0 row)) refl
    belongs i false none is =
        (row, upserted-IsIn row_cmp row work.rows, number_is own i (or_false (own == i) is))

same_work : (p q : Worked) → ◌≡◌ {A = Result Worked TableFault} (Ok p) (Ok q) → p ≡ q
same_work p q e = cc

writes-record : (method : Method) (schema : SchemaValue) (number : ℕ) (given : Json) (work next : Worked)
    (old : List Row) → Writes old work → put_record method schema number given work ≡ Ok next → Writes old next
writes-record method schema number given work next old was put =
    let validated = bound-ok (validated_record method schema number given work.rows)
    (λ (t : Option ℕ × List Cell). Ok (with_cells t.0 t.1 work)) next put in
    let made : with_cells validated.0.0 validated.0.1 work ≡ next =
    same_work (with_cells validated.0.0 validated.0.1 work) next validated.2 in
    let stems : Stems old next = put_record-stems method schema number given work next old was.stems put in
    subst (Writes old) made
    (writes-row old work validated.0.0 validated.0.1 was (subst (Stems old) (sym made) stems))

-- The rows after it are those before it, with the written ones put among them.
written-rows : (old : List Row) (work : Worked) → IsAscending row_cmp old → Writes old work
    → rows_after (rows_written work) old ≡ work.rows
written-rows old work up writes =
    unique row_cmp row_cmp_total (rows_after written old) work.rows
    (IsAscending-merged row_cmp row_cmp_total written old up) writes.ascending
    (λ z m. after z (IsIn-merged row_cmp z written old m))
    (λ z m. before z m (is_among work.written z.id) refl (writes.stems z m))
  where
    wrote : Row → Bool
    wrote r = is_among work.written r.id

    written : List Row
    written = rows_written work

    -- a row that was there before, and like which none was written
    untouched : (z : Row) → IsIn z old → IsApart row_cmp z written
        → IsIn z work.rows ⊎ (is_among work.written z.id ≡ true) → IsIn z work.rows
    untouched z was apart (inl m) = m
    untouched z was apart (inr among) =
        let r = writes.there z.id among in
        let there : IsIn r.0 written =
        filter-IsIn wrote r.0 work.rows r.1 (ap (is_among work.written) r.2 ∙ among) in
        let other : is_eq (row_cmp z r.0) ≡ false = apart r.0 there in
        let like : is_eq (row_cmp z r.0) ≡ true = id-like z.id r.0.id (sym r.2) in
        absurd (cc)

    after : (z : Row) → IsIn z written ⊎ (IsIn z old × IsApart row_cmp z written) → IsIn z work.rows
    after z (inl m) = (IsIn-filter wrote z work.rows m).0
    after z (inr was) = untouched z was.0 was.1 (writes.stays z was.0)

    -- nothing was written over a row whose `_id` wasn't written
    apart : (z r : Row) → is_among work.written z.id ≡ false → wrote r ≡ true → is_eq (row_cmp z r) ≡ false
    apart z r none among = by (is_eq (row_cmp z r)) refl
      where
        by : (b : Bool) → is_eq (row_cmp z r) ≡ b → b ≡ false
        by false other = refl
        by true like =
            let also : is_among work.written z.id ≡ true =
            ap (is_among work.written) (sym (number_is r.id z.id (like-id z.id r.id like))) ∙ among in
            absurd (cc)

    before : (z : Row) → IsIn z work.rows → (b : Bool) → is_among work.written z.id ≡ b
        → IsIn z old ⊎ (is_among work.written z.id ≡ true) → IsIn z (rows_after written old)
    before z m true among from =
        merged-IsIn row_cmp z written old (IsAscending-filter row_cmp wrote work.rows writes.ascending)
        (filter-IsIn wrote z work.rows m among)
    before z m false none (inl was) =
        merged-IsIn_other row_cmp z written old was
        (λ r n. apart z r none (IsIn-filter wrote r work.rows n).1)
    before z m false none (inr among) = absurd (cc)

batch-rows : (method : Method) (records : List Json) (table : TableValue) (worked : Worked)
    → IsAscending row_cmp table.rows → put_records method records table ≡ Ok worked
    → rows_after (rows_written worked) table.rows ≡ worked.rows
batch-rows method records table worked up put =
    let start : Writes table.rows (begun table.rows table.next_id) = record {
      ascending = up;
      stems = λ r m. inl m;
      stays = λ r m. inl m;
      there = λ id among. absurd (cc);
    } in
    let kept = put_records-keeps method records table worked (Writes table.rows)
    (λ number given work next was is. writes-record method table.schema number given work next table.rows was is)
    start put in
    written-rows table.rows worked up kept.1

-- ---- the table

-- A head is put in place of the one of the table at its address.
head-replaced : (t : ResourceTable) (next_id : ℕ) (tables : List ResourceTable) → IsAscending table_cmp tables
    → found (at_address t.address) tables ≡ Some t
    → with_head (head_with t next_id) tables
    ≡ with_table_at t.address (λ u. table_of (head_with t next_id) t.table.rows) tables
head-replaced t next_id tables up there =
    ap (λ (rows : List Row). upserted table_cmp (table_of (head_with t next_id) rows) tables) (ap rows_of there)
    ∙ upserted-replaced table_cmp table_cmp_total (table_of (head_with t next_id) t.table.rows) t tables up
    (IsIn-find (is_at t.address) t tables there).0 (tied_itself table_cmp_total t)

-- the table that is found at the address is the only one there
alone : (t u : ResourceTable) (tables : List ResourceTable) → IsAscending table_cmp tables
    → found (at_address t.address) tables ≡ Some t → IsIn u tables → is_at t.address u ≡ true → t ≡ u
alone t u tables up there m is = same_Some t u (sym there ∙ found-in t.address tables u up m is)

-- The tables ascend, and one of them is at the address. Its rows ascend, and it keeps no memory ready.
pub record HasTable (a : Address) (tables : List ResourceTable) : Type 0 where
  pub table : ResourceTable
  pub there : found (at_address a) tables ≡ Some table
  pub ascending : IsAscending table_cmp tables
  pub rows : IsAscending row_cmp table.table.rows
  pub room : table.table.room ≡ 0

batch-made : (method : Method) (records : List Json) (t : ResourceTable) (state : State)
    → IsAscending table_cmp state.tables → found (at_address t.address) state.tables ≡ Some t
    → IsAscending row_cmp t.table.rows → t.table.room ≡ 0 → (worked : Worked)
    → put_records method records t.table ≡ Ok worked
    → state_after (entries_of_batch t (Ok worked)) state
    ≡ with_tables (with_table_at t.address (put_into method records) state.tables) state
batch-made method records t state up there rows room worked put =
    state_after-rows t.address written (with_tables (with_head head state.tables) state)
    ∙ ap (λ (ts : List ResourceTable). with_tables ts state)
    (ap (with_table_at t.address (with_rows written)) (head-replaced t worked.next_id state.tables up there)
    ∙ with_table_at-twice t.address (λ u. begun_table) (with_rows written)
    (λ u is. ap is_eq (tied_itself table_cmp_total t)) state.tables
    ∙ with_table_at-agree t.address (λ u. with_rows written begun_table) (put_into method records) state.tables
    (λ u m is. whole ∙ ap (put_into method records) (alone t u state.tables up there m is)))
  where
    head : TableHead
    head = head_with t worked.next_id

    written : List Row
    written = rows_written worked

    begun_table : ResourceTable
    begun_table = table_of head t.table.rows

    whole : with_rows written begun_table ≡ put_into method records t
    whole =
        ap₂ (λ (rs : List Row) (n : ℕ). record t {
          table = record t.table { rows = rs; next_id = worked.next_id; room = n };
        }) (batch-rows method records t.table worked rows put) (sym room)
        ∙ sym (ap (with_worked t) put)

batch-refused : (method : Method) (records : List Json) (t : ResourceTable) (state : State)
    → IsAscending table_cmp state.tables → found (at_address t.address) state.tables ≡ Some t → (fault : TableFault)
    → put_records method records t.table ≡ Err fault
    → state ≡ with_tables (with_table_at t.address (put_into method records) state.tables) state
batch-refused method records t state up there fault put =
    ap (λ (ts : List ResourceTable). with_tables ts state)
    (sym (with_table_at-same t.address (put_into method records) state.tables
    (λ u m is. let same = alone t u state.tables up there m is in
    ap (put_into method records) (sym same) ∙ ap (with_worked t) put ∙ same)))

pub batch-entries : (a : Address) (method : Method) (records : List Json) (state : State) → HasTable a state.tables
    → state_after (puts_of method records (found (at_address a) state.tables)) state
    ≡ with_tables (with_table_at a (put_into method records) state.tables) state
batch-entries a method records state has =
    ap (λ (o : Option ResourceTable). state_after (puts_of method records o) state) has.there
    ∙ by (put_records method records t.table) refl
    ∙ ap (λ (b : Address). with_tables (with_table_at b (put_into method records) state.tables) state) here
  where
    t : ResourceTable
    t = has.table

    here : t.address ≡ a
    here = at-is a t (there-at a state.tables t has.there)

    there : found (at_address t.address) state.tables ≡ Some t
    there = ap (λ (b : Address). found (at_address b) state.tables) here ∙ has.there

    by : (r : Result Worked TableFault) → put_records method records t.table ≡ r
        → state_after (entries_of_batch t r) state
        ≡ with_tables (with_table_at t.address (put_into method records) state.tables) state
    by (Ok worked) put =
        batch-made method records t state has.ascending there has.rows has.room worked put
    by (Err fault) put = batch-refused method records t state has.ascending there fault put
