use Rattle.std.proofs.Common.{◌≡◌, ◌↔◌, IfOk, List, Some, subst}
use Rattle.portal_keeper.specs.declared.row.KeptRow.{KeptRow}
use Rattle.portal_rows.specs.KeptValues.{AreTablesOf}
use Rattle.portal_rows.specs.declared.kept_tables.KeptTable.{KeptTable}
use Rattle.portal_rows.proofs.FillLemmas.{new-of, read-heads, read-new}
use Rattle.portal_rows.proofs.kept_tables.read_tables.Goals as goal

pub with_rows-requires-clause-new : goal.with_rows-requires-clause-new
with_rows-requires-clause-new c =
    let tables = c.in-Some.tables in
    read-new tables c.args.heads.now c.requires.heads ((c.in_ok-tables.ensures tables).0 c.in-Some.is)

pub returns-in-Some : goal.returns-in-Some
returns-in-Some c =
    let tables = c.in-Some.tables in
    subst (λ (heads : List KeptRow). IfOk c.with_rows.result
    (λ found. (kept : List KeptTable) → (found ≡ Some kept) ↔ AreTablesOf kept heads c.args.rows.now))
    (read-heads tables c.args.heads.now ((c.in_ok-tables.ensures tables).0 c.in-Some.is)) c.with_rows.ensures

pub returns-in-None : goal.returns-in-None
returns-in-None c = λ tables. (
  λ e. absurd (cc),
  λ are.
      let new = new-of tables c.args.heads.now c.args.rows.now are in
      let some = (c.in_ok-tables.ensures new.0).1 new.1 in
      let none = c.in-None.is in
      absurd (cc),
)
