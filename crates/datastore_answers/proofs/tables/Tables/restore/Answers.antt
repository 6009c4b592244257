use Rattle.std.proofs.Common.{◌∙◌, ap, sym}
use Rattle.std.specs.Prelude.{is_some}
use Rattle.datastore_answers.proofs.RestoredLemmas.{equal-unrestorable, restorable-related, restored-consistent}
use Rattle.datastore_answers.proofs.RestoredLemmas.{restored-tables}
use Rattle.datastore_answers.proofs.tables.Tables.restore.Goals as goal

pub returns-in_err-tables-clause-exactly : goal.returns-in_err-tables-clause-exactly
returns-in_err-tables-clause-exactly c =
    ap is_some c.from_residual.ensures
    ∙ equal-unrestorable c.args.tables (sym c.in_err-tables.ensures.exactly)

pub returns-then-are_related-clause-exactly : goal.returns-then-are_related-clause-exactly
returns-then-are_related-clause-exactly c =
    let related = rw c.as_slice.ensures.value at c.are_related.ensures.related in
    sym c.if-are_related.true ∙ related
    ∙ restorable-related c.args.tables c.in_ok-tables.tables.items (sym c.in_ok-tables.ensures.exactly)
    c.in_ok-tables.ensures.tables

pub returns-then-are_related-clause-tables : goal.returns-then-are_related-clause-tables
returns-then-are_related-clause-tables c =
    restored-tables c.args.tables c.in_ok-tables.tables.items c.in_ok-tables.ensures.tables

pub returns-then-are_related-clause-consistent : goal.returns-then-are_related-clause-consistent
returns-then-are_related-clause-consistent c =
    let related = rw c.as_slice.ensures.value at c.are_related.ensures.related in
    let valid = rw c.as_slice.ensures.value at c.are_related.ensures.valid c.if-are_related.true in
    restored-consistent c.args.tables c.in_ok-tables.tables.items c.in_ok-tables.ensures.ascending
    c.in_ok-tables.ensures.tables (sym related ∙ c.if-are_related.true) valid

pub returns-else-are_related-clause-exactly : goal.returns-else-are_related-clause-exactly
returns-else-are_related-clause-exactly c =
    let related = rw c.as_slice.ensures.value at c.are_related.ensures.related in
    sym c.if-are_related.false ∙ related
    ∙ restorable-related c.args.tables c.in_ok-tables.tables.items (sym c.in_ok-tables.ensures.exactly)
    c.in_ok-tables.ensures.tables
