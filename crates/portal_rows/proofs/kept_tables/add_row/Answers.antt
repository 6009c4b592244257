use Rattle.std.proofs.Common.{◌∙◌, ap, set, subst, sym}
use Rattle.std.specs.Prelude.{position}
use Rattle.std.specs.Ordering.{is_eq}
use Rattle.portal_rows.specs.KeptValues.{IsAdded}
use Rattle.portal_rows.specs.declared.kept_tables.KeptTable.{KeptTable}
use Rattle.portal_rows.proofs.FillLemmas.{added-at, no_table, order_at, other_table}
use Rattle.portal_rows.proofs.kept_tables.add_row.Goals as goal

pub returns-in_default-clause-none : goal.returns-in_default-clause-none
returns-in_default-clause-none c = λ not.
    let tables = c.args.tables.now.items in
    let kept = c.args.row.now in
    no_table tables kept
    (ap (position (λ (t : KeptTable). is_eq (order_at kept.key t))) (sym c.as_slice.ensures.value)
    ∙ sym c.index_of_table.ensures.index ∙ c.in_default.is)

pub returns-in_default-2-clause-none : goal.returns-in_default-2-clause-none
returns-in_default-2-clause-none c = λ not.
    let tables = c.args.tables.now.items in
    let kept = c.args.row.now in
    other_table tables kept c.in-Some.index c.index_mut-table.result.now c.requires
    (ap (position (λ (t : KeptTable). is_eq (order_at kept.key t))) (sym c.as_slice.ensures.value)
    ∙ sym c.index_of_table.ensures.index ∙ c.in-Some.is) (rw c.as_slice.ensures.value at c.in-Some.ensures.within)
    c.index_mut-table.ensures.value (λ row own.
    let some = (c.in_ok-own.ensures row).1 own in
    let none = c.in_default-2.is in
    absurd (cc))

pub returns-clause-added : goal.returns-clause-added
returns-clause-added c = λ yes.
    let tables = c.args.tables.now.items in
    let own = c.in-Some-2.own in
    subst (λ (t : KeptTable). IsAdded c.args.row.now tables (set tables c.in-Some.index t))
    (sym c.in_ok-push_row.ensures)
    (added-at tables c.in-Some.index c.index_mut-table.result.now own c.args.row.now
    (rw c.as_slice.ensures.value at c.in-Some.ensures.within) c.index_mut-table.ensures.value
    ((c.in_ok-own.ensures own).0 c.in-Some-2.is))
