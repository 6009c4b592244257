use Rattle.std.proofs.Common.{subst}
use Rattle.portal_core.proofs.RestoredRows.{IsReadOf, rows-no_parts, rows-parts, unread-rows}
use Rattle.portal_core.proofs.restored.parts_of_rows.Goals as goal

pub parts_of_values-requires-clause-values : goal.parts_of_values-requires-clause-values
parts_of_values-requires-clause-values c =
    ((c.in_ok-values.ensures c.in-Some.values c.in-Some.harvests).0 c.in-Some.is).values_kept

pub parts_of_values-requires-clause-harvests : goal.parts_of_values-requires-clause-harvests
parts_of_values-requires-clause-harvests c =
    ((c.in_ok-values.ensures c.in-Some.values c.in-Some.harvests).0 c.in-Some.is).harvests_kept

pub returns-in-Some-clause-rows : goal.returns-in-Some-clause-rows
returns-in-Some-clause-rows c =
    rows-parts c.parts_of_values.result c.in-Some.values c.in-Some.harvests c.args.rows.now
    ((subst (IsReadOf c.in_ok-values.field-0) c.as_slice.ensures c.in_ok-values.ensures c.in-Some.values
    c.in-Some.harvests).0 c.in-Some.is)
    c.parts_of_values.ensures.consistent c.parts_of_values.ensures.values c.parts_of_values.ensures.harvests
    c.parts_of_values.ensures.typed

pub returns-in-Some-clause-none : goal.returns-in-Some-clause-none
returns-in-Some-clause-none c =
    rows-no_parts c.parts_of_values.result c.in_ok-values.field-0 c.in-Some.values c.in-Some.harvests c.args.rows.now
    c.in-Some.is (subst (IsReadOf c.in_ok-values.field-0) c.as_slice.ensures c.in_ok-values.ensures)
    c.parts_of_values.ensures.none

pub returns-in-None-clause-none : goal.returns-in-None-clause-none
returns-in-None-clause-none c =
    unread-rows c.in_ok-values.field-0 c.args.rows.now c.in-None.is
    (subst (IsReadOf c.in_ok-values.field-0) c.as_slice.ensures c.in_ok-values.ensures)
