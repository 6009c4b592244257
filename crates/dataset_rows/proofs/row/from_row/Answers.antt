use Rattle.std.proofs.Common.{sym, ◌∙◌, true≢false}
use Rattle.dataset_rows.proofs.RowLemmas.{none_read, other_read, has_row}
use Rattle.dataset_rows.proofs.row.from_row.Goals as goal

pub returns-in_default-clause-none : goal.returns-in_default-clause-none
returns-in_default-clause-none c =
    none_read c.args.id.now c.args.body.now (sym c.in_ok-dataset.ensures ∙ c.in_default.is)

pub returns-then-branch-clause-found : goal.returns-then-branch-clause-found
returns-then-branch-clause-found c =
    has_row c.args.id.now c.args.body.now c.in-Some.dataset (sym c.in_ok-dataset.ensures ∙ c.in-Some.is)
    (c.in_ok-has_body.ensures.0 c.if-branch.true)

pub returns-else-branch-clause-none : goal.returns-else-branch-clause-none
returns-else-branch-clause-none c =
    other_read c.args.id.now c.args.body.now c.in-Some.dataset (sym c.in_ok-dataset.ensures ∙ c.in-Some.is)
    (λ written. true≢false (sym (c.in_ok-has_body.ensures.1 written) ∙ c.if-branch.false))
