use Rattle.std.proofs.Common.{◌<◌, ◌≤◌, ◌∙◌, All, IfSome, List, slice_get, subst, sym}
use Rattle.portal_keeper.specs.Rows.{kind_number}
use Rattle.portal_keeper.specs.declared.row.KeptRow.{KeptRow}
use Rattle.portal_core.proofs.RestoredRows.{all-up, back-after, front-up}
use Rattle.portal_core.proofs.restored.split_before_sources.Goals as goal

pub returns-in-Some-clause-front : goal.returns-in-Some-clause-front
returns-in-Some-clause-front c =
    subst (All (λ (row : KeptRow). kind_number row.kind ≤ 5)) (sym c.split_at.ensures.front)
    (front-up c.args.rows.now c.in-Some.index (sym c.first_of_harvests.ensures.index ∙ c.in-Some.is))

pub returns-in-Some-clause-back : goal.returns-in-Some-clause-back
returns-in-Some-clause-back c =
    subst (λ (l : List KeptRow). IfSome (slice_get l 0) (λ (row : KeptRow). 5 < kind_number row.kind))
    (sym c.split_at.ensures.back)
    (back-after c.args.rows.now c.in-Some.index (sym c.first_of_harvests.ensures.index ∙ c.in-Some.is))

pub returns-in-None-clause-front : goal.returns-in-None-clause-front
returns-in-None-clause-front c =
    all-up c.args.rows.now (sym c.first_of_harvests.ensures.index ∙ c.in-None.is)
