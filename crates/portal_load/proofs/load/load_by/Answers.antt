-- The table is made, and then the rows are played. The returned loan determines what input gave.
use Rattle.std.proofs.Common.{arith, rules}
use Rattle.std.proofs.lemmas.Grind.{common_steps}
use Rattle.std.proofs.lemmas.Result.{err_from_is_err_and}
use Rattle.portal_load.proofs.Loading.{loads_made_at, loads_unmade, too_much_by}
use Rattle.portal_load.proofs.load.load_by.Goals as goal

pub returns-in_err-play_create-clause-loads : goal.returns-in_err-play_create-clause-loads
returns-in_err-play_create-clause-loads g c =
    loads_unmade c.from_residual.result _ c.args.task.now c.args.read.json c.args.read.schema c.args.portal.now.state
    c.play_create.new.portal.state _ _ _ (err_from_is_err_and c.from_residual.result c.from_residual.ensures.1) c.requires
    c.in_err-play_create.ensures.ended

pub returns-clause-loads : goal.returns-clause-loads
returns-clause-loads g c =
    rw (← c.new.ensures.same)
    (loads_made_at c.play_rows-source.new.played c.args.task.now c.args.read.json c.args.read.schema c.args.portal.now.state
    c.play_create.new.portal.state c.play_rows-source.new.portal.state _ _ (g.S.Source.to_come c.input-1.given.0) _ _ _
    c.requires c.in_ok-play_create.ensures.made
    c.play_rows-source.ensures.done c.play_rows-source.ensures.end c.play_rows-source.ensures.ended
    c.play_rows-source.ensures.received
    (first_of (search rules, grind (arith, common_steps), cc)))

pub returns-clause-too_much : goal.returns-clause-too_much
returns-clause-too_much g c =
    rw (← c.new.ensures.same)
    (λ whole is. too_much_by _ whole _ _ (g.S.Source.to_come c.input-1.given.0) c.play_rows-source.ensures.received
    (first_of (search rules, grind (arith, common_steps), cc)) is)
