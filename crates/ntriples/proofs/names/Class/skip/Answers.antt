use Rattle.std.proofs.Common.{rules, sym, ap, ◌∙◌}
use Rattle.std.specs.Str.{chars}
use Rattle.ntriples.proofs.NameLemmas.{skip_more, run_none}
use Rattle.ntriples.proofs.names.Class.skip.Goals as goal

pub loop-following-preserved : goal.loop-following-preserved
loop-following-preserved c = (
  search rules,
  skip_more c.args.self (chars c.loop-following.rest.now) c.in-Some.field-0-0
      (chars c.in-Some.following.now) c.in-Some.ensures.some c.in-Some.ensures.parts ∙ c.loop-following.invariant.1,
)

pub returns : goal.returns
returns c = sym (ap (λ r. r.1) (run_none c.args.self (chars c.loop-following.rest.now) c.in_default.ensures.none))
    ∙ c.loop-following.invariant.1
