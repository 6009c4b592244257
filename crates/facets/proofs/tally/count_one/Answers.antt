use Rattle.std.proofs.Common.{◌≡◌, ◌+◌, ◌-◌, ◌∙◌, length, arith, refl, sym}
use Rattle.std.specs.Vec.{vec_len}
use Rattle.facets.proofs.RunLemmas.{last_counted}
use Rattle.facets.proofs.tally.count_one.Goals as goal

pub returns-then-eq : goal.returns-then-eq
returns-then-eq c =
    let n = vec_len c.args.runs.now - 1 in
    let within : n + 1 ≡ length c.args.runs.now.items = omega (arith, c.args.runs.now.ok.0, c.in-Some.ensures.variant.0 refl) in
    last_counted c.args.runs.now.items c.args.text c.in-Some.run'.now n within c.in-Some.ensures.value
    (sym c.eq.ensures ∙ c.if-eq.true)
