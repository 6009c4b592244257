use Rattle.std.proofs.Common.{ℕ, List, Bor, sym, ◌∙◌}
use Rattle.std.specs.Cmp.Derive.Mapped.{pointwise-map}
use Rattle.std.specs.Str.{bytes_eq}
use Rattle.harvest_results.proofs.equality.equal_texts.Goals as goal

pub returns : goal.returns
returns c =
    c.eq.ensures
    ∙ sym (pointwise-map {X = Bor (List ℕ)} {Y = List ℕ} (λ t. t.now) bytes_eq c.args.one.now c.args.other.now)
