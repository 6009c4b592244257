use Rattle.std.proofs.Common.{◌≡◌, ◌∙◌, ◌++◌, refl, ap, subst, take, length, arith, Some, None}
use Rattle.std.specs.Prelude.{position, ◌==◌}
use Rattle.std.proofs.lemmas.List.{drop_all}
use Rattle.portal_lines.specs.PartialLines.{KeepsRaw}
use Rattle.portal_lines.proofs.LineLemmas.{TakesPiece-at, HasNoFeed-all}
use Rattle.portal_lines.proofs.lines.PartialLine.take_from.Goals as goal

pub returns-in_ok-add-in-Some-clause-taken : goal.returns-in_ok-add-in-Some-clause-taken
returns-in_ok-add-in-Some-clause-taken c =
    let found : position (λ b. b == 10) c.args.window.now ≡ Some c.in-Some.index = grind arith in
    let piece = TakesPiece-at c.args.window.now c.in-Some.index found in (
      take c.in-Some.index c.args.window.now,
      (piece.0, rw c.skip.ensures piece.1),
      λ raw keeps.
          let same : take c.in-Some.index c.bytes-bytes.result.now ≡ take c.in-Some.index c.args.window.now =
          ap (take c.in-Some.index) c.bytes-bytes.ensures in
          subst (λ v. KeepsRaw c.args.longest (raw ++ v) c.add.new.self.kept.items c.add.new.self.is_over) same
          (c.in_ok-add-in-Some.ensures.added raw keeps),
    )

pub returns-in_ok-add-in-None-clause-taken : goal.returns-in_ok-add-in-None-clause-taken
returns-in_ok-add-in-None-clause-taken c =
    let found : position (λ b. b == 10) c.args.window.now ≡ None = grind arith in (
      c.args.window.now,
      (
        HasNoFeed-all c.args.window.now found,
        refl,
        c.skip-in-None.ensures
            ∙ drop_all (length c.bytes-bytes.result.now) c.args.window.now
            (omega (arith, ap length c.bytes-bytes.ensures)),
      ),
      λ raw keeps.
          subst (λ v. KeepsRaw c.args.longest (raw ++ v) c.add-in-None.new.self.kept.items
          c.add-in-None.new.self.is_over) c.bytes-bytes.ensures (c.in_ok-add-in-None.ensures.added raw keeps),
    )
