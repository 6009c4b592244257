use Rattle.std.proofs.Common.{◌≡◌, ◌∙◌, ◌≤◌, true, ap, sym, arith, length}
use Rattle.typed_csv.specs.Pieces.{Kept}
use Rattle.typed_csv.proofs.PieceLemmas.{OnOk-map, records_with-extend, records_with-strip}
use Rattle.typed_csv.proofs.pieces.Pieces.add.Goals as goal

pub returns-clause-records : goal.returns-clause-records
returns-clause-records c =
    let enough : 3 ≤ length c.extend.new.self.held = omega (arith, ap (λ (k : Kept). length k.held) c.self.view_is) in
    let fresh : c.extend.new.self.is_fresh ≡ true = ap (λ (k : Kept). k.is_fresh) (sym c.self.view_is)
    ∙ c.if-not-self.false in
    OnOk-map c.cut-2.result
    (λ cut rest. cut rest
    ∙ records_with-strip c.extend.new.self c.strip.new.self enough c.in_ok-strip.ensures.ready fresh
    c.in_ok-strip.ensures.fresh c.in_ok-strip.ensures.held rest
    ∙ records_with-extend c.args.self.now c.extend.new.self c.args.piece.now c.in_ok-extend.ensures.ready
    c.in_ok-extend.ensures.fresh c.in_ok-extend.ensures.held rest)
    c.cut-2.ensures.records
