use Rattle.std.proofs.Common.{arith, ◌-◌, ap, ◌∙◌, drop, length, length-take}
use Rattle.portal_lines.proofs.LineLemmas.{range-drop}
use Rattle.portal_lines.proofs.lines.Window.skip.Goals as goal

pub returns : goal.returns
returns c =
    let w = c.self.inside in
    range-drop w.buffer.items w.start w.end c.args.count
    (omega (arith, c.requires, ap length c.self.view_is, length-take (w.end - w.start) (drop w.start w.buffer.items)))
    ∙ ap (drop c.args.count) c.self.view_is
