use Rattle.std.proofs.Common.{◌∙◌, map, sym, true≢false}
use Rattle.portal_rows.specs.KeptValues.{head_row}
use Rattle.portal_rows.proofs.FillLemmas.{filled-all, filled-more, filled-refused, new-tables}
use Rattle.portal_rows.proofs.kept_tables.with_rows.Goals as goal

pub loop-row-init : goal.loop-row-init
loop-row-init c = rw c.into_vec-filled.ensures (new-tables c.args.tables c.requires.new)

pub loop-row-preserved : goal.loop-row-preserved
loop-row-preserved c =
    filled-more c.loop-row.filled.items c.add_row.new.tables.items (map head_row c.args.tables) c.args.rows.now
    c.loop-row.row-index c.row-item.result c.requires.rows c.loop-row-test.true c.row-item.is c.loop-row.invariant
    (c.in_ok-add_row.ensures.added c.if-not-branch.false)

pub returns-then-not-branch : goal.returns-then-not-branch
returns-then-not-branch c =
    filled-refused c.loop-row.filled.items (map head_row c.args.tables) c.args.rows.now c.loop-row.row-index
    c.row-item.result c.loop-row-test.true c.row-item.is c.loop-row.invariant
    (c.in_ok-add_row.ensures.none (λ yes. true≢false (sym yes ∙ c.if-not-branch.true)))

pub returns : goal.returns
returns c =
    filled-all c.loop-row.filled.items c.from.result (map head_row c.args.tables) c.args.rows.now c.loop-row.row-index
    c.loop-row-test.false c.loop-row.invariant c.from.ensures
