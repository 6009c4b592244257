use Rattle.std.proofs.Common.{◌∙◌, ap, subst, sym}
use Rattle.portal_base.specs.Ordered.{upserted}
use Rattle.datastore_table.specs.Rows.{row_cmp}
use Rattle.datastore_table.specs.WrittenRows.{AreById, rows_in}
use Rattle.datastore_table.proofs.WrittenLemmas.{put_by_id, put_rows}
use Rattle.datastore_table.proofs.written_rows.WrittenRows.put.Goals as goal

pub invariant_of-self-2 : goal.invariant_of-self-2
invariant_of-self-2 c =
    subst AreById (sym c.in_ok-insert.ensures.entries)
    (put_by_id c.args.row c.self.inside.by_id.entries c.self.invariant)

pub returns : goal.returns
returns c =
    ap rows_in c.in_ok-insert.ensures.entries
    ∙ put_rows c.args.row c.self.inside.by_id.entries c.self.invariant.keyed c.self.invariant.ascending
    ∙ ap (upserted row_cmp c.args.row) c.self.view_is
