use Rattle.search_index.proofs.EntryLemmas.{row_cleared, row_entered}
use Rattle.search_index.proofs.index.Index.set.Goals as goal

pub returns : goal.returns
returns c = record {
  entered =
      row_entered c.args.number c.args.row c.self.inside.rows.items c.args.self.now c.self.view_is c.requires;
  cleared =
      row_cleared c.args.number c.args.row c.self.inside.rows.items c.args.self.now c.self.view_is c.requires;
}
