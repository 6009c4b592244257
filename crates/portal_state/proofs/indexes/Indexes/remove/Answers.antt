-- Neither the shelf nor the indexes have the dataset afterwards.
use Rattle.std.proofs.Common.{sym, subst}
use Rattle.facets.specs.Counters as counters
use Rattle.packages.specs.Shelf.{datasets_of}
use Rattle.search_index.specs.Index as index
use Rattle.portal_state.proofs.indexes.Indexes.remove.Goals as goal

pub returns-clause-indexed : goal.returns-clause-indexed
returns-clause-indexed c =
    let old = c.args.self.now in
    let shelf = c.args.shelf.now in
    record {
      valid = c.remove-removed.ensures.valid;
      terms = subst (index.StandsFor c.remove.new.self) (sym c.remove-removed.ensures.rest)
          (c.remove.ensures.stands shelf c.requires.indexed.terms);
      counts = subst (counters.StandsFor c.remove-2.new.self) (sym c.remove-removed.ensures.datasets)
          (c.counters_follow_what_is_removed.ensures old.counters c.remove-2.new.self (datasets_of shelf)
          c.remove-removed.result c.requires.indexed.counts c.remove-2.ensures.removed);
    }
