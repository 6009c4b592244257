-- The shelf has the dataset at the number of its terms, and the counters have its facts.
use Rattle.std.proofs.Common.{◌∙◌, ℕ, ap, subst, sym}
use Rattle.facets.specs.Counters as counters
use Rattle.facets.specs.Counters.{entries_with}
use Rattle.packages.specs.Shelf.{datasets_of, with_package}
use Rattle.search_index.specs.Index as index
use Rattle.portal_state.proofs.indexes.Indexes.replace.Goals as goal

pub returns-clause-indexed : goal.returns-clause-indexed
returns-clause-indexed c =
    let old = c.args.self.now in
    let shelf = c.args.shelf.now in
    let prepared = c.args.prepared in
    record {
      valid = c.replace.ensures.valid;
      terms = subst (index.StandsFor c.commit.new.self) (sym c.replace.ensures.put)
          (subst (λ (k : ℕ). index.StandsFor c.commit.new.self (with_package k prepared.dataset shelf))
          c.requires.ready.number
          (c.commit.ensures.stands shelf prepared.dataset c.requires.ready.terms c.requires.indexed.terms));
      counts = subst (counters.StandsFor c.commit-2.new.self) (sym c.replace.ensures.datasets)
          (c.counters_follow_what_is_put.ensures old.counters c.commit-2.new.self (datasets_of shelf) prepared.dataset
          c.requires.indexed.counts
          (c.commit-2.ensures.entered
          ∙ ap (λ id. entries_with id prepared.counts.facts old.counters) c.requires.ready.id
          ∙ ap (λ facts. entries_with prepared.dataset.id facts old.counters) c.requires.ready.facts));
    }
