-- The shelf has the dataset at the number of its terms, and the counters have its facts.
use Rattle.std.proofs.Common.{◌≡◌, ◌∙◌, ap, subst, sym}
use Rattle.facets.specs.Counters as counters
use Rattle.facets.specs.Counters.{entries_with}
use Rattle.packages.specs.Shelf.{datasets_of}
use Rattle.portal_state.proofs.IndexLemmas.{stands_put}
use Rattle.portal_state.proofs.indexes.Indexes.put.Goals as goal

pub returns-clause-indexed : goal.returns-clause-indexed
returns-clause-indexed c =
    let old = c.args.self.now in
    let shelf = c.args.shelf.now in
    let prepared = c.args.prepared in
    let same : prepared.terms.number ≡ c.put.result = cc (c.requires.ready.number, c.requires.room, c.put.ensures.number) in
    record {
      valid = c.put.ensures.valid;
      terms = stands_put c.commit.new.self shelf c.put.new.self c.put.result prepared.terms.number prepared.dataset
          c.put.ensures.put same
          (c.commit.ensures.stands shelf prepared.dataset c.requires.ready.terms c.requires.indexed.terms);
      counts = subst (counters.StandsFor c.commit-2.new.self) (sym c.put.ensures.datasets)
          (c.counters_follow_what_is_put.ensures old.counters c.commit-2.new.self (datasets_of shelf) prepared.dataset
          c.requires.indexed.counts
          (c.commit-2.ensures.entered
          ∙ ap (λ id. entries_with id prepared.counts.facts old.counters) c.requires.ready.id
          ∙ ap (λ facts. entries_with prepared.dataset.id facts old.counters) c.requires.ready.facts));
    }
