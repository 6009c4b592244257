use Rattle.std.proofs.Common.{◌∙◌, ℕ, List, ap, subst, sym}
use Rattle.std.specs.List.Sorted.{IsNonDecreasing}
use Rattle.datastore_table.specs.Batch.{is_among}
use Rattle.datastore_table.proofs.AmongLemmas.{searched_among}
use Rattle.datastore_table.proofs.ids.Ids.has.Goals as goal

pub returns : goal.returns
returns c =
    let id = c.args.id in
    c.is_ok.ensures.value
    ∙ searched_among c.deref.result.now id c.binary_search.result
    (subst (λ (ids : List ℕ). IsNonDecreasing ids) (sym c.deref.ensures.value) c.self.invariant.0)
    c.binary_search.ensures.position
    ∙ ap (λ ids. is_among ids id) c.deref.ensures.value ∙ sym (c.self.invariant.1 id)
    ∙ ap (λ ids. is_among ids id) c.self.view_is
