use Rattle.std.proofs.Common.{◌≡◌, ◌∙◌, ℕ, List, ap, subst}
use Rattle.std.specs.Prelude.{IfOk}
use Rattle.search_index.specs.Index.{IndexState, numbers_selected}
use Rattle.search_index.proofs.EntryLemmas.{found_are}
use Rattle.search_index.proofs.index.Index.find.Goals as goal

pub returns-clause-found : goal.returns-clause-found
returns-clause-found o c = λ items means.
    subst (λ (numbers : List ℕ). IfOk c.numbers_selected.result (λ found. found ≡ numbers))
    (ap (numbers_selected c.args.query.now 0) c.as_slice.ensures.value
    ∙ found_are c.args.query.now items means c.self.inside.rows.items c.args.shelf.now.entries
    (ap (λ (index : IndexState). index.entries) c.self.view_is ∙ c.requires))
    c.numbers_selected.ensures
