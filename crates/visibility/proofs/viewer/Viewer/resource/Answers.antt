use Rattle.std.proofs.Common.{ap, sym, ◌∙◌}
use Rattle.std.specs.Option.{option_and_then}
use Rattle.packages.specs.Named.{resource_in, resource_named}
use Rattle.packages.proofs.ShelfLemmas.{resource_by_name}
use Rattle.visibility.specs.Viewer.{ViewerState, datasets_for}
use Rattle.visibility.specs.Visibility.{sees_in}
use Rattle.visibility.proofs.viewer.Viewer.resource.Goals as goal

pub returns-in-Some-find_visible_dataset-clause-placed : goal.returns-in-Some-find_visible_dataset-clause-placed
returns-in-Some-find_visible_dataset-clause-placed c =
    let standing = c.self.inside.standing in
    let address = c.args.address.now in
    c.resource_in.ensures.located
    ∙ ap (option_and_then (resource_in address)) c.in-Some-find_visible_dataset.ensures.dataset
    ∙ sym (resource_by_name address c.in-Some.key.now (sees_in standing.people standing.caller)
    c.self.inside.shelf.now c.find_visible_dataset.ensures.shelved c.in-Some.ensures.named)
    ∙ ap (λ (v : ViewerState). resource_named (datasets_for v) address) c.self.view_is

pub returns-in-None-clause-placed : goal.returns-in-None-clause-placed
returns-in-None-clause-placed c =
    let standing = c.self.inside.standing in
    let address = c.args.address.now in
    ap (option_and_then (resource_in address)) c.in-None.ensures.dataset
    ∙ sym (resource_by_name address c.in-Some.key.now (sees_in standing.people standing.caller)
    c.self.inside.shelf.now c.find_visible_dataset.ensures.shelved c.in-Some.ensures.named)
    ∙ ap (λ (v : ViewerState). resource_named (datasets_for v) address) c.self.view_is
