use Rattle.std.proofs.Common.{◌≡◌, IfOk, ℕ, List, [], ◌∷◌, subst}
use Rattle.std.specs.Prelude.{codes, pos}
use Rattle.portal_base.specs.declared.json_value.Json as json
use Rattle.facets.proofs.search.item_dictionary.Goals as goal

pub returns : goal.returns
returns c =
    subst
    (λ (name : List ℕ). IfOk c.dictionary.result
    (λ made. made ≡ json.Map (
    (codes "count", json.Whole (pos c.args.item.now.1))
    ∷ (codes "display_name", json.Text name)
    ∷ (codes "name", json.Text c.args.item.now.0)
    ∷ [])))
    c.in_ok-display_name.ensures c.dictionary.ensures.same
