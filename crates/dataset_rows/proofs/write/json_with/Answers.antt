use Rattle.std.proofs.Common.{◌≡◌, ℕ, List, [], ◌∷◌, ◌++◌, subst}
use Rattle.std.specs.Prelude.{IfOk, codes}
use Rattle.packages.specs.declared.package.Package.{Package}
use Rattle.portal_base.specs.declared.json_value.Json.{Json}
use Rattle.portal_base.specs.declared.json_value.Json as json
use Rattle.dataset_rows.specs.Rows.{members_to_name, members_to_source}
use Rattle.dataset_rows.proofs.write.json_with.Goals as goal

-- the value of a dataset, with this name of its state
stated : Package → List Json → List Json → List ℕ → Json
stated dataset resources tags state = json.Map (
    members_to_name dataset
    ++ (members_to_source dataset resources
    ++ (codes "state", json.Text state)
    ∷ (codes "tags", json.List tags)
    ∷ (codes "title", json.Text dataset.title)
    ∷ (codes "url", json.Text dataset.url)
    ∷ (codes "version", json.Text dataset.version)
    ∷ []))

pub returns : goal.returns
unfolding stated
returns c =
    subst (λ (name : List ℕ). IfOk c.dictionary.result
    (λ made. made ≡ stated c.args.dataset.now c.args.resources c.args.tags name))
    c.name.ensures c.dictionary.ensures.same
