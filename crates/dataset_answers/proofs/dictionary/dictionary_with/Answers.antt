use Rattle.std.proofs.Common.{◌≡◌, ℕ, List, [], ◌∷◌, ◌++◌, length, refl, subst}
use Rattle.std.specs.Prelude.{IfOk, codes, pos}
use Rattle.packages.specs.State.{state_name}
use Rattle.packages.specs.declared.package.Package.{Package}
use Rattle.portal_base.specs.declared.json_value.Json.{Json}
use Rattle.portal_base.specs.declared.json_value.Json as json
use Rattle.dataset_answers.specs.Dictionary.{dictionary_with, members_to_notes}
use Rattle.dataset_answers.proofs.dictionary.dictionary_with.Goals as goal

-- a dictionary with these counts and this name of a state, and else the dataset's own
abbrev made_of : Package → ℕ → ℕ → Json → List Json → List ℕ → List Json → Json
made_of dataset resource_count tag_count organization resources state tags = json.Map (
    members_to_notes dataset
    ++ (codes "num_resources", json.Whole (pos resource_count))
    ∷ (codes "num_tags", json.Whole (pos tag_count))
    ∷ (codes "organization", organization)
    ∷ (codes "owner_org", json.Text dataset.owner_org)
    ∷ (codes "private", json.Truth dataset.private)
    ∷ (codes "resources", json.List resources)
    ∷ (codes "state", json.Text state)
    ∷ (codes "tags", json.List tags)
    ∷ (codes "title", json.Text dataset.title)
    ∷ (codes "type", json.Text (codes "dataset"))
    ∷ (codes "url", json.Text dataset.url)
    ∷ (codes "version", json.Text dataset.version)
    ∷ [])

-- If the values are the dataset's, this is the dataset's dictionary.
made_is : (dataset : Package) (resource_count tag_count : ℕ) (organization : Json) (resources : List Json)
    (state : List ℕ) (tags : List Json)
    → resource_count ≡ length dataset.resources → tag_count ≡ length dataset.tags → state ≡ state_name dataset.state
    → made_of dataset resource_count tag_count organization resources state tags
    ≡ dictionary_with dataset organization resources tags
made_is dataset n m organization resources state tags in_all tagged stated = rw (in_all, tagged, stated) refl

pub returns : goal.returns
returns c =
    subst (λ (j : Json). IfOk c.dictionary.result (λ shown. shown ≡ j))
    (made_is c.args.dataset.now _ _ _ _ _ _ c.len.ensures c.len-2.ensures c.name.ensures)
    c.dictionary.ensures.same
