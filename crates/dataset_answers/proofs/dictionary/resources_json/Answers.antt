use Rattle.std.proofs.Common.{◌≡◌, ℕ, ◌+◌, ◌<◌, suc, List, [], ◌∷◌, ◌++◌, length, get_or, drop, ap, sym, ◌∙◌}
use Rattle.std.proofs.Common.{append_assoc, add-one, drop-cons}
use Rattle.packages.specs.declared.package.Resource.{Resource}
use Rattle.portal_base.specs.declared.json_value.Json.{Json}
use Rattle.visibility.specs.TableSummary.{TableSummary}
use Rattle.dataset_answers.specs.Dictionary.{resource_dictionary, resource_dictionaries}
use Rattle.dataset_answers.proofs.dictionary.resources_json.Goals as goal

-- once one more dictionary is made, those of the resources after it remain
one_more :
    (summaries : List TableSummary) (dataset : List ℕ) (i : ℕ) (resources : List Resource) (resource : Resource)
    (made all : List Json) (json : Json) →
    i < length resources → resource ≡ get_or resources i resource →
    json ≡ resource_dictionary summaries dataset i resource →
    made ++ resource_dictionaries summaries dataset i (drop i resources) ≡ all →
    (made ++ json ∷ []) ++ resource_dictionaries summaries dataset (i + 1) (drop (i + 1) resources) ≡ all
one_more summaries dataset i resources resource made all json within is made_of before =
    let first = ap (λ (r : Resource). r ∷ drop (suc i) resources) (sym is) in
    let split : drop i resources ≡ resource ∷ drop (i + 1) resources =
    rw add-one (drop-cons resources i resource within ∙ first) in
    let step : resource_dictionaries summaries dataset i (drop i resources)
    ≡ resource_dictionary summaries dataset i resource
    ∷ resource_dictionaries summaries dataset (i + 1) (drop (i + 1) resources) =
    ap (resource_dictionaries summaries dataset i) split in
    rw (append_assoc, made_of) (ap (λ (rest : List Json). made ++ rest) (sym step) ∙ before)

pub loop-position-preserved : goal.loop-position-preserved
loop-position-preserved g c =
    let one = c.in_ok-resource_json.ensures in
    rw c.in_ok-push.ensures.items
    (one_more (g.H.TableLookup.summaries c.args.tables.now) c.args.dataset.now _ _ _ _ _ _ c.loop-position-test.true
    c.index-resources-position.is one c.loop-position.invariant)
