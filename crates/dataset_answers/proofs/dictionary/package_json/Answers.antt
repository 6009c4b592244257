use Rattle.std.proofs.Common.{◌≡◌, List, map, ap, ◌∙◌, subst}
use Rattle.std.specs.Prelude.{IfOk}
use Rattle.org_roles.specs.PeopleLists.{PeopleLists}
use Rattle.packages.specs.declared.package.Package.{Package}
use Rattle.portal_base.specs.declared.json_value.Json.{Json}
use Rattle.visibility.specs.TableSummary.{TableSummary}
use Rattle.visibility.specs.Viewer.{people_for}
use Rattle.dataset_answers.specs.Dictionary.{dictionary_with, organization_dictionary, package_dictionary}
use Rattle.dataset_answers.specs.Dictionary.{resource_dictionaries, tag_dictionary}
use Rattle.dataset_answers.proofs.dictionary.package_json.Goals as goal

-- If the parts are the dataset's, this is the dataset's dictionary.
made_is : (people : PeopleLists) (summaries : List TableSummary) (dataset : Package) (organization : Json)
    (resources tags : List Json) → organization ≡ organization_dictionary people dataset.owner_org
    → resources ≡ resource_dictionaries summaries dataset.id 0 dataset.resources
    → tags ≡ map tag_dictionary dataset.tags
    → dictionary_with dataset organization resources tags ≡ package_dictionary people summaries dataset
made_is people summaries dataset organization resources tags owned listed labelled =
    ap (λ (o : Json). dictionary_with dataset o resources tags) owned
    ∙ ap (λ (rs : List Json). dictionary_with dataset (organization_dictionary people dataset.owner_org) rs tags) listed
    ∙ ap (λ (ts : List Json). dictionary_with dataset (organization_dictionary people dataset.owner_org)
    (resource_dictionaries summaries dataset.id 0 dataset.resources) ts) labelled

pub returns : goal.returns
returns g c =
    let summaries = g.H.TableLookup.summaries c.args.tables.now in
    let dataset = c.args.dataset.now in
    subst (λ (j : Json). IfOk c.dictionary_with.result (λ shown. shown ≡ j))
    (made_is (people_for c.args.viewer.now) summaries dataset _ _ _ c.in_ok-organization.ensures
    (c.in_ok-resources.ensures ∙ ap (resource_dictionaries summaries dataset.id 0) c.as_slice.ensures)
    (c.in_ok-tags.ensures ∙ ap (map tag_dictionary) c.as_slice-2.ensures))
    c.dictionary_with.ensures
