-- An organization's count is that of its public datasets.
use Rattle.std.proofs.Common.{◌≡◌, ◌∙◌, ◌++◌, ◌∷◌, [], List, true, ap, get_or, map, sym, take}
use Rattle.std.proofs.lemmas.List.{map-append, take_more}
use Rattle.portal_base.specs.declared.json_value.Json.{Json}
use Rattle.visibility.specs.CallView.{context_view}
use Rattle.organization_answers.specs.Answers.{organization_item}
use Rattle.organization_answers.specs.Dictionary.{counted_dictionary}
use Rattle.organization_answers.proofs.lists.organizations_json.Goals as goal

pub loop-org-preserved : goal.loop-org-preserved
loop-org-preserved c =
    let orgs = c.orgs-org-items.result.now in
    let index = c.loop-org.org-index in
    let org = c.org-item.result in
    let item = organization_item true (context_view c.args.context.now).datasets in
    let same : c.in_ok-counted_json.field-0 ≡ item org = c.in_ok-counted_json.ensures
    ∙ ap (λ count. counted_dictionary count org) (c.count_at-count.ensures ∙ c.in_ok-counts.ensures org.name) in
    c.in_ok-push.ensures.items
    ∙ ap (λ (list : List Json). list ++ c.in_ok-counted_json.field-0 ∷ []) c.loop-org.invariant
    ∙ ap (λ (json : Json). map item (take index orgs) ++ json ∷ []) (same ∙ ap item c.org-item.is)
    ∙ sym (map-append item (take index orgs) (get_or orgs index org ∷ []))
    ∙ ap (map item) (sym (take_more orgs index org c.loop-org-test.true))
