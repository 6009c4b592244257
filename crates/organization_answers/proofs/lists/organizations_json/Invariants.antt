use Rattle.std.proofs.Common.{◌≡◌, map, take, true}
use Rattle.visibility.specs.CallView.{context_view}
use Rattle.organization_answers.specs.Answers.{organization_item}
use Rattle.organization_answers.proofs.lists.organizations_json.Given as goal

abbrev pub invariant-loop-org : goal.invariant-loop-org
invariant-loop-org l =
    l.list.items ≡ map (organization_item true (context_view l.context).datasets) (take l.org-index l.org-items)
