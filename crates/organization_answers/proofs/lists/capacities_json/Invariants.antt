use Rattle.std.proofs.Common.{◌≡◌, take}
use Rattle.std.specs.List.{filter_map}
use Rattle.visibility.specs.CallView.{context_view}
use Rattle.organization_answers.specs.Answers.{capacity_item}
use Rattle.organization_answers.proofs.lists.capacities_json.Given as goal

abbrev pub invariant-loop-org : goal.invariant-loop-org
invariant-loop-org l = l.list.items ≡ filter_map (capacity_item (context_view l.context)) (take l.org-index l.org-items)
