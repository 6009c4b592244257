use Rattle.std.proofs.Common.{◌≡◌, map, take}
use Rattle.portal_base.specs.declared.json_value.Json as json
use Rattle.organization_answers.proofs.lists.user_names_json.Given as goal

abbrev pub invariant-loop-user : goal.invariant-loop-user
invariant-loop-user l = l.list.items ≡ map (λ user. json.Text user.name) (take l.user-index l.users)
