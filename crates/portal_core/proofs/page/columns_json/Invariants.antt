use Rattle.std.proofs.Common.{◌≡◌, map, take}
use Rattle.portal_state.specs.Page.{column_dictionary}
use Rattle.portal_core.proofs.page.columns_json.Given as goal

abbrev pub invariant-loop-name : goal.invariant-loop-name
invariant-loop-name l = l.list.items ≡ map (column_dictionary l.fields) (take l.name-index l.names)
