use Rattle.std.proofs.Common.{drop}
use Rattle.serde.specs.Event.{Log}
use Rattle.serde_json.specs.Events.{SendsItems, SendsMembers}
use Rattle.portal_base.specs.Json.{items_data, members_data}
use Rattle.portal_base.proofs.json_value.write.+send.Given as goal

-- What completes the value from here completes it from the start.
abbrev pub invariant-send_items-loop-item : goal.invariant-send_items-loop-item
invariant-send_items-loop-item g l =
    (end : Log) → SendsItems (items_data (drop l.item-index l.items)) (g.S.Serializer.written l.out) end
    → SendsItems (items_data l.items) (g.S.Serializer.written l.initial.out) end

abbrev pub invariant-send_entries-loop-entry : goal.invariant-send_entries-loop-entry
invariant-send_entries-loop-entry g l =
    (end : Log) → SendsMembers (members_data (drop l.entry-index l.entries)) (g.S.Serializer.written l.out) end
    → SendsMembers (members_data l.entries) (g.S.Serializer.written l.initial.out) end
