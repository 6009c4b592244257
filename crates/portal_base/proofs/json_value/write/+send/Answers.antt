use Rattle.std.proofs.Common.{◌≡◌, [], drop, Some, sym, ap, ◌∙◌, subst, arith}
use Rattle.std.proofs.lemmas.List.{drop_all}
use Rattle.std.proofs.lemmas.Result.{on_ok_weaker}
use Rattle.serde.specs.Event.{Logs, seq_begins, map_begins}
use Rattle.serde_json.specs.Data.{object}
use Rattle.serde_json.specs.Events.{SendsValue, SendsItems, SendsMembers}
use Rattle.portal_base.specs.Json.{data_of, items_data, members_data}
use Rattle.portal_base.proofs.JsonLevels.{data_of-Map, items_len-items_data, members_len-members_data}
use Rattle.portal_base.proofs.json_value.write.+send.Goals as goal

pub send-returns-in-Map : goal.send-returns-in-Map
send-returns-in-Map g t c =
    let first = g.S.Serializer.written c.args.out.now in
    let end = g.S.Serializer.written c.send_entries.new.out in
    let seen = ap data_of c.in-Map.is ∙ data_of-Map c.in-Map.entries
    ∙ ap (λ es. object (members_data es)) (sym c.as_slice-in-Map.ensures) in
    on_ok_weaker c.send_entries.result (λ e. subst (λ d. SendsValue d first end) (sym seen) e) c.send_entries.ensures

pub send_items-returns : goal.send_items-returns
send_items-returns g t c =
    let xs = c.args.items.now in
    let first = g.S.Serializer.written c.begin_seq.new.self in
    let end = g.S.Serializer.written c.end_seq.new.self in
    let begun = subst (λ n. Logs (g.S.Serializer.written c.args.out.now) first (seq_begins (Some n)))
    (sym (items_len-items_data xs)) c.in_ok-begin_seq.ensures in
    let none : drop c.loop-item.item-index xs ≡ [] = drop_all c.loop-item.item-index xs (omega arith) in
    on_ok_weaker c.end_seq.result (λ e. (
      first,
      begun,
      c.loop-item.invariant end
          (subst (λ ys. SendsItems (items_data ys) (g.S.Serializer.written c.loop-item.out) end) (sym none) e),
    )) c.end_seq.ensures

pub send_entries-returns : goal.send_entries-returns
send_entries-returns g t c =
    let xs = c.args.entries.now in
    let first = g.S.Serializer.written c.begin_map.new.self in
    let end = g.S.Serializer.written c.end_map.new.self in
    let begun = subst (λ n. Logs (g.S.Serializer.written c.args.out.now) first (map_begins (Some n)))
    (sym (members_len-members_data xs)) c.in_ok-begin_map.ensures in
    let none : drop c.loop-entry.entry-index xs ≡ [] = drop_all c.loop-entry.entry-index xs (omega arith) in
    on_ok_weaker c.end_map.result (λ e. (
      first,
      begun,
      c.loop-entry.invariant end
          (subst (λ ys. SendsMembers (members_data ys) (g.S.Serializer.written c.loop-entry.out) end) (sym none) e),
    )) c.end_map.ensures
