use Rattle.std.proofs.Common.{◌≡◌, ◌++◌, drop, option_map}
use Rattle.std.specs.List.Sorted.{IsStrictlySortedBy}
use Rattle.std.specs.Map.{keys_of}
use Rattle.std.specs.String.{string_cmp}
use Rattle.serde_json.specs.View.{items_view, members_view}
use Rattle.portal_base.specs.Json.{list_of, entries_of, ItemsAreOrderly, MembersAreOrderly}
use Rattle.portal_base.proofs.json_value.read.+value_of.Given as goal

-- If the rest is orderly all is, and the values of the rest follow those made so far.
abbrev pub invariant-list-loop-item : goal.invariant-list-loop-item
invariant-list-loop-item l =
    (ItemsAreOrderly (items_view (drop l.item-index l.item-items)) → ItemsAreOrderly (items_view l.item-items))
    × (list_of (items_view l.item-items)
    ≡ option_map (λ js. l.list.items ++ js) (list_of (items_view (drop l.item-index l.item-items))))

abbrev pub invariant-map-loop-key : goal.invariant-map-loop-key
invariant-map-loop-key l =
    IsStrictlySortedBy string_cmp (keys_of l.key-iterator)
    × (MembersAreOrderly (members_view l.key-iterator) → MembersAreOrderly (members_view l.initial.key-iterator))
    × (entries_of (members_view l.initial.key-iterator) ≡ option_map (λ es. l.entries.items ++ es)
    (entries_of (members_view l.key-iterator)))
