use Rattle.std.proofs.Common.{◌∙◌, ap}
use Rattle.facets.specs.Counters.{CountersState, entries_with, has_room}
use Rattle.facets.specs.Slots.{slot_entries}
use Rattle.facets.proofs.SlotLemmas.{from_ok, from_there, lookup-has_slot, ok_if_there, slot_entries-written}
use Rattle.facets.proofs.counters.Counters.commit.Goals as goal

pub unwrap-requires : goal.unwrap-requires
unwrap-requires c =
    ok_if_there c.insert-entered.result _ c.insert-entered.ensures.absent
    (lookup-has_slot c.args.counts.id c.self.inside.slots.entries
    ∙ ap (λ (counters : CountersState). has_room c.args.counts.id counters) c.self.view_is ∙ c.requires)

pub returns-clause-entered : goal.returns-clause-entered
returns-clause-entered c =
    ap slot_entries
    (from_ok c.insert-entered.result c.unwrap.result c.unwrap.ensures c.insert-entered.ensures.entries)
    ∙ slot_entries-written c.args.counts.id c.args.counts.facts c.self.inside.slots.entries
    c.insert-entered.ensures.was_ordered
    ∙ ap (λ (counters : CountersState). entries_with c.args.counts.id c.args.counts.facts counters) c.self.view_is

pub returns-clause-room : goal.returns-clause-room
returns-clause-room c =
    from_there c.insert-entered.result c.unwrap.result _ c.unwrap.ensures c.insert-entered.ensures.old
    c.insert-entered.ensures.keys_stay
    (lookup-has_slot c.args.counts.id c.self.inside.slots.entries
    ∙ ap (λ (counters : CountersState). has_room c.args.counts.id counters) c.self.view_is ∙ c.requires)
    ∙ ap (λ (counters : CountersState). counters.room) c.self.view_is
