use Rattle.std.proofs.Common.{◌∙◌, ◌&&◌, not, ap}
use Rattle.std.specs.Str.{bytes_eq}
use Rattle.facets.specs.Counters.{CountersState, entries_without, has_room}
use Rattle.facets.specs.Slots.{slot_entries}
use Rattle.facets.proofs.SlotLemmas.{slot_entries-removed, slots_after_removal}
use Rattle.facets.proofs.counters.Counters.remove.Goals as goal

pub returns-clause-removed : goal.returns-clause-removed
returns-clause-removed c =
    ap slot_entries c.remove.ensures.entries
    ∙ slot_entries-removed c.args.package.now.id c.self.inside.slots.entries c.self.invariant
    ∙ ap (λ (counters : CountersState). entries_without c.args.package.now.id counters) c.self.view_is

pub returns-clause-room : goal.returns-clause-room
returns-clause-room c = λ id.
    slots_after_removal c.args.package.now.id id c.self.inside.slots.entries c.remove.new.self.entries
    (c.remove.ensures.updates.0 id)
    ∙ ap (λ (counters : CountersState). not (bytes_eq c.args.package.now.id id) && has_room id counters) c.self.view_is
