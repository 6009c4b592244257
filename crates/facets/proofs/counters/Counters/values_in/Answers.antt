use Rattle.std.proofs.Common.{◌≡◌, ◌∙◌, ℕ, List, ap, flat_map, subst}
use Rattle.std.specs.Prelude.{IfOk}
use Rattle.facets.specs.ClassSet.{has_class}
use Rattle.facets.specs.Counters.{CountersState, facts_in_classes}
use Rattle.facets.specs.Facts.{is_one_of, texts_at}
use Rattle.facets.specs.Tally.{own_values}
use Rattle.facets.proofs.SlotLemmas.{slot_values-facts}
use Rattle.facets.proofs.counters.Counters.values_in.Goals as goal

pub returns : goal.returns
returns c =
    subst (λ (list : List (List ℕ)). IfOk c.values_of_slots.result (λ values. values.items ≡ list))
    (slot_values-facts (has_class c.in_ok-classes.classes) (is_one_of c.args.classes.now) c.in_ok-classes.ensures
    c.args.field c.self.inside.slots.entries
    ∙ ap (λ (counters : CountersState). flat_map (λ facts. own_values (texts_at c.args.field facts))
    (facts_in_classes c.args.classes.now counters)) c.self.view_is)
    c.values_of_slots.ensures
