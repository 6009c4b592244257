use Rattle.std.proofs.Common.{◌∙◌, ap}
use Rattle.facets.specs.Counters.{CountersState, class_count}
use Rattle.facets.specs.Counts.{has_text}
use Rattle.facets.specs.Facts.{same_class, texts_at}
use Rattle.facets.proofs.SlotLemmas.{count-slots}
use Rattle.facets.proofs.counters.Counters.count.Goals as goal

pub returns : goal.returns
returns c =
    c.count_in.ensures
    ∙ count-slots (has_text (texts_at c.args.field) c.args.value.now) (λ facts. same_class facts.class c.args.class.now)
    c.self.inside.slots.entries
    ∙ ap (λ (counters : CountersState). class_count c.args.class.now c.args.field c.args.value.now counters) c.self.view_is
