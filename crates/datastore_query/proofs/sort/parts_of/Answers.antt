use Rattle.std.proofs.Common.{◌∙◌, ◌++◌, List, ap, false, map, sym}
use Rattle.std.specs.Prelude.{Option}
use Rattle.datastore_query.specs.declared.sort.SortName.{SortName}
use Rattle.datastore_query.specs.SortText.{part_reading, parts_from}
use Rattle.datastore_query.proofs.PartLemmas.{read_next}
use Rattle.datastore_query.proofs.sort.parts_of.Goals as goal

pub loop-part-preserved : goal.loop-part-preserved
loop-part-preserved c = record {
  utf8 = c.in-Some.ensures.utf8;
  read =
      c.loop-part.invariant.read
      ∙ read_next part_reading c.loop-part.parts.items c.loop-part.rest.now c.in-Some.part.now c.in-Some.after.now
      c.in_ok-part_of.field-0 c.in-Some.ensures.some c.in-Some.ensures.front c.in-Some.ensures.after
      c.in_ok-part_of.ensures
      ∙ ap (λ (xs : List (Option SortName)). xs ++ map part_reading (parts_from false c.in-Some.after.now))
      (sym c.in_ok-push.ensures.items);
}
