use Rattle.std.proofs.Common.{◌≡◌, drop}
use Rattle.portal_base.specs.Kinds.{text_in}
use Rattle.table_schema.specs.Values.{all_of}
use Rattle.table_schema.proofs.ValueLemmas.{read_on}
use Rattle.table_schema.proofs.values.texts_of.Given as goal

abbrev pub invariant-loop-item : goal.invariant-loop-item
invariant-loop-item l = all_of text_in l.items ≡ read_on text_in l.texts.items (drop l.item-index l.items)
