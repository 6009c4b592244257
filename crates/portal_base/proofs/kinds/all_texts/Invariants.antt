use Rattle.std.proofs.Common.{◌≡◌, drop}
use Rattle.portal_base.specs.Kinds.{text_in, all_of}
use Rattle.portal_base.proofs.KindLemmas.{read_on}
use Rattle.portal_base.proofs.kinds.all_texts.Given as goal

abbrev pub invariant-loop-item : goal.invariant-loop-item
invariant-loop-item l = all_of text_in l.items ≡ read_on text_in l.texts.items (drop l.item-index l.items)
