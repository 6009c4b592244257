use Rattle.std.proofs.lemmas.List.Splits.{join_with_byte-slice_split}
use Rattle.portal_base.proofs.kind_laws.parts_join_to_the_text.Goals as goal

pub returns : goal.returns
returns c = λ text. join_with_byte-slice_split 44 text
