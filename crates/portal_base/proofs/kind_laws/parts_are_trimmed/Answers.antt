use Rattle.portal_base.proofs.KindLaws.{trimmed_around, trimmed_has_no_blank_at_start, trimmed_has_no_blank_at_end}
use Rattle.portal_base.proofs.kind_laws.parts_are_trimmed.Goals as goal

pub returns-clause-around : goal.returns-clause-around
returns-clause-around c = λ text. trimmed_around text

pub returns-clause-start : goal.returns-clause-start
returns-clause-start c = λ text b rest e. trimmed_has_no_blank_at_start text b rest e

pub returns-clause-end : goal.returns-clause-end
returns-clause-end c = λ text front b e. trimmed_has_no_blank_at_end text front b e
