use Rattle.std.proofs.Common.{◌∙◌, ap, sym}
use Rattle.std.specs.Str.{chars}
use Rattle.lexical_forms.specs.FieldName.{ends_with_space}
use Rattle.lexical_forms.proofs.FieldNameLemmas.{ends_with_space-last}
use Rattle.lexical_forms.proofs.field_name.ends_with_space.Goals as goal

pub returns-in-Some : goal.returns-in-Some
returns-in-Some c =
    c.is_whitespace.ensures
    ∙ sym (ap ends_with_space c.in-Some.ensures.some ∙ ends_with_space-last (chars c.in-Some.field-0-0.now)
    c.in-Some.character)
