use Rattle.std.proofs.Common.{sym, ◌∙◌}
use Rattle.std.proofs.lemmas.Str.{chars_past_char}
use Rattle.lexical_forms.proofs.split.split_first.Goals as goal

pub returns-clause-some : goal.returns-clause-some
returns-clause-some c =
    rw c.as_str.ensures
    (chars_past_char _ _ c.in_ok-character.character c.utf8.text
    (sym c.chars-characters.ensures.rest ∙ c.in_ok-character.ensures.steps.0))
