use Rattle.std.proofs.Common.{sym, ap, ◌∙◌}
use Rattle.std.specs.Str.{chars}
use Rattle.lexical_forms.proofs.CharacterLemmas.{chars-none, chars-last, IfNone-from}
use Rattle.lexical_forms.proofs.split.split_last.Goals as goal

pub returns-clause-some : goal.returns-clause-some
returns-clause-some c =
    rw c.as_str.ensures
    (chars-last c.args.text.now _ c.in_ok-character.character c.utf8.text (rw c.as_str.ensures at c.as_str.utf8)
    (sym c.chars-characters.ensures.rest ∙ c.in_ok-character.ensures.steps))

pub returns-in_err-character-clause-none : goal.returns-in_err-character-clause-none
returns-in_err-character-clause-none c =
    IfNone-from _ (sym (ap chars c.chars-characters.ensures.rest) ∙ chars-none _ c.in_err-character.ensures.steps.0)
