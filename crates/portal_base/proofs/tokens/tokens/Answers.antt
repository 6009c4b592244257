use Rattle.std.proofs.Common.{ap, sym, ◌∙◌}
use Rattle.std.proofs.lemmas.Str.{IsUtf8-string_bytes}
use Rattle.portal_base.proofs.Words.{reading_begins, word_goes_on, word_is_ended, reading_ends}
use Rattle.portal_base.proofs.tokens.tokens.Goals as goal

pub loop-character-init : goal.loop-character-init
loop-character-init c =
    reading_begins _ _ _ _ c.new-found.ensures.items c.new-word.ensures.bytes
    (ap (λ i. i.rest.now) c.into_iter-character-iterator.ensures.into_iter_gives
    ∙ c.chars-character-items.ensures.rest) c.utf8.text

pub loop-character-preserved : goal.loop-character-preserved
loop-character-preserved c =
    word_is_ended _ _ _ _ _ c.in-Some.character _ _ c.loop-character.invariant
    (sym c.is_word_character.ensures ∙ c.if-is_word_character.false) c.in_ok-end_word.ensures.found
    c.in_ok-end_word.ensures.word c.in-Some.ensures.steps.0

pub loop-character-preserved-in-Continue-1 : goal.loop-character-preserved-in-Continue-1
loop-character-preserved-in-Continue-1 c =
    word_goes_on _ _ _ _ c.in-Some.character _ _ c.loop-character.invariant (IsUtf8-string_bytes c.loop-character.word)
    (IsUtf8-string_bytes c.push.new.self) (sym c.is_word_character.ensures ∙ c.if-is_word_character.true)
    c.in_ok-push.ensures.bytes c.in-Some.ensures.steps.0

pub returns : goal.returns
returns c =
    c.from.ensures ∙ reading_ends _ _ _ _ _ c.loop-character.invariant c.in-None.ensures.steps.0.0
    c.in_ok-end_word-2.ensures.found
