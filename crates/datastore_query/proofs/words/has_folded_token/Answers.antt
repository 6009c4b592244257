use Rattle.std.proofs.Common.{◌≡◌, ◌∙◌, Bool, false, true, ap, refl, string_bytes, subst, sym}
use Rattle.std.specs.Prelude.{IfOk}
use Rattle.std.specs.Str.{chars}
use Rattle.std.proofs.lemmas.Str.{IsUtf8-string_bytes}
use Rattle.portal_base.specs.Tokens.{token_of_word}
use Rattle.datastore_query.specs.Words.{has_word}
use Rattle.datastore_query.proofs.TokenLemmas.{search_begins, search_ends, search_finds, search_goes_on, search_passes}
use Rattle.datastore_query.proofs.words.has_folded_token.Goals as goal

pub loop-character-init : goal.loop-character-init
loop-character-init c =
    search_begins _ _ _ _ c.clear.ensures.bytes
    (ap (λ i. i.rest.now) c.into_iter-character-iterator.ensures.into_iter_gives
    ∙ c.chars-character-items.ensures.rest) c.utf8.text

pub loop-character-preserved-in-Continue-1 : goal.loop-character-preserved-in-Continue-1
loop-character-preserved-in-Continue-1 c =
    search_goes_on _ _ _ _ c.in-Some.character _ _ c.loop-character.invariant
    (IsUtf8-string_bytes c.loop-character.buffer) (IsUtf8-string_bytes c.push.new.self)
    (sym c.is_word_character.ensures ∙ c.if-is_word_character.true) c.in_ok-push.ensures.bytes
    c.in-Some.ensures.steps.0

pub returns-then-branch : goal.returns-then-branch
returns-then-branch c =
    let token = c.args.token.now in
    let here : has_word (token_of_word (chars (string_bytes c.loop-character.buffer))) token ≡ true =
    ap (λ bs. has_word (token_of_word (chars bs)) token) (sym c.as_str.ensures.value)
    ∙ sym c.in_ok-is_token_of.ensures ∙ c.if-branch.true in
    search_finds _ token _ c.in-Some.character _ _ c.loop-character.invariant
    (sym c.is_word_character.ensures ∙ c.if-is_word_character.false) here c.in-Some.ensures.steps.0

pub loop-character-preserved : goal.loop-character-preserved
loop-character-preserved c =
    let token = c.args.token.now in
    let other : has_word (token_of_word (chars (string_bytes c.loop-character.buffer))) token ≡ false =
    ap (λ bs. has_word (token_of_word (chars bs)) token) (sym c.as_str.ensures.value)
    ∙ sym c.in_ok-is_token_of.ensures ∙ c.if-branch.false in
    search_passes _ token _ _ c.in-Some.character _ _ c.loop-character.invariant
    (sym c.is_word_character.ensures ∙ c.if-is_word_character.false) other
    c.clear-else-is_word_character.ensures.bytes c.in-Some.ensures.steps.0

pub returns : goal.returns
returns c =
    let token = c.args.token.now in
    subst (λ (b : Bool). IfOk c.is_token_of-2.result (λ is. is ≡ b))
    (ap (λ bs. has_word (token_of_word (chars bs)) token) c.as_str-2.ensures.value
    ∙ search_ends _ token (string_bytes c.loop-character.buffer) _ _ c.loop-character.invariant
    c.in-None.ensures.steps.0.0 refl) c.is_token_of-2.ensures
