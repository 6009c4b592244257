use Rattle.std.proofs.Common.{◌≡◌, ◌∙◌, Bool, ap, false, subst, sym}
use Rattle.std.specs.Prelude.{IfOk}
use Rattle.portal_base.specs.Tokens.{tokens}
use Rattle.datastore_query.specs.AsciiWords.{starts_with_digit}
use Rattle.datastore_query.specs.Words.{cell_tokens, has_word}
use Rattle.datastore_query.proofs.AsciiLemmas.{no_token_of_number}
use Rattle.datastore_query.proofs.TokenLemmas.{text_tokens}
use Rattle.datastore_query.proofs.words.cell_has.Goals as goal

pub returns-in-Text : goal.returns-in-Text
returns-in-Text c =
    subst (λ (b : Bool). IfOk c.has_token.result (λ has. has ≡ b))
    (ap (λ ts. has_word ts c.args.token.now)
    (ap tokens c.as_str.ensures ∙ text_tokens _ ∙ ap cell_tokens (sym c.in-Text.is))) c.has_token.ensures

pub returns-in-Int : goal.returns-in-Int
returns-in-Int c =
    let token = c.args.token.now in
    let other : starts_with_digit token ≡ false =
    ap starts_with_digit (sym c.as_bytes.ensures.value) ∙ sym c.starts_with_digit.ensures
    ∙ c.if-not-starts_with_digit.true in
    sym (ap (λ cell. has_word (cell_tokens cell) token) c.in-Int.is ∙ no_token_of_number c.in-Int.field-0 token other)
