-- The pieces are those of the dictionary's text.
use Rattle.std.proofs.Common.{◌≡◌, ◌∙◌, subst, IfOk, string_bytes}
use Rattle.action_api.proofs.Texts.{success_texts}
use Rattle.action_api.proofs.reply.render_success.Goals as goal

pub returns : goal.returns
returns c =
    subst (λ pieces. IfOk c.format.result (λ text. string_bytes text ≡ pieces))
    (success_texts c.args.help c.args.value.now c.as_str-help.result.now c.as_str-value.result.now
    (c.as_str-help.ensures ∙ c.in_ok-help.ensures.text) (c.as_str-value.ensures ∙ c.in_ok-value.ensures.text))
    c.format.ensures.ok
