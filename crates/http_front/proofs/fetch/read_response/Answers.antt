use Rattle.std.proofs.Common.{◌≤◌, ◌-◌, ◌∙◌, ap, subst, length, take, drop}
use Rattle.std.specs.Prelude.{IfSome}
use Rattle.std.proofs.lemmas.List.{take_rest}
use Rattle.http_front.specs.Fetch.{IsReplyOf}
use Rattle.http_front.proofs.ReplyLemmas.{reply_fetched}
use Rattle.http_front.proofs.fetch.read_response.Goals as goal

pub returns-in-Ok-Some-clause-gives : goal.returns-in-Ok-Some-clause-gives
returns-in-Ok-Some-clause-gives g c =
    let buffer = c.read_reply.new.buffer.items in
    let reply = c.in-Ok-Some.reply in
    reply_fetched c.reply_of.result (λ body. body.items) (g.K.Link.to_come c.args.link.now)
    (g.K.Link.to_come c.read_reply.new.link) c.args.limit buffer _ reply c.in-Ok-Some.ensures.gives
    (subst (λ o. IfSome o (IsReplyOf buffer)) c.in-Ok-Some.field-0-is c.in-Ok-Some.ensures.found)
    (subst (λ o. IfSome o (λ r. r.length ≤ 16384)) c.in-Ok-Some.field-0-is c.in-Ok-Some.ensures.short)
    (ap (λ v. take (length v - reply.length)
    (drop reply.length v)) c.deref.ensures.value ∙ take_rest buffer reply.length)
    c.reply_of.ensures.gives
