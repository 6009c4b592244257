-- The reply and the state are those of the request's call, since memory didn't run out.
use Rattle.std.proofs.Common.{IsTrue, rules, subst, sym}
use Rattle.portal_events.specs.Reply.{is_of_call}
use Rattle.portal_events.specs.declared.event.Reply.{Reply}
use Rattle.portal_serve.proofs.Outcomes.{reply_made, state_made}
use Rattle.portal_links.specs.Asked.{call_of}
use Rattle.portal_serve.proofs.calling.reply_to_request.Goals as goal

pub returns-in_default-clause-reply : goal.returns-in_default-clause-reply
returns-in_default-clause-reply g c =
    reply_made c.args.portal.now.state c.args.caller c.args.request c.in-Ok.request c.args.drawn.size c.args.drawn.moment
    c.args.drawn.nonce.0 _ c.in-Ok.is (c.act-reply.ensures.reply (λ out. search rules) (λ out. search rules))

pub returns-in_default-clause-state : goal.returns-in_default-clause-state
returns-in_default-clause-state g c =
    state_made c.args.portal.now.state _ c.args.caller c.args.request c.in-Ok.request c.args.drawn.size c.args.drawn.moment
    c.args.drawn.nonce.0 c.in-Ok.is (c.act-reply.ensures.state (λ out. search rules) (λ out. search rules))

pub returns-in_default-clause-has_text : goal.returns-in_default-clause-has_text
returns-in_default-clause-has_text g c =
    subst (λ (reply : Reply). IsTrue (is_of_call reply))
    (sym (c.act-reply.ensures.reply (λ out. search rules) (λ out. search rules)))
    (c.a_call_gets_a_reply_of_calls.ensures c.args.portal.now.state
    (call_of c.args.caller c.in-Ok.request c.args.drawn.size c.args.drawn.moment c.args.drawn.nonce.0))
