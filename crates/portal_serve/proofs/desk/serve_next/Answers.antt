-- The next link was served, if there was one; else nothing but the count of faults changed.
use Rattle.std.proofs.Common.{Ok, ap, refl, subst, ◌∙◌}
use Rattle.std.specs.Prelude.{IfSome, is_some}
use Rattle.portal_base.specs.Outside.{GivesOne, is_some_link}
use Rattle.portal_serve.proofs.Desking.{next_failed, next_none, next_one}
use Rattle.portal_serve.proofs.desk.serve_next.Goals as goal

pub returns-in-Ok-None-clause-next : goal.returns-in-Ok-None-clause-next
returns-in-Ok-None-clause-next g c =
    let home = c.accept.ensures.out ∙ ap is_some_link (c.in-Ok-None.is ∙ ap (λ p. Ok p) c.in-Ok-None.field-0-is) in
    next_none _ _ _ _ _ (c.accept.ensures.kept home) c.accept.ensures.taken_back c.accept.ensures.count refl refl
    (c.accept.ensures.end_kept home ∙ c.in-Ok-None.ensures.end.0 (ap is_some c.in-Ok-None.field-0-is))
    c.in-Ok-None.ensures.quiet

pub returns-in-Err-clause-next : goal.returns-in-Err-clause-next
returns-in-Err-clause-next g c =
    let home = c.accept.ensures.out ∙ ap is_some_link c.in-Err.is in
    next_failed _ _ _ _ _ _ (c.accept.ensures.kept home) c.accept.ensures.taken_back c.accept.ensures.count refl refl
    c.in-Err.ensures.failed

pub returns-clause-next : goal.returns-clause-next
returns-clause-next g c =
    next_one _ _ _ _ c.serve_link-served.result _ _
    (record {
      link = c.in-Ok-Some.peer;
      back = c.serve_link-served.new.link;
      moment = c.now-moment.result;
      nonce = c.next-nonce.result.0;
    })
    _ _ _ c.serve_link-served.ensures.served
    (subst (λ o. IfSome o (λ link. GivesOne (g.L.Listener.to_come c.args.desk.now.listener) link
    (g.L.Listener.to_come c.accept.new.self))) c.in-Ok-Some.field-0-is c.in-Ok-Some.ensures.link)
    c.finish.ensures.to_come c.accept.ensures.taken_back c.finish.ensures.taken_back c.accept.ensures.count
    c.finish.ensures.count c.now-moment.ensures c.next-nonce.ensures (c.finish.ensures.faults ∙ c.in-Ok-Some.ensures.quiet)
