-- The request is the one of the link's bytes, and what was written after it was written after the start of serving.
use Rattle.std.proofs.Common.{Err, Ok, ap, refl, subst, sym}
use Rattle.http_front.specs.Taken.{Leaves}
use Rattle.portal_links.proofs.Writing.{fault_since}
use Rattle.portal_links.specs.Written.{IsReadingAnswer, LinkTrace, link_trace}
use Rattle.portal_serve.proofs.Serving.{answers_since}
use Rattle.portal_serve.proofs.serve.serve_link.Goals as goal

pub returns-in-Ok-clause-served : goal.returns-in-Ok-clause-served
returns-in-Ok-clause-served g c =
    let old : LinkTrace = link_trace (g.K.Link.to_come c.args.link.now) (g.K.Link.taken c.args.link.now)
    (g.K.Link.faults c.args.link.now) in
    let middle : LinkTrace = link_trace (g.K.Link.to_come c.receive_request.new.link) (g.K.Link.taken c.receive_request.new.link)
    (g.K.Link.faults c.receive_request.new.link) in
    let new : LinkTrace = link_trace (g.K.Link.to_come c.answer.new.link) (g.K.Link.taken c.answer.new.link)
    (g.K.Link.faults c.answer.new.link) in
    record {
      received = Ok c.in-Ok.incoming;
      receives = c.in-Ok.ensures.receives;
      leaves = subst (λ left. Leaves IsReadingAnswer old.to_come left (Ok c.in-Ok.incoming)) (sym c.answer.ensures.to_come)
          c.in-Ok.ensures.leaves;
      processes = answers_since c.in-Ok.incoming _ _ old middle new _ _ c.in-Ok.ensures.taken c.in-Ok.ensures.counts
          c.answer.ensures.answers;
    }

pub returns-in-Err-clause-served : goal.returns-in-Err-clause-served
returns-in-Err-clause-served g c =
    let old : LinkTrace = link_trace (g.K.Link.to_come c.args.link.now) (g.K.Link.taken c.args.link.now)
    (g.K.Link.faults c.args.link.now) in
    let middle : LinkTrace = link_trace (g.K.Link.to_come c.receive_request.new.link) (g.K.Link.taken c.receive_request.new.link)
    (g.K.Link.faults c.receive_request.new.link) in
    let new : LinkTrace = link_trace (g.K.Link.to_come c.answer_fault.new.link)
    (g.K.Link.taken c.answer_fault.new.link) (g.K.Link.faults c.answer_fault.new.link) in
    record {
      received = Err c.in-Err.fault;
      receives = c.in-Err.ensures.receives;
      leaves = subst (λ left. Leaves IsReadingAnswer old.to_come left (Err c.in-Err.fault))
          (sym c.answer_fault.ensures.to_come) c.in-Err.ensures.leaves;
      processes = (
        fault_since c.in-Err.fault old middle new _ c.in-Err.ensures.taken c.in-Err.ensures.counts
            (λ is. c.in-Err.ensures.failed (ap (λ f. Err f) is)) c.answer_fault.ensures.writes
            (λ is. let none = c.answer_fault.ensures.failed is in (
              none.0,
              ap (λ k. link_trace (g.K.Link.to_come k) (g.K.Link.taken k) (g.K.Link.faults k)) none.1,
            )),
        refl,
      );
    }
