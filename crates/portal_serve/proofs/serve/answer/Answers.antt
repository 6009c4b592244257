-- The status of a reply has a phrase, and where memory runs out, the reply says so.
use Rattle.std.proofs.Common.{inr}
use Rattle.portal_serve.proofs.Serving.{replies_phrase}
use Rattle.portal_serve.specs.Served.{outcome_of_incoming}
use Rattle.portal_serve.proofs.serve.answer.Goals as goal

pub write_text-requires : goal.write_text-requires
write_text-requires g c =
    record {
      phrase = replies_phrase c.args.incoming.now
          (outcome_of_incoming c.args.tokens.now c.args.portal.now.state c.args.moment c.args.nonce.0
          c.args.incoming.now) c.args.portal.now.state _ c.process.new.portal.state c.in-Ok.ensures.replies;
    }

pub returns-in-Err-clause-answers : goal.returns-in-Err-clause-answers
returns-in-Err-clause-answers g c =
    inr (inr (c.write_out_of_memory.ensures.writes, c.in-Err.ensures.stopped))
