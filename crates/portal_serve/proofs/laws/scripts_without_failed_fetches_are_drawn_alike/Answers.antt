-- The reports of both runs tell of no failed fetch.
use Rattle.std.proofs.Common.{Some}
use Rattle.portal_serve.proofs.Unfailing.{same-untold}
use Rattle.portal_serve.proofs.laws.scripts_without_failed_fetches_are_drawn_alike.Goals as goal

pub returns : goal.returns
returns c = λ documents state one other lines valid none allowed whole other_allowed other_whole are_drawn other_drawn
    moments nonces failed other_failed. record {
      moments = moments;
      nonces = nonces;
      failures = same-untold documents state one other lines whole other_whole are_drawn other_drawn failed other_failed
          (c.rounds_of_a_script_follow_from_the_documents.ensures.follow (Some documents) state one lines valid none
          allowed whole)
          (c.rounds_of_a_script_follow_from_the_documents.ensures.follow (Some documents) state other lines valid none
          other_allowed other_whole);
    }
