-- The rounds of both runs follow from the documents.
use Rattle.std.proofs.Common.{Some}
use Rattle.portal_serve.proofs.Repeating.{script-repeats}
use Rattle.portal_serve.proofs.laws.a_transcript_follows_from_the_documents.Goals as goal

pub returns-clause-written : goal.returns-clause-written
returns-clause-written c = λ documents state one other lines valid none allowed whole other_allowed other_whole alike.
    (script-repeats documents state one other lines whole alike
    (c.rounds_of_a_script_follow_from_the_documents.ensures.follow (Some documents) state one lines valid none allowed
    whole)
    (c.rounds_of_a_script_follow_from_the_documents.ensures.follow (Some documents) state other lines valid none
    other_allowed other_whole)).written

pub returns-clause-leaves : goal.returns-clause-leaves
returns-clause-leaves c = λ documents state one other lines valid none allowed whole other_allowed other_whole alike.
    (script-repeats documents state one other lines whole alike
    (c.rounds_of_a_script_follow_from_the_documents.ensures.follow (Some documents) state one lines valid none allowed
    whole)
    (c.rounds_of_a_script_follow_from_the_documents.ensures.follow (Some documents) state other lines valid none
    other_allowed other_whole)).leaves
