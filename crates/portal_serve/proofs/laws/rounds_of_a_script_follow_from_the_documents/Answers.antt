-- By induction over the lines.
use Rattle.portal_serve.proofs.Following.{lines-follow}
use Rattle.portal_serve.specs.Transcript.{script_state}
use Rattle.portal_serve.proofs.laws.rounds_of_a_script_follow_from_the_documents.Goals as goal

pub returns-clause-follow : goal.returns-clause-follow
returns-clause-follow c = λ held state d lines valid none allowed whole.
    (lines-follow c.a_whole_round_leaves_no_open_job.ensures c.a_whole_round_does_what_the_documents_say.ensures.left
    c.a_whole_round_does_what_the_documents_say.ensures.reported
    c.the_reports_of_a_whole_round_tell_its_failures.ensures held lines (script_state state d)
    (record { valid = valid; none_runs = none }) whole allowed).0

pub returns-clause-valid : goal.returns-clause-valid
returns-clause-valid c = λ held state d lines valid none allowed whole.
    (lines-follow c.a_whole_round_leaves_no_open_job.ensures c.a_whole_round_does_what_the_documents_say.ensures.left
    c.a_whole_round_does_what_the_documents_say.ensures.reported
    c.the_reports_of_a_whole_round_tell_its_failures.ensures held lines (script_state state d)
    (record { valid = valid; none_runs = none }) whole allowed).1.valid

pub returns-clause-rests : goal.returns-clause-rests
returns-clause-rests c = λ held state d lines valid none allowed whole.
    (lines-follow c.a_whole_round_leaves_no_open_job.ensures c.a_whole_round_does_what_the_documents_say.ensures.left
    c.a_whole_round_does_what_the_documents_say.ensures.reported
    c.the_reports_of_a_whole_round_tell_its_failures.ensures held lines (script_state state d)
    (record { valid = valid; none_runs = none }) whole allowed).1.none_runs
