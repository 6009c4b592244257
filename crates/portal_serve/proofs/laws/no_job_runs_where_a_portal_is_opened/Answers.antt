-- The default portal has no source, and a portal that is opened over a store has its running jobs new again.
use Rattle.std.proofs.lemmas.List.Elements.{All-nil}
use Rattle.portal_serve.proofs.Resting.{opened-rests}
use Rattle.portal_serve.proofs.laws.no_job_runs_where_a_portal_is_opened.Goals as goal

pub returns : goal.returns
returns c = record { default = All-nil _; opened = opened-rests }
