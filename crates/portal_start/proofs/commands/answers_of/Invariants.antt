use Rattle.std.proofs.Common.{◌≡◌, map, Ok}
use Rattle.portal_start.proofs.commands.answers_of.Given as goal

-- the answers of the reports so far
abbrev pub invariant-loop-report : goal.invariant-loop-report
invariant-loop-report l = l.answers.items ≡ map Ok l.yielded
