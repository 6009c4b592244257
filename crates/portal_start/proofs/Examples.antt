-- Worked examples of the status for the end of playing.
use Rattle.std.proofs.Common.{◌≡◌, refl}
use Rattle.std.specs.Prelude.{codes}
use Rattle.portal_status.specs.Status.{status_code, status_line}
use Rattle.portal_start.specs.Commands.{status_for}
use Rattle.portal_serve.specs.declared.play.PlayEnd.TheVariants.{TooLong, WriteFault}

too_much_is_nine : status_code (status_for TooLong) ≡ 9
too_much_is_nine = refl

a_failing_output_is_reported : status_line (status_for WriteFault) ≡ codes "portal: output failed\n"
a_failing_output_is_reported = refl

too_much_is_reported : status_line (status_for TooLong) ≡ codes "portal: input too long\n"
too_much_is_reported = refl
