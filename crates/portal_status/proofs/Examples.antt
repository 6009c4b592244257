-- Worked examples of statuses and their lines.
use Rattle.std.proofs.Common.{◌≡◌, [], refl}
use Rattle.std.specs.Prelude.{codes}
use Rattle.portal_status.specs.Status.{status_code, status_line}
use Rattle.portal_status.specs.declared.status.Status.TheVariants.{Done, Words, PortalFile, FetchFault, ListenFault}

the_end_of_input_is_not_reported : status_line Done ≡ []
the_end_of_input_is_not_reported = refl

bad_words_are_reported : status_line Words ≡ codes "portal: bad words\n"
bad_words_are_reported = refl

a_broken_rule_is_reported :
    status_line (PortalFile (codes "portal file: repeated user")) ≡ codes "portal: portal file: repeated user\n"
a_broken_rule_is_reported = refl

a_missing_file_is_reported :
    status_line (FetchFault (codes "cannot fetch p.toml")) ≡ codes "portal: cannot fetch p.toml\n"
a_missing_file_is_reported = refl

a_failing_listener_is_eleven : status_code ListenFault ≡ 11
a_failing_listener_is_eleven = refl
