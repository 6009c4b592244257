use Rattle.std.proofs.Common.{ap, sym, ◌∙◌}
use Rattle.std.specs.Option.{option_copied}
use Rattle.org_roles.proofs.LookupLemmas.{is_sysadmin_found, sysadmin_found}
use Rattle.org_roles.proofs.people.is_sysadmin_among.Goals as goal

pub returns-in-Some : goal.returns-in-Some
returns-in-Some c =
    sym (sysadmin_found c.args.name.now c.args.users.now c.requires
    ∙ ap is_sysadmin_found (sym c.find_in_order.ensures ∙ ap option_copied c.in-Some.is))

pub returns-in-None : goal.returns-in-None
returns-in-None c =
    sym (sysadmin_found c.args.name.now c.args.users.now c.requires
    ∙ ap is_sysadmin_found (sym c.find_in_order.ensures ∙ ap option_copied c.in-None.is))
