use Rattle.std.proofs.Common.{ap, sym, ◌∙◌}
use Rattle.std.specs.Option.{option_map}
use Rattle.packages.specs.LocatedResource.{located_now}
use Rattle.portal_core.proofs.RestoredHomes.{number_found, number_missing}
use Rattle.portal_core.proofs.restored_homes.number_of.Goals as goal

pub returns-in-Some-clause-number : goal.returns-in-Some-clause-number
returns-in-Some-clause-number c =
    number_found c.args.id.now c.args.dataset.now (located_now c.in-Some.located) c.requires
    (sym c.resource_in.ensures.located ∙ ap (option_map located_now) c.in-Some.is)

pub returns-in-None-clause-none : goal.returns-in-None-clause-none
returns-in-None-clause-none c =
    number_missing c.args.id.now c.args.dataset.now
    (sym c.resource_in.ensures.located ∙ ap (option_map located_now) c.in-None.is)
