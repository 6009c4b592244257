use Rattle.std.proofs.Common.{ap, sym, ◌∙◌}
use Rattle.packages.specs.Named.{dataset_part}
use Rattle.packages.specs.Shelf.{datasets_of}
use Rattle.portal_core.proofs.RestoredHomes.{address_part, no_address}
use Rattle.portal_core.proofs.restored_homes.address_of.Goals as goal

pub returns-in_default-clause-none : goal.returns-in_default-clause-none
returns-in_default-clause-none c =
    λ address is. c.in_default.ensures.none is.dataset is.is_present
    (ap dataset_part c.as_str.ensures ∙ address_part (datasets_of c.args.shelf.now) c.args.id.now address is) is.made

pub returns-in_default-number_of-clause-none : goal.returns-in_default-number_of-clause-none
returns-in_default-number_of-clause-none c =
    no_address (datasets_of c.args.shelf.now) c.args.id.now c.in-Some.dataset.now
    (λ d among part. c.in-Some.ensures.only d among (ap dataset_part c.as_str.ensures ∙ part))
    (λ number own. c.in_default-number_of.ensures.none number (own ∙ sym c.as_str-2.ensures))
