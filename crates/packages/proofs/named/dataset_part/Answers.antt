use Rattle.packages.proofs.Addresses.{no_dot, split_at_dot}
use Rattle.packages.proofs.named.dataset_part.Goals as goal

pub returns-in-Some-clause-part : goal.returns-in-Some-clause-part
returns-in-Some-clause-part c =
    (split_at_dot c.args.address.now c.in-Some.key.now c.in-Some.field-0-1.now c.in-Some.ensures.cases).0

pub returns-in-Some-clause-named : goal.returns-in-Some-clause-named
returns-in-Some-clause-named c =
    (split_at_dot c.args.address.now c.in-Some.key.now c.in-Some.field-0-1.now c.in-Some.ensures.cases).1

pub returns-in-None-clause-part : goal.returns-in-None-clause-part
returns-in-None-clause-part c = (no_dot c.args.address.now c.in-None.ensures.cases).0

pub returns-in-None-clause-none : goal.returns-in-None-clause-none
returns-in-None-clause-none c = (no_dot c.args.address.now c.in-None.ensures.cases).1
