use Rattle.portal_rows.proofs.RangeLemmas.{range_has_memberships}
use Rattle.portal_rows.proofs.orgs.memberships_in.Goals as goal

pub returns : goal.returns
returns c =
    rw (c.range_of-from.ensures.from, c.range_of-from.ensures.to)
    (range_has_memberships c.args.name.now c.args.memberships.now c.requires)
