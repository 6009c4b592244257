use Rattle.std.proofs.Common.{◌≡◌, drop}
use Rattle.portal_file.proofs.TableLemmas.{Joins-orgs, so_far}
use Rattle.portal_file.specs.Opening.{AreConsistent}
use Rattle.portal_file.specs.Tables.{joined_orgs, no_orgs, org_of, orgs_of}
use Rattle.portal_file.proofs.orgs.orgs_of.Given as goal
use Rattle.toml.specs.View.{items_view}

-- What was read and what is still to come say what all the items say, and the roles that were read are paired.
abbrev pub invariant-loop-value : goal.invariant-loop-value
invariant-loop-value l =
    (so_far joined_orgs no_orgs org_of Joins-orgs l.orgs (drop l.value-index l.items) ≡ orgs_of (items_view l.items))
    × AreConsistent l.orgs
