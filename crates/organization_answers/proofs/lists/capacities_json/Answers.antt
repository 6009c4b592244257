use Rattle.organization_answers.proofs.Listing.{one_more}
use Rattle.organization_answers.proofs.lists.capacities_json.Goals as goal

pub loop-org-preserved : goal.loop-org-preserved
loop-org-preserved c =
    rw (c.in_ok-push_some.ensures)
    (one_more _ c.orgs-org-items.result.now c.loop-org.org-index c.org-item.result _ _ c.loop-org-test.true
    c.org-item.is
    c.loop-org.invariant c.in_ok-item.ensures)
