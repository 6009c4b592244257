use Rattle.std.proofs.Common.{◌∙◌, arith}
use Rattle.std.proofs.lemmas.Grind.{common_steps}
use Rattle.portal_file.proofs.PairLemmas.{joined_paired}
use Rattle.portal_file.proofs.TableLemmas.{Joins-orgs, items-turn}
use Rattle.portal_file.proofs.orgs.orgs_of.Goals as goal
use Rattle.portal_file.specs.Tables.{joined_orgs, no_orgs, org_of}

pub loop-value-preserved : goal.loop-value-preserved
loop-value-preserved c =
    let (same, paired) = c.loop-value.invariant in
    rw c.in_ok-orgs.ensures (
      items-turn joined_orgs no_orgs org_of Joins-orgs c.loop-value.orgs c.args.items.now c.loop-value.value-index
          c.value-item.result c.in_ok-org.org c.loop-value-test.true (grind (arith, common_steps))
          c.in_ok-org.ensures.ok ∙ same,
      joined_paired c.loop-value.orgs c.in_ok-org.org paired c.in_ok-org.ensures.pairs,
    )
