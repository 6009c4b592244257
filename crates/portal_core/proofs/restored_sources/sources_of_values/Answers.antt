use Rattle.std.proofs.Common.{subst, sym, true≢false, ◌∙◌}
use Rattle.portal_core.proofs.RestoredSources.{HaveOwners, restored-harvests, unowned-harvests, unrestored-harvests}
use Rattle.portal_core.proofs.restored_sources.sources_of_values.Goals as goal

pub returns-then-have_owners-clause-sources : goal.returns-then-have_owners-clause-sources
returns-then-have_owners-clause-sources c =
    restored-harvests c.restore.result c.args.people.now.people c.args.kept c.requires
    (subst (HaveOwners c.args.people.now.people) c.as_slice.ensures (c.have_owners.ensures.0 c.if-have_owners.true))
    c.restore.ensures

pub returns-then-have_owners-clause-none : goal.returns-then-have_owners-clause-none
returns-then-have_owners-clause-none c =
    unrestored-harvests c.restore.result c.args.people.now.people c.args.kept c.restore.ensures

pub returns-else-have_owners-clause-none : goal.returns-else-have_owners-clause-none
returns-else-have_owners-clause-none c =
    unowned-harvests c.args.people.now.people c.args.kept
    (λ owned. true≢false (sym (c.have_owners.ensures.1
    (subst (HaveOwners c.args.people.now.people) (sym c.as_slice.ensures) owned)) ∙ c.if-have_owners.false))
