use Rattle.std.proofs.Common.{ap, ◌∙◌}
use Rattle.org_roles.specs.Order.{user_cmp, org_cmp, membership_cmp}
use Rattle.portal_base.specs.Ordered.{ascending}
use Rattle.portal_state.proofs.Shelving.{opened_consistent}
use Rattle.portal_core.proofs.opened.parts_of_opening.Goals as goal

pub returns-clause-consistent : goal.returns-clause-consistent
returns-clause-consistent c =
    opened_consistent
    (record {
      people = c.of_lists.result;
      shelf = c.new.result;
      indexes = c.new-2.result;
      tables = c.new-3.result;
      sources = c.new-4.result;
      quota_used = c.new-5.result;
    })
    c.args.opening.now c.requires (c.of_lists.ensures.users ∙ ap (ascending user_cmp) c.in_ok-users.ensures)
    (c.of_lists.ensures.orgs ∙ ap (ascending org_cmp) c.in_ok-orgs.ensures)
    (c.of_lists.ensures.roles ∙ ap (ascending membership_cmp) c.in_ok-roles.ensures) c.new.ensures.none
    c.new.ensures.room c.new-2.ensures.terms c.new-2.ensures.counts c.new-3.ensures c.new-4.ensures
    c.new-5.ensures
