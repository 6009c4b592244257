use Rattle.visibility.proofs.ViewLemmas.{members_seen}
use Rattle.organization_answers.proofs.lists.members_json.Goals as goal

pub returns : goal.returns
returns c =
    rw (
      members_seen c.args.context.now.viewer.caller c.args.context.now.viewer.people c.args.org.now c.requires,
      ← c.memberships.ensures,
    ) c.member_entries_json.ensures
