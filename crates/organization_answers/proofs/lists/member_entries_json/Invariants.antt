use Rattle.std.proofs.Common.{◌≡◌, map, take}
use Rattle.std.specs.Prelude.{filter}
use Rattle.std.specs.Str.{bytes_eq}
use Rattle.organization_answers.specs.Dictionary.{member_entry}
use Rattle.organization_answers.proofs.lists.member_entries_json.Given as goal

abbrev pub invariant-loop-membership : goal.invariant-loop-membership
invariant-loop-membership l =
    l.list.items
    ≡ map member_entry (filter (λ m. bytes_eq m.org l.org) (take l.membership-index l.memberships))
