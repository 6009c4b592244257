use Rattle.std.proofs.Common.{◌≡◌, []}
use Rattle.std.specs.Prelude.{fold}
use Rattle.form_urlencoded.specs.Form.{raw_pairs}
use Rattle.form_urlencoded.specs.Parse.{owned_pairs_left}
use Rattle.action_api.specs.Query.{with_pair}
use Rattle.action_api.proofs.query.read_members.Given as goal

-- the pairs that are left, set among the members so far, make the body
abbrev pub invariant-loop-pair : goal.invariant-loop-pair
invariant-loop-pair l =
    fold with_pair l.members.entries (owned_pairs_left l.pairs) ≡ fold with_pair [] (raw_pairs l.query)
