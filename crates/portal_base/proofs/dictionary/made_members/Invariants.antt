use Rattle.std.proofs.Common.{◌≡◌, map}
use Rattle.portal_base.proofs.dictionary.made_members.Given as goal

abbrev pub invariant-loop-member : goal.invariant-loop-member
invariant-loop-member g l = l.list.items ≡ map g.M.IntoMember.member l.yielded
