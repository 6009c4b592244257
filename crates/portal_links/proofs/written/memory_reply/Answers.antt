-- The text is a constant of the program.
use Rattle.std.proofs.Common.{ap, refl}
use Rattle.std.specs.Prelude.{codes}
use Rattle.serde_json.proofs.OnLiterals.{serde_json_on_literals}
use Rattle.portal_links.proofs.Writing.{constant_is}
use Rattle.portal_links.proofs.written.memory_reply.Goals as goal

pub returns : goal.returns
unfolding serde_json_on_literals
returns c = ap (λ t. (507, t)) (constant_is (codes "Memory Error") (codes "Want of memory") refl refl)
