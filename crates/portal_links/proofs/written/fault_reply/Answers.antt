-- Each text is a constant of the program.
use Rattle.std.proofs.Common.{ap, sym, refl, ◌∙◌}
use Rattle.std.specs.Prelude.{codes}
use Rattle.serde_json.proofs.OnLiterals.{serde_json_on_literals}
use Rattle.portal_links.proofs.Writing.{constant_is, reply_with}
use Rattle.portal_links.specs.Written.{fault_text}
use Rattle.portal_links.proofs.written.fault_reply.Goals as goal

pub returns-in-BadHead-clause-text : goal.returns-in-BadHead-clause-text
unfolding serde_json_on_literals
returns-in-BadHead-clause-text c =
    ap (reply_with 400) (constant_is (codes "Bad Request") (codes "Bad request head") refl refl)
    ∙ sym (ap fault_text c.in-BadHead.is)

pub returns-in-NoLength-clause-text : goal.returns-in-NoLength-clause-text
unfolding serde_json_on_literals
returns-in-NoLength-clause-text c =
    ap (reply_with 411) (constant_is (codes "Bad Request") (codes "Length required") refl refl)
    ∙ sym (ap fault_text c.in-NoLength.is)

pub returns-in-TooLong-clause-text : goal.returns-in-TooLong-clause-text
unfolding serde_json_on_literals
returns-in-TooLong-clause-text c =
    ap (reply_with 413) (constant_is (codes "Bad Request") (codes "Body too long") refl refl)
    ∙ sym (ap fault_text c.in-TooLong.is)

pub returns-in-NoRoute-clause-text : goal.returns-in-NoRoute-clause-text
unfolding serde_json_on_literals
returns-in-NoRoute-clause-text c =
    ap (reply_with 404) (constant_is (codes "Not Found Error") (codes "No such page") refl refl)
    ∙ sym (ap fault_text c.in-NoRoute.is)

pub returns-in-Method-clause-text : goal.returns-in-Method-clause-text
unfolding serde_json_on_literals
returns-in-Method-clause-text c =
    ap (reply_with 405) (constant_is (codes "Bad Request") (codes "Method not allowed") refl refl)
    ∙ sym (ap fault_text c.in-Method.is)
