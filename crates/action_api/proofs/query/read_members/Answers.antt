-- Each pair of the query is set among the members in turn.
use Rattle.std.proofs.Common.{IfOk, string_bytes, ap, sym, subst, ◌∙◌}
use Rattle.std.specs.Prelude.{fold}
use Rattle.form_urlencoded.specs.Form.{DecodesTo}
use Rattle.portal_base.specs.declared.json_value.Json.{Map}
use Rattle.action_api.proofs.Queries.{all_left, set_first}
use Rattle.action_api.specs.Query.{with_pair}
use Rattle.action_api.proofs.query.read_members.Goals as goal

pub loop-pair-init : goal.loop-pair-init
loop-pair-init c =
    all_left _ _ _ _ c.new-members.ensures.empty (c.into_owned-pairs.ensures ∙ c.parse.ensures.value)
    c.as_bytes.ensures.value

pub loop-pair-preserved : goal.loop-pair-preserved
loop-pair-preserved c =
    let step = c.in-Some.ensures.steps in
    let decoded =
    subst (λ item. IfOk item (λ pair. DecodesTo step.0 (string_bytes pair.0) × DecodesTo step.1 (string_bytes pair.1)))
    c.in_ok-name.was step.3 in
    set_first _ _ _ _ step.0 step.1 _ _ step.2 decoded.0.2 decoded.1.2 c.in_ok-put_pair.ensures
    ∙ c.loop-pair.invariant

pub returns : goal.returns
returns c =
    ap Map (sym (ap (fold with_pair c.loop-pair.members.entries) c.in_default.ensures.steps) ∙ c.loop-pair.invariant)
