use Rattle.std.proofs.Common.{arith, string_bytes}
use Rattle.lexical_forms.proofs.NumberTextLemmas.{fraction-turn, fraction-end}
use Rattle.lexical_forms.proofs.print.push_fraction.Goals as goal

pub push_digit-requires : goal.push_digit-requires
push_digit-requires c =
    (fraction-turn (string_bytes c.loop-rest.text) (string_bytes c.push.new.self) c.loop-rest.rest c.loop-rest.unit
    c.args.billionths c.loop-rest.invariant c.loop-rest-test.true).digit

pub nonzero_rem-rest : goal.nonzero_rem-rest
nonzero_rem-rest c =
    (fraction-turn (string_bytes c.loop-rest.text) (string_bytes c.push.new.self) c.loop-rest.rest c.loop-rest.unit
    c.args.billionths c.loop-rest.invariant c.loop-rest-test.true).some

pub loop-rest-smaller : goal.loop-rest-smaller
loop-rest-smaller c =
    let turn = fraction-turn (string_bytes c.loop-rest.text) (string_bytes c.push.new.self) c.loop-rest.rest
    c.loop-rest.unit c.args.billionths c.loop-rest.invariant c.loop-rest-test.true in
    omega (arith, turn.some)

pub loop-rest-preserved : goal.loop-rest-preserved
loop-rest-preserved c =
    (fraction-turn (string_bytes c.loop-rest.text) (string_bytes c.push.new.self) c.loop-rest.rest c.loop-rest.unit
    c.args.billionths c.loop-rest.invariant c.loop-rest-test.true).next (string_bytes c.push_digit.new.text)
    c.in_ok-push_digit.ensures

pub returns : goal.returns
unfolding lib.Utf8.encode
returns c =
    fraction-end (string_bytes c.loop-rest.text) (string_bytes c.push.new.self) (string_bytes c.args.text.now)
    c.loop-rest.unit c.args.billionths c.loop-rest.rest c.loop-rest.invariant c.loop-rest-test.false
    c.in_ok-push.ensures.bytes c.if-billionths-eq0.false
