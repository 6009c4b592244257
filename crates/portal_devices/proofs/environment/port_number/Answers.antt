-- A number of at most 5 digits fits 64 bits.
use Rattle.std.proofs.Common.{◌≡◌, true, Some, None, cond, ap, sym, ◌∙◌}
use Rattle.std.specs.Result.{result_ok}
use Rattle.std.specs.Str.Parse.{digits_value}
use Rattle.portal_base.proofs.KindLemmas.{digits_parse}
use Rattle.portal_devices.proofs.PortLemmas.{port-digits}
use Rattle.portal_devices.specs.Port.{is_port_number}
use Rattle.portal_devices.proofs.environment.port_number.Goals as goal

pub returns : goal.returns
returns c =
    let number : is_port_number c.args.text.now ≡ true = cc in
    c.ok.ensures.value
    ∙ ap result_ok (digits_parse c.args.text.now c.parse.result c.parse.ensures.value.0
    (port-digits c.args.text.now number))
    ∙ sym (ap (λ b. cond b (Some (digits_value 10 c.args.text.now)) None) number)
