-- Worked examples of ports and schemes.
use Rattle.std.proofs.Common.{◌≡◌, [], true, false, Some, None, refl}
use Rattle.std.specs.Prelude.{codes}
use Rattle.portal_devices.specs.Port.{port_in}
use Rattle.portal_devices.specs.Location.{has_scheme}

a_port : port_in (codes "8080") ≡ Some 8080
a_port = refl

zeros_in_front : port_in (codes "00080") ≡ Some 80
zeros_in_front = refl

the_last_port : port_in (codes "65535") ≡ Some 65535
the_last_port = refl

past_the_last_port : port_in (codes "65536") ≡ None
past_the_last_port = refl

no_port_is_0 : port_in (codes "0") ≡ None
no_port_is_0 = refl

six_digits_are_no_port : port_in (codes "000080") ≡ None
six_digits_are_no_port = refl

a_sign_is_no_digit : port_in (codes "+80") ≡ None
a_sign_is_no_digit = refl

no_text_is_no_port : port_in [] ≡ None
no_text_is_no_port = refl

a_scheme : has_scheme (codes "http://portal") ≡ true
a_scheme = refl

a_file : has_scheme (codes "p.toml") ≡ false
a_file = refl

a_colon_in_front : has_scheme (codes ":p") ≡ false
a_colon_in_front = refl

a_digit_in_front : has_scheme (codes "1a:p") ≡ false
a_digit_in_front = refl

a_slash_before_the_colon : has_scheme (codes "a/b:p") ≡ false
a_slash_before_the_colon = refl
