-- Examples of ids.
use Rattle.std.proofs.Common.{◌≡◌, refl}
use Rattle.std.specs.Prelude.{codes}
use Rattle.uuid.proofs.OnLiterals.{uuid_on_literals}
use Rattle.portal_base.specs.Id.{id_text}

of_one : id_text 1 ≡ codes "00000000-0000-0000-0000-000000000001"
unfolding uuid_on_literals
of_one = refl

of_digits : id_text 0x0123456789abcdef0123456789abcdef ≡ codes "01234567-89ab-cdef-0123-456789abcdef"
unfolding uuid_on_literals
of_digits = refl
