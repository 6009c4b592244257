-- Examples of names and of texts with faults.
use Rattle.std.proofs.Common.{◌≡◌, ◌∷◌, [], Some, None, true, false, refl}
use Rattle.std.specs.Prelude.{codes}
use Rattle.std.specs.Str.{chars}
use Rattle.portal_base.specs.declared.name.NameFault.TheVariants.{Length, Character, Reserved}
use Rattle.portal_base.specs.Name.{name_fault, is_some_name}

one_letter : name_fault (codes "a") 100 ≡ Some Length
unfolding chars
one_letter = refl

two_letters : name_fault (codes "ab") 100 ≡ None
unfolding chars
two_letters = refl

-- One character of two bytes, é.
one_character : name_fault (195 ∷ 169 ∷ []) 100 ≡ Some Length
unfolding chars
one_character = refl

capital : name_fault (codes "Ab") 100 ≡ Some Character
unfolding chars
capital = refl

new : name_fault (codes "new") 100 ≡ Some Reserved
unfolding chars
new = refl

harvested : name_fault (codes "hv-x") 100 ≡ Some Reserved
unfolding chars
harvested = refl

id : name_fault (codes "00000000-0000-0000-0000-000000000001") 100 ≡ Some Reserved
unfolding chars
id = refl

too_long : name_fault (codes "trees") 4 ≡ Some Length
unfolding chars
too_long = refl

of_some_bound : is_some_name (codes "trees") ≡ true
unfolding chars
of_some_bound = refl

of_no_bound : is_some_name (codes "a") ≡ false
unfolding chars
of_no_bound = refl

capital_of_no_bound : is_some_name (codes "Ab") ≡ false
unfolding chars
capital_of_no_bound = refl

reserved_of_no_bound : is_some_name (codes "edit") ≡ false
unfolding chars
reserved_of_no_bound = refl
