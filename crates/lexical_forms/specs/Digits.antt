-- Decimal digits and signs of ASCII, and the numbers that they spell.
use Rattle.std.specs.Prelude.{ℕ, ◌+◌, ◌-◌, ◌*◌, ◌^◌, ◌==◌, nat_le, Bool, true, false, ◌&&◌, ◌||◌, not, if◌then◌else◌}
use Rattle.std.specs.Prelude.{List, [], ◌∷◌, length, reverse, ℤ, pos, neg_ℤ}
use Rattle.std.specs.List.{list_all}

abbrev pub is_digit : ℕ → Bool
is_digit c = nat_le 48 c && nat_le c 57

-- `+` or `-`
abbrev pub is_sign : ℕ → Bool
is_sign c = (c == 43) || (c == 45)

abbrev pub is_empty : {X : Type 0} → List X → Bool
is_empty [] = true
is_empty (x ∷ xs) = false

-- digits, and at least one
abbrev pub is_digits : List ℕ → Bool
is_digits cs = not (is_empty cs) && list_all is_digit cs

-- The number that digits spell: the sum of each digit times ten to the power of the count of digits after it.
abbrev pub spelled : List ℕ → ℕ
spelled [] = 0
spelled (c ∷ cs) = (c - 48) * 10 ^ length cs + spelled cs

-- the text begins with `-`
abbrev pub is_negative : List ℕ → Bool
is_negative [] = false
is_negative (c ∷ cs) = c == 45

-- the text without its leading sign, if it has one
abbrev pub unsigned : List ℕ → List ℕ
unsigned [] = []
unsigned (c ∷ cs) = if is_sign c then cs else c ∷ cs

abbrev pub signed : Bool → ℕ → ℤ
signed negative n = if negative then neg_ℤ (pos n) else pos n

-- the text from the first character on that passes the test
abbrev pub from_first : (ℕ → Bool) → List ℕ → List ℕ
from_first passes [] = []
from_first passes (c ∷ cs) = if passes c then c ∷ cs else from_first passes cs

-- the text up to the last character that passes the test
abbrev pub until_last : (ℕ → Bool) → List ℕ → List ℕ
until_last passes cs = reverse (from_first passes (reverse cs))
