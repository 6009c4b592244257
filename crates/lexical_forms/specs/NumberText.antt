-- The texts that numbers are printed as.
use Rattle.std.specs.Prelude.{ℕ, zero, suc, ◌+◌, ◌/◌, ◌%◌, ◌^◌, ◌==◌, if◌then◌else◌, List, [], ◌∷◌, ◌++◌, decimal, ℤ}
use Rattle.std.specs.Prelude.{pos, negsuc}

-- The first `count` decimal places of a fraction below 10 ^ `count`, without trailing zeros. The count is the first
-- argument.
abbrev pub places_text : ℕ → ℕ → List ℕ
places_text zero rest = []
places_text (suc more) rest =
    if rest == 0 then [] else (48 + rest / 10 ^ more) ∷ places_text more (rest % 10 ^ more)

abbrev pub fraction_text : ℕ → List ℕ
fraction_text billionths = if billionths == 0 then [] else 46 ∷ places_text 9 billionths

abbrev pub size_text : ℕ → List ℕ
size_text billionths = decimal (billionths / 10 ^ 9) ++ fraction_text (billionths % 10 ^ 9)

-- The text of a number of billionths: `-` if it is below 0, its whole part, and its fraction without trailing zeros if
-- it has one.
abbrev pub number_text : ℤ → List ℕ
number_text (pos billionths) = size_text billionths
number_text (negsuc more) = 45 ∷ size_text (suc more)
