-- Results one after another. The first error is the result.
use Rattle.std.specs.Prelude.{List, [], ◌∷◌, Option, Some, None, Result, Ok, Err}

-- the error, if there is one, and otherwise the result
abbrev pub unless_error : {A E : Type 0} → Option E → Result A E → Result A E
unless_error (Some error) result = Err error
unless_error None result = result

abbrev pub prepended : {B E : Type 0} → Result B E → Result (List B) E → Result (List B) E
prepended (Err fault) others = Err fault
prepended (Ok y) (Err fault) = Err fault
prepended (Ok y) (Ok ys) = Ok (y ∷ ys)

-- the results of reading each item, or the first fault
abbrev pub each_read : {A B E : Type 0} → (A → Result B E) → List A → Result (List B) E
each_read f [] = Ok []
each_read f (x ∷ xs) = prepended (f x) (each_read f xs)
