-- The members of two lists that are joined.
use Rattle.std.proofs.Common.{List, [], ◌∷◌, ◌++◌, ◌⊎◌, inl, inr}
use Rattle.portal_base.proofs.Unique.{IsIn}

pub IsIn-front : {X : Type 0} (z : X) (xs ys : List X) → IsIn z xs → IsIn z (xs ++ ys)
IsIn-front z [] ys m = absurd m
IsIn-front z (x ∷ xs) ys (inl e) = inl e
IsIn-front z (x ∷ xs) ys (inr m) = inr (IsIn-front z xs ys m)

pub IsIn-back : {X : Type 0} (z : X) (xs ys : List X) → IsIn z ys → IsIn z (xs ++ ys)
IsIn-back z [] ys m = m
IsIn-back z (x ∷ xs) ys m = inr (IsIn-back z xs ys m)

pub IsIn-either : {X : Type 0} (z : X) (xs ys : List X) → IsIn z (xs ++ ys) → IsIn z xs ⊎ IsIn z ys
IsIn-either z [] ys m = inr m
IsIn-either z (x ∷ xs) ys (inl e) = inl (inl e)
IsIn-either {X} z (x ∷ xs) ys (inr m) = further (IsIn-either z xs ys m)
  where
    further : IsIn z xs ⊎ IsIn z ys → IsIn z (x ∷ xs) ⊎ IsIn z ys
    further (inl n) = inl (inr n)
    further (inr n) = inr n
