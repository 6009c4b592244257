-- What holds of each item that a loop over a list has passed.
use Rattle.std.proofs.Common.{◌≡◌, ℕ, ◌+◌, ◌<◌, ◌≤◌, List, length, get_or, All, subst, arith, below_more, ◌∙◌}
use Rattle.std.proofs.lemmas.List.{get_or_default}

-- P holds of each item before the index
abbrev pub AllBefore : {X : Type 0} → (X → Type 0) → List X → ℕ → Type 0
AllBefore {X} P xs i = (k : ℕ) → k < i → (d : X) → k < length xs → P (get_or xs k d)

pub before-none : {X : Type 0} (P : X → Type 0) (xs : List X) → AllBefore P xs 0
before-none P xs k less = absurd (omega (arith, less))

pub before-next : {X : Type 0} (P : X → Type 0) (xs : List X) (i : ℕ) (x : X) → AllBefore P xs i → i < length xs
    → x ≡ get_or xs i x → P x → AllBefore P xs (i + 1)
before-next P xs i x before within is holds =
    below_more _ _ before (λ d lt. subst P (is ∙ get_or_default xs i x d within) holds)

pub before-all : {X : Type 0} (P : X → Type 0) (xs : List X) (i : ℕ) → AllBefore P xs i → length xs ≤ i → All P xs
before-all P xs i before whole k d lt = before k (omega (arith, lt, whole)) d lt
