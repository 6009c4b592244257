-- A loop that adds what each item gives.
use Rattle.std.proofs.Common.{◌≡◌, ℕ, ◌+◌, ◌<◌, length, get_or, take, List, [], ◌∷◌, ◌++◌, sym, ap, ◌∙◌}
use Rattle.std.proofs.lemmas.List.{take_more}

-- One more item.
pub joined_more : {X Y : Type 0} (f : List X → List Y) → ((xs ys : List X) → f (xs ++ ys) ≡ f xs ++ f ys)
    → (xs : List X) (i : ℕ) (x : X) → i < length xs → x ≡ get_or xs i x
    → f (take (i + 1) xs) ≡ f (take i xs) ++ f (x ∷ [])
joined_more {X} f joins xs i x lt e = ap f (take_more xs i x lt) ∙ joins _ _
    ∙ ap (λ (y : X). f (take i xs) ++ f (y ∷ [])) (sym e)

-- The same, of a list to which what the item gives is added.
pub pushed_more : {X Y : Type 0} (f : List X → List Y) → ((xs ys : List X) → f (xs ++ ys) ≡ f xs ++ f ys)
    → (xs : List X) (i : ℕ) (x y : X) (old new : List Y) → i < length xs → y ≡ get_or xs i y → x ≡ y
    → old ≡ f (take i xs) → new ≡ old ++ f (x ∷ []) → new ≡ f (take (i + 1) xs)
pushed_more {X} {Y} f joins xs i x y old new lt e same was pushed =
    pushed ∙ ap (λ (l : List Y). l ++ f (x ∷ [])) was ∙ ap (λ (z : X). f (take i xs) ++ f (z ∷ [])) same
    ∙ sym (joined_more f joins xs i y lt e)
