-- Beginnings of one list.
use Rattle.std.proofs.Common.{◌≡◌, ◌≤◌, List, [], ◌∷◌, ◌++◌, length, refl, ap, sym, ◌∙◌, arith}
use Rattle.std.proofs.Common.{append_assoc, length-append}
use Rattle.std.proofs.lemmas.List.{append-nil}
use Rattle.portal_hall.specs.History.{Begins}

-- each list begins with itself
pub begins_self : {A : Type 0} (xs : List A) → Begins xs xs
begins_self xs = ([], sym (append-nil xs))

pub begins_nil : {A : Type 0} (xs : List A) → Begins [] xs
begins_nil xs = (xs, refl)

pub begins_trans : {A : Type 0} (xs ys zs : List A) → Begins xs ys → Begins ys zs → Begins xs zs
begins_trans xs ys zs p q = (p.0 ++ q.0, q.1 ∙ (ap (λ w. w ++ q.0) p.1 ∙ append_assoc xs p.0 q.0))

pub begins_length : {A : Type 0} (xs ys : List A) → Begins xs ys → length xs ≤ length ys
begins_length xs ys p = omega (arith, length-append xs p.0, ap length p.1)

-- of two beginnings of one list the shorter begins the longer
pub begins_shorter : {A : Type 0} (xs ys zs : List A) → Begins xs zs → Begins ys zs → length xs ≤ length ys
    → Begins xs ys
begins_shorter [] ys zs p q le = (ys, refl)
begins_shorter (x ∷ xs) [] zs p q le = absurd (omega arith)
begins_shorter (x ∷ xs) (y ∷ ys) [] p q le = absurd (cc (p.1))
begins_shorter (x ∷ xs) (y ∷ ys) (z ∷ zs) p q le =
    let heads : x ≡ y = cc (p.1, q.1) in
    let rest = begins_shorter xs ys zs (p.0, cc (p.1)) (q.0, cc (q.1)) (omega arith) in
    (rest.0, cc (heads, rest.1))

-- a beginning as long as the whole is the whole
pub begins_whole : {A : Type 0} (xs ys : List A) → Begins xs ys → length ys ≤ length xs → ys ≡ xs
begins_whole xs ys p le = p.1 ∙ (ap (λ r. xs ++ r) (empty p.0 (omega (arith, length-append xs p.0, ap length p.1)))
    ∙ append-nil xs)
  where
    empty : {A : Type 0} (r : List A) → length r ≤ 0 → r ≡ []
    empty [] le = refl
    empty (x ∷ r) le = absurd (omega arith)

-- what begins nothing is nothing
pub begins_none : {A : Type 0} (xs : List A) → Begins xs [] → xs ≡ []
begins_none [] p = refl
begins_none (x ∷ xs) p = absurd (cc (p.1))
