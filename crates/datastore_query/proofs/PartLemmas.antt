-- The parts of a sort's text, from comma to comma.
use Rattle.std.proofs.Common.{◌≡◌, ◌∙◌, ℕ, ◌+◌, List, [], ◌∷◌, take, drop, refl, ap, ap₂, sym, add-one, ◌++◌, map}
use Rattle.std.proofs.Common.{append_assoc, Bool, true, false, cond}
use Rattle.std.specs.Prelude.{Option, Some, None, option_map, length}
use Rattle.datastore_query.specs.SortText.{comma_from, prepended, is_end, parts_from, parts_of}
use Rattle.datastore_query.specs.SortText.{quoted_after}

abbrev comma_split : Option ℕ → List ℕ → List (List ℕ)
comma_split None cs = cs ∷ []
comma_split (Some n) cs = take n cs ∷ parts_from false (drop (n + 1) cs)

further : (c : ℕ) (cs : List ℕ) (o : Option ℕ)
    → prepended c (comma_split o cs) ≡ comma_split (option_map (λ n. n + 1) o) (c ∷ cs)
further c cs None = refl
further c cs (Some n) = rw (add-one, add-one) refl

-- the parts are the text before its first comma, and the parts of the text after it
pub parts_from-comma : (quoted : Bool) (cs : List ℕ) → parts_from quoted cs ≡ comma_split (comma_from quoted cs) cs
parts_from-comma quoted [] = refl
parts_from-comma quoted (c ∷ cs) =
    let next : Bool = quoted_after quoted c in
    let P : Bool → Type 0 =
    λ b. cond b ([] ∷ parts_from false cs) (prepended c (parts_from next cs))
    ≡ comma_split (cond b (Some 0) (option_map (λ n. n + 1) (comma_from next cs))) (c ∷ cs) in
    elim (is_end quoted c) as P [
      | true ↦ refl
      | false ↦ ap (prepended c) (parts_from-comma next cs) ∙ further c cs (comma_from next cs)
    ]

pub parts_from_next : (cs part after : List ℕ) (n : ℕ) → comma_from false cs ≡ Some n → part ≡ take n cs
    → after ≡ drop (n + 1) cs → parts_from false cs ≡ part ∷ parts_from false after
parts_from_next cs part after n e p b =
    parts_from-comma false cs ∙ ap (λ o. comma_split o cs) e
    ∙ ap₂ (λ x y. x ∷ parts_from false y) (sym p) (sym b)

pub parts_from_last : (cs : List ℕ) → comma_from false cs ≡ None → parts_from false cs ≡ cs ∷ []
parts_from_last cs e = parts_from-comma false cs ∙ ap (λ o. comma_split o cs) e

pub parts_of_some : (text : List ℕ) → (length text ≡ 0 → ⊥) → parts_of text ≡ parts_from false text
parts_of_some [] some = absurd (some refl)
parts_of_some (c ∷ cs) some = refl

-- one more part is read
pub read_next : {A : Type 0} (read : List ℕ → A) (before : List A) (cs part after : List ℕ) (x : A)
    → comma_from false cs ≡ Some (length part) → part ≡ take (length part) cs → after ≡ drop (length part + 1) cs
    → x ≡ read part
    → before ++ map read (parts_from false cs) ≡ (before ++ x ∷ []) ++ map read (parts_from false after)
read_next read before cs part after x e p b r =
    ap (λ ps. before ++ map read ps) (parts_from_next cs part after (length part) e p b)
    ∙ ap (λ y. before ++ y ∷ map read (parts_from false after)) (sym r)
    ∙ sym (append_assoc before (x ∷ []) (map read (parts_from false after)))
