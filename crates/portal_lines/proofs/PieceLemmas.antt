-- A piece is written part by part.
use Rattle.std.proofs.Common.{◌≡◌, ℕ, List, ◌++◌, ◌∙◌, refl, sym, ap, subst, append_assoc, length, take}
use Rattle.std.proofs.Common.{length-append, arith, ◌-◌, drop, take-append-drop}
use Rattle.std.specs.Prelude.{Option}
use Rattle.std.proofs.lemmas.List.{take_at, take_rest}
use Rattle.portal_base.specs.Outside.{Takes, TakesPrefix}

-- what was taken so far is a prefix of the piece
pub TakesPrefix-front : (a b : Option (List ℕ)) (piece front rest : List ℕ) → piece ≡ front ++ rest
    → Takes a front b → TakesPrefix a piece b
TakesPrefix-front a b piece front rest e t = (
  length front,
  rw (e, length-append) (omega arith),
  subst (λ v. Takes a v b) (sym (ap (take (length front)) e ∙ take_at front rest (length front) refl)) t,
)

-- one piece more, of the first n bytes of the rest
pub take_on : (piece front rest : List ℕ) (n : ℕ) → piece ≡ front ++ rest
    → piece ≡ (front ++ take n rest) ++ take (length rest - n) (drop n rest)
take_on piece front rest n e =
    e ∙ ap (λ v. front ++ v) (sym (take-append-drop n rest) ∙ ap (λ v. take n rest ++ v) (sym (take_rest rest n)))
    ∙ sym (append_assoc front (take n rest) (take (length rest - n) (drop n rest)))
