-- Pieces are written one after another.
use Rattle.std.proofs.Common.{ℕ, List, ◌++◌, ◌+◌, sym, subst, length, take, length-append, arith}
use Rattle.std.specs.Prelude.{Option}
use Rattle.std.proofs.lemmas.List.{take-append-le}
use Rattle.std.proofs.Math.Seq.{take-append-add}
use Rattle.portal_base.proofs.OutsideLemmas.{Takes-append}
use Rattle.portal_base.specs.Outside.{Takes, TakesPrefix}

-- some bytes of the first of two pieces
pub takes_first : (a b : Option (List ℕ)) (x y : List ℕ) → TakesPrefix a x b → TakesPrefix a (x ++ y) b
takes_first a b x y p = (
  p.0,
  rw length-append (omega (arith, p.1)),
  subst (λ v. Takes a v b) (sym (take-append-le p.0 x y p.1)) p.2,
)

-- the first of two pieces, and some bytes of the second
pub takes_second : (a b c : Option (List ℕ)) (x y : List ℕ) → Takes a x b → TakesPrefix b y c
    → TakesPrefix a (x ++ y) c
takes_second a b c x y t p = (
  length x + p.0,
  rw length-append (omega (arith, p.1)),
  subst (λ v. Takes a v c) (sym (take-append-add x y p.0)) (Takes-append a b c x (take p.0 y) t p.2),
)

-- both pieces
pub takes_both : (a b c : Option (List ℕ)) (x y : List ℕ) → Takes a x b → Takes b y c → Takes a (x ++ y) c
takes_both a b c x y t u = Takes-append a b c x y t u
