-- A piece that is written to a sink in two parts.
use Rattle.std.proofs.Common.{ℕ, List, ◌++◌, ◌+◌, sym, subst, length, take, length-append, arith}
use lib.Seq.{take-append-le, take-append-add}
use Rattle.std.specs.Prelude.{Option}
use Rattle.portal_base.proofs.OutsideLemmas.{Takes-append}
use Rattle.portal_base.specs.Outside.{Takes, TakesPrefix}

-- a prefix of the first part was taken
pub first_part : (a b : Option (List ℕ)) (first rest : List ℕ) → TakesPrefix a first b
    → TakesPrefix a (first ++ rest) b
first_part a b first rest part = (
  part.0,
  rw length-append (omega (arith, part.1)),
  subst (λ v. Takes a v b) (sym (take-append-le part.0 first rest part.1)) part.2,
)

-- the first part was taken, and then a prefix of the second
pub second_part : (a b c : Option (List ℕ)) (first rest : List ℕ) → Takes a first b → TakesPrefix b rest c
    → TakesPrefix a (first ++ rest) c
second_part a b c first rest whole part = (
  length first + part.0,
  rw length-append (omega (arith, part.1)),
  subst (λ v. Takes a v c) (sym (take-append-add first rest part.0))
      (Takes-append a b c first (take part.0 rest) whole part.2),
)
