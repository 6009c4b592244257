use Rattle.std.proofs.Common.{◌≡◌, ◌∙◌, sym, refl, ℕ, List, [], ◌∷◌, Bool, true, false, take, drop, eqb, true≢false}
use Rattle.std.proofs.Common.{if◌then◌else◌, arith}
use lib.Pointwise.{pointwise}
use Rattle.csv.specs.Reading.{is_bom, strip_bom}
use Rattle.typed_csv.proofs.pieces.without_mark.Goals as goal

if_true : {X : Type 0} (b : Bool) (x y : X) → b ≡ true → (if b then x else y) ≡ x
if_true true x y e = refl
if_true false x y e = absurd (true≢false (sym e))

if_false : {X : Type 0} (b : Bool) (x y : X) → b ≡ false → (if b then x else y) ≡ y
if_false true x y e = absurd (true≢false e)
if_false false x y e = refl

same_test : (a b c : ℕ) → pointwise eqb (a ∷ b ∷ c ∷ []) (239 ∷ 187 ∷ 191 ∷ []) ≡ is_bom a b c
same_test a b c = grind arith

marked : (bytes : List ℕ) → pointwise eqb (take 3 bytes) (239 ∷ 187 ∷ 191 ∷ []) ≡ true → drop 3 bytes ≡ strip_bom bytes
unfolding strip_bom
marked [] e = cc
marked (a ∷ []) e = grind arith
marked (a ∷ b ∷ []) e = grind arith
marked (a ∷ b ∷ c ∷ rest) e = sym (if_true (is_bom a b c) rest (a ∷ b ∷ c ∷ rest) (sym (same_test a b c) ∙ e))

unmarked : (bytes : List ℕ) → pointwise eqb (take 3 bytes) (239 ∷ 187 ∷ 191 ∷ []) ≡ false → bytes ≡ strip_bom bytes
unfolding strip_bom
unmarked [] e = refl
unmarked (a ∷ []) e = refl
unmarked (a ∷ b ∷ []) e = refl
unmarked (a ∷ b ∷ c ∷ rest) e = sym (if_false (is_bom a b c) rest (a ∷ b ∷ c ∷ rest) (sym (same_test a b c) ∙ e))

pub returns-in-Some : goal.returns-in-Some
returns-in-Some c = c.in-Some.ensures.cases.1 ∙ marked c.args.bytes.now c.in-Some.ensures.cases.0

pub returns-in-None : goal.returns-in-None
returns-in-None c = unmarked c.args.bytes.now c.in-None.ensures.cases
