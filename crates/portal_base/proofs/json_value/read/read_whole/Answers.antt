use Rattle.std.proofs.Common.{◌≡◌, ℕ, ℤ, pos, negsuc, ◌<◌, ◌^◌, Some, None, true, FitsSigned, arith, subst, rules}
use Rattle.std.proofs.Common.{ltb-true}
use Rattle.std.specs.Int.{w64}
use Rattle.serde_json.specs.Data.{Num, unsigned, negative, float}
use Rattle.serde_json.specs.Find.{as_u64, as_i64}
use Rattle.serde_json.specs.Number.{num_of, is_valid}
use Rattle.serde_json.specs.View.{number_view}
use Rattle.serde_json.specs.declared.number.N.{N}
use Rattle.serde_json.specs.declared.number.N.TheVariants.{PosInt, NegInt, Float}
use Rattle.portal_base.specs.Json.{Fits}
use Rattle.portal_base.proofs.json_value.read.read_whole.Goals as goal

fits_unsigned : (x : Num) (n : ℕ) → Some n ≡ as_u64 x → n < 2 ^ 64 → Fits x
fits_unsigned (unsigned m) n is small = let same : n ≡ m = cc in omega arith
fits_unsigned (negative z) n is small = absurd (cc)
fits_unsigned (float x) n is small = tt

-- A negative number is no `u64`, and a `u64` is not negative.
fits_signed : (n : N) (z : ℤ) → is_valid n ≡ true → Some z ≡ as_i64 (num_of n) → None ≡ as_u64 (num_of n)
    → FitsSigned w64 z → Fits (num_of n)
fits_signed (PosInt n) z valid is none small = absurd (cc)
fits_signed (NegInt (pos n)) z valid is none small = absurd (omega (arith, ltb-true n 0 valid))
fits_signed (NegInt (negsuc n)) z valid is none small = let same : z ≡ negsuc n = cc in
    omega (arith, subst (λ y. FitsSigned w64 y) same small)
fits_signed (Float x) z valid is none small = tt

pub returns-in-Some-clause-orderly : goal.returns-in-Some-clause-orderly
returns-in-Some-clause-orderly c =
    let whole = c.in-Some.whole in
    let small : whole < 2 ^ 64 = search rules in
    fits_unsigned (number_view c.args.value.now) whole c.in-Some.ensures small

pub returns-in-Some-as_i64-clause-orderly : goal.returns-in-Some-as_i64-clause-orderly
returns-in-Some-as_i64-clause-orderly c =
    let number = c.args.value.now in
    let whole = c.in-Some-as_i64.whole in
    let small : FitsSigned w64 whole = search rules in
    fits_signed number.n whole number.valid c.in-Some-as_i64.ensures c.in_default.ensures small
