-- A job's id tells the name of its source, since only digits follow its last dot.
use Rattle.std.proofs.Common.{◌≡◌, ℕ, zero, suc, ◌+◌, ◌/◌, ◌%◌, Bool, true, false, cond, List, [], ◌∷◌, ◌++◌, refl, sym}
use Rattle.std.proofs.Common.{subst, ltb, eqb, inl, inr, arith, append_assoc, ◌∙◌}
use Rattle.std.specs.Prelude.{decimal}
use Rattle.std.specs.Fmt.{digit_glyph, digits, digits_onto}
use Rattle.portal_base.proofs.Unique.{IsIn}
use Rattle.harvest_sources.specs.Jobs.{job_id}

-- no digit is a dot
digit_no_dot : (d : ℕ) → 46 ≡ digit_glyph false d → ⊥
digit_no_dot d = by (ltb d 10)
  where
    by : (b : Bool) → 46 ≡ cond b (48 + d) (87 + d) → ⊥
    by true e = omega arith
    by false e = omega arith

digits_no_dot : (k n : ℕ) (acc : List ℕ) → (IsIn 46 acc → ⊥) → IsIn 46 (digits_onto k 10 false n acc) → ⊥
digits_no_dot zero n acc none m = none m
digits_no_dot (suc k) n acc none m =
    by (eqb (n / 10) 0) (digits_no_dot k (n / 10) (digit_glyph false (n % 10) ∷ acc) more) m
  where
    more : IsIn 46 (digit_glyph false (n % 10) ∷ acc) → ⊥
    more (inl e) = digit_no_dot (n % 10) e
    more (inr further) = none further

    by : (b : Bool) → (IsIn 46 (digits_onto k 10 false (n / 10) (digit_glyph false (n % 10) ∷ acc)) → ⊥)
        → IsIn 46 (cond b (digit_glyph false (n % 10) ∷ acc)
        (digits_onto k 10 false (n / 10) (digit_glyph false (n % 10) ∷ acc))) → ⊥
    by true go there = more there
    by false go there = go there

decimal_no_dot : (n : ℕ) → IsIn 46 (decimal n) → ⊥
unfolding digits
decimal_no_dot n m = digits_no_dot 64 n [] (λ none. none) m

in_middle : (mark : ℕ) (xs ys : List ℕ) → IsIn mark (xs ++ mark ∷ ys)
in_middle mark [] ys = inl refl
in_middle mark (x ∷ xs) ys = inr (in_middle mark xs ys)

-- Where a mark stands for the last time, the same texts precede it.
pub same_before : (mark : ℕ) (xs ys ds es : List ℕ) → (IsIn mark ds → ⊥) → (IsIn mark es → ⊥)
    → xs ++ mark ∷ ds ≡ ys ++ mark ∷ es → xs ≡ ys
same_before mark [] [] ds es no_d no_e e = refl
same_before mark [] (y ∷ ys) ds es no_d no_e e =
    let rest : ds ≡ ys ++ mark ∷ es = cc in absurd (no_d (subst (IsIn mark) (sym rest) (in_middle mark ys es)))
same_before mark (x ∷ xs) [] ds es no_d no_e e =
    let rest : es ≡ xs ++ mark ∷ ds = cc in absurd (no_e (subst (IsIn mark) (sym rest) (in_middle mark xs ds)))
same_before mark (x ∷ xs) (y ∷ ys) ds es no_d no_e e =
    let rest : xs ++ mark ∷ ds ≡ ys ++ mark ∷ es = cc in
    let more : xs ≡ ys = same_before mark xs ys ds es no_d no_e rest in
    let first : x ≡ y = cc in
    cc

pub job_id-source : (name other : List ℕ) (number another : ℕ) → job_id name number ≡ job_id other another
    → name ≡ other
job_id-source name other number another e =
    same_before 46 name other (decimal number) (decimal another) (decimal_no_dot number) (decimal_no_dot another)
    (sym (append_assoc name (46 ∷ []) (decimal number)) ∙ e ∙ append_assoc other (46 ∷ []) (decimal another))
