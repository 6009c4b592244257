-- Text that a production reads again, up to the space after it.
use Rattle.std.proofs.Common.{◌≡◌, ℕ, Bool, true, false, List, ◌∷◌, ◌++◌, Option, Some, not}
use lib.Utf8.{scalars, encodes}
use Rattle.std.proofs.lemmas.Bool.{ne_eqb, both_ways}
use Rattle.std.proofs.Common.{sym, ap, ◌∙◌, refl}
use Rattle.ntriples.specs.Document.{is_line_end}
use Rattle.ntriples.proofs.Encoded.{no_ends}

-- the text is the UTF-8 of characters without a line end, of which f gives this value
pub record Again (A : Type 0) (f : List ℕ → Option (A × List ℕ)) (value : A) (text : List ℕ) : Type 0 where
  pub characters : List ℕ
  pub are : scalars characters ≡ true
  pub whole : no_ends characters ≡ true
  pub spell : encodes characters ≡ text
  pub again : (more : List ℕ) → f (characters ++ 32 ∷ more) ≡ Some (value, 32 ∷ more)

-- what passes a test that no line end passes
pub no_end : (test : ℕ → Bool) (c : ℕ) → test 10 ≡ false → test 13 ≡ false → test c ≡ true → not (is_line_end c) ≡ true
no_end test c h k e =
    rw (
      ne_eqb c 10 (λ same. both_ways (test 10) h (ap test (sym same) ∙ e)),
      ne_eqb c 13
          (λ same. both_ways (test 13) k (ap test (sym same) ∙ e)),
    ) refl
