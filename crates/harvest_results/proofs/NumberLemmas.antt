-- Resources that are numbered one after the other.
use Rattle.std.proofs.Common.{◌≡◌, ℕ, ◌+◌, ◌<◌, List, [], ◌∷◌, ◌++◌, length, take, get_or, ap, ◌∙◌, arith}
use Rattle.std.proofs.lemmas.List.{length-take-le, take_more}
use Rattle.harvest_records.specs.declared.record.Distribution.{Distribution}
use Rattle.harvest_results.specs.Harvested.{harvested_resource, numbered_from}

numbered_from-append : (n m : ℕ) (xs : List Distribution) (d : Distribution) → n + length xs ≡ m
    → numbered_from n (xs ++ d ∷ []) ≡ numbered_from n xs ++ harvested_resource m d ∷ []
numbered_from-append n m [] d is =
    let same : n ≡ m = omega arith in ap (λ k. harvested_resource k d ∷ []) same
numbered_from-append n m (x ∷ xs) d is =
    ap (λ l. harvested_resource n x ∷ l) (numbered_from-append (n + 1) m xs d (omega arith))

-- one more
pub numbered_from-more : (n i m : ℕ) (xs : List Distribution) (d : Distribution) → i < length xs → n + i ≡ m
    → numbered_from n (take (i + 1) xs) ≡ numbered_from n (take i xs) ++ harvested_resource m (get_or xs i d) ∷ []
numbered_from-more n i m xs d within is =
    ap (numbered_from n) (take_more xs i d within)
    ∙ numbered_from-append n m (take i xs) (get_or xs i d) (omega (arith, length-take-le i xs (omega arith)))
