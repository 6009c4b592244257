-- What a run did with its fetchers, by what the first one did.
use Rattle.std.proofs.Common.{◌≡◌, ◌≤◌, ◌<◌, ℕ, zero, suc, List, [], ◌∷◌, length, get_or, slice_set, Option, Some, None, refl, subst, ap}
use Rattle.std.proofs.Common.{◌∙◌, arith}
use Rattle.std.specs.Prelude.{slice_index_or}
use Rattle.portal_base.specs.Outside.{Holdings}
use Rattle.portal_serve.proofs.Fetching.{same_fetchers_on}
use Rattle.portal_serve.specs.Rounds.{AreSameFetchers, faults_of_first, held_by_first}
use Rattle.portal_start.specs.Fetchers.{UsesFirst, first_fetch}
use Rattle.portal_start.specs.Start.{Beginning, Begins}
use Rattle.portal_status.specs.Fetch.{fetch_trace}

module _ {F : Type 0} (held : F → Holdings) (faults : F → ℕ) where
  -- the trace of the first fetcher is that of the one that fetched
  pub first_is : (fs : List F) (before after : F) → 1 ≤ length fs → before ≡ get_or fs 0 before
      → fetch_trace (held before) (faults before) (faults after) ≡ first_fetch held faults fs (slice_set fs 0 after)
  first_is [] before after some same = absurd (omega (arith, some))
  first_is (f ∷ fs) before after some same = ap (λ x. fetch_trace (held x) (faults x) (faults after)) same

  -- The first one fetched, and the others stay as they were.
  pub uses_first : (location : Option (List ℕ)) (fs : List F) (before after : F) → 1 ≤ length fs
      → before ≡ get_or fs 0 before → held after ≡ held before → faults before ≤ faults after
      → (location ≡ None → after ≡ before) → UsesFirst held faults location fs (slice_set fs 0 after)
  uses_first location [] before after some same holds counts unused = absurd (omega (arith, some))
  uses_first location (f ∷ fs) before after some same holds counts unused = record {
    same = record { count = refl; documents = documents; counts = more };
    others = refl;
    unused = λ none. ap (λ x. x ∷ fs) (unused none ∙ same);
  }
    where
      documents : (k : ℕ) (d : F) → k < length (f ∷ fs)
          → held (slice_index_or (after ∷ fs) k d) ≡ held (slice_index_or (f ∷ fs) k d)
      documents zero d below = holds ∙ ap held same
      documents (suc k) d below = refl

      more : (k : ℕ) (d : F) → k < length (f ∷ fs)
          → faults (slice_index_or (f ∷ fs) k d) ≤ faults (slice_index_or (after ∷ fs) k d)
      more zero d below = subst (λ x. faults x ≤ faults after) same counts
      more (suc k) d below = omega arith

  -- What the first one holds, and its count of faults, are those of the list.
  pub held_first : (fs : List F) (first : F) → 1 ≤ length fs → first ≡ get_or fs 0 first
      → held first ≡ held_by_first held fs
  held_first [] first some same = absurd (omega (arith, some))
  held_first (f ∷ fs) first some same = ap held same

  pub faults_first : (fs : List F) (first : F) → 1 ≤ length fs → first ≡ get_or fs 0 first
      → faults first ≡ faults_of_first faults fs
  faults_first [] first some same = absurd (omega (arith, some))
  faults_first (f ∷ fs) first some same = ap faults same

  -- The same for fetchers that are as before, but for their counts.
  pub held_same : (fs begun : List F) → 1 ≤ length fs → AreSameFetchers held faults fs begun
      → held_by_first held begun ≡ held_by_first held fs
  held_same [] begun some same = absurd (omega (arith, some))
  held_same (f ∷ fs) [] some same = absurd (omega (arith, same.count))
  held_same (f ∷ fs) (g ∷ begun) some same = same.documents 0 f (omega arith)

  pub faults_same : (fs begun : List F) → 1 ≤ length fs → AreSameFetchers held faults fs begun
      → faults_of_first faults fs ≤ faults_of_first faults begun
  faults_same [] begun some same = absurd (omega (arith, some))
  faults_same (f ∷ fs) [] some same = absurd (omega (arith, same.count))
  faults_same (f ∷ fs) (g ∷ begun) some same = same.counts 0 f (omega arith)

  pub faults_set : (fs : List F) (after : F) → 1 ≤ length fs → faults after ≡ faults_of_first faults (slice_set fs 0 after)
  faults_set [] after some = absurd (omega (arith, some))
  faults_set (f ∷ fs) after some = refl

  -- The first one fetched two files, and the others stay as they were.
  pub uses_twice : (portal : Option (List ℕ)) (location : List ℕ) (fs begun : List F) (before after : F)
      → UsesFirst held faults portal fs begun → 1 ≤ length begun → before ≡ get_or begun 0 before
      → held after ≡ held before → faults before ≤ faults after
      → UsesFirst held faults (Some location) fs (slice_set begun 0 after)
  uses_twice portal location fs begun before after uses some same holds counts =
      let second = uses_first (Some location) begun before after some same holds counts (λ none. absurd (cc)) in
      record {
        same = same_fetchers_on held faults fs begun (slice_set begun 0 after) uses.same second.same;
        others = second.others ∙ uses.others;
        unused = λ none. absurd (cc);
      }

  -- A portal that a fetch began with is that of all fetches of the run.
  pub begins_first : (fs begun left : List F) (portal : Option (List ℕ)) (beginning : Beginning)
      → Begins (first_fetch held faults fs begun) portal beginning
      → Begins (first_fetch held faults fs left) portal beginning
  begins_first fs begun left None beginning begins = begins
  begins_first fs begun left (Some location) beginning begins = begins
