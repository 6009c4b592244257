-- What passed the fetchers: no round, and rounds after rounds.
use Rattle.std.proofs.Common.{◌≡◌, ℕ, ◌+◌, ◌≤◌, List, [], ◌∷◌, ◌++◌, refl, sym, ap, subst}
use Rattle.std.proofs.Common.{◌∙◌, append_assoc, append-nil, inl, inr, arith}
use Rattle.std.proofs.lemmas.List.Elements.{filter_map-append}
use Rattle.std.proofs.lemmas.List.Sums.{sum_by-append}
use Rattle.harvest_pool.specs.Rounds.{RoseBy}
use Rattle.portal_base.specs.Outside.{Holdings}
use Rattle.portal_serve.specs.Rounds.{AreSameFetchers, PoolTrace, RoundDone, RoundsPassed, failures_of, reports_of}

-- ---- counts of faults

pub RoseBy-none : (a b : ℕ) → a ≤ b → RoseBy 0 a b
RoseBy-none a b le = inl (omega arith)

pub RoseBy-more : (m n a b c : ℕ) → RoseBy m a b → RoseBy n b c → b ≤ c → RoseBy (m + n) a c
RoseBy-more m n a b c (inr last) second le = inr (omega arith)
RoseBy-more m n a b c (inl rose) (inr last) le = inr last
RoseBy-more m n a b c (inl rose) (inl then) le = inl (omega arith)

-- ---- rounds

-- no round was made
abbrev pub fetched_none : {F : Type 0} (pool : PoolTrace F) → RoundsPassed pool pool
fetched_none pool = record {
  rounds = [];
  documents = refl;
  counts = omega arith;
  failures = RoseBy-none pool.faults pool.faults (omega arith);
  reported = sym (append-nil pool.reports);
  unused = λ none. refl;
}

pub nothing_first : {X : Type 0} (xs ys : List X) → xs ++ ys ≡ [] → xs ≡ []
nothing_first [] ys e = refl
nothing_first (x ∷ xs) ys e = absurd (cc)

pub nothing_second : {X : Type 0} (xs ys : List X) → xs ++ ys ≡ [] → ys ≡ []
nothing_second [] ys e = e
nothing_second (x ∷ xs) ys e = absurd (cc)

-- rounds were made, and then more
abbrev pub fetched_more : {F : Type 0} (a b c : PoolTrace F) → RoundsPassed a b → RoundsPassed b c → RoundsPassed a c
fetched_more a b c first second = record {
  rounds = first.rounds ++ second.rounds;
  documents = second.documents ∙ first.documents;
  counts = omega (arith, first.counts, second.counts);
  failures = subst (λ n. RoseBy n a.faults c.faults)
      (sym (sum_by-append (λ (d : RoundDone). d.failed) first.rounds second.rounds))
      (RoseBy-more (failures_of first.rounds) (failures_of second.rounds) a.faults b.faults c.faults first.failures
      second.failures second.counts);
  reported = second.reported ∙ ap (λ r. r ++ reports_of second.rounds) first.reported
      ∙ append_assoc a.reports (reports_of first.rounds) (reports_of second.rounds)
      ∙ ap (λ r. a.reports ++ r)
      (sym (filter_map-append (λ (d : RoundDone). d.report) first.rounds second.rounds));
  unused = λ none. second.unused (nothing_second first.rounds second.rounds none)
      ∙ first.unused (nothing_first first.rounds second.rounds none);
}

-- ---- the fetchers

pub same_fetchers : {F : Type 0} (held : F → Holdings) (faults : F → ℕ) (fetchers : List F)
    → AreSameFetchers held faults fetchers fetchers
same_fetchers held faults fetchers =
    record { count = refl; documents = λ k d below. refl; counts = λ k d below. omega arith }

pub same_fetchers_on : {F : Type 0} (held : F → Holdings) (faults : F → ℕ) (a b c : List F)
    → AreSameFetchers held faults a b → AreSameFetchers held faults b c → AreSameFetchers held faults a c
same_fetchers_on held faults a b c first second = record {
  count = second.count ∙ first.count;
  documents = λ k d below. second.documents k d (omega (arith, below, first.count)) ∙ first.documents k d below;
  counts = λ k d below. omega (arith, first.counts k d below, second.counts k d (omega (arith, below, first.count)));
}
