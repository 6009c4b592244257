-- Where no fetch failed, the reports of a script's rounds tell of no failed fetch.
use mathlib.Core.Path.{fun_ext}
use Rattle.std.proofs.Common.{◌≡◌, ℕ, ◌+◌, ℤ, Bool, true, false, ◌&&◌, ◌||◌, cond, List, [], ◌∷◌, map, length, Option, Some, None}
use Rattle.std.proofs.Common.{IfSome, IsSome, Result, Ok, Err, refl, sym, ap, ap₂, ◌∙◌, arith}
use Rattle.std.specs.Prelude.{count_by, filter, option_map, sum_by}
use Rattle.std.specs.List.{All, list_any}
use Rattle.std.specs.Str.{bytes_eq}
use Rattle.std.proofs.lemmas.List.Elements.{All-head, All-tail}
use Rattle.std.proofs.lemmas.List.Sums.{sum_by-cons}
use Rattle.action_api.specs.declared.early.Early.{Early}
use Rattle.harvest_pool.specs.WholeRounds.{Failures, broke_by_failure, failures_in, failures_told}
use Rattle.harvest_pool.specs.declared.report.RoundReport.{RoundReport}
use Rattle.harvest_results.specs.Effects.{HarvestState}
use Rattle.harvest_sources.specs.declared.cause.Cause.{Cause}
use Rattle.harvest_sources.specs.declared.job.JobState.TheVariants.{Broken}
use Rattle.harvest_sources.specs.declared.job.SourceReport.{SourceReport}
use Rattle.portal_state.specs.Harvest.{harvest_of}
use Rattle.portal_state.specs.State.{State}
use Rattle.portal_serve.specs.Followed.{FollowsDocuments, FollowsRound, FollowsRounds, failures_of_report}
use Rattle.portal_serve.specs.Rounds.{RoundDone, failures_of, with_harvest}
use Rattle.portal_serve.specs.Run.{IsWhole}
use Rattle.portal_serve.specs.Script.{ScriptCall, ScriptLine, Call, Round, parsed_line}
use Rattle.portal_serve.specs.Transcript.{AreDrawn, Drawn, asks_for_round, drawn, is_round_line, outcome_of_call}
use Rattle.portal_serve.specs.Transcript.{script_state, turn_of, turn_of_call}

-- ---- sums and tests

zero-parts : {X : Type 0} (f : X → ℕ) (x : X) (xs : List X) → sum_by f (x ∷ xs) ≡ 0 → (f x ≡ 0) × (sum_by f xs ≡ 0)
zero-parts f x xs none =
    let both : f x + sum_by f xs ≡ 0 = sym (sum_by-cons f x xs) ∙ none in (omega (arith, both), omega (arith, both))

zero-false : (b : Bool) → ◌≡◌ {A = ℕ} (cond b 1 0) 0 → b ≡ false
zero-false true is = absurd (omega (arith, is))
zero-false false is = refl

never-both : (a b : Bool) → b ≡ false → (a && b) ≡ false
never-both true b is = is
never-both false b is = refl

-- Nothing passes two tests where nothing passes the second.
none-both : {X : Type 0} (p q : X → Bool) (xs : List X) → count_by q xs ≡ 0 → list_any (λ x. p x && q x) xs ≡ false
none-both p q [] none = refl
none-both {X} p q (x ∷ xs) none =
    let parts = zero-parts (λ (y : X). cond (q y) 1 0) x xs none in
    ap₂ (λ a b. a || b) (never-both (p x) (q x) (zero-false (q x) parts.0)) (none-both p q xs parts.1)

-- ---- reports

-- the cause tells of a failed fetch
abbrev is_failed : Cause → Bool
is_failed cause = broke_by_failure (Broken cause)

abbrev told_at : List ℕ → SourceReport → Bool
told_at iri r = list_any (λ (bad : List ℕ × Cause). bytes_eq bad.0 iri && is_failed bad.1) r.bad

report-parts : (r : SourceReport) → failures_in r ≡ 0
    → (broke_by_failure r.state ≡ false) × ((iri : List ℕ) → told_at iri r ≡ false)
report-parts r none =
    let both : cond (broke_by_failure r.state) 1 0 + count_by (λ (bad : List ℕ × Cause). is_failed bad.1) r.bad ≡ 0 = none in (
      zero-false (broke_by_failure r.state) (omega (arith, both)),
      λ iri. none-both (λ (bad : List ℕ × Cause). bytes_eq bad.0 iri) (λ (bad : List ℕ × Cause). is_failed bad.1) r.bad
          (omega (arith, both)),
    )

catalogue-untold : (name : List ℕ) (reports : List SourceReport) → sum_by failures_in reports ≡ 0
    → list_any (λ r. bytes_eq r.source name && broke_by_failure r.state) reports ≡ false
catalogue-untold name [] none = refl
catalogue-untold name (r ∷ rs) none =
    let parts = zero-parts failures_in r rs none in
    ap₂ (λ a b. a || b)
    (never-both (bytes_eq r.source name) (broke_by_failure r.state) (report-parts r parts.0).0)
    (catalogue-untold name rs parts.1)

object-untold : (name iri : List ℕ) (reports : List SourceReport) → sum_by failures_in reports ≡ 0
    → list_any (λ r. bytes_eq r.source name && told_at iri r) reports ≡ false
object-untold name iri [] none = refl
object-untold name iri (r ∷ rs) none =
    let parts = zero-parts failures_in r rs none in
    ap₂ (λ a b. a || b)
    (never-both (bytes_eq r.source name) (told_at iri r) ((report-parts r parts.0).1 iri))
    (object-untold name iri rs parts.1)

failures-by : (List ℕ → Bool) → (List ℕ → List ℕ → Bool) → Failures
failures-by catalogue object = record { catalogue = catalogue; object = object }

-- Reports that count no failed fetch tell of none.
failures-untold : (reports : List SourceReport) → sum_by failures_in reports ≡ 0
    → failures_told reports ≡ failures_told []
unfolding failures-by
failures-untold reports none =
    let catalogues : (failures_told reports).catalogue ≡ (failures_told []).catalogue =
    fun_ext (λ name. catalogue-untold name reports none) in
    let objects : (failures_told reports).object ≡ (failures_told []).object =
    fun_ext (λ name. fun_ext (λ iri. object-untold name iri reports none)) in
    ap₂ failures-by catalogues objects

-- ---- rounds

round-untold : (documents : List ℕ → Option (List ℕ)) (before : HarvestState) (d : RoundDone) → IsWhole d → d.failed ≡ 0
    → IfSome d.report (FollowsDocuments documents before d) → failures_of_report d ≡ Some (failures_told [])
round-untold documents before d whole none told = by d.report whole told
  where
    by : (o : Option RoundReport) → IsSome o → IfSome o (FollowsDocuments documents before d)
        → option_map (λ (report : RoundReport). failures_told report.sources) o ≡ Some (failures_told [])
    by None some told = absurd (cc)
    by (Some report) some told = ap Some (failures-untold report.sources (told.failures ∙ none))

-- ---- lines

-- what the report of a line's round tells of
abbrev untold : List ℕ → Option Failures
untold line = Some (failures_told [])

abbrev LinesUntold : (List ℕ → Option (List ℕ)) → List (List ℕ) → Type 0
LinesUntold documents lines = (state : State) (moments : List ℤ) (nonces : List ℕ) (rounds : List RoundDone)
    → All IsWhole rounds → length rounds ≡ length (filter is_round_line lines) → failures_of rounds ≡ 0
    → FollowsRounds (Some documents) (script_state state (drawn moments nonces rounds)) lines
    → map failures_of_report rounds ≡ map untold (filter is_round_line lines)

no-rounds : (rounds : List RoundDone) → length rounds ≡ 0 → map failures_of_report rounds ≡ []
no-rounds [] count = refl
no-rounds (d ∷ rounds) count = absurd (omega (arith, count))

module _ (documents : List ℕ → Option (List ℕ)) (lines : List (List ℕ)) (rest : LinesUntold documents lines) where
  call-untold : (state : State) (call : ScriptCall) (size : ℕ) (moments : List ℤ) (nonces : List ℕ)
      (rounds : List RoundDone) → All IsWhole rounds → length rounds ≡ length (filter is_round_line lines)
      → failures_of rounds ≡ 0
      → FollowsRounds (Some documents) (turn_of_call state call size moments nonces rounds).after lines
      → map failures_of_report rounds ≡ map untold (filter is_round_line lines)
  call-untold state call size [] nonces rounds whole count none told = rest state [] nonces rounds whole count none told
  call-untold state call size (m ∷ moments) [] rounds whole count none told =
      rest state (m ∷ moments) [] rounds whole count none told
  call-untold state call size (m ∷ moments) (n ∷ nonces) rounds whole count none told =
      rest (outcome_of_call state call size m n).state moments nonces rounds whole count none told

  line-untold : (line : List ℕ) (state : State) (moments : List ℤ) (nonces : List ℕ) (rounds : List RoundDone)
      (parsed : Result ScriptLine Early) (size : ℕ) → All IsWhole rounds
      → length rounds
      ≡ length (cond (asks_for_round parsed) (line ∷ filter is_round_line lines) (filter is_round_line lines))
      → failures_of rounds ≡ 0 → FollowsRound (Some documents) state parsed rounds
      → FollowsRounds (Some documents) (turn_of (script_state state (drawn moments nonces rounds)) parsed size).after lines
      → map failures_of_report rounds
      ≡ map untold (cond (asks_for_round parsed) (line ∷ filter is_round_line lines) (filter is_round_line lines))
  line-untold line state moments nonces rounds (Err early) size whole count none follows told =
      rest state moments nonces rounds whole count none told
  line-untold line state moments nonces rounds (Ok (Call call)) size whole count none follows told =
      call-untold state call size moments nonces rounds whole count none told
  line-untold line state moments nonces [] (Ok (Round workers)) size whole count none follows told =
      absurd (omega (arith, count))
  line-untold line state moments nonces (d ∷ rounds) (Ok (Round workers)) size whole count none follows told =
      let parts = zero-parts (λ (r : RoundDone). r.failed) d rounds none in
      ap₂ (λ (x : Option Failures) (xs : List (Option Failures)). x ∷ xs)
      (round-untold documents (harvest_of state) d (All-head IsWhole d rounds whole) parts.0 follows)
      (rest (with_harvest d.left state) moments nonces rounds (All-tail IsWhole d rounds whole) (omega (arith, count))
      parts.1 told)

lines-untold : (documents : List ℕ → Option (List ℕ)) (lines : List (List ℕ)) → LinesUntold documents lines
lines-untold documents [] = λ state moments nonces rounds whole count none told. no-rounds rounds count
lines-untold documents (line ∷ lines) = λ state moments nonces rounds whole count none told.
    line-untold documents lines (lines-untold documents lines) line state moments nonces rounds (parsed_line line)
    (length line) whole count none told.0 told.1

-- Runs of a script in which no fetch failed have reports that tell of the same failed fetches, namely of none.
pub same-untold : (documents : List ℕ → Option (List ℕ)) (state : State) (one other : Drawn) (lines : List (List ℕ))
    → All IsWhole one.rounds → All IsWhole other.rounds → AreDrawn lines one → AreDrawn lines other
    → failures_of one.rounds ≡ 0 → failures_of other.rounds ≡ 0
    → FollowsRounds (Some documents) (script_state state one) lines
    → FollowsRounds (Some documents) (script_state state other) lines
    → map failures_of_report other.rounds ≡ map failures_of_report one.rounds
same-untold documents state one other lines whole other_whole are_drawn other_drawn none other_none told also =
    lines-untold documents lines state other.moments other.nonces other.rounds other_whole other_drawn.rounds other_none also
    ∙ sym (lines-untold documents lines state one.moments one.nonces one.rounds whole are_drawn.rounds none told)
