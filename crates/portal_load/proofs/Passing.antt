-- What passes output, the clock and the numbers in calls that are made in order.
use Rattle.std.proofs.Common.{◌≡◌, ◌≢◌, ◌≤◌, ℕ, ℤ, List, [], ◌∷◌, ◌++◌, length, take, Some, refl}
use Rattle.std.proofs.Common.{sym, subst, ◌∙◌}
use Rattle.std.proofs.Common.{◌+◌, arith, length-append}
use Rattle.portal_base.proofs.OutsideLemmas.{Takes-none, Takes-append}
use Rattle.portal_state.specs.State.{State}
use Rattle.portal_load.proofs.Calling.{makes_all_append, makes_all_one, makes_none, refused_drawn, refuses_append}
use Rattle.portal_load.proofs.Calling.{refuses_one, refuses_within}
use Rattle.portal_load.proofs.Calling.{stops_after, stops_append, stops_none, stops_one, stops_within}
use Rattle.portal_load.specs.Progress.{MakesOn, PassesOutlet, RefusesOn, StopsOn}
use Rattle.portal_links.proofs.Passing.{DrawsAll-more, DrawsAll-none}
use Rattle.portal_serve.specs.Calls.{MakesCall, BeginsCall, MakesAllCalls, MakesCallsToRefusal, StopsCalls, body_size}
use Rattle.portal_serve.specs.Run.{StageTrace}
use Rattle.portal_serve.specs.Script.{ScriptCall}
use Rattle.portal_serve.specs.Transcript.{outcome_of_call, reply_line}

-- what passed in two parts
pub passes_both : (P Q R : List ℤ → List ℕ → List ℕ → Type 0) (old mid new : StageTrace)
    → ((moments more : List ℤ) (nonces others written others_written : List ℕ) → P moments nonces written
    → Q more others others_written → R (moments ++ more) (nonces ++ others) (written ++ others_written))
    → PassesOutlet P old mid → PassesOutlet Q mid new → PassesOutlet R old new
passes_both P Q R old mid new both p q = record {
  moments = p.moments ++ q.moments;
  nonces = p.nonces ++ q.nonces;
  written = p.written ++ q.written;
  holds = both p.moments q.moments p.nonces q.nonces p.written q.written p.holds q.holds;
  output = Takes-append old.taken mid.taken new.taken p.written q.written p.output q.output;
  clock = DrawsAll-more old.moments mid.moments new.moments p.moments q.moments p.clock q.clock;
  numbers = DrawsAll-more old.nonces mid.nonces new.nonces p.nonces q.nonces p.numbers q.numbers;
}

-- what holds of what passed
pub passes_as : (P Q : List ℤ → List ℕ → List ℕ → Type 0) (old new : StageTrace)
    → ((moments : List ℤ) (nonces written : List ℕ) → P moments nonces written → Q moments nonces written)
    → PassesOutlet P old new → PassesOutlet Q old new
passes_as P Q old new holds p = record {
  moments = p.moments;
  nonces = p.nonces;
  written = p.written;
  holds = holds p.moments p.nonces p.written p.holds;
  output = p.output;
  clock = p.clock;
  numbers = p.numbers;
}

-- nothing passed
pub passes_none : (P : List ℤ → List ℕ → List ℕ → Type 0) (old : StageTrace) → P [] [] [] → PassesOutlet P old old
passes_none P old holds = record {
  moments = [];
  nonces = [];
  written = [];
  holds = holds;
  output = Takes-none old.taken;
  clock = DrawsAll-none old.moments;
  numbers = DrawsAll-none old.nonces;
}

-- ---- one call

-- a call that was granted
pub makes_on_one : (state after : State) (call : ScriptCall) (size status : ℕ) (old new : StageTrace)
    → size ≡ body_size call → status ≡ 200 → MakesCall state call size status after old new
    → MakesOn state (call ∷ []) after old new
makes_on_one state after call size status old new sized granted made =
    let m = subst (λ (s : ℕ). MakesCall state call s status after old new) sized made in
    record {
      moments = m.moment ∷ [];
      nonces = m.nonce ∷ [];
      written = reply_line (Some call.action) (outcome_of_call state call (body_size call) m.moment m.nonce).reply;
      holds = makes_all_one state after call m.moment m.nonce _ (sym m.answer ∙ granted) refl m.leaves;
      output = m.output;
      clock = m.clock;
      numbers = m.numbers;
    }

-- one that wasn't
pub refuses_on_one : (state after : State) (call : ScriptCall) (size status : ℕ) (old new : StageTrace)
    → size ≡ body_size call → status ≢ 200 → MakesCall state call size status after old new
    → RefusesOn state (call ∷ []) after old new
refuses_on_one state after call size status old new sized refused made =
    let m = subst (λ (s : ℕ). MakesCall state call s status after old new) sized made in
    record {
      moments = m.moment ∷ [];
      nonces = m.nonce ∷ [];
      written = reply_line (Some call.action) (outcome_of_call state call (body_size call) m.moment m.nonce).reply;
      holds = refuses_one state after call m.moment m.nonce _ (λ e. refused (m.answer ∙ e)) refl m.leaves;
      output = m.output;
      clock = m.clock;
      numbers = m.numbers;
    }

-- one that was begun
pub stops_on_one : (state after : State) (call : ScriptCall) (size : ℕ) (old new : StageTrace) → size ≡ body_size call
    → BeginsCall state call size after old new → StopsOn 1 state (call ∷ []) after old new
stops_on_one state after call size old new sized begun =
    let b = subst (λ (s : ℕ). BeginsCall state call s after old new) sized begun in
    record {
      moments = b.moment ∷ [];
      nonces = b.nonce ∷ [];
      written = take b.output.0
          (reply_line (Some call.action) (outcome_of_call state call (body_size call) b.moment b.nonce).reply);
      holds = stops_one state after call b.moment b.nonce b.output.0 b.leaves;
      output = b.output.2;
      clock = b.clock;
      numbers = b.numbers;
    }

-- ---- calls after others

pub makes_on_append : (state mid after : State) (first rest : List ScriptCall) (old on new : StageTrace)
    → MakesOn state first mid old on → MakesOn mid rest after on new → MakesOn state (first ++ rest) after old new
makes_on_append state mid after first rest old on new =
    passes_both (λ m n w. MakesAllCalls state first m n w mid) (λ m n w. MakesAllCalls mid rest m n w after)
    (λ m n w. MakesAllCalls state (first ++ rest) m n w after) old on new
    (makes_all_append state mid after first rest)

pub refuses_on_append : (state mid after : State) (first rest : List ScriptCall) (old on new : StageTrace)
    → MakesOn state first mid old on → RefusesOn mid rest after on new → RefusesOn state (first ++ rest) after old new
refuses_on_append state mid after first rest old on new =
    passes_both (λ m n w. MakesAllCalls state first m n w mid) (λ m n w. MakesCallsToRefusal mid rest m n w after)
    (λ m n w. MakesCallsToRefusal state (first ++ rest) m n w after) old on new
    (refuses_append state mid after first rest)

pub stops_on_append : (most : ℕ) (state mid after : State) (first rest : List ScriptCall) (old on new : StageTrace)
    → MakesOn state first mid old on → StopsOn most mid rest after on new
    → StopsOn most state (first ++ rest) after old new
stops_on_append most state mid after first rest old on new =
    passes_both (λ m n w. MakesAllCalls state first m n w mid) (λ m n w. StopsCalls most mid rest m n w after)
    (λ m n w. StopsCalls most state (first ++ rest) m n w after) old on new
    (stops_append most state mid after first rest)

-- ---- the first of more calls

pub stops_on_after : (most : ℕ) (state after : State) (first rest : List ScriptCall) (old new : StageTrace)
    → MakesOn state first after old new → StopsOn most state (first ++ rest) after old new
stops_on_after most state after first rest old new =
    passes_as (λ m n w. MakesAllCalls state first m n w after)
    (λ m n w. StopsCalls most state (first ++ rest) m n w after) old new (stops_after most state after first rest)

pub refuses_on_within : (state after : State) (first rest : List ScriptCall) (old new : StageTrace)
    → RefusesOn state first after old new → RefusesOn state (first ++ rest) after old new
refuses_on_within state after first rest old new =
    passes_as (λ m n w. MakesCallsToRefusal state first m n w after)
    (λ m n w. MakesCallsToRefusal state (first ++ rest) m n w after) old new (refuses_within state after first rest)

pub stops_on_within : (most : ℕ) (state after : State) (first rest : List ScriptCall) (old new : StageTrace)
    → StopsOn most state first after old new → StopsOn most state (first ++ rest) after old new
stops_on_within most state after first rest old new =
    passes_as (λ m n w. StopsCalls most state first m n w after)
    (λ m n w. StopsCalls most state (first ++ rest) m n w after) old new (stops_within most state after first rest)

pub stops_on_none : (most : ℕ) (state : State) (calls : List ScriptCall) (old : StageTrace)
    → StopsOn most state calls state old old
stops_on_none most state calls old =
    passes_none (λ m n w. StopsCalls most state calls m n w state) old (stops_none most state calls)

pub makes_on_none : (state : State) (old : StageTrace) → MakesOn state [] state old old
makes_on_none state old = passes_none (λ m n w. MakesAllCalls state [] m n w state) old (makes_none state)

-- A refusal after a call that was granted: more than one was made.
pub refuses_on_second : (state mid after : State) (call : ScriptCall) (rest : List ScriptCall) (old on new : StageTrace)
    → MakesOn state (call ∷ []) mid old on → RefusesOn mid rest after on new
    → (r : RefusesOn state (call ∷ rest) after old new) × (length r.moments ≢ 1)
refuses_on_second state mid after call rest old on new p q = (
  record {
    moments = p.moments ++ q.moments;
    nonces = p.nonces ++ q.nonces;
    written = p.written ++ q.written;
    holds = refuses_append state mid after (call ∷ []) rest p.moments q.moments p.nonces q.nonces p.written q.written
        p.holds q.holds;
    output = Takes-append old.taken on.taken new.taken p.written q.written p.output q.output;
    clock = DrawsAll-more old.moments on.moments new.moments p.moments q.moments p.clock q.clock;
    numbers = DrawsAll-more old.nonces on.nonces new.nonces p.nonces q.nonces p.numbers q.numbers;
  },
  λ one.
      let both : length p.moments + length q.moments ≡ 1 = sym (length-append p.moments q.moments) ∙ one in
      let first : length p.moments ≡ 1 = p.holds.makes.moments_drawn ∙ p.holds.all in
      let second : 1 ≤ length q.moments = refused_drawn mid after rest q.moments q.nonces q.written q.holds in
      absurd (omega arith),
)
