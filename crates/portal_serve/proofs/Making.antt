-- Calls on devices: one that was begun, and the line that asks for one.
use Rattle.std.proofs.Common.{◌≡◌, ◌⊎◌, ℕ, ℤ, List, [], ◌∷◌, Some, Ok, subst, sym, ◌∙◌, inl, inr, take, length, refl}
use Rattle.portal_base.specs.Outside.{TakesPrefix}
use Rattle.portal_state.specs.State.{State}
use Rattle.portal_serve.proofs.Working.{begins_take, call_written, takes_no_prefix, processes_call, processes_lines}
use Rattle.portal_serve.specs.Calls.{BeginsCall, MakesCall}
use Rattle.portal_serve.specs.Played.{StopsLines, ProcessesLines}
use Rattle.portal_links.specs.Desk.{DrawsAll}
use Rattle.portal_serve.specs.Run.{Begins, StageTrace}
use Rattle.portal_serve.proofs.Fetching.{fetched_none}
use Rattle.portal_serve.specs.Rounds.{PoolTrace}
use Rattle.portal_serve.specs.Script.{ScriptCall, Call, parsed_line}
use Rattle.portal_serve.specs.Transcript.{outcome_of_call, reply_line}

-- ---- a call that was begun

-- output took some prefix of its line
pub begins_call : (state after : State) (call : ScriptCall) (size : ℕ) (m : ℤ) (n : ℕ) (text : List ℕ)
    (old new : StageTrace)
    → text ≡ reply_line (Some call.action) (outcome_of_call state call size m n).reply
    → (after ≡ state) ⊎ (after ≡ (outcome_of_call state call size m n).state)
    → DrawsAll old.moments (m ∷ []) new.moments → DrawsAll old.nonces (n ∷ []) new.nonces
    → TakesPrefix old.taken text new.taken → BeginsCall state call size after old new
begins_call state after call size m n text old new wrote left clock numbers part = record {
  moment = m;
  nonce = n;
  leaves = left;
  output = subst (λ t. TakesPrefix old.taken t new.taken) wrote part;
  clock = clock;
  numbers = numbers;
}

-- it stopped before it wrote
pub begins_call_unwritten : (state after : State) (call : ScriptCall) (size : ℕ) (m : ℤ) (n : ℕ) (old new : StageTrace)
    → (after ≡ state) ⊎ (after ≡ (outcome_of_call state call size m n).state)
    → DrawsAll old.moments (m ∷ []) new.moments → DrawsAll old.nonces (n ∷ []) new.nonces
    → new.taken ≡ old.taken → BeginsCall state call size after old new
begins_call_unwritten state after call size m n old new left clock numbers same = record {
  moment = m;
  nonce = n;
  leaves = left;
  output = subst (λ t. TakesPrefix old.taken (reply_line (Some call.action) (outcome_of_call state call size m n).reply)
      t)
      (sym same) (takes_no_prefix old.taken (reply_line (Some call.action)
      (outcome_of_call state call size m n).reply));
  clock = clock;
  numbers = numbers;
}

-- ---- the line that asks for a call

-- the call of a line was made
pub processes_made : {F : Type 0} (state after : State) (line : List ℕ) (call : ScriptCall) (status : ℕ)
    (old new : StageTrace) (pool : PoolTrace F)
    → parsed_line line ≡ Ok (Call call) → MakesCall state call (length line) status after old new
    → ProcessesLines state (line ∷ []) after old new pool pool
processes_made state after line call status old new pool is made =
    processes_lines state after (line ∷ []) (made.moment ∷ []) (made.nonce ∷ [])
    (reply_line (Some call.action) (outcome_of_call state call (length line) made.moment made.nonce).reply) old new pool
    (call_written pool.held state after line call made.moment made.nonce _ is refl made.leaves) made.clock made.numbers
    made.output

-- the state is as before, or the one that a call leaves
left_by_call : (state after left last : State) → last ≡ left → (after ≡ state) ⊎ (after ≡ left)
    → (after ≡ state) ⊎ (after ≡ last)
left_by_call state after left last is (inl kept) = inl kept
left_by_call state after left last is (inr made) = inr (made ∙ sym is)

-- the call of a line was begun
pub stops_begun : {F : Type 0} (state after : State) (line : List ℕ) (call : ScriptCall) (old new : StageTrace)
    (pool : PoolTrace F)
    → parsed_line line ≡ Ok (Call call) → BeginsCall state call (length line) after old new
    → StopsLines state (line ∷ []) after old new pool pool
stops_begun state after line call old new pool is begun =
    let m = begun.moment in
    let n = begun.nonce in
    let text = reply_line (Some call.action) (outcome_of_call state call (length line) m n).reply in
    let w = processes_call pool.held state line call m n is in
    inr (record {
      passed = record {
        written = take begun.output.0 text;
        moments = m ∷ [];
        nonces = n ∷ [];
        output = begun.output.2;
        clock = begun.clock;
        numbers = begun.numbers;
      };
      fetched = fetched_none pool;
      are_drawn = w.are_drawn;
      allowed = w.allowed;
      begins = subst (λ t. Begins (take begun.output.0 text) t) (sym w.output) (begins_take begun.output.0 text);
      leaves = left_by_call state after _ _ w.leaves begun.leaves;
    })
