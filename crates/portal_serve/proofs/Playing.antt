-- A run on an observable input: how each turn carries it on, and what holds at its end.
use Rattle.std.proofs.Common.{◌≡◌, ◌⊎◌, ℕ, ◌+◌, ◌≤◌, List, [], ◌∷◌, ◌++◌, All, Bool, true, false, cond, length, filter, Some}
use Rattle.std.proofs.Common.{refl, sym, ap, subst, ◌∙◌, append_assoc, append-nil, length-append, inl, inr, arith}
use Rattle.std.proofs.lemmas.List.Elements.{filter-append}
use Rattle.std.specs.Str.Lines.{lines}
use Rattle.portal_base.specs.Outside.{Gives, Holdings, IsAtEnd}
use Rattle.portal_lines.specs.PartialLines.{HasNoFeed}
use Rattle.portal_lines.specs.Lines.{ReaderState, TakesLine}
use Rattle.portal_lines.specs.declared.lines.LineFault.{LineFault}
use Rattle.portal_lines.specs.declared.lines.LineFault.TheVariants as line_fault
use Rattle.portal_serve.proofs.Drawing.{AreDrawn-append, drawn_more, rounds_of-append, script_state_after-append}
use Rattle.portal_serve.proofs.Fetching.{fetched_more, fetched_none}
use Rattle.portal_serve.proofs.Fronts.{Advances, Gave, advances, ended_lines, gave, line_ends}
use Rattle.portal_serve.proofs.Working.{processes_none, processes_more, processes_wrote, processes_then, processes_left}
use Rattle.portal_serve.proofs.Working.{passed_none, passed_more, processes_allow}
use Rattle.portal_serve.specs.Played.{Processes, BeginsLines, StagePassed, StopsLines, TakesTurn, EndsTurn, StopsTurn}
use Rattle.portal_serve.specs.Played.{EndsAll, FailsTurn, Running, unless_empty}
use Rattle.portal_serve.specs.Rounds.{PoolTrace, RoundsPassed}
use Rattle.portal_serve.specs.Script.{script_lines, is_nonempty}
use Rattle.portal_state.specs.State.{State}
use Rattle.portal_serve.specs.Transcript.{AllowsRounds, AreDrawn, Drawn, ScriptState, drawn, script_state, state_after}
use Rattle.portal_serve.specs.Transcript.{written_for}
use Rattle.portal_links.specs.Desk.{DrawsAll}
use Rattle.portal_serve.specs.Run.{Begins, DeviceTrace, IsWhole, StageTrace, stage_trace_of, Stops}
use Rattle.portal_serve.specs.Run.{PlaysAll, PlaysPart, PlaysRead, input_limit}
use Rattle.portal_serve.specs.Stopped.{end_of_fault}
use Rattle.portal_serve.specs.declared.play.PlayEnd.{PlayEnd}
use Rattle.portal_serve.specs.declared.play.PlayEnd.TheVariants as playing

-- ---- a turn that stopped

unless_empty-few : (line : List ℕ) → length (unless_empty line) ≤ 1
unless_empty-few line = by (is_nonempty line)
  where
    by : (b : Bool) → length (cond b (line ∷ []) []) ≤ 1
    by true = omega arith
    by false = omega arith

-- no line was begun
pub stops_between : {F : Type 0} (limit : ℕ) (state after : State) (before reading : ReaderState) (old new : DeviceTrace)
    (pool pool_after : PoolTrace F) (bytes : List ℕ)
    → Gives old.to_come bytes new.to_come → reading.received ≡ before.received + length bytes
    → BeginsLines state [] after (stage_trace_of old) (stage_trace_of new) pool pool_after
    → StopsTurn limit state after before reading old new pool pool_after
stops_between limit state after before reading old new pool pool_after bytes gives counts begun = record {
  bytes = bytes;
  gives = gives;
  counts = counts;
  front = [];
  remaining = before.buffered ++ bytes;
  splits = refl;
  ended = inl (λ more. refl);
  few = omega arith;
  begun = begun;
}

-- input failed before a line had ended
pub fails_between : {F : Type 0} (state after : State) (before reading : ReaderState) (old new : DeviceTrace)
    (pool pool_after : PoolTrace F) (bytes : List ℕ)
    → Gives old.to_come bytes new.to_come → reading.received ≡ before.received + length bytes
    → HasNoFeed (before.buffered ++ bytes)
    → BeginsLines state [] after (stage_trace_of old) (stage_trace_of new) pool pool_after
    → FailsTurn state after before reading old new pool pool_after
unfolding stops_between
fails_between state after before reading old new pool pool_after bytes gives counts unended begun = record {
  stops = stops_between 0 state after before reading old new pool pool_after bytes gives counts begun;
  unended = unended;
}

-- playing ended by a read fault, since the reader of lines failed
pub read_failed : (fault : LineFault) (end : PlayEnd) → (fault ≡ line_fault.EarlierFault → ⊥) → end ≡ end_of_fault fault
    → Some end ≡ Some playing.ReadFault → fault ≡ line_fault.Failed
read_failed line_fault.Failed end first is ended = refl
read_failed line_fault.TooMuch end first is ended = absurd (cc)
read_failed line_fault.OutOfMemory end first is ended = absurd (cc)
read_failed line_fault.EarlierFault end first is ended = absurd (first refl)

-- processing a line stopped, and with it the turn
pub stops_turn : {F : Type 0} (limit : ℕ) (state after : State) (before reading : ReaderState) (old new : DeviceTrace)
    (pool pool_after : PoolTrace F) (line : List ℕ) (t : TakesLine before old.to_come line reading new.to_come)
    → 1 ≤ limit
    → StopsLines state (unless_empty line) after (stage_trace_of old) (stage_trace_of new) pool pool_after
    → StopsTurn limit state after before reading old new pool pool_after
stops_turn limit state after before reading old new pool pool_after line t one (inl none) =
    stops_between limit state after before reading old new pool pool_after t.bytes t.gives t.counts none
stops_turn limit state after before reading old new pool pool_after line t one (inr begun) =
    let is : script_lines t.front ≡ unless_empty line = ap (filter is_nonempty) t.only in
    record {
      bytes = t.bytes;
      gives = t.gives;
      counts = t.counts;
      front = t.front;
      remaining = reading.buffered;
      splits = t.splits;
      ended = line_ends t.front line reading.buffered new.to_come t.only t.ended;
      few = omega (arith, ap length is, unless_empty-few line, one);
      begun = subst (λ ls. BeginsLines state ls after (stage_trace_of old) (stage_trace_of new) pool pool_after) (sym is)
          begun;
    }

-- ---- the run so far

abbrev pub drawn_of : {F : Type 0} {old new : StageTrace} {pool pool_after : PoolTrace F} → StagePassed old new
    → RoundsPassed pool pool_after → Drawn
drawn_of passed fetched = drawn passed.moments passed.nonces fetched.rounds

-- before the first line
pub running_start : {F : Type 0} (first : State) (whole : List ℕ) (old : DeviceTrace) (pool : PoolTrace F)
    (reading : ReaderState)
    → old.to_come ≡ Some whole → reading.buffered ≡ [] → reading.received ≡ 0
    → Running first whole old old pool pool first reading
running_start first whole old pool reading observed buffered received = record {
  front = [];
  rest = whole;
  passed = passed_none (stage_trace_of old);
  fetched = fetched_none pool;
  input = observed;
  splits = sym (ap (λ h. h ++ whole) buffered);
  received = omega (arith, received);
  ended = inl (λ more. refl);
  processes = processes_none pool.held first;
}

-- one turn more
pub running_turn : {F : Type 0} (first : State) (whole : List ℕ) (old mid new : DeviceTrace)
    (pool pool_mid pool_after : PoolTrace F) (state after : State) (before reading : ReaderState)
    → Running first whole old mid pool pool_mid state before
    → TakesTurn state after before reading mid new pool_mid pool_after
    → Running first whole old new pool pool_after after reading
running_turn first whole old mid new pool pool_mid pool_after state after before reading r t =
    let g : Gave r.rest t.takes.bytes new.to_come =
    gave r.rest t.takes.bytes mid.to_come new.to_come r.input t.takes.gives in
    let a : Advances whole r.front t.takes.front (reading.buffered ++ g.more) =
    advances whole r.front before.buffered r.rest t.takes.bytes g.more t.takes.front reading.buffered new.to_come
    r.splits
    r.ended g.splits t.takes.splits g.observed
    (line_ends t.takes.front t.line reading.buffered new.to_come t.takes.only t.takes.ended) in
    let script : script_lines (r.front ++ t.takes.front) ≡ script_lines r.front ++ unless_empty t.line =
    a.both ∙ ap (λ ls. script_lines r.front ++ filter is_nonempty ls) t.takes.only in
    let total : length r.rest ≡ length t.takes.bytes + length g.more =
    ap length g.splits ∙ length-append t.takes.bytes g.more in
    let p = t.processes.passed in
    let f = t.processes.fetched in
    record {
      front = r.front ++ t.takes.front;
      rest = g.more;
      passed = passed_more (stage_trace_of old) (stage_trace_of mid) (stage_trace_of new) r.passed p;
      fetched = fetched_more pool pool_mid pool_after r.fetched f;
      input = g.observed;
      splits = a.splits;
      received = omega (arith, total, t.takes.counts, r.received);
      ended = a.ended;
      processes = subst
          (λ ls. Processes pool.held first ls
          (drawn_more (drawn_of r.passed r.fetched) (drawn_of p f)) (r.passed.written ++ p.written) after) (sym script)
          (processes_more pool.held first state after (script_lines r.front) (unless_empty t.line)
          (drawn_of r.passed r.fetched) (drawn_of p f) r.passed.written p.written r.processes
          (subst (λ held. Processes held state (unless_empty t.line) (drawn_of p f) p.written after)
          r.fetched.documents t.processes.processes));
    }

-- ---- the end of a run

Begins-after : (front part whole : List ℕ) → Begins part whole → Begins (front ++ part) (front ++ whole)
Begins-after front part whole b = (b.0, append_assoc front part b.0 ∙ ap (λ x. front ++ x) b.1)

-- lines that were processed, and lines that were begun
stops_after : (limit : ℕ) (held : Holdings) (first state after : State) (script begun : List (List ℕ)) (d later : Drawn)
    (written part : List ℕ)
    → Processes held first script d written state → length begun ≤ limit → AreDrawn begun later
    → AllowsRounds held (script_state state later) begun → Begins part (written_for (script_state state later) begun)
    → (after ≡ state) ⊎ (after ≡ state_after (script_state state later) begun)
    → Stops limit held first (script ++ begun) (drawn_more d later) (written ++ part) after
stops_after limit held first state after script begun d later written part processes few are allowed begins leaves =
    record {
      processed = script;
      begun = begun;
      splits = refl;
      few = few;
      are_drawn = AreDrawn-append script begun d later processes.are_drawn are;
      allowed = processes_allow held first state script begun d later written processes allowed;
      ended = subst (All IsWhole) (sym (rounds_of-append script d later processes.are_drawn)) processes.ended;
      holds = (part, ap (λ w. w ++ part) (processes_wrote held first state script d later written processes));
      begins = subst (λ w. Begins (written ++ part) w)
          (sym (processes_then held first state script begun d later written processes))
          (Begins-after written part _ begins);
      leaves = leaves_both leaves;
    }
  where
    left : state_after (script_state first (drawn_more d later)) script ≡ state
    left = ap (λ (z : ScriptState). z.state) (processes_left held first state script d later written processes)

    left_all : state_after (script_state first (drawn_more d later)) (script ++ begun)
        ≡ state_after (script_state state later) begun
    left_all = ap (λ (z : ScriptState). z.state)
        (script_state_after-append (script_state first (drawn_more d later)) script begun)
        ∙ ap (λ (z : ScriptState). state_after z begun)
        (processes_left held first state script d later written processes)

    leaves_both : (after ≡ state) ⊎ (after ≡ state_after (script_state state later) begun)
        → (after ≡ state_after (script_state first (drawn_more d later)) script)
        ⊎ (after ≡ state_after (script_state first (drawn_more d later)) (script ++ begun))
    leaves_both (inl kept) = inl (kept ∙ sym left)
    leaves_both (inr made) = inr (made ∙ sym left_all)

-- the lines of the whole, where a front ends so
whole_lines : (whole front after : List ℕ) → whole ≡ front ++ after → EndsAll front ⊎ (after ≡ [])
    → script_lines whole ≡ script_lines front ++ script_lines after
whole_lines whole front after is ended =
    let alone : after ++ [] ≡ after = append-nil after in
    ap script_lines is
    ∙ ap (filter is_nonempty) (ended_lines front after [] (subst (λ x. EndsAll front ⊎ (x ≡ [])) (sym alone) ended))
    ∙ filter-append is_nonempty (lines front) (lines after)

-- A turn stopped, and with it the run.
pub plays_part : {F : Type 0} (limit : ℕ) (first : State) (whole : List ℕ) (old mid new : DeviceTrace)
    (pool pool_mid pool_after : PoolTrace F) (state after : State) (before reading : ReaderState)
    → Running first whole old mid pool pool_mid state before
    → StopsTurn limit state after before reading mid new pool_mid pool_after
    → PlaysPart limit first whole after old new pool pool_after
plays_part limit first whole old mid new pool pool_mid pool_after state after before reading r t =
    let g : Gave r.rest t.bytes new.to_come = gave r.rest t.bytes mid.to_come new.to_come r.input t.gives in
    let a : Advances whole r.front t.front (t.remaining ++ g.more) =
    advances whole r.front before.buffered r.rest t.bytes g.more t.front t.remaining new.to_come r.splits r.ended
    g.splits
    t.splits g.observed t.ended in
    let p = t.begun.passed in
    let f = t.begun.fetched in
    let both = passed_more (stage_trace_of old) (stage_trace_of mid) (stage_trace_of new) r.passed p in
    record {
      passed = record {
        read = (r.front ++ t.front) ++ t.remaining;
        rest = g.more;
        written = r.passed.written ++ p.written;
        moments = r.passed.moments ++ p.moments;
        nonces = r.passed.nonces ++ p.nonces;
        input = g.observed;
        splits = a.splits ∙ sym (append_assoc (r.front ++ t.front) t.remaining g.more);
        output = both.output;
        clock = both.clock;
        numbers = both.numbers;
      };
      fetched = fetched_more pool pool_mid pool_after r.fetched f;
      front = r.front ++ t.front;
      remaining = t.remaining;
      splits = refl;
      first_lines = whole_lines whole (r.front ++ t.front) (t.remaining ++ g.more) a.splits a.ended;
      stops =
          subst (λ ls. Stops limit pool.held first ls (drawn_more (drawn_of r.passed r.fetched) (drawn_of p f))
          (r.passed.written ++ p.written) after) (sym a.both)
          (stops_after limit pool.held first state after (script_lines r.front) (script_lines t.front)
          (drawn_of r.passed r.fetched) (drawn_of p f) r.passed.written p.written r.processes t.few t.begun.are_drawn
          (subst (λ held. AllowsRounds held (script_state state (drawn_of p f)) (script_lines t.front))
          r.fetched.documents t.begun.allowed)
          t.begun.begins t.begun.leaves);
    }

-- Input failed in a turn, and the run stopped.
pub plays_read : {F : Type 0} (first : State) (whole : List ℕ) (old mid new : DeviceTrace)
    (pool pool_mid pool_after : PoolTrace F) (state after : State) (before reading : ReaderState)
    → Running first whole old mid pool pool_mid state before
    → FailsTurn state after before reading mid new pool_mid pool_after
    → PlaysRead first whole after old new pool pool_after
unfolding plays_part
plays_read first whole old mid new pool pool_mid pool_after state after before reading r t = record {
  part = plays_part 0 first whole old mid new pool pool_mid pool_after state after before reading r t.stops;
  unended = t.unended;
}

-- No line was left, and the run is at its end.
pub plays_all : {F : Type 0} (first : State) (whole : List ℕ) (old mid new : DeviceTrace)
    (pool pool_mid pool_after : PoolTrace F) (state after : State) (before reading : ReaderState)
    → Running first whole old mid pool pool_mid state before
    → EndsTurn state after before reading mid new pool_mid pool_after
    → reading.received ≤ input_limit → PlaysAll first whole after old new pool pool_after
plays_all first whole old mid new pool pool_mid pool_after state after before reading r t few =
    let over : r.rest ≡ [] = subst IsAtEnd r.input t.finds.at_end in
    let none : before.buffered ++ r.rest ≡ [] = ap (λ h. h ++ r.rest) t.finds.held_before ∙ over in
    let all : whole ≡ r.front = r.splits ∙ ap (λ x. r.front ++ x) none ∙ append-nil r.front in
    let empty : length r.rest ≡ 0 = ap length over in
    let d : Drawn = drawn_of r.passed r.fetched in
    subst (λ p. PlaysAll first whole after old new pool p) (sym t.same_pool) (record {
      passed = record {
        read = whole;
        rest = [];
        written = r.passed.written;
        moments = r.passed.moments;
        nonces = r.passed.nonces;
        input = t.finds.observed_same ∙ r.input ∙ ap Some over;
        splits = sym (append-nil whole);
        output = ap (λ (o : StageTrace). o.taken) t.same_trace ∙ r.passed.output;
        clock = subst (λ o. DrawsAll old.moments r.passed.moments o)
            (sym (ap (λ (o : StageTrace). o.moments) t.same_trace)) r.passed.clock;
        numbers = subst (λ o. DrawsAll old.nonces r.passed.nonces o)
            (sym (ap (λ (o : StageTrace). o.nonces) t.same_trace)) r.passed.numbers;
      };
      fetched = r.fetched;
      at_end = refl;
      small = omega (arith, r.received, empty, t.finds.received, few);
      are_drawn = subst (λ b. AreDrawn (script_lines b) d) (sym all) r.processes.are_drawn;
      allowed = subst (λ b. AllowsRounds pool.held (script_state first d) (script_lines b)) (sym all)
          r.processes.allowed;
      ended = r.processes.ended;
      transcript = sym (ap (λ b. written_for (script_state first d) (script_lines b)) all ∙ r.processes.output);
      leaves = t.same_state
          ∙ sym (ap (λ b. state_after (script_state first d) (script_lines b)) all ∙ r.processes.leaves);
    })
