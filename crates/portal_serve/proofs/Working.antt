-- Scripts processed line by line: what the lines so far wrote and left, and one line more.
use Rattle.std.proofs.Common.{◌≡◌, ℕ, ◌<◌, ◌≤◌, ℤ, List, [], ◌∷◌, ◌++◌, length, ◌==◌, ltb, cond, true}
use Rattle.std.proofs.Common.{false}
use Rattle.std.proofs.Common.{Option, Some, Result, Ok, Err, OnErr, refl, sym, ap, subst, ◌∙◌}
use Rattle.std.proofs.Common.{append-nil, take, drop, take-append-drop, inl, inr, arith}
use Rattle.std.proofs.lemmas.List.Elements.{All-append, All-nil}
use Rattle.portal_base.specs.Outside.{Holdings, Takes, TakesPrefix}
use Rattle.portal_base.proofs.OutsideLemmas.{Takes-none, Takes-append}
use Rattle.portal_serve.proofs.Drawing.{AllowsRounds-append, AreDrawn-append, drawn_more, is_left, script_state_after-append}
use Rattle.portal_serve.proofs.Drawing.{written_for-append}
use Rattle.portal_serve.proofs.Fetching.{fetched_none}
use Rattle.portal_serve.specs.Played.{Processes, StagePassed, ProcessesLines, BeginsLines, StopsLines, unless_empty}
use Rattle.action_api.specs.declared.early.Early.{Early}
use Rattle.action_api.specs.declared.early.Early.TheVariants.{TooLong}
use Rattle.portal_serve.specs.Rounds.{IsRoundOf, PoolTrace, RoundDone, round_line, with_harvest}
use Rattle.portal_serve.specs.Script.{ScriptCall, Call, Round, parsed_line}
use Rattle.portal_serve.specs.declared.script.TheConstants.{LONGEST_LINE}
use Rattle.std.proofs.lemmas.Bool.{lt-ltb}
use Rattle.std.proofs.lemmas.Bool.Decides.{nat_tests}
use Rattle.portal_state.specs.Harvest.{harvest_of}
use Rattle.portal_state.specs.State.{State}
use Rattle.portal_serve.specs.Transcript.{AllowsRound, AllowsRounds, AreDrawn, Drawn, ScriptState, asks_for_call, asks_for_round}
use Rattle.portal_serve.specs.Transcript.{drawn, turn_of, script_state, script_state_after, state_after, written_for}
use Rattle.portal_serve.specs.Transcript.{outcome_of_call, reply_line, early_line}
use Rattle.portal_links.proofs.Passing.{DrawsAll-more, DrawsAll-none}
use Rattle.portal_links.specs.Desk.{DrawsAll}
use Rattle.portal_serve.specs.Run.{Begins, IsWhole, StageTrace}
use Rattle.portal_serve.specs.Stopped.{end_of_call, begun_limit}
use Rattle.portal_serve.specs.declared.calls.CallStop.{CallStop}
use Rattle.portal_serve.specs.declared.calls.CallStop.TheVariants as call_stop
use Rattle.portal_serve.specs.declared.play.PlayEnd.{PlayEnd}

-- ---- lines that were processed, and more lines

-- no line writes nothing
pub processes_none : (held : Holdings) (s : State) → Processes held s [] (drawn [] [] []) [] s
processes_none held s = record {
  are_drawn = record { moments = refl; nonces = refl; rounds = refl };
  allowed = tt;
  ended = All-nil IsWhole;
  output = refl;
  leaves = refl;
}

-- what lines wrote, where more was drawn for more lines
pub processes_wrote : (held : Holdings) (s t : State) (ls : List (List ℕ)) (d later : Drawn) (written : List ℕ)
    → Processes held s ls d written t → written_for (script_state s (drawn_more d later)) ls ≡ written
processes_wrote held s t ls d later written w = (is_left ls s d later w.are_drawn).output ∙ w.output

-- the state of playing after them
pub processes_left : (held : Holdings) (s t : State) (ls : List (List ℕ)) (d later : Drawn) (written : List ℕ)
    → Processes held s ls d written t
    → script_state_after (script_state s (drawn_more d later)) ls ≡ script_state t later
processes_left held s t ls d later written w =
    (is_left ls s d later w.are_drawn).leaves ∙ ap (λ u. script_state u later) w.leaves

-- what they and more lines write
pub processes_then : (held : Holdings) (s t : State) (ls more : List (List ℕ)) (d later : Drawn) (written : List ℕ)
    → Processes held s ls d written t
    → written_for (script_state s (drawn_more d later)) (ls ++ more)
    ≡ written ++ written_for (script_state t later) more
processes_then held s t ls more d later written w =
    written_for-append (script_state s (drawn_more d later)) ls more
    ∙ ap (λ x. x ++ written_for (script_state_after (script_state s (drawn_more d later)) ls) more)
    (processes_wrote held s t ls d later written w)
    ∙ ap (λ (z : ScriptState). written ++ written_for z more) (processes_left held s t ls d later written w)

-- the rounds of both are allowed
pub processes_allow : (held : Holdings) (s t : State) (ls more : List (List ℕ)) (d later : Drawn) (written : List ℕ)
    → Processes held s ls d written t → AllowsRounds held (script_state t later) more
    → AllowsRounds held (script_state s (drawn_more d later)) (ls ++ more)
processes_allow held s t ls more d later written w allowed =
    AllowsRounds-append held (script_state s (drawn_more d later)) ls more
    ((is_left ls s d later w.are_drawn).allows held w.allowed)
    (subst (λ (z : ScriptState). AllowsRounds held z more) (sym (processes_left held s t ls d later written w)) allowed)

-- one script after another
pub processes_more : (held : Holdings) (s t u : State) (ls more : List (List ℕ)) (d later : Drawn)
    (out more_out : List ℕ)
    → Processes held s ls d out t → Processes held t more later more_out u
    → Processes held s (ls ++ more) (drawn_more d later) (out ++ more_out) u
processes_more held s t u ls more d later out more_out first second = record {
  are_drawn = AreDrawn-append ls more d later first.are_drawn second.are_drawn;
  allowed = processes_allow held s t ls more d later out first second.allowed;
  ended = All-append IsWhole d.rounds later.rounds first.ended second.ended;
  output = processes_then held s t ls more d later out first ∙ ap (λ w. out ++ w) second.output;
  leaves =
      ap (λ (z : ScriptState). z.state) (script_state_after-append (script_state s (drawn_more d later)) ls more)
      ∙ ap (λ (z : ScriptState). (script_state_after z more).state) (processes_left held s t ls d later out first)
      ∙ second.leaves;
}

-- ---- one line

-- a line that asks for nothing
pub processes_early : (held : Holdings) (state : State) (line : List ℕ) (early : Early) → parsed_line line ≡ Err early
    → Processes held state (line ∷ []) (drawn [] [] []) (early_line early) state
processes_early held state line early is = record {
  are_drawn = record {
    moments = sym (ap (λ o. length (cond (asks_for_call o) (line ∷ []) [])) is);
    nonces = sym (ap (λ o. length (cond (asks_for_call o) (line ∷ []) [])) is);
    rounds = sym (ap (λ o. length (cond (asks_for_round o) (line ∷ []) [])) is);
  };
  allowed = (subst (λ o. AllowsRound held state o []) (sym is) tt, tt);
  ended = All-nil IsWhole;
  output = ap (λ o. (turn_of (script_state state (drawn [] [] [])) o (length line)).written ++ []) is
      ∙ append-nil (early_line early);
  leaves = ap (λ o. (turn_of (script_state state (drawn [] [] [])) o (length line)).after.state) is;
}

-- a line that asks for a call
pub processes_call : (held : Holdings) (state : State) (line : List ℕ) (call : ScriptCall) (m : ℤ) (n : ℕ)
    → parsed_line line ≡ Ok (Call call)
    → Processes held state (line ∷ []) (drawn (m ∷ []) (n ∷ []) [])
    (reply_line (Some call.action) (outcome_of_call state call (length line) m n).reply)
    (outcome_of_call state call (length line) m n).state
processes_call held state line call m n is = record {
  are_drawn = record {
    moments = sym (ap (λ o. length (cond (asks_for_call o) (line ∷ []) [])) is);
    nonces = sym (ap (λ o. length (cond (asks_for_call o) (line ∷ []) [])) is);
    rounds = sym (ap (λ o. length (cond (asks_for_round o) (line ∷ []) [])) is);
  };
  allowed = (subst (λ o. AllowsRound held state o []) (sym is) tt, tt);
  ended = All-nil IsWhole;
  output = ap (λ o. (turn_of (script_state state (drawn (m ∷ []) (n ∷ []) [])) o (length line)).written ++ []) is
      ∙ append-nil _;
  leaves = ap (λ o. (turn_of (script_state state (drawn (m ∷ []) (n ∷ []) [])) o (length line)).after.state) is;
}

-- What a line that asks for a round draws, writes and leaves.
pub record PlaysRound (held : Holdings) (state : State) (line : List ℕ) (d : RoundDone) : Type 0 where
  pub are_drawn : AreDrawn (line ∷ []) (drawn [] [] (d ∷ []))
  pub allowed : AllowsRounds held (script_state state (drawn [] [] (d ∷ []))) (line ∷ [])
  pub output : written_for (script_state state (drawn [] [] (d ∷ []))) (line ∷ []) ≡ round_line d
  pub leaves : state_after (script_state state (drawn [] [] (d ∷ []))) (line ∷ []) ≡ with_harvest d.left state

pub plays_round : (held : Holdings) (state : State) (line : List ℕ) (workers : ℕ) (d : RoundDone)
    → parsed_line line ≡ Ok (Round workers) → IsRoundOf held (harvest_of state) d → PlaysRound held state line d
plays_round held state line workers d is allowed = record {
  are_drawn = record {
    moments = sym (ap (λ o. length (cond (asks_for_call o) (line ∷ []) [])) is);
    nonces = sym (ap (λ o. length (cond (asks_for_call o) (line ∷ []) [])) is);
    rounds = sym (ap (λ o. length (cond (asks_for_round o) (line ∷ []) [])) is);
  };
  allowed = (subst (λ o. AllowsRound held state o (d ∷ [])) (sym is) allowed, tt);
  output = ap (λ o. (turn_of (script_state state (drawn [] [] (d ∷ []))) o (length line)).written ++ []) is
      ∙ append-nil (round_line d);
  leaves = ap (λ o. (turn_of (script_state state (drawn [] [] (d ∷ []))) o (length line)).after.state) is;
}

pub begins_nothing : (whole : List ℕ) → Begins [] whole
begins_nothing whole = (whole, refl)

-- what was taken from the front of a piece is a prefix of it
pub begins_take : (count : ℕ) (piece : List ℕ) → Begins (take count piece) piece
begins_take count piece = (drop count piece, take-append-drop count piece)

-- what the call of a line writes and leaves
pub call_written : (held : Holdings) (state after : State) (line : List ℕ) (call : ScriptCall) (m : ℤ) (n : ℕ)
    (text : List ℕ)
    → parsed_line line ≡ Ok (Call call)
    → text ≡ reply_line (Some call.action) (outcome_of_call state call (length line) m n).reply
    → after ≡ (outcome_of_call state call (length line) m n).state
    → Processes held state (line ∷ []) (drawn (m ∷ []) (n ∷ []) []) text after
call_written held state after line call m n text is wrote left =
    rw (wrote, left) (processes_call held state line call m n is)

-- ---- the lines of a part of a run

-- the lines were processed, and no round was made
pub processes_lines : {F : Type 0} (state after : State) (script : List (List ℕ)) (ms : List ℤ) (ns text : List ℕ)
    (old new : StageTrace) (pool : PoolTrace F)
    → Processes pool.held state script (drawn ms ns []) text after → DrawsAll old.moments ms new.moments
    → DrawsAll old.nonces ns new.nonces → Takes old.taken text new.taken
    → ProcessesLines state script after old new pool pool
processes_lines state after script ms ns text old new pool w clock numbers takes = record {
  passed = record {
    written = text;
    moments = ms;
    nonces = ns;
    output = takes;
    clock = clock;
    numbers = numbers;
  };
  fetched = fetched_none pool;
  processes = w;
}

-- processing stopped while it wrote, and no round was made
pub stops_in_writing : {F : Type 0} (state after : State) (script : List (List ℕ)) (ms : List ℤ) (ns text : List ℕ)
    (old new : StageTrace) (pool : PoolTrace F)
    → Processes pool.held state script (drawn ms ns []) text after → DrawsAll old.moments ms new.moments
    → DrawsAll old.nonces ns new.nonces → TakesPrefix old.taken text new.taken
    → StopsLines state script after old new pool pool
stops_in_writing state after script ms ns text old new pool w clock numbers part = inr (record {
  passed = record {
    written = take part.0 text;
    moments = ms;
    nonces = ns;
    output = part.2;
    clock = clock;
    numbers = numbers;
  };
  fetched = fetched_none pool;
  are_drawn = w.are_drawn;
  allowed = w.allowed;
  begins = subst (λ t. Begins (take part.0 text) t) (sym w.output) (begins_take part.0 text);
  leaves = inr (sym w.leaves);
})

-- nothing passed
abbrev pub passed_none : (trace : StageTrace) → StagePassed trace trace
passed_none trace = record {
  written = [];
  moments = [];
  nonces = [];
  output = Takes-none trace.taken;
  clock = DrawsAll-none trace.moments;
  numbers = DrawsAll-none trace.nonces;
}

-- what passed first, and what passed then
abbrev pub passed_more : (a b c : StageTrace) → StagePassed a b → StagePassed b c → StagePassed a c
passed_more a b c first second = record {
  written = first.written ++ second.written;
  moments = first.moments ++ second.moments;
  nonces = first.nonces ++ second.nonces;
  output = Takes-append a.taken b.taken c.taken first.written second.written first.output second.output;
  clock = DrawsAll-more a.moments b.moments c.moments first.moments second.moments first.clock second.clock;
  numbers = DrawsAll-more a.nonces b.nonces c.nonces first.nonces second.nonces first.numbers second.numbers;
}

-- nothing was begun
pub begins_no_line : {F : Type 0} (state : State) (old new : StageTrace) (pool : PoolTrace F) → new ≡ old
    → BeginsLines state [] state old new pool pool
begins_no_line state old new pool same = subst (λ o. BeginsLines state [] state old o pool pool) (sym same) (record {
  passed = passed_none old;
  fetched = fetched_none pool;
  are_drawn = record { moments = refl; nonces = refl; rounds = refl };
  allowed = tt;
  begins = begins_nothing [];
  leaves = inl refl;
})

-- processing stopped before the lines were begun
pub stops_before : {F : Type 0} (state : State) (script : List (List ℕ)) (old : StageTrace) (pool : PoolTrace F)
    → StopsLines state script state old old pool pool
stops_before state script old pool = inl (begins_no_line state old old pool refl)

-- processing a line stops after the line was begun
pub begun_in_line : (why : CallStop) (end : PlayEnd) → end ≡ end_of_call why → 1 ≤ begun_limit end
begun_in_line call_stop.WriteFault end is = subst (λ e. 1 ≤ begun_limit e) (sym is) (omega arith)
begun_in_line call_stop.KeeperFault end is = subst (λ e. 1 ≤ begun_limit e) (sym is) (omega arith)
begun_in_line call_stop.OutOfMemory end is = subst (λ e. 1 ≤ begun_limit e) (sym is) (omega arith)

pub on_err_always : {T E P : Type 0} (r : Result T E) → P → OnErr r P
on_err_always (Ok x) p = tt
on_err_always (Err e) p = p

-- ---- lines that are empty or too long

-- an empty line is left out
pub unless_empty-nil : (line : List ℕ) → (length line == 0) ≡ true → unless_empty line ≡ []
unless_empty-nil line e =
    let none : ltb 0 (length line) ≡ false = grind (arith, nat_tests) in
    ap (λ b. cond b (line ∷ []) []) none

-- a line with a byte isn't
unless_empty-more : (line : List ℕ) → 0 < length line → unless_empty line ≡ line ∷ []
unless_empty-more line some = ap (λ b. cond b (line ∷ []) []) (lt-ltb 0 (length line) some)

-- a line that isn't empty is one of the script
unless_empty-some : (line : List ℕ) → (length line == 0) ≡ false → unless_empty line ≡ line ∷ []
unless_empty-some line some =
    let more : 0 < length line = grind (arith, nat_tests) in unless_empty-more line more

pub processes_standing : {F : Type 0} (state after : State) (line : List ℕ) (old new : StageTrace)
    (pool pool_after : PoolTrace F)
    → (length line == 0) ≡ false → ProcessesLines state (line ∷ []) after old new pool pool_after
    → ProcessesLines state (unless_empty line) after old new pool pool_after
processes_standing state after line old new pool pool_after some w =
    subst (λ ls. ProcessesLines state ls after old new pool pool_after) (sym (unless_empty-some line some)) w

pub stops_standing : {F : Type 0} (state after : State) (line : List ℕ) (old new : StageTrace)
    (pool pool_after : PoolTrace F)
    → (length line == 0) ≡ false → StopsLines state (line ∷ []) after old new pool pool_after
    → StopsLines state (unless_empty line) after old new pool pool_after
stops_standing state after line old new pool pool_after some s =
    subst (λ ls. StopsLines state ls after old new pool pool_after) (sym (unless_empty-some line some)) s

-- a line that isn't empty, and asks for nothing
pub processes_early_line : (held : Holdings) (state : State) (line : List ℕ) (early : Early)
    → (length line == 0) ≡ false → parsed_line line ≡ Err early
    → Processes held state (unless_empty line) (drawn [] [] []) (early_line early) state
processes_early_line held state line early some is =
    subst (λ ls. Processes held state ls (drawn [] [] []) (early_line early) state) (sym (unless_empty-some line some))
    (processes_early held state line early is)

-- Nothing is processed where there is no line.
pub processes_no_line : {F : Type 0} (state : State) (script : List (List ℕ)) (old : StageTrace) (pool : PoolTrace F)
    → script ≡ [] → ProcessesLines state script state old old pool pool
processes_no_line state script old pool none =
    subst (λ ls. ProcessesLines state ls state old old pool pool) (sym none)
    (record { passed = passed_none old; fetched = fetched_none pool; processes = processes_none pool.held state })

-- a line that is too long asks for nothing
pub processes_too_long : (held : Holdings) (state : State) (line : List ℕ) → LONGEST_LINE < length line
    → Processes held state (unless_empty line) (drawn [] [] []) (early_line TooLong) state
processes_too_long held state line long =
    let is : parsed_line line ≡ Err TooLong = rw (lt-ltb LONGEST_LINE (length line) long) refl in
    subst (λ ls. Processes held state ls (drawn [] [] []) (early_line TooLong) state)
    (sym (unless_empty-more line (omega arith)))
    (processes_early held state line TooLong is)

-- the prefix of a piece that was taken, where nothing was
pub takes_no_prefix : (taken : Option (List ℕ)) (piece : List ℕ) → TakesPrefix taken piece taken
takes_no_prefix taken piece = (0, omega arith, Takes-none taken)

-- the same line under another name
pub stops_same_line : {F : Type 0} (state after : State) (l m : List ℕ) (old new : StageTrace)
    (pool pool_after : PoolTrace F) → l ≡ m → StopsLines state (unless_empty l) after old new pool pool_after
    → StopsLines state (unless_empty m) after old new pool pool_after
stops_same_line state after l m old new pool pool_after e s =
    subst (λ x. StopsLines state (unless_empty x) after old new pool pool_after) e s
