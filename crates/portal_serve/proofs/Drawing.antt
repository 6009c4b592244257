-- What lines draw: that more was drawn for later lines changes nothing of what they write, leave and allow.
use Rattle.std.proofs.Common.{◌≡◌, ℕ, zero, suc, ◌+◌, ℤ, List, [], ◌∷◌, ◌++◌, Bool, length, cond, filter, take, Result, Ok, Err}
use Rattle.std.proofs.Common.{Some, refl, sym, ap, ◌∙◌, append_assoc, length-append, arith}
use Rattle.std.proofs.lemmas.List.Elements.{filter-append}
use Rattle.portal_base.specs.Outside.{Holdings}
use Rattle.action_api.specs.declared.early.Early.{Early}
use Rattle.portal_state.specs.State.{State}
use Rattle.portal_serve.specs.RequestOutcome.{RequestOutcome}
use Rattle.portal_serve.specs.Rounds.{RoundDone, round_line, with_harvest}
use Rattle.portal_serve.specs.Run.{rounds_of}
use Rattle.portal_serve.specs.Script.{ScriptLine, Call, Round, parsed_line}
use Rattle.portal_serve.specs.Transcript.{AllowsRound, AllowsRounds, AreDrawn, Drawn, ScriptState, asks_for_call, asks_for_round}
use Rattle.portal_serve.specs.Transcript.{drawn, early_line, is_call_line, is_round_line, outcome_of_call, reply_line}
use Rattle.portal_serve.specs.Transcript.{script_state, script_state_after, turn, turn_of, written_for}

-- ---- lines after lines

pub written_for-append : (s : ScriptState) (ls more : List (List ℕ))
    → written_for s (ls ++ more) ≡ written_for s ls ++ written_for (script_state_after s ls) more
written_for-append s [] more = refl
written_for-append s (l ∷ ls) more = ap (λ w. (turn s l).written ++ w) (written_for-append (turn s l).after ls more)
    ∙ sym (append_assoc (turn s l).written _ _)

pub script_state_after-append : (s : ScriptState) (ls more : List (List ℕ))
    → script_state_after s (ls ++ more) ≡ script_state_after (script_state_after s ls) more
script_state_after-append s [] more = refl
script_state_after-append s (l ∷ ls) more = script_state_after-append (turn s l).after ls more

pub AllowsRounds-append : (held : Holdings) (s : ScriptState) (ls more : List (List ℕ)) → AllowsRounds held s ls
    → AllowsRounds held (script_state_after s ls) more → AllowsRounds held s (ls ++ more)
AllowsRounds-append held s [] more first second = second
AllowsRounds-append held s (l ∷ ls) more first second =
    (first.0, AllowsRounds-append held (turn s l).after ls more first.1 second)

-- ---- what was drawn, and what was drawn later

-- what was drawn first, and then
abbrev pub drawn_more : Drawn → Drawn → Drawn
drawn_more d later =
    drawn (d.moments ++ later.moments) (d.nonces ++ later.nonces) (d.rounds ++ later.rounds)

counted-append : {X : Type 0} (test : List ℕ → Bool) (ls more : List (List ℕ)) (xs ys : List X)
    → length xs ≡ length (filter test ls) → length ys ≡ length (filter test more)
    → length (xs ++ ys) ≡ length (filter test (ls ++ more))
counted-append test ls more xs ys first second =
    let front : length (xs ++ ys) ≡ length xs + length ys = length-append xs ys in
    let lines : length (filter test (ls ++ more)) ≡ length (filter test ls) + length (filter test more) =
    ap length (filter-append test ls more) ∙ length-append (filter test ls) (filter test more) in
    omega (arith, front, lines, first, second)

pub AreDrawn-append : (ls more : List (List ℕ)) (d later : Drawn) → AreDrawn ls d → AreDrawn more later
    → AreDrawn (ls ++ more) (drawn_more d later)
AreDrawn-append ls more d later first second = record {
  moments = counted-append is_call_line ls more d.moments later.moments first.moments second.moments;
  nonces = counted-append is_call_line ls more d.nonces later.nonces first.nonces second.nonces;
  rounds = counted-append is_round_line ls more d.rounds later.rounds first.rounds second.rounds;
}

taken : {X : Type 0} (n : ℕ) (xs ys : List X) → length xs ≡ n → take n (xs ++ ys) ≡ xs
taken zero [] ys e = refl
taken (suc n) [] ys e = absurd (omega (arith, e))
taken zero (x ∷ xs) ys e = absurd (omega (arith, e))
taken (suc n) (x ∷ xs) ys e = ap (λ l. x ∷ l) (taken n xs ys (omega (arith, e)))

-- the rounds of the first lines are those that were drawn first
pub rounds_of-append : (ls : List (List ℕ)) (d later : Drawn) → AreDrawn ls d
    → rounds_of ls (d.rounds ++ later.rounds) ≡ d.rounds
rounds_of-append ls d later are = taken (length (filter is_round_line ls)) d.rounds later.rounds are.rounds

-- What is drawn later changes nothing of what the lines write and allow, and is left.
pub record IsLeft (s : State) (ls : List (List ℕ)) (d later : Drawn) : Type 0 where
  pub output : written_for (script_state s (drawn_more d later)) ls ≡ written_for (script_state s d) ls
  pub leaves : script_state_after (script_state s (drawn_more d later)) ls
      ≡ script_state (script_state_after (script_state s d) ls).state later
  pub allows : (held : Holdings) → AllowsRounds held (script_state s d) ls
      → AllowsRounds held (script_state s (drawn_more d later)) ls

-- the same of a line and more lines, by what the line asks for
record IsLeftBy (asked : Result ScriptLine Early) (size : ℕ) (s : State) (ls : List (List ℕ)) (d later : Drawn) : Type 0
  where
    output : (turn_of (script_state s (drawn_more d later)) asked size).written
        ++ written_for (turn_of (script_state s (drawn_more d later)) asked size).after ls
        ≡ (turn_of (script_state s d) asked size).written ++ written_for (turn_of (script_state s d) asked size).after ls
    leaves : script_state_after (turn_of (script_state s (drawn_more d later)) asked size).after ls
        ≡ script_state (script_state_after (turn_of (script_state s d) asked size).after ls).state later
    allows : (held : Holdings)
        → AllowsRound held s asked d.rounds × AllowsRounds held (turn_of (script_state s d) asked size).after ls
        → AllowsRound held s asked (d.rounds ++ later.rounds)
        × AllowsRounds held (turn_of (script_state s (drawn_more d later)) asked size).after ls

left_by : (line : List ℕ) (ls : List (List ℕ))
    → ((s : State) (d later : Drawn) → AreDrawn ls d → IsLeft s ls d later)
    → (asked : Result ScriptLine Early) (size : ℕ) (s : State) (ms : List ℤ) (ns : List ℕ) (rs : List RoundDone)
    (later : Drawn)
    → length ms ≡ length (cond (asks_for_call asked) (line ∷ filter is_call_line ls) (filter is_call_line ls))
    → length ns ≡ length (cond (asks_for_call asked) (line ∷ filter is_call_line ls) (filter is_call_line ls))
    → length rs ≡ length (cond (asks_for_round asked) (line ∷ filter is_round_line ls) (filter is_round_line ls))
    → IsLeftBy asked size s ls (drawn ms ns rs) later
left_by line ls rest (Err early) size s ms ns rs later m n r =
    let w = rest s (drawn ms ns rs) later (record { moments = m; nonces = n; rounds = r }) in
    record {
      output = ap (λ t. early_line early ++ t) w.output;
      leaves = w.leaves;
      allows = λ held a. (a.0, w.allows held a.1);
    }
left_by line ls rest (Ok (Call call)) size s [] ns rs later m n r = absurd (omega (arith, m))
left_by line ls rest (Ok (Call call)) size s (a ∷ ms) [] rs later m n r = absurd (omega (arith, n))
left_by line ls rest (Ok (Call call)) size s (a ∷ ms) (b ∷ ns) rs later m n r =
    let t : RequestOutcome = outcome_of_call s call size a b in
    let w =
    rest t.state (drawn ms ns rs) later
    (record { moments = omega (arith, m); nonces = omega (arith, n); rounds = r }) in
    record {
      output = ap (λ t'. reply_line (Some call.action) t.reply ++ t') w.output;
      leaves = w.leaves;
      allows = λ held p. (p.0, w.allows held p.1);
    }
left_by line ls rest (Ok (Round workers)) size s ms ns [] later m n r = absurd (omega (arith, r))
left_by line ls rest (Ok (Round workers)) size s ms ns (d ∷ rs) later m n r =
    let w =
    rest (with_harvest d.left s) (drawn ms ns rs) later
    (record { moments = m; nonces = n; rounds = omega (arith, r) }) in
    record {
      output = ap (λ t. round_line d ++ t) w.output;
      leaves = w.leaves;
      allows = λ held p. (p.0, w.allows held p.1);
    }

left_lists : (ls : List (List ℕ)) (s : State) (ms : List ℤ) (ns : List ℕ) (rs : List RoundDone) (later : Drawn)
    → AreDrawn ls (drawn ms ns rs) → IsLeft s ls (drawn ms ns rs) later
left_lists [] s [] [] [] later are = record { output = refl; leaves = refl; allows = λ held a. a }
left_lists [] s (a ∷ ms) ns rs later are = absurd (omega (arith, are.moments))
left_lists [] s [] (b ∷ ns) rs later are = absurd (omega (arith, are.nonces))
left_lists [] s [] [] (d ∷ rs) later are = absurd (omega (arith, are.rounds))
left_lists (l ∷ ls) s ms ns rs later are =
    let w =
    left_by l ls (λ t d more drew. left_lists ls t d.moments d.nonces d.rounds more drew) (parsed_line l) (length l) s
    ms ns rs later are.moments are.nonces are.rounds in
    record { output = w.output; leaves = w.leaves; allows = w.allows }

pub is_left : (ls : List (List ℕ)) (s : State) (d later : Drawn) → AreDrawn ls d → IsLeft s ls d later
is_left ls s d later are = left_lists ls s d.moments d.nonces d.rounds later are
