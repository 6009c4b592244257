-- The steps of who has the turn keep the rule.
use Rattle.std.proofs.Common.{◌≡◌, ℕ, zero, suc, ◌+◌, ◌%◌, ◌^◌, ◌<◌, ◌≤◌, List, [], ◌∷◌, ◌++◌, length}
use Rattle.std.proofs.Common.{set, Option, Some, None}
use Rattle.std.proofs.Common.{refl, ap, sym, ◌∙◌, subst, arith, length-append}
use Rattle.std.specs.Prelude.{slice_index, IfSome}
use Rattle.std.proofs.lemmas.Bool.Decides.{nat_tests}
use Rattle.std.proofs.lemmas.List.Sums.{sum_by-append}
use mathlib.Core.Logic.{dite}
use mathlib.Core.Option.{none, some}
use native.Mathlib.Decide.{ℕ_discrete, dec_le}
use lib.ListN.{get_elem?}
use Rattle.atomic_table.specs.Table as table
use Rattle.atomic_table.specs.Table.{step, keeps, gives, Allows}
use Rattle.atomic_table.proofs.Lists.{set_here}
use Rattle.portal_hall.specs.History.{Step, Begins, times, once_below}
use Rattle.portal_hall.specs.declared.board.HeldMachine.{HeldMachine}
use Rattle.portal_hall.specs.declared.board.View.{View}
use Rattle.portal_hall.specs.declared.board.Stage.{Stage}
use Rattle.portal_hall.specs.declared.board.Stage.TheVariants.{Resting, Acting}
use Rattle.portal_hall.specs.Turns.{Apart, tickets_of, Slot, Me, tickets_out, StageFits, Fits, IsReplayed}
use Rattle.portal_hall.specs.Turns.{SlotFits, Kept}
use Rattle.portal_hall.specs.Turns.{lengthened, passed, checked, own_after, moved}
use Rattle.portal_hall.specs.Turns.{words_of, served_index, length_index}
use Rattle.portal_hall.proofs.Sums.{sum-set, at_most}
use Rattle.portal_hall.proofs.Prefixes.{begins_self, begins_trans}
use Rattle.portal_hall.proofs.Keeps.{resting_apart, is_below, each_set, apart_set, stage_else, stage_passed}
use Rattle.portal_hall.proofs.Keeps.{same_sum, unmoved}
use Rattle.portal_hall.proofs.Alone.{owns_all}

times-push : (x y : ℕ) (xs : List ℕ) → times x (xs ++ y ∷ []) ≡ times x xs + times x (y ∷ [])
times-push x y xs = sum_by-append _ xs (y ∷ [])

times_one : (x y : ℕ) → times x (y ∷ []) + once_below x y ≡ once_below x (y + 1)
times_one x y = grind (arith, nat_tests)

times_other : (x y : ℕ) → 0 < times x (y ∷ []) → y ≡ x
times_other x y h = dite (ℕ_discrete y x) (λ e. e) (λ ne. let z : times x (y ∷ []) ≡ 0 = grind (arith, nat_tests) in
    absurd (omega arith))

once_below_lt : (x n : ℕ) → 0 < once_below x n → x < n
once_below_lt x n h = dite (dec_le n x) (λ ge. let z : once_below x n ≡ 0 = grind (arith, nat_tests) in
    absurd (omega arith)) (λ lt. omega arith)

once_few : (x n : ℕ) → once_below x n ≤ 1
once_few x n = grind (arith, nat_tests)

module _ {M E : Type 0} where
  abbrev pub held_of : Slot M E → HeldMachine M E → HeldMachine M E
  held_of (Some h) d = h
  held_of None d = d

  abbrev pub first_held : List (ℕ × Slot M E) → HeldMachine M E → HeldMachine M E
  first_held [] d = d
  first_held (x ∷ xs) d = held_of x.1 d

  -- a seat that holds one slot holds one thing in it
  pub same_held : (c : List (ℕ × Slot M E)) (h k : HeldMachine M E) → c ≡ (0, Some h) ∷ [] → c ≡ (0, Some k) ∷ [] → h ≡ k
  same_held c h k a b = ap (λ (l : List (ℕ × Slot M E)). first_held l h) (sym a ∙ b)

module _ {M E : Type 0} where
  -- a seat that held nothing in its slot holds what was put there
  pub put_back : (me me' : Me M E) (held : HeldMachine M E) (x : Slot M E) → me.1 ≡ (0, x) ∷ []
      → me' ≡ (me.0, (0, Some held) ∷ table.rest me.1)
      → me' ≡ (me.0, (0, Some held) ∷ [])
  put_back me me' held x hand is = is
      ∙ ap (λ (l : List (ℕ × Slot M E)). let p : Me M E = (me.0, (0, Some held) ∷ table.rest l) in p) hand

  -- the effect of the step `lengthened` on a view
  pub lengthened_to : (faults : M → ℕ) (k : ℕ) (me me' : Me M E)
      (v : View M E) (held : HeldMachine M E) → me ≡ (v, (0, Some held) ∷ [])
      → ((h : HeldMachine M E) → me.1 ≡ (0, Some h) ∷ [] → me' ≡ (moved faults k me.0 h, me.1))
      → me' ≡ (moved faults k v held, (0, Some held) ∷ [])
  lengthened_to faults k me me' v held is tells = tells held (ap (λ (m : Me M E). m.1) is)
      ∙ ap (λ (m : Me M E). let p : Me M E = (moved faults k m.0 held, m.1) in p) is

  -- the effect of the step `passed` on a view
  pub passed_to : (faults : M → ℕ) (k : ℕ) (me me' : Me M E) (v : View M E) (held : HeldMachine M E)
      → me ≡ (moved faults k v held, (0, Some held) ∷ [])
      → me' ≡ (record me.0 { stage = Resting }, []) → me' ≡ (record (moved faults k v held) { stage = Resting }, [])
  passed_to faults k me me' v held is tells = tells
      ∙ ap (λ (m : Me M E). let p : Me M E = (record m.0 { stage = Resting }, []) in p) is

module _ {M E C R : Type 0} (core : M → C) (faults : M → ℕ) (works : C → E → Step C R) (opening : M) (seats : ℕ) where
  abbrev V : Type 0
  V = View M E

  abbrev St : Type 0
  St = table.State (Slot M E) V

  abbrev Rule : St → Type 0
  Rule = Kept core faults works opening seats

  abbrev Out : List V → ℕ
  Out views = tickets_out views

  pub checks : (slots id : ℕ) (me : Me M E) → 0 < me.0.room
      → Allows Rule slots id me served_index (λ n. n) (checked (step slots served_index 0 0 none) me)
  checks slots id me room s r _ at _ =
      let f = r.each id me.0 at in (
        me.0,
        keeps,
        tt,
        unmoved core faults works opening seats s r served_index id me.1 me.0 at,
        (
          refl,
          f.left,
          f.right,
          owns_all core faults works opening seats s r id me.0 at room,
          λ x.
              let here = at_most (λ (v : V). times x v.own) s.views id me.0 at in
              let all = r.indexes x in
              let few = once_few x (length r.log) in omega arith,
          let mine = at_most (λ (v : V). v.room) s.views id me.0 at in let rooms = r.rooms in let few = r.few in
              omega arith,
        ),
      )

  acting_at : (s : St) (r : Rule s) (id : ℕ) (v : V) (t : ℕ) → get_elem? s.views id ≡ some v → v.stage ≡ Acting t
      → StageFits r.served (Out s.views) r.log r.top r.turn id v (Acting t)
  acting_at s r id v t at is = subst (StageFits r.served (Out s.views) r.log r.top r.turn id v) is
      (r.each id v at).stage

  -- its own indexes, before and after
  own_times : (k : ℕ) (v : V) (x : ℕ) → k ≤ 1 → times x (own_after k v) + once_below x (length v.seen) ≡ times x
      v.own + once_below x (length v.seen + k)
  own_times zero v x le = let same : length v.seen ≡ length v.seen + 0 = omega arith in
      ap (λ n. times x v.own + once_below x n) same
  own_times (suc zero) v x le = let a = times-push x (length v.seen) v.own in let b = times_one x (length v.seen) in
      omega arith
  own_times (suc (suc k)) v x le = absurd (omega arith)

  pub lengthens : (slots id : ℕ) (me : Me M E) (t : ℕ) (held : HeldMachine M E) (k : ℕ) (more : List E)
      → me.0.stage ≡ Acting t → me.1 ≡ (0, Some held) ∷ [] → 0 < me.0.room
      → k ≤ 1 → held.history.items ≡ me.0.seen ++ more → length more ≡ k → length held.history.items < 2 ^ 64
      → me.0.mark ≤ faults held.machine
      → Allows Rule slots id me length_index (λ n. (n + k) % 2 ^ 64)
      (lengthened core faults works (step slots length_index k 0 none) me)
  lengthens slots id me t held k more acts hand room one grown grown_by short mark s r _ at _ =
      let a = acting_at s r id me.0 t at acts in
      let f = r.each id me.0 at in
      let log : List E = held.history.items in
      let w : V = moved faults k me.0 held in
      let views' : List V = set s.views id w in
      let len : length log ≡ length r.log + k =
      omega (arith, ap length grown, length-append me.0.seen more, ap length a.3) in
      let same : Out views' ≡ Out s.views = same_sum core faults works opening seats (λ v. tickets_of v.stage)
      s.views id me.0 w at refl in
      let longer : Begins r.log log = (more, grown ∙ ap (λ l. l ++ more) a.3) in
      let top : r.top ≤ faults held.machine = let m = a.4 in omega arith in
      let head : (length r.log + k) % 2 ^ 64 ≡ length log = omega arith in
      let seen_len : length me.0.seen ≡ length r.log = ap length a.3 in
      let out : Out s.views ≡ Out views' = sym same in (
        w,
        keeps,
        tt,
        record {
          served = r.served;
          log = log;
          top = faults held.machine;
          turn = r.turn;
          words = ap (λ (ws : List ℕ). set ws length_index ((slice_index ws length_index + k) % 2 ^ 64)) r.words
              ∙ (λ i. words_of ((r.served + out i) % 2 ^ 64) (r.served % 2 ^ 64) (head i));
          each = subst (λ (n : ℕ). (j : ℕ) (u : V) → get_elem? views' j ≡ some u
              → Fits r.served n log (faults held.machine) r.turn opening seats j u) out
              (each_set (Fits r.served (Out s.views) log (faults held.machine) r.turn opening seats) s.views id w
              record {
                seen = begins_self log;
                mark = omega arith;
                stage = subst (StageFits r.served (Out s.views) log (faults held.machine) r.turn id w) (sym acts)
                    (a.0, a.1, a.2, refl, refl);
                own = λ x h. let was = own_times k me.0 x one in
                    let lt = f.own x in
                    dite (ℕ_discrete (times x me.0.own) 0)
                    (λ z. let b = once_below_lt x (length me.0.seen + k) (omega arith) in omega arith)
                    (λ some_own. let lt' = f.own x (omega arith) in omega arith);
                left = begins_trans me.0.left_seen me.0.seen log f.left (more, grown);
                right = begins_trans me.0.right_seen me.0.seen log f.right (more, grown);
                named = f.named;
                without_room = λ z. absurd (omega arith);
              }
              (λ j u ne b. let h = r.each j u b in let m = h.mark in record {
                seen = begins_trans u.seen r.log log h.seen longer;
                mark = omega arith;
                stage = stage_else r.served (Out s.views) r.log log r.top (faults held.machine) r.turn id j u u.stage
                    a.2 ne h.stage;
                own = h.own;
                left = h.left;
                right = h.right;
                named = h.named;
                without_room = h.without_room;
              }));
          apart = apart_set s.views id w r.apart (λ j u ne b. r.apart id j me.0 u (λ e. ne (sym e)) at b);
          rooms = same_sum core faults works opening seats (λ v. v.room) s.views id me.0 w at refl ∙ r.rooms;
          few = r.few;
          indexes = λ x. let was = own_times k me.0 x one in
              let changed = sum-set (λ (v : V). times x v.own) s.views id me.0 w at in
              let all = r.indexes x in
              let p : once_below x (length me.0.seen) ≡ once_below x (length r.log) = ap (once_below x) seen_len in
              let q : once_below x (length me.0.seen + k) ≡ once_below x (length log) =
              ap (once_below x) (omega arith) in
              omega arith;
          slot = subst (SlotFits core faults works r.served log (faults held.machine) opening views' s.homes)
              (sym a.2) (
                (subst (SlotFits core faults works r.served r.log r.top opening s.views s.homes) a.2 r.slot).0,
                (w, set_here s.views id w (is_below s.views id me.0 at), acts ∙ ap Acting a.0),
              );
        },
        λ h is. let e = same_held me.1 h held is hand in
            ap (λ (z : HeldMachine M E). let p : Me M E = (moved faults k me.0 z, me.1) in p) (sym e),
      )

  pub passes : (slots id : ℕ) (me : Me M E) (t : ℕ) (held : HeldMachine M E) → me.0.stage ≡ Acting t
      → me.1 ≡ (0, Some held) ∷ [] → 0 < me.0.room
      → held.history.items ≡ me.0.seen → me.0.mark ≤ faults held.machine
      → IfSome me.0.opening (λ o. IsReplayed core faults works o held)
      → Allows Rule slots id me served_index (λ n. (n + 1) % 2 ^ 64) (passed (step slots served_index 1 0 none) me)
  passes slots id me t held acts hand room seen mark replayed s r _ at _ =
      let a = acting_at s r id me.0 t at acts in
      let f = r.each id me.0 at in
      let w : V = record me.0 { stage = Resting } in
      let views' : List V = set s.views id w in
      let one : tickets_of me.0.stage ≡ 1 = ap tickets_of acts in
      let changed : Out views' + tickets_of me.0.stage ≡ Out s.views + 0 = sum-set (λ (v : V). tickets_of v.stage)
      s.views id me.0 w at in
      let less : Out views' + 1 ≡ Out s.views = omega arith in
      let sum : r.served + Out s.views ≡ (r.served + 1) + Out views' = omega arith in
      let next : (r.served % 18446744073709551616 + 1) % 18446744073709551616 ≡ (r.served + 1) % 18446744073709551616
      = omega arith in
      let out = (subst (SlotFits core faults works r.served r.log r.top opening s.views s.homes) a.2 r.slot).0 in
      let acts_now : me.0.stage ≡ Acting r.served = acts ∙ ap Acting a.0 in
      let rule : Rule (table.stepped s served_index ((slice_index s.words served_index + 1) % 2 ^ 64) id me.1 w gives) = record {
        served = r.served + 1;
        log = r.log;
        top = r.top;
        turn = none;
        words = ap (λ (ws : List ℕ). set ws served_index ((slice_index ws served_index + 1) % 2 ^ 64)) r.words
            ∙ (λ i. words_of (sum i % 2 ^ 64) (next i) (length r.log));
        each = each_set (Fits (r.served + 1) (Out views') r.log r.top none opening seats) s.views id w
            record {
              seen = f.seen;
              mark = f.mark;
              stage = tt;
              own = f.own;
              left = f.left;
              right = f.right;
              named = f.named;
              without_room = λ z. absurd (omega arith);
            }
            (λ j u ne b. let h = r.each j u b in record {
              seen = h.seen;
              mark = h.mark;
              stage = stage_passed r.served (Out s.views) (Out views') r.log r.top r.turn id j u u.stage a.2 ne less
                  (subst (λ (z : Stage). Apart z u.stage) acts_now (r.apart id j me.0 u (λ e. ne (sym e)) at b))
                  h.stage;
              own = h.own;
              left = h.left;
              right = h.right;
              named = h.named;
              without_room = h.without_room;
            });
        apart = apart_set s.views id w r.apart (λ j u ne b. resting_apart Resting u.stage refl);
        rooms = same_sum core faults works opening seats (λ v. v.room) s.views id me.0 w at refl ∙ r.rooms;
        few = r.few;
        indexes = λ x. same_sum core faults works opening seats (λ v. times x v.own) s.views id me.0 w at refl
            ∙ r.indexes x;
        slot = (
          held,
          (λ i. table.put_back (out i) (hand i)),
          seen ∙ a.3,
          (let m = a.4 in omega arith),
          subst (λ (o : Option M). IfSome o (λ m. IsReplayed core faults works m held)) (f.named room).0 replayed,
        );
      } in (
        w,
        gives,
        tt,
        rule,
        (
          (λ i. (w, table.rest (hand i))),
          owns_all core faults works opening seats _ rule id w (set_here s.views id w (is_below s.views id me.0 at))
              room,
        ),
      )

  pub lengthens_as : (slots id : ℕ) (me : Me M E) (v : View M E) (t : ℕ) (held : HeldMachine M E) (k : ℕ) (more : List E)
      → me ≡ (v, (0, Some held) ∷ []) → v.stage ≡ Acting t
      → 0 < v.room → k ≤ 1 → held.history.items ≡ v.seen ++ more → length more ≡ k
      → length held.history.items < 2 ^ 64 → v.mark ≤ faults held.machine
      → Allows Rule slots id me length_index (λ n. (n + k) % 2 ^ 64)
      (lengthened core faults works (step slots length_index k 0 none) me)
  lengthens_as slots id me v t held k more is acts room one grown grown_by short mark =
      subst (λ (m : Me M E). Allows Rule slots id m length_index (λ n. (n + k) % 2 ^ 64)
      (lengthened core faults works (step slots length_index k 0 none) m)) (sym is)
      (lengthens slots id (v, (0, Some held) ∷ []) t held k more acts refl room one grown grown_by short mark)

  pub passes_as : (slots id : ℕ) (me : Me M E) (v : View M E) (t : ℕ) (held : HeldMachine M E) (k : ℕ)
      → me ≡ (moved faults k v held, (0, Some held) ∷ []) → v.stage ≡ Acting t
      → 0 < v.room → v.opening ≡ Some opening → IsReplayed core faults works opening held
      → Allows Rule slots id me served_index (λ n. (n + 1) % 2 ^ 64) (passed (step slots served_index 1 0 none) me)
  passes_as slots id me v t held k is acts room named replayed =
      subst (λ (m : Me M E). Allows Rule slots id m served_index (λ n. (n + 1) % 2 ^ 64)
      (passed (step slots served_index 1 0 none) m)) (sym is)
      (passes slots id (moved faults k v held, (0, Some held) ∷ []) t held acts refl room refl (omega arith)
      (subst (λ (o : Option M). IfSome o (λ m. IsReplayed core faults works m held)) (sym named) replayed))
