-- What an act comes to, from its turn and from what was done with the machine.
use Rattle.std.proofs.Common.{◌≡◌, ◌⊎◌, ℕ, ◌+◌, ◌-◌, ◌^◌, ◌<◌, ◌≤◌, List, [], ◌∷◌, ◌++◌, length, take}
use Rattle.std.proofs.Common.{Option, Some, None, true}
use Rattle.std.proofs.Common.{refl, ap, sym, ◌∙◌, subst, ⊎_elim, inl, inr, arith, length-append}
use Rattle.std.specs.Prelude.{slice_get, IfSome}
use Rattle.std.proofs.Math.Seq.{take-append_seam}
use Rattle.std.proofs.lemmas.List.{append-nil}
use Rattle.portal_base.specs.Outside.{Rose}
use Rattle.atomic_table.specs.declared.shared.Seat.{Seat}
use Rattle.portal_hall.specs.History.{Step, Begins, replay, IsLegal, Accepts, Refuses}
use Rattle.portal_hall.specs.declared.board.HeldMachine.{HeldMachine}
use Rattle.portal_hall.specs.declared.board.View.{View}
use Rattle.portal_hall.specs.declared.board.Stage.TheVariants.{Resting, Waiting, Acting}
use Rattle.portal_hall.specs.declared.acted.Acted.{Acted}
use Rattle.portal_hall.specs.declared.acted.Acted.TheVariants.{Done, OutOfMemory}
use Rattle.portal_hall.specs.declared.hall.Hall.{Hall}
use Rattle.portal_hall.specs.Turns.{Slot, Me, IsReplayed, HasTurn, own_after}
use Rattle.portal_hall.specs.Passes.{opening, Rests, IsEntry, IsRefusal, events_of, added_by, IfEntry, IfNoEntry}
use Rattle.portal_hall.specs.Passes.{IfOutOfMemory, Begun, Ended, MayEnd}
use Rattle.portal_hall.proofs.Ends.{same_held}
use Rattle.portal_hall.proofs.Prefixes.{begins_length, begins_trans}

module _ {C E R : Type 0} (works : C → E → Step C R) where
  replay-push : (core : C) (es : List E) (e : E)
      → replay works core (es ++ e ∷ []) ≡ (works (replay works core es) e).core
  replay-push core [] e = refl
  replay-push core (x ∷ es) e = replay-push (works core x).core es e

  legal-push : (core : C) (es : List E) (e : E) → IsLegal works core es
      → (works (replay works core es) e).is_accepted ≡ true → IsLegal works core (es ++ e ∷ [])
  legal-push core [] e h a = (a, tt)
  legal-push core (x ∷ es) e h a = (h.0, legal-push (works core x).core es e h.1 a)

slice_get_last : {A : Type 0} (xs : List A) (x : A) → slice_get (xs ++ x ∷ []) (length xs) ≡ Some x
slice_get_last [] x = refl
slice_get_last (y ∷ xs) x = slice_get_last xs x

module _ {M E C R : Type 0} (core : M → C) (faults : M → ℕ) (works : C → E → Step C R) where
  abbrev At : Type 0
  At = Seat (Slot M E) (View M E)

  pub begun : (hall : Hall M E R) (a b c d : At) (held : HeldMachine M E) → Rests hall a
      → (b.table_id ≡ a.table_id) × (b.id ≡ a.id) → (t : ℕ) → b.me ≡ (record a.me.0 { stage = Waiting t }, [])
      → (c.table_id ≡ b.table_id) × (c.id ≡ b.id) → (u : ℕ) → HasTurn core faults works b.me u c.me
      → (d.table_id ≡ c.table_id) × (d.id ≡ c.id) → c.me.1 ≡ (0, Some held) ∷ [] → d.me ≡ (c.me.0, (0, None) ∷ [])
      → Begun core faults works hall a d held
  begun hall a b c d held rests ab t waits bc u turn cd full out =
      let h : HeldMachine M E = turn.0 in
      let same : h ≡ held = same_held c.me.1 h held turn.1 full in
      let view = ap (λ (m : Me M E). m.0) waits in
      let P : HeldMachine M E → Type 0 =
      λ h. (c.me.0 ≡ record b.me.0 { stage = Acting u; seen = h.history.items; mark = faults h.machine })
      × Begins b.me.0.seen h.history.items × (b.me.0.mark ≤ faults h.machine)
      × IfSome b.me.0.opening (λ o. IsReplayed core faults works o h)
      × (b.me.0.room ≡ b.me.0.seats → h.history.items ≡ b.me.0.seen) in
      let p = subst P same (turn.2, turn.3, turn.4, turn.5, turn.6) in record {
        same = (cd.0 ∙ (bc.0 ∙ ab.0), cd.1 ∙ (bc.1 ∙ ab.1));
        ticket = (
          u,
          out ∙ ap (λ (v : View M E). let m : Me M E = (v, (0, None) ∷ []) in m)
              (p.0 ∙ ap (λ (v : View M E). let w : View M E =
              record v { stage = Acting u; seen = held.history.items; mark = faults held.machine } in w) view),
        );
        seen = subst (λ (v : View M E). Begins v.seen held.history.items) view p.1;
        mark = subst (λ (v : View M E). v.mark ≤ faults held.machine) view p.2;
        replayed = subst (λ (o : Option M). IfSome o (λ m. IsReplayed core faults works m held))
            (ap (λ (v : View M E). v.opening) view ∙ rests.named) p.3;
        alone = subst (λ (v : View M E). v.room ≡ v.seats → held.history.items ≡ v.seen) view p.4;
      }

  -- what was done with the machine and its history
  pub record Worked (IsOutOfMemory IsFault : R → Type 0) (old new : HeldMachine M E) (event : E) (acted : Acted M E R) : Type 0 where
    pub entry : IfEntry acted (λ reply front k. Accepts works (core old.machine) event reply
        × (core new.machine ≡ (works (core old.machine) event).core)
        × (new.history.items ≡ old.history.items ++ event ∷ [])
        × (k ≡ length old.history.items) × (front ≡ k + 1))
    pub no_entry : IfNoEntry acted (λ reply front.
        IsRefusal works IsOutOfMemory IsFault (core old.machine) event reply (faults old.machine) (faults new.machine)
        × (core new.machine ≡ core old.machine)
        × (new.history.items ≡ old.history.items) × (front ≡ length old.history.items))
    pub back : IfOutOfMemory acted (λ back. (back ≡ event) × (new.machine ≡ old.machine)
        × (new.history.items ≡ old.history.items))
    pub short : length new.history.items < 2 ^ 64
    pub counts : faults old.machine ≤ faults new.machine

  module _ (IsOutOfMemory IsFault : R → Type 0) where
    added : (old new : HeldMachine M E) (event : E) (acted : Acted M E R) → Worked IsOutOfMemory IsFault old new event acted
        → new.history.items ≡ old.history.items ++ added_by acted event
    added old new event (Done reply front (Some k)) w = w.entry.2
    added old new event (Done reply front None) w = w.no_entry.2 ∙ sym (append-nil old.history.items)
    added old new event (OutOfMemory e) w = w.back.2 ∙ sym (append-nil old.history.items)

    added_length : (event : E) (acted : Acted M E R) → length (added_by acted event) ≡ events_of acted
    added_length event (Done reply front (Some k)) = refl
    added_length event (Done reply front None) = refl
    added_length event (OutOfMemory e) = refl

    more_of : (old new : HeldMachine M E) (event : E) (acted : Acted M E R) → Worked IsOutOfMemory IsFault old new event acted
        → (more : List E) × (new.history.items ≡ old.history.items ++ more) × (length more ≡ events_of acted)
    more_of old new event acted w = (added_by acted event, added old new event acted w, added_length event acted)

    one_at_most : (acted : Acted M E R) → events_of acted ≤ 1
    one_at_most (Done reply front (Some k)) = omega arith
    one_at_most (Done reply front None) = omega arith
    one_at_most (OutOfMemory e) = omega arith

    replayed_after : (o : M) (old new : HeldMachine M E) (event : E) (acted : Acted M E R)
        → Worked IsOutOfMemory IsFault old new event acted → IsReplayed core faults works o old → IsReplayed core faults works o new
    replayed_after o old new event (Done reply front (Some k)) w h =
        let items = w.entry.2 in (
          subst (IsLegal works (core o)) (sym items)
              (legal-push works (core o) old.history.items event h.0
              (subst (λ (c : C). (works c event).is_accepted ≡ true) h.1 w.entry.0.0)),
          w.entry.1 ∙ (ap (λ (c : C). (works c event).core) h.1
              ∙ (sym (replay-push works (core o) old.history.items event) ∙ ap (replay works (core o)) (sym items))),
        )
    replayed_after o old new event (Done reply front None) w h = (
      subst (IsLegal works (core o)) (sym w.no_entry.2) h.0,
      w.no_entry.1
          ∙ (h.1 ∙ ap (replay works (core o)) (sym w.no_entry.2)),
    )
    replayed_after o old new event (OutOfMemory e) w h = (
      subst (IsLegal works (core o)) (sym w.back.2) h.0,
      ap core w.back.1
          ∙ (h.1 ∙ ap (replay works (core o)) (sym w.back.2)),
    )

    pub may_end : (hall : Hall M E R) (a b : At) (old new : HeldMachine M E) (event : E) (acted : Acted M E R)
        → Rests hall a → Begun core faults works hall a b old
        → Worked IsOutOfMemory IsFault old new event acted → MayEnd core faults works hall (events_of acted) b new
    may_end hall a b old new event acted rests begins w =
        let m = begins.ticket.1 in
        let more = more_of old new event acted w in
        let seen = ap (λ (m : Me M E). m.0.seen) m in
        let mark = ap (λ (m : Me M E). m.0.mark) m in
        let counts = w.counts in record {
          table = begins.same.0 ∙ rests.table;
          hand = ap (λ (m : Me M E). m.1) m;
          ticket = (begins.ticket.0, ap (λ (m : Me M E). m.0.stage) m);
          named = ap (λ (m : Me M E). m.0.opening) m ∙ rests.named;
          some_room = subst (λ (m : Me M E). 0 < m.0.room) (sym m) rests.some_room;
          few = one_at_most acted;
          longer_by = (more.0, more.1 ∙ ap (λ l. l ++ more.0) (sym seen), more.2);
          short = w.short;
          mark = omega arith;
          replayed = replayed_after (opening hall) old new event acted w begins.replayed;
        }

    -- the view after the turn
    after_view : (hall : Hall M E R) (k : ℕ) (a b c : At) (old new : HeldMachine M E) → Begun core faults works hall a b old
        → Ended core faults works k b c new
        → c.me ≡ (
          record a.me.0 {
            stage = Resting;
            seen = new.history.items;
            own = own_after k (record a.me.0 { seen = old.history.items });
            mark = faults new.machine;
          },
          [],
        )
    after_view hall k a b c old new begins ends = ends.after_is
        ∙ ap (λ (m : Me M E). let p : Me M E = (
          record m.0 {
            stage = Resting;
            seen = new.history.items;
            own = own_after k m.0;
            mark = faults new.machine;
          },
          [],
        ) in p) begins.ticket.1

    pub rests_after : (hall : Hall M E R) (k : ℕ) (a b c : At) (old new : HeldMachine M E) → Rests hall a
        → Begun core faults works hall a b old → Ended core faults works k b c new
        → Rests hall c
    rests_after hall k a b c old new rests begins ends = let m = after_view hall k a b c old new begins ends in
        record {
          table = ends.same.0 ∙ (begins.same.0 ∙ rests.table);
          hand = ap (λ (m : Me M E). m.1) m;
          stage = ap (λ (m : Me M E). m.0.stage) m;
          named = ap (λ (m : Me M E). m.0.opening) m ∙ rests.named;
          seats_is = ap (λ (m : Me M E). m.0.seats) m ∙ rests.seats_is;
          some_room = subst (λ (m : Me M E). 0 < m.0.room) (sym m) rests.some_room;
        }

    pub room_after : (hall : Hall M E R) (k : ℕ) (a b c : At) (old new : HeldMachine M E)
        → Begun core faults works hall a b old → Ended core faults works k b c new → c.me.0.room ≡ a.me.0.room
    room_after hall k a b c old new begins ends =
        ap (λ (m : Me M E). m.0.room) (after_view hall k a b c old new begins ends)

    pub seen_after : (hall : Hall M E R) (a b c : At) (old new : HeldMachine M E) (event : E) (acted : Acted M E R)
        → Begun core faults works hall a b old
        → Worked IsOutOfMemory IsFault old new event acted → Ended core faults works (events_of acted) b c new
        → Begins a.me.0.seen c.me.0.seen
    seen_after hall a b c old new event acted begins w ends =
        let m = after_view hall (events_of acted) a b c old new begins ends in
        let more = more_of old new event acted w in
        subst (Begins a.me.0.seen) (sym (ap (λ (m : Me M E). m.0.seen) m))
        (begins_trans a.me.0.seen old.history.items new.history.items begins.seen (more.0, more.1))

    -- with all the seats, the history grew by what the act added
    pub alone_after : (hall : Hall M E R) (a b c : At) (old new : HeldMachine M E) (event : E) (acted : Acted M E R)
        → Begun core faults works hall a b old
        → Worked IsOutOfMemory IsFault old new event acted → Ended core faults works (events_of acted) b c new
        → a.me.0.room ≡ a.me.0.seats → c.me.0.seen ≡ a.me.0.seen ++ added_by acted event
    alone_after hall a b c old new event acted begins w ends all =
        ap (λ (m : Me M E). m.0.seen) (after_view hall (events_of acted) a b c old new begins ends)
        ∙ (added old new event acted w ∙ ap (λ l. l ++ added_by acted event) (begins.alone all))

    pub mark_after : (hall : Hall M E R) (a b c : At) (old new : HeldMachine M E) (event : E) (acted : Acted M E R)
        → Begun core faults works hall a b old
        → Worked IsOutOfMemory IsFault old new event acted → Ended core faults works (events_of acted) b c new
        → a.me.0.mark ≤ c.me.0.mark
    mark_after hall a b c old new event acted begins w ends =
        let m = ap (λ (m : Me M E). m.0.mark) (after_view hall (events_of acted) a b c old new begins ends) in
        let x = begins.mark in let y = w.counts in omega arith

    pub entry_after : (hall : Hall M E R) (a b c : At) (old new : HeldMachine M E) (event : E) (acted : Acted M E R)
        → Begun core faults works hall a b old
        → Worked IsOutOfMemory IsFault old new event acted → Ended core faults works (events_of acted) b c new
        → IfEntry acted (λ reply front k. (front ≡ length c.me.0.seen) × (c.me.0.own ≡ a.me.0.own ++ k ∷ [])
        × IsEntry works (core (opening hall)) a.me.0.seen c.me.0.seen event reply front k)
    entry_after hall a b c old new event (Done reply front (Some k)) begins w ends =
        let m = after_view hall 1 a b c old new begins ends in
        let seen : c.me.0.seen ≡ old.history.items ++ event ∷ [] = ap (λ (m : Me M E). m.0.seen) m ∙ w.entry.2 in
        let index = w.entry.3 in
        let front_is = w.entry.4 in
        let len : length c.me.0.seen ≡ k + 1 = ap length seen
        ∙ omega (arith, length-append old.history.items (event ∷ [])) in
        let le = begins_length a.me.0.seen old.history.items begins.seen in
        let before : take k c.me.0.seen ≡ old.history.items = (λ i. take (index i) (seen i))
        ∙ take-append_seam old.history.items (event ∷ []) in
        let there : core old.machine ≡ replay works (core (opening hall)) (take k c.me.0.seen) = begins.replayed.1
        ∙ ap (replay works (core (opening hall))) (sym before) in (
          omega arith,
          ap (λ (m : Me M E). m.0.own) m ∙ ap (λ (n : ℕ). a.me.0.own ++ n ∷ []) (sym index),
          record {
            index = front_is;
            later = omega arith;
            recorded = (λ i. slice_get (seen i) (index i)) ∙ slice_get_last old.history.items event;
            answer = subst (λ (x : C). Accepts works x event reply) there w.entry.0;
          },
        )
    entry_after hall a b c old new event (Done reply front None) begins w ends = tt
    entry_after hall a b c old new event (OutOfMemory e) begins w ends = tt

    pub no_entry_after : (hall : Hall M E R) (a b c : At) (old new : HeldMachine M E) (event : E) (acted : Acted M E R)
        → Begun core faults works hall a b old
        → Worked IsOutOfMemory IsFault old new event acted → Ended core faults works (events_of acted) b c new
        → IfNoEntry acted (λ reply front. (front ≡ length c.me.0.seen) × (c.me.0.own ≡ a.me.0.own)
        × IsRefusal works IsOutOfMemory IsFault (replay works (core (opening hall)) c.me.0.seen) event reply a.me.0.mark
        c.me.0.mark)
    no_entry_after hall a b c old new event (Done reply front None) begins w ends =
        let m = after_view hall 0 a b c old new begins ends in
        let seen : c.me.0.seen ≡ old.history.items = ap (λ (m : Me M E). m.0.seen) m ∙ w.no_entry.2 in
        let there : core old.machine ≡ replay works (core (opening hall)) c.me.0.seen = begins.replayed.1
        ∙ ap (replay works (core (opening hall))) (sym seen) in
        let mark : c.me.0.mark ≡ faults new.machine = ap (λ (m : Me M E). m.0.mark) m in
        let low = begins.mark in (
          w.no_entry.3 ∙ ap length (sym seen),
          ap (λ (m : Me M E). m.0.own) m,
          ⊎_elim (λ (h : Refuses works (core old.machine) event reply). inl
              (subst (λ (x : C). Refuses works x event reply) there h))
              (λ (h : IsOutOfMemory reply ⊎ (IsFault reply × Rose (faults old.machine) (faults new.machine))). inr
              (⊎_elim (λ (i : IsOutOfMemory reply). inl i)
              (λ (i : IsFault reply × Rose (faults old.machine) (faults new.machine)). inr
              (i.0, rose_more (faults old.machine) (faults new.machine) a.me.0.mark c.me.0.mark low mark i.1))
              h)) w.no_entry.0,
        )
      where
        rose_more : (x y p q : ℕ) → p ≤ x → q ≡ y → Rose x y → Rose p q
        rose_more x y p q le is h = ⊎_elim (λ (lt : x < y). inl (omega arith))
            (λ (last : 2 ^ 64 - 1 ≤ y). inr (omega arith)) h
    no_entry_after hall a b c old new event (Done reply front (Some k)) begins w ends = tt
    no_entry_after hall a b c old new event (OutOfMemory e) begins w ends = tt

    pub back_after : (hall : Hall M E R) (a b c : At) (old new : HeldMachine M E) (event : E) (acted : Acted M E R)
        → Begun core faults works hall a b old
        → Worked IsOutOfMemory IsFault old new event acted → Ended core faults works (events_of acted) b c new
        → IfOutOfMemory acted (λ back. (back ≡ event) × (c.me.0.own ≡ a.me.0.own))
    back_after hall a b c old new event (OutOfMemory e) begins w ends =
        (w.back.0, ap (λ (m : Me M E). m.0.own) (after_view hall 0 a b c old new begins ends))
    back_after hall a b c old new event (Done reply front entry) begins w ends = tt
