-- The first seat, seats that split and join, and the last one.
use Rattle.std.proofs.Common.{◌≡◌, ℕ, zero, suc, ◌+◌, ◌%◌, ◌^◌, ◌<◌, ◌≤◌, List, [], ◌∷◌, ◌++◌, map, length}
use Rattle.std.proofs.Common.{set, Some, Bool, true, false, cond}
use Rattle.std.proofs.Common.{refl, ap, sym, ◌∙◌, subst, ⊎_elim, arith}
use Rattle.std.specs.Prelude.{nat_lt}
use Rattle.std.proofs.lemmas.Bool.Decides.{nat_tests}
use Rattle.std.proofs.lemmas.List.Sums.{sum_by-append}
use mathlib.Core.Logic.{dite}
use mathlib.Core.Option.{none, some, some-injective, some-ne-none}
use mathlib.Core.Option as maybe
use native.Mathlib.Decide.{ℕ_discrete, dec_le}
use lib.ListN.{get_elem?}
use Rattle.atomic_table.specs.Table as table
use Rattle.atomic_table.specs.Table.{Splits, Joins, Final, Seen}
use Rattle.atomic_table.proofs.Lists.{set_else, at_snoc, at_longer}
use Rattle.portal_hall.specs.History.{Step, Begins, times, once_below, replay, IsLegal}
use Rattle.portal_hall.specs.declared.board.HeldMachine.{HeldMachine}
use Rattle.portal_hall.specs.declared.board.View.{View}
use Rattle.portal_hall.specs.declared.board.Stage.TheVariants.{Resting}
use Rattle.portal_hall.specs.Turns.{tickets_of, Slot, tickets_out, StageFits, Fits, IsReplayed, SlotFits, Kept}
use Rattle.portal_hall.specs.Turns.{longer, joined, empty_view, starting, kept_of, given_of, words_of}
use Rattle.portal_hall.proofs.Sums.{sum-set}
use Rattle.portal_hall.proofs.Prefixes.{begins_self, begins_nil, begins_length, begins_shorter}
use Rattle.portal_hall.proofs.Keeps.{resting_apart, apart_back, each_set, apart_set, resting_not, same_sum}
use Rattle.portal_hall.proofs.Keeps.{slot_stays}
use Rattle.portal_hall.proofs.Alone.{others_none, own_places}
use Rattle.portal_hall.proofs.Ends.{held_of}

once_nothing : (x : ℕ) → once_below x 0 ≡ 0
once_nothing x = grind (arith, nat_tests)

-- the one element of a list
only : {A : Type 0} (a b : A) (j : ℕ) → get_elem? (a ∷ []) j ≡ some b → (j ≡ 0) × (a ≡ b)
only a b zero at = (refl, some-injective a b at)
only a b (suc j) at = absurd (some-ne-none b (sym at))

-- a longer list begins with both, where they begin one list
longer_left : {E : Type 0} (xs ys log : List E) → Begins xs log → Begins ys log → Begins xs (longer xs ys)
longer_left xs ys log p q = dite (dec_le (length ys) (length xs))
    (λ le. let e : nat_lt (length xs) (length ys) ≡ false = grind (arith, nat_tests) in
    let P : Bool → Type 0 = λ b. Begins xs (cond b ys xs) in subst P (sym e) (begins_self xs))
    (λ not. let e : nat_lt (length xs) (length ys) ≡ true = grind (arith, nat_tests) in
    let P : Bool → Type 0 = λ b. Begins xs (cond b ys xs) in
    subst P (sym e) (begins_shorter xs ys log p q (omega arith)))

longer_right : {E : Type 0} (xs ys log : List E) → Begins xs log → Begins ys log → Begins ys (longer xs ys)
longer_right xs ys log p q = dite (dec_le (length ys) (length xs))
    (λ le. let e : nat_lt (length xs) (length ys) ≡ false = grind (arith, nat_tests) in
    let P : Bool → Type 0 = λ b. Begins ys (cond b ys xs) in subst P (sym e) (begins_shorter ys xs log q p le))
    (λ not. let e : nat_lt (length xs) (length ys) ≡ true = grind (arith, nat_tests) in
    let P : Bool → Type 0 = λ b. Begins ys (cond b ys xs) in subst P (sym e) (begins_self ys))

longer_begins : {E : Type 0} (xs ys log : List E) → Begins xs log → Begins ys log → Begins (longer xs ys) log
longer_begins xs ys log p q = let P : Bool → Type 0 = λ b. Begins (cond b ys xs) log in
    dite (dec_le (length ys) (length xs))
    (λ le. let e : nat_lt (length xs) (length ys) ≡ false = grind (arith, nat_tests) in subst P (sym e) p)
    (λ not. let e : nat_lt (length xs) (length ys) ≡ true = grind (arith, nat_tests) in subst P (sym e) q)

module _ {M E C R : Type 0} (core : M → C) (faults : M → ℕ) (works : C → E → Step C R) (opening : M) (seats : ℕ) where
  abbrev V : Type 0
  V = View M E

  abbrev St : Type 0
  St = table.State (Slot M E) V

  abbrev Rule : St → Type 0
  Rule = Kept core faults works opening seats

  abbrev Out : List V → ℕ
  Out views = tickets_out views

  pub opens : (held : HeldMachine M E) (ws : List ℕ) (slots : List (Slot M E)) → held.machine ≡ opening
      → held.history.items ≡ [] → 0 < seats → seats ≤ 64
      → ws ≡ words_of 0 0 0 → slots ≡ Some held ∷ [] → Rule (table.opening ws slots (starting faults opening seats))
  opens held ws slots machine empty some_seats few words_are slots_are =
      let v : V = starting faults opening seats in record {
        served = 0;
        log = [];
        top = faults opening;
        turn = none;
        words = words_are;
        each = λ j u at. let one = only v u j at in
            subst (λ (z : V). Fits 0 0 [] (faults opening) none opening seats j z) one.1 record {
              seen = ([], refl);
              mark = omega arith;
              stage = tt;
              own = λ x h. absurd (omega arith);
              left = ([], refl);
              right = ([], refl);
              named = λ _. (refl, refl);
              without_room = λ z. absurd (omega arith);
            };
        apart = λ j k u w ne a b. absurd (ne ((only v u j a).0 ∙ sym (only v w k b).0));
        rooms = omega arith;
        few = few;
        indexes = λ x. sym (once_nothing x);
        slot = (
          held,
          ap (λ (l : List (Slot M E)). map some l) slots_are,
          empty,
          (let e = ap faults machine in omega arith),
          (
            subst (λ (l : List E). IsLegal works (core opening) l) (sym empty) tt,
            ap core machine ∙ ap (replay works (core opening)) (sym empty),
          ),
        );
      }

  pub cuts : (id : ℕ) (v : V) (room : ℕ) → v.stage ≡ Resting → 0 < room → room < v.room
      → Splits Rule id v (kept_of room v) (given_of room v)
  cuts id v room rest some_room less s r at =
      let f = r.each id v at in
      let w : V = kept_of room v in
      let u : V = given_of room v in
      let views' : List V = set s.views id w in
      let no_ticket : tickets_of v.stage ≡ 0 = ap tickets_of rest in
      let kept : Out views' ≡ Out s.views = same_sum core faults works opening seats (λ v. tickets_of v.stage)
      s.views id v w at refl in
      let same : Out (views' ++ u ∷ []) ≡ Out s.views =
      omega (arith, sum_by-append (λ (v : V). tickets_of v.stage) views' (u ∷ [])) in
      let rooms_kept = sum-set (λ (v : V). v.room) s.views id v w at in
      let all = r.rooms in
      let old = each_set (Fits r.served (Out s.views) r.log r.top r.turn opening seats) s.views id w
      record {
        seen = f.seen;
        mark = f.mark;
        stage = f.stage;
        own = f.own;
        left = f.left;
        right = f.right;
        named = λ _. f.named (omega arith);
        without_room = λ z. absurd (omega arith);
      }
      (λ j x ne b. r.each j x b) in
      let new : (j : ℕ) → Fits r.served (Out s.views) r.log r.top r.turn opening seats j u = λ j. record {
        seen = f.seen;
        mark = f.mark;
        stage = subst (StageFits r.served (Out s.views) r.log r.top r.turn j u) (sym rest) tt;
        own = λ x h. absurd (omega arith);
        left = begins_nil v.seen;
        right = begins_nil v.seen;
        named = λ _. f.named (omega arith);
        without_room = λ z. absurd (omega arith);
      } in
      let set_apart = apart_set s.views id w r.apart (λ j x ne b. resting_apart w.stage x.stage rest) in record {
        served = r.served;
        log = r.log;
        top = r.top;
        turn = r.turn;
        words = r.words
            ∙ ap (λ (n : ℕ). words_of ((r.served + n) % 2 ^ 64) (r.served % 2 ^ 64) (length r.log)) (sym same);
        each = λ j x b. subst (λ (n : ℕ). Fits r.served n r.log r.top r.turn opening seats j x) (sym same)
            (⊎_elim (λ (h : get_elem? views' j ≡ some x). old j x h)
            (λ (e : u ≡ x). subst (Fits r.served (Out s.views) r.log r.top r.turn opening seats j) e (new j))
            (at_snoc views' u x j b));
        apart = λ j k x y ne a b. ⊎_elim
            (λ (h : get_elem? views' j ≡ some x).
            ⊎_elim (λ (i : get_elem? views' k ≡ some y). set_apart j k x y ne h i)
            (λ (e : u ≡ y). apart_back y.stage x.stage
            (resting_apart y.stage x.stage (sym (ap (λ (z : V). z.stage) e) ∙ rest))) (at_snoc views' u y k b))
            (λ (e : u ≡ x). resting_apart x.stage y.stage (sym (ap (λ (z : V). z.stage) e) ∙ rest))
            (at_snoc views' u x j a);
        rooms = omega (arith, sum_by-append (λ (v : V). v.room) views' (u ∷ []));
        few = r.few;
        indexes = λ x. let p = same_sum core faults works opening seats (λ v. times x v.own) s.views id v w at refl in
            let q = r.indexes x in
            omega (arith, sum_by-append (λ (v : V). times x v.own) views' (u ∷ []));
        slot = slot_grows r.served r.log r.top views' u s.homes r.turn
            (slot_stays core faults works opening seats r.served r.log r.top s.views s.homes r.turn id v w at
            (resting_not core faults works opening seats v.stage r.served rest) r.slot);
      }
    where
      slot_grows : (served : ℕ) (log : List E) (top : ℕ) (views : List V) (u : V)
          (homes : List (maybe.Option (Slot M E))) (turn : maybe.Option ℕ)
          → SlotFits core faults works served log top opening views homes turn
          → SlotFits core faults works served log top opening (views ++ u ∷ []) homes turn
      slot_grows served log top views u homes none h = h
      slot_grows served log top views u homes (some j) h =
          (h.0, (h.1.0, at_longer views (u ∷ []) j h.1.0 h.1.1, h.1.2))

  pub joins : (id : ℕ) (v : V) (other : ℕ) (u : V) → v.stage ≡ Resting → u.stage ≡ Resting → 0 < v.room
      → Joins Rule id v other u (joined v u) empty_view
  joins id v other u rest rest' room s r at apart there =
      let f = r.each id v at in
      let w : V = joined v u in
      let o : V = empty_view in
      let views' : List V = set s.views id w in
      let views'' : List V = set views' other o in
      let there' : get_elem? s.views other ≡ some u = sym (set_else s.views id other w apart) ∙ there in
      let h = r.each other u there' in
      let none_there : tickets_of u.stage ≡ 0 = ap tickets_of rest' in
      let kept : Out views' ≡ Out s.views = same_sum core faults works opening seats (λ v. tickets_of v.stage)
      s.views id v w at refl in
      let gone : Out views'' + tickets_of u.stage ≡ Out views' + 0 = sum-set (λ (v : V). tickets_of v.stage) views'
      other u o there in
      let same : Out views'' ≡ Out s.views = omega arith in
      let a = f.mark in let b = h.mark in record {
        served = r.served;
        log = r.log;
        top = r.top;
        turn = r.turn;
        words = r.words
            ∙ ap (λ (n : ℕ). words_of ((r.served + n) % 2 ^ 64) (r.served % 2 ^ 64) (length r.log)) (sym same);
        each = subst (λ (n : ℕ). (j : ℕ) (x : V) → get_elem? views'' j ≡ some x
            → Fits r.served n r.log r.top r.turn opening seats j x) (sym same)
            (each_set (Fits r.served (Out s.views) r.log r.top r.turn opening seats) views' other o
            record {
              seen = begins_nil r.log;
              mark = omega arith;
              stage = tt;
              own = λ x p. absurd (omega arith);
              left = ([], refl);
              right = ([], refl);
              named = λ z. absurd (omega arith);
              without_room = λ _. (refl, refl, refl, refl);
            }
            (λ j x ne. each_set (Fits r.served (Out s.views) r.log r.top r.turn opening seats) s.views id w
            record {
              seen = longer_begins v.seen u.seen r.log f.seen h.seen;
              mark = omega arith;
              stage = subst (StageFits r.served (Out s.views) r.log r.top r.turn id w) (sym rest) tt;
              own = λ y p. let both : times y (v.own ++ u.own) ≡ times y v.own + times y u.own =
                  sum_by-append _ v.own u.own in
                  dite (ℕ_discrete (times y v.own) 0)
                  (λ z. let lt = h.own y (omega arith) in
                  let le = begins_length u.seen (longer v.seen u.seen)
                  (longer_right v.seen u.seen r.log f.seen h.seen) in omega arith)
                  (λ some_own. let lt = f.own y (omega arith) in
                  let le = begins_length v.seen (longer v.seen u.seen)
                  (longer_left v.seen u.seen r.log f.seen h.seen) in omega arith);
              left = longer_left v.seen u.seen r.log f.seen h.seen;
              right = longer_right v.seen u.seen r.log f.seen h.seen;
              named = λ _. f.named room;
              without_room = λ z. absurd (omega arith);
            }
            (λ k y ne' b'. r.each k y b') j x));
        apart = apart_set views' other o
            (apart_set s.views id w r.apart (λ j x ne b'. resting_apart w.stage x.stage rest))
            (λ j x ne b'. resting_apart Resting x.stage refl);
        rooms = let all = r.rooms in let p = sum-set (λ (v : V). v.room) s.views id v w at in
            let q = sum-set (λ (v : V). v.room) views' other u o there in omega arith;
        few = r.few;
        indexes = λ x. let all = r.indexes x in
            let p = sum-set (λ (v : V). times x v.own) s.views id v w at in
            let q = sum-set (λ (v : V). times x v.own) views' other u o there in
            let both : times x (v.own ++ u.own) ≡ times x v.own + times x u.own = sum_by-append _ v.own u.own in
            omega arith;
        slot = slot_stays core faults works opening seats r.served r.log r.top views' s.homes r.turn other u o there
            (resting_not core faults works opening seats u.stage r.served rest')
            (slot_stays core faults works opening seats r.served r.log r.top s.views s.homes r.turn id v w at
            (resting_not core faults works opening seats v.stage r.served rest) r.slot);
      }

  -- where a resting seat has all the room, the slot is at home
  home_last : (s : St) (r : Rule s) (id : ℕ) (v : V) → get_elem? s.views id ≡ some v → v.room ≡ seats
      → v.stage ≡ Resting
      → (turn : maybe.Option ℕ) → SlotFits core faults works r.served r.log r.top opening s.views s.homes turn
      → SlotFits core faults works r.served r.log r.top opening s.views s.homes none
  home_last s r id v at all rest none h = h
  home_last s r id v at all rest (some j) h = absurd (dite (ℕ_discrete j id)
      (λ e. resting_not core faults works opening seats v.stage r.served rest
      (ap (λ (z : V). z.stage) (some-injective v h.1.0 (sym at ∙ (ap (get_elem? s.views) (sym e) ∙ h.1.1))) ∙ h.1.2))
      (λ ne. resting_not core faults works opening seats h.1.0.stage r.served
      ((r.each j h.1.0 h.1.1).without_room (others_none core faults works opening seats s r id v at all j h.1.0 ne h.1.1)).0
      h.1.2))

  -- the machine and the history of a hall that is closed by a pass with all the room
  pub closes : (id : ℕ) (v : V) (ws : List ℕ) (slots : List (Slot M E)) → v.room ≡ seats → v.stage ≡ Resting
      → Final (Seen Rule id v) ws slots
      → (held : HeldMachine M E) × (get_elem? slots 0 ≡ some (Some held)) × Begins v.seen held.history.items
      × ((x : ℕ) → times x v.own ≡ once_below x (length held.history.items)) × IsReplayed core faults works opening held
      × (v.mark ≤ faults held.machine)
  closes id v ws slots all rest final =
      let s = final.0 in
      let r = final.1.0 in
      let at = final.1.1 in
      let home = home_last s r id v at all rest r.turn r.slot in
      let f = r.each id v at in
      let a = f.mark in
      let b = home.3 in (
        home.0,
        final.4 0 (Some home.0) (ap (λ (hs : List (maybe.Option (Slot M E))). get_elem? hs 0) home.1),
        subst (Begins v.seen) (sym home.2) f.seen,
        (λ x. own_places core faults works opening seats s r id v at all x
            ∙ ap (once_below x) (ap length (sym home.2))),
        home.4,
        omega arith,
      )

  same_slot : (h k : HeldMachine M E) (x : Slot M E) → x ≡ Some h → x ≡ Some k → h ≡ k
  same_slot h k x a b = ap (λ (s : Slot M E). held_of s h) (sym a ∙ b)

  -- the slot is full
  pub slot_full : (id : ℕ) (v : V) (ws : List ℕ) (slots : List (Slot M E)) (x : Slot M E) → v.room ≡ seats
      → v.stage ≡ Resting → Final (Seen Rule id v) ws slots
      → get_elem? slots 0 ≡ some x → (held : HeldMachine M E) × (x ≡ Some held)
  slot_full id v ws slots x all rest final taken =
      let c = closes id v ws slots all rest final in (c.0, some-injective x (Some c.0) (sym taken ∙ c.1))

  -- what was taken out of the slot
  pub closes_with : (id : ℕ) (v : V) (ws : List ℕ) (slots : List (Slot M E)) (x : Slot M E) (held : HeldMachine M E)
      → v.room ≡ seats → v.stage ≡ Resting → Final (Seen Rule id v) ws slots
      → get_elem? slots 0 ≡ some x → x ≡ Some held
      → Begins v.seen held.history.items × ((x : ℕ) → times x v.own ≡ once_below x (length held.history.items))
      × IsReplayed core faults works opening held × (v.mark ≤ faults held.machine)
  closes_with id v ws slots x held all rest final taken is =
      let c = closes id v ws slots all rest final in
      let same : c.0 ≡ held = same_slot c.0 held x (some-injective x (Some c.0) (sym taken ∙ c.1)) is in
      let P : HeldMachine M E → Type 0 = λ h. Begins v.seen h.history.items
      × ((x : ℕ) → times x v.own ≡ once_below x (length h.history.items)) × IsReplayed core faults works opening h
      × (v.mark ≤ faults h.machine) in
      subst P same (c.2, c.3, c.4, c.5)
