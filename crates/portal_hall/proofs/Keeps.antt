-- Each step on the hall's table keeps its rule.
use Rattle.std.proofs.Common.{◌≡◌, ◌≢◌, ℕ, zero, suc, ◌+◌, ◌%◌, ◌^◌, ◌<◌, ◌≤◌, List, [], ◌∷◌, length, set}
use Rattle.std.proofs.Common.{Option, Some}
use Rattle.std.proofs.Common.{refl, ap, sym, ◌∙◌, subst, ⊎_elim, arith}
use Rattle.std.specs.Prelude.{sum_by, slice_index, IfSome}
use mathlib.Core.Logic.{dite}
use mathlib.Core.Option.{none, some, some-injective, some-ne-none}
use mathlib.Core.Option as maybe
use native.Mathlib.Decide.{ℕ_discrete}
use lib.ListN.{get_elem?}
use lib.Seq.{set-get_or}
use Rattle.atomic_table.specs.Table as table
use Rattle.atomic_table.specs.Table.{step, keeps, takes, Allows}
use Rattle.atomic_table.proofs.Lists.{at_set, set_again, set_here, set_else, one_turn}
use Rattle.portal_hall.specs.History.{Step, Begins, times}
use Rattle.portal_hall.specs.declared.board.HeldMachine.{HeldMachine}
use Rattle.portal_hall.specs.declared.board.View.{View}
use Rattle.portal_hall.specs.declared.board.Stage.{Stage}
use Rattle.portal_hall.specs.declared.board.Stage.TheVariants.{Resting, Waiting, Acting}
use Rattle.portal_hall.specs.Turns.{HasTicket, Apart, tickets_of, Slot, Me, tickets_out, StageFits, Fits}
use Rattle.portal_hall.specs.Turns.{IsReplayed, SlotFits, Kept, HasTurn}
use Rattle.portal_hall.specs.Turns.{looked, drew, words_of, next_index, served_index}
use Rattle.portal_hall.proofs.Sums.{sum-set, at_most, sum-below}
use Rattle.portal_hall.proofs.Prefixes.{begins_self, begins_trans, begins_length}
use Rattle.portal_hall.proofs.Alone.{sees_all}

pub resting_apart : (a b : Stage) → a ≡ Resting → Apart a b
resting_apart a b e t p q = subst (λ (z : Stage). HasTicket z t) e p

pub apart_back : (a b : Stage) → Apart a b → Apart b a
apart_back a b h t p q = h t q p

module _ {M E : Type 0} where
  pub each_set : (P : ℕ → View M E → Type 0) (vs : List (View M E)) (id : ℕ) (w : View M E) → P id w
      → ((j : ℕ) (u : View M E) → j ≢ id → get_elem? vs j ≡ some u → P j u)
      → (j : ℕ) (u : View M E) → get_elem? (set vs id w) j ≡ some u → P j u
  each_set P vs id w mine others j u e =
      ⊎_elim (λ (t : (j ≡ id) × (w ≡ u)). subst (λ (x : ℕ × View M E). P x.0 x.1) (λ i. (sym t.0 i, t.1 i)) mine)
      (λ (t : (j ≢ id) × (get_elem? vs j ≡ some u)). others j u t.0 t.1) (at_set vs id j w u e)

  abbrev pub AllApart : List (View M E) → Type 0
  AllApart vs = (j k : ℕ) (v w : View M E) → j ≢ k → get_elem? vs j ≡ some v → get_elem? vs k ≡ some w
      → Apart v.stage w.stage

  pub apart_set : (vs : List (View M E)) (id : ℕ) (w : View M E) → AllApart vs
      → ((j : ℕ) (u : View M E) → j ≢ id → get_elem? vs j ≡ some u → Apart w.stage u.stage) → AllApart (set vs id w)
  apart_set vs id w old new j k u v ne a b =
      ⊎_elim
      (λ (t : (j ≡ id) × (w ≡ u)). ⊎_elim
      (λ (x : (k ≡ id) × (w ≡ v)). absurd (ne (t.0 ∙ sym x.0)))
      (λ (x : (k ≢ id) × (get_elem? vs k ≡ some v)). subst (λ (z : View M E). Apart z.stage v.stage) t.1
      (new k v x.0 x.1))
      (at_set vs id k w v b))
      (λ (t : (j ≢ id) × (get_elem? vs j ≡ some u)). ⊎_elim
      (λ (x : (k ≡ id) × (w ≡ v)). subst (λ (z : View M E). Apart u.stage z.stage) x.1
      (apart_back w.stage u.stage (new j u t.0 t.1)))
      (λ (x : (k ≢ id) × (get_elem? vs k ≡ some v)). old j k u v ne t.1 x.1)
      (at_set vs id k w v b))
      (at_set vs id j w u a)

pub tickets_below : (st : Stage) → tickets_of st ≤ 1
tickets_below Resting = omega arith
tickets_below (Waiting t) = omega arith
tickets_below (Acting t) = omega arith

pub is_below : {A : Type 0} (xs : List A) (i : ℕ) (a : A) → get_elem? xs i ≡ some a → i < length xs
is_below [] i a at = absurd (some-ne-none a (sym at))
is_below (x ∷ xs) zero a at = omega arith
is_below (x ∷ xs) (suc i) a at = let h = is_below xs i a at in omega arith

module _ {M E : Type 0} where
  pub ticket_below : (served out : ℕ) (log : List E) (top : ℕ) (turn : maybe.Option ℕ) (j : ℕ) (v : View M E)
      (st : Stage)
      → StageFits served out log top turn j v st → (t : ℕ) → HasTicket st t → (served ≤ t) × (t < served + out)
  ticket_below served out log top turn j v Resting h t p = absurd p
  ticket_below served out log top turn j v (Waiting x) h t p = let a = h.0 in let b = h.1 in (omega arith, omega arith)
  ticket_below served out log top turn j v (Acting x) h t p = let a = h.0 in let b = h.1 in (omega arith, omega arith)

  -- what is said of another seat's stage stays where more tickets are out
  pub stage_more : (served out out' : ℕ) (log : List E) (top : ℕ) (turn : maybe.Option ℕ) (j : ℕ) (v : View M E)
      (st : Stage) → out ≤ out'
      → StageFits served out log top turn j v st → StageFits served out' log top turn j v st
  stage_more served out out' log top turn j v Resting le h = tt
  stage_more served out out' log top turn j v (Waiting x) le h = let a = h.1 in (h.0, omega arith)
  stage_more served out out' log top turn j v (Acting x) le h = let a = h.1 in (h.0, omega arith, h.2, h.3, h.4)

  -- the same where the turn is taken
  pub stage_taken : (served out : ℕ) (log : List E) (top top' : ℕ) (turn turn' : maybe.Option ℕ) (j : ℕ)
      (v : View M E) (st : Stage) → turn ≡ none
      → StageFits served out log top turn j v st → StageFits served out log top' turn' j v st
  stage_taken served out log top top' turn turn' j v Resting e h = tt
  stage_taken served out log top top' turn turn' j v (Waiting x) e h = h
  stage_taken served out log top top' turn turn' j v (Acting x) e h = absurd (some-ne-none j (sym h.2 ∙ e))

  -- the same where another has the turn
  pub stage_else : (served out : ℕ) (log log' : List E) (top top' : ℕ) (turn : maybe.Option ℕ) (id j : ℕ)
      (v : View M E) (st : Stage) → turn ≡ some id → j ≢ id
      → StageFits served out log top turn j v st → StageFits served out log' top' turn j v st
  stage_else served out log log' top top' turn id j v Resting e ne h = tt
  stage_else served out log log' top top' turn id j v (Waiting x) e ne h = h
  stage_else served out log log' top top' turn id j v (Acting x) e ne h =
      absurd (ne (some-injective j id (sym h.2 ∙ e)))

  -- the same where the turn is passed on
  pub stage_passed : (served out out' : ℕ) (log : List E) (top : ℕ) (turn : maybe.Option ℕ) (id j : ℕ) (v : View M E)
      (st : Stage) → turn ≡ some id → j ≢ id
      → out' + 1 ≡ out → Apart (Acting served) st → StageFits served out log top turn j v st
      → StageFits (served + 1) out' log top none j v st
  stage_passed served out out' log top turn id j v Resting e ne less apart h = tt
  stage_passed served out out' log top turn id j v (Waiting x) e ne less apart h =
      let a = h.0 in let b = h.1 in let c : served ≢ x = λ same. apart served refl (sym same) in
      (omega arith, omega arith)
  stage_passed served out out' log top turn id j v (Acting x) e ne less apart h =
      absurd (ne (some-injective j id (sym h.2 ∙ e)))

module _ {M E C R : Type 0} (core : M → C) (faults : M → ℕ) (works : C → E → Step C R) (opening : M) (seats : ℕ) where
  abbrev pub V : Type 0
  V = View M E

  abbrev pub St : Type 0
  St = table.State (Slot M E) V

  abbrev pub Rule : St → Type 0
  Rule = Kept core faults works opening seats

  abbrev pub Out : List V → ℕ
  Out views = tickets_out views

  pub few_out : (s : St) (r : Rule s) → Out s.views ≤ 64
  few_out s r =
      let below = sum-below (λ (v : V). tickets_of v.stage) (λ v. v.room) s.views
      (λ j v at. dite (ℕ_discrete v.room 0)
      (λ z. let rest : tickets_of v.stage ≡ 0 = ap tickets_of ((r.each j v at).without_room z).0 in omega arith)
      (λ some_room. let one = tickets_below v.stage in omega arith)) in
      let all = r.rooms in let few = r.few in omega arith

  -- a slot that is at home, or out with another seat, stays so where a seat without the turn changes
  pub slot_stays : (served : ℕ) (log : List E) (top : ℕ) (views : List V) (homes : List (maybe.Option (Slot M E)))
      (turn : maybe.Option ℕ) (id : ℕ) (v w : V)
      → get_elem? views id ≡ some v → (v.stage ≡ Acting served → ⊥)
      → SlotFits core faults works served log top opening views homes turn
      → SlotFits core faults works served log top opening (set views id w) homes turn
  slot_stays served log top views homes none id v w at not h = h
  slot_stays served log top views homes (some j) id v w at not h = (
    h.0,
    (
      h.1.0,
      dite (ℕ_discrete j id)
          (λ e. absurd (not (ap (λ (z : V). z.stage)
          (some-injective v h.1.0 (sym at ∙ (ap (get_elem? views) (sym e) ∙ h.1.1))) ∙ h.1.2)))
          (λ ne. set_else views id j w ne ∙ h.1.1),
      h.1.2,
    ),
  )

  pub resting_not : (st : Stage) (t : ℕ) → st ≡ Resting → st ≡ Acting t → ⊥
  resting_not st t a b = cc

  pub waiting_not : (st : Stage) (t u : ℕ) → st ≡ Waiting t → st ≡ Acting u → ⊥
  waiting_not st t u a b = cc

  pub same_sum : (f : V → ℕ) (vs : List V) (id : ℕ) (v w : V) → get_elem? vs id ≡ some v → f w ≡ f v
      → sum_by f (set vs id w) ≡ sum_by f vs
  same_sum f vs id v w at e = let h = sum-set f vs id v w at in omega arith

  pub draws : (slots id : ℕ) (me : Me M E) → me.0.stage ≡ Resting → 0 < me.0.room
      → Allows Rule slots id me next_index (λ n. (n + 1) % 2 ^ 64) (drew (step slots next_index 1 0 none) me)
  draws slots id me rest room s r _ at _ =
      let out : ℕ = Out s.views in
      let t : ℕ = r.served + out in
      let w : V = record me.0 { stage = Waiting t } in
      let out' : ℕ = Out (set s.views id w) in
      let none_mine : tickets_of me.0.stage ≡ 0 = ap tickets_of rest in
      let changed : out' + tickets_of me.0.stage ≡ out + 1 = sum-set (λ (v : V). tickets_of v.stage) s.views id me.0
      w at in
      let more : out' ≡ out + 1 = omega arith in
      let f = r.each id me.0 at in
      let head : ((r.served + out) % 18446744073709551616 + 1) % 18446744073709551616 ≡ (r.served + out') %
      18446744073709551616 = omega arith in (
        w,
        keeps,
        tt,
        record {
          served = r.served;
          log = r.log;
          top = r.top;
          turn = r.turn;
          words = ap (λ (ws : List ℕ). set ws next_index ((slice_index ws next_index + 1) % 2 ^ 64)) r.words
              ∙ ap (λ (h : ℕ). words_of h (r.served % 2 ^ 64) (length r.log)) head;
          each = each_set (Fits r.served out' r.log r.top r.turn opening seats) s.views id w
              record {
                seen = f.seen;
                mark = f.mark;
                stage = (omega arith, omega arith);
                own = f.own;
                left = f.left;
                right = f.right;
                named = f.named;
                without_room = λ z. absurd (omega arith);
              }
              (λ j u ne b. let h = r.each j u b in record {
                seen = h.seen;
                mark = h.mark;
                stage = stage_more r.served out out' r.log r.top r.turn j u u.stage (omega arith) h.stage;
                own = h.own;
                left = h.left;
                right = h.right;
                named = h.named;
                without_room = h.without_room;
              });
          apart = apart_set s.views id w r.apart (λ j u ne b x p q.
              let below = ticket_below r.served out r.log r.top r.turn j u u.stage (r.each j u b).stage x q in
              let mine : t ≡ x = p in let lt = below.1 in absurd (omega arith));
          rooms = same_sum (λ v. v.room) s.views id me.0 w at refl ∙ r.rooms;
          few = r.few;
          indexes = λ x. same_sum (λ v. times x v.own) s.views id me.0 w at refl ∙ r.indexes x;
          slot = slot_stays r.served r.log r.top s.views s.homes r.turn id me.0 w at
              (resting_not me.0.stage r.served rest) r.slot;
        },
        (t, ap (λ (ws : List ℕ). slice_index ws next_index) r.words, refl),
      )

  -- where the ticket that is served is a waiting seat's, the slot is at home
  pub at_home : (s : St) (r : Rule s) (turn : maybe.Option ℕ)
      → SlotFits core faults works r.served r.log r.top opening s.views s.homes turn
      → (id : ℕ) (v : V) → get_elem? s.views id ≡ some v → v.stage ≡ Waiting r.served
      → (turn ≡ none) × SlotFits core faults works r.served r.log r.top opening s.views s.homes none
  at_home s r none h id v at waits = (refl, h)
  at_home s r (some j) h id v at waits = absurd (dite (ℕ_discrete j id)
      (λ e. waiting_not v.stage r.served r.served waits
      (ap (λ (z : V). z.stage) (some-injective v h.1.0 (sym at ∙ (ap (get_elem? s.views) (sym e) ∙ h.1.1))) ∙ h.1.2))
      (λ ne. r.apart j id h.1.0 v ne h.1.1 at r.served (subst (λ (z : Stage). HasTicket z r.served) (sym h.1.2) refl)
      (subst (λ (z : Stage). HasTicket z r.served) (sym waits) refl)))

  waits_for : (t u : ℕ) (st : Stage) → st ≡ Waiting t → st ≡ Waiting u → t ≡ u
  waits_for t u st a b = cc

  -- the turn is there, and the slot is taken
  takes_turn : (slots id : ℕ) (me : Me M E) (s : St) (r : Rule s) → get_elem? s.views id ≡ some me.0
      → me.0.stage ≡ Waiting r.served → 0 < me.0.room
      → (w : V) × (a : table.Act (Slot M E)) × table.Valid s.homes me.1 a
      × Rule (table.stepped s served_index (slice_index s.words served_index) id me.1 w a)
      × (me.1 ≡ [] → HasTurn core faults works me r.served (w, table.carried_after me.1 a))
  takes_turn slots id me s r at waits room =
      let home = at_home s r r.turn r.slot id me.0 at waits in
      let held : HeldMachine M E = home.1.0 in
      let w : V = record me.0 { stage = Acting r.served; seen = held.history.items; mark = faults held.machine } in
      let f = r.each id me.0 at in
      let views' : List V = set s.views id w in
      let changed = sum-set (λ (v : V). tickets_of v.stage) s.views id me.0 w at in
      let one : tickets_of me.0.stage ≡ 1 = ap tickets_of waits in
      let same : Out views' ≡ Out s.views = omega arith in
      let some_out : 0 < Out views' = let h = at_most (λ (v : V). tickets_of v.stage) s.views id me.0 at in
      omega arith in
      let top : r.top ≤ faults held.machine = home.1.3 in
      let mark : me.0.mark ≤ r.top = f.mark in (
        w,
        takes 0 (Some held),
        ap (λ (hs : List (maybe.Option (Slot M E))). get_elem? hs 0) home.1.1,
        record {
          served = r.served;
          log = r.log;
          top = faults held.machine;
          turn = some id;
          words = ap (λ (ws : List ℕ). set ws served_index (slice_index ws served_index)) r.words
              ∙ ap (λ (n : ℕ). words_of ((r.served + n) % 2 ^ 64) (r.served % 2 ^ 64) (length r.log)) (sym same);
          each = each_set (Fits r.served (Out views') r.log (faults held.machine) (some id) opening seats) s.views id w
              record {
                seen = subst (λ (l : List E). Begins l r.log) (sym home.1.2) (begins_self r.log);
                mark = omega arith;
                stage = (refl, some_out, refl, home.1.2, refl);
                own = λ x h. let lt = f.own x h in
                    let le = begins_length me.0.seen r.log f.seen in
                    let len = ap length home.1.2 in omega arith;
                left = begins_trans me.0.left_seen me.0.seen held.history.items f.left
                    (subst (Begins me.0.seen) (sym home.1.2) f.seen);
                right = begins_trans me.0.right_seen me.0.seen held.history.items f.right
                    (subst (Begins me.0.seen) (sym home.1.2) f.seen);
                named = f.named;
                without_room = λ z. absurd (omega arith);
              }
              (λ j u ne b. let h = r.each j u b in let m = h.mark in record {
                seen = h.seen;
                mark = omega arith;
                stage = stage_more r.served (Out s.views) (Out views') r.log (faults held.machine) (some id) j u
                    u.stage (omega arith)
                    (stage_taken r.served (Out s.views) r.log r.top (faults held.machine) r.turn (some id) j u
                    u.stage home.0 h.stage);
                own = h.own;
                left = h.left;
                right = h.right;
                named = h.named;
                without_room = h.without_room;
              });
          apart = apart_set s.views id w r.apart (λ j u ne b x p q.
              r.apart id j me.0 u (λ e. ne (sym e)) at b x (subst (λ (z : Stage). HasTicket z x) (sym waits) p) q);
          rooms = same_sum (λ v. v.room) s.views id me.0 w at refl ∙ r.rooms;
          few = r.few;
          indexes = λ x. same_sum (λ v. times x v.own) s.views id me.0 w at refl ∙ r.indexes x;
          slot = (
            ap (λ (hs : List (maybe.Option (Slot M E))). set hs 0 none) home.1.1,
            (w, set_here s.views id w (is_below s.views id me.0 at), refl),
          );
        },
        λ empty. (
          held,
          ap (λ (l : List (ℕ × Slot M E)). (0, Some held) ∷ l) empty,
          refl,
          subst (Begins me.0.seen) (sym home.1.2) f.seen,
          omega arith,
          subst (λ (o : Option M). IfSome o (λ m. IsReplayed core faults works m held)) (sym (f.named room).0) home.1.4,
          λ all. home.1.2 ∙ sees_all core faults works opening seats s r id me.0 at (all ∙ (f.named room).1),
        ),
      )

  -- a step that changes no word and no view
  pub unmoved : (s : St) (r : Rule s) (i id : ℕ) (c : List (ℕ × Slot M E)) (v : V) → get_elem? s.views id ≡ some v
      → Rule (table.stepped s i (slice_index s.words i) id c v keeps)
  unmoved s r i id c v at = subst (λ (z : List ℕ × List V). Rule record { words = z.0; homes = s.homes; views = z.1 })
      (λ k. (sym (set-get_or s.words i 0) k, sym (set_again s.views id v at) k)) r

  pub looks : (slots id : ℕ) (me : Me M E) (t : ℕ) → me.0.stage ≡ Waiting t → 0 < me.0.room → me.1 ≡ []
      → Allows Rule slots id me served_index (λ n. n) (looked core faults works (step slots served_index 0 0 none) me)
  looks slots id me t waits room empty s r _ at _ =
      let found : slice_index s.words served_index ≡ r.served % 2 ^ 64 =
      ap (λ (ws : List ℕ). slice_index ws served_index) r.words in
      let few = few_out s r in
      let fits : StageFits r.served (Out s.views) r.log r.top r.turn id me.0 (Waiting t)
      = subst (StageFits r.served (Out s.views) r.log r.top r.turn id me.0) waits (r.each id me.0 at).stage in
      let low : r.served ≤ t = fits.0 in
      let high : t < r.served + Out s.views = fits.1 in
      dite (ℕ_discrete (slice_index s.words served_index) (t % 2 ^ 64))
      (λ hit.
      let now : r.served ≡ t = one_turn r.served t (2 ^ 64) low (omega arith) (sym found ∙ hit) in
      let turn = takes_turn slots id me s r at (waits ∙ ap Waiting (sym now)) room in (
        turn.0,
        turn.1,
        turn.2,
        turn.3,
        λ u is. (
          (λ _. subst (λ n. HasTurn core faults works me n (turn.0, table.carried_after me.1 turn.1))
              (now ∙ waits_for t u me.0.stage waits is)
              (turn.4 empty)),
          (λ miss. absurd (miss (hit ∙ ap (λ (n : ℕ). n % 2 ^ 64) (waits_for t u me.0.stage waits is)))),
        ),
      ))
      (λ miss. (
        me.0,
        keeps,
        tt,
        unmoved s r served_index id me.1 me.0 at,
        λ u is. (
          (λ hit. absurd (miss (hit ∙ ap (λ (n : ℕ). n % 2 ^ 64) (waits_for u t me.0.stage is waits)))),
          (λ _. refl),
        ),
      ))
