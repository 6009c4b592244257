-- What the loop over the lines of an observable input keeps, and what holds where it ends.
use Rattle.std.proofs.Common.{◌≡◌, ◌≢◌, ℕ, ◌+◌, ◌<◌, ◌≤◌, ℤ, List, [], false, length, Option, Some, refl, sym, ap, subst, ◌∙◌}
use Rattle.std.proofs.Common.{length-append, arith}
use Rattle.std.specs.Prelude.{◌↔◌}
use Rattle.portal_base.specs.Outside.{Gives}
use Rattle.portal_lines.specs.Lines.{ReaderState}
use Rattle.portal_serve.proofs.Fronts.{Gave, gave}
use Rattle.portal_serve.proofs.Playing.{plays_all, plays_part, plays_read, running_start, running_turn, stops_between}
use Rattle.portal_serve.proofs.Working.{begins_no_line}
use Rattle.portal_serve.specs.Played.{TakesTurn, EndsTurn, StopsTurn, FailsTurn, Running}
use Rattle.portal_serve.specs.Rounds.{PoolTrace}
use Rattle.portal_state.specs.State.{State}
use Rattle.portal_serve.specs.Run.{DeviceTrace, stage_trace_of, PlaysAll, PlaysPart, PlaysRead, GaveTooMuch, device_trace}
use Rattle.portal_serve.specs.Run.{input_limit}
use Rattle.portal_serve.specs.Stopped.{begun_limit}
use Rattle.portal_serve.specs.declared.play.PlayEnd.{PlayEnd}
use Rattle.portal_serve.specs.declared.play.PlayEnd.TheVariants as playing
use Rattle.portal_serve.specs.declared.script.TheConstants.{LONGEST_LINE}

-- ---- what the loop over the lines keeps

pub record Keeps {F : Type 0} (first : State) (old new : DeviceTrace) (pool pool_after : PoolTrace F) (state : State)
    (reading : ReaderState) : Type 0 where
  pub longest : reading.longest ≡ LONGEST_LINE
  pub limit : reading.limit ≡ input_limit
  pub goes_on : reading.has_failed ≡ false
  pub running : (whole : List ℕ) → old.to_come ≡ Some whole → Running first whole old new pool pool_after state reading

pub keeps_start : {F : Type 0} (first : State) (old : DeviceTrace) (pool : PoolTrace F) (reading : ReaderState)
    → reading
    ≡ record {
      buffered = [];
      line = [];
      received = 0;
      longest = LONGEST_LINE;
      limit = input_limit;
      has_failed = false;
    }
    → Keeps first old old pool pool first reading
keeps_start first old pool reading new = record {
  longest = ap (λ (r : ReaderState). r.longest) new;
  limit = ap (λ (r : ReaderState). r.limit) new;
  goes_on = ap (λ (r : ReaderState). r.has_failed) new;
  running = λ whole observed. running_start first whole old pool reading observed
      (ap (λ (r : ReaderState). r.buffered) new)
      (ap (λ (r : ReaderState). r.received) new);
}

pub keeps_turn : {F : Type 0} (first : State) (old mid new : DeviceTrace) (pool pool_mid pool_after : PoolTrace F)
    (state after : State) (before reading : ReaderState)
    → Keeps first old mid pool pool_mid state before → TakesTurn state after before reading mid new pool_mid pool_after
    → reading.longest ≡ before.longest → reading.limit ≡ before.limit → reading.has_failed ≡ false
    → Keeps first old new pool pool_after after reading
keeps_turn first old mid new pool pool_mid pool_after state after before reading k t longest limit goes_on = record {
  longest = longest ∙ k.longest;
  limit = limit ∙ k.limit;
  goes_on = goes_on;
  running = λ whole observed. running_turn first whole old mid new pool pool_mid pool_after state after before reading (k.running whole observed)
      t;
}

pub keeps_all : {F : Type 0} (first : State) (old mid new : DeviceTrace) (pool pool_mid pool_after : PoolTrace F)
    (state after : State) (before reading : ReaderState)
    → Keeps first old mid pool pool_mid state before → EndsTurn state after before reading mid new pool_mid pool_after
    → reading.limit ≡ before.limit → reading.received ≤ reading.limit → (whole : List ℕ) → old.to_come ≡ Some whole
    → PlaysAll first whole after old new pool pool_after
keeps_all first old mid new pool pool_mid pool_after state after before reading k t limit within whole observed =
    plays_all first whole old mid new pool pool_mid pool_after state after before reading (k.running whole observed) t
    (omega (arith, within, limit, k.limit))

pub keeps_part : {F : Type 0} (limit : ℕ) (first : State) (old mid new : DeviceTrace) (pool pool_mid pool_after : PoolTrace F)
    (state after : State) (before reading : ReaderState)
    → Keeps first old mid pool pool_mid state before
    → StopsTurn limit state after before reading mid new pool_mid pool_after → (whole : List ℕ) → old.to_come ≡ Some whole
    → PlaysPart limit first whole after old new pool pool_after
keeps_part limit first old mid new pool pool_mid pool_after state after before reading k t whole observed =
    plays_part limit first whole old mid new pool pool_mid pool_after state after before reading (k.running whole observed) t

pub keeps_read : {F : Type 0} (first : State) (old mid new : DeviceTrace) (pool pool_mid pool_after : PoolTrace F)
    (state after : State) (before reading : ReaderState)
    → Keeps first old mid pool pool_mid state before
    → FailsTurn state after before reading mid new pool_mid pool_after → (whole : List ℕ) → old.to_come ≡ Some whole
    → PlaysRead first whole after old new pool pool_after
keeps_read first old mid new pool pool_mid pool_after state after before reading k t whole observed =
    plays_read first whole old mid new pool pool_mid pool_after state after before reading (k.running whole observed) t

-- the count of bytes of the whole that were read
left_of_whole : {F : Type 0} (first : State) (old mid new : DeviceTrace) (pool pool_mid pool_after : PoolTrace F)
    (state after : State) (before reading : ReaderState)
    (limit : ℕ)
    → Keeps first old mid pool pool_mid state before
    → StopsTurn limit state after before reading mid new pool_mid pool_after → (whole : List ℕ) → old.to_come ≡ Some whole
    → (rest : List ℕ) × (new.to_come ≡ Some rest) × (reading.received + length rest ≡ length whole)
left_of_whole first old mid new pool pool_mid pool_after state after before reading limit k t whole observed =
    let r = k.running whole observed in
    let g : Gave r.rest t.bytes new.to_come = gave r.rest t.bytes mid.to_come new.to_come r.input t.gives in
    let total : length r.rest ≡ length t.bytes + length g.more = ap length g.splits ∙ length-append t.bytes g.more in
    (g.more, g.observed, omega (arith, total, t.counts, r.received))

-- The count of bytes received exceeds the limit exactly where the whole is that much longer than what is left.
pub gave_too_much : {F : Type 0} (first : State) (old mid new : DeviceTrace) (pool pool_mid pool_after : PoolTrace F)
    (state after : State) (before reading : ReaderState)
    (limit : ℕ)
    → Keeps first old mid pool pool_mid state before
    → StopsTurn limit state after before reading mid new pool_mid pool_after → reading.limit ≡ before.limit → (whole : List ℕ)
    → old.to_come ≡ Some whole
    → (reading.limit < reading.received) ↔ GaveTooMuch whole new.to_come
gave_too_much first old mid new pool pool_mid pool_after state after before reading limit k t same whole observed =
    let left = left_of_whole first old mid new pool pool_mid pool_after state after before reading limit k t whole observed in (
      λ much. (left.0, left.1, omega (arith, left.2, much, same, k.limit)),
      λ gave.
          let rests : gave.0 ≡ left.0 = some_is gave.0 left.0 (sym gave.1 ∙ left.1) in
          omega (arith, gave.2, left.2, ap length rests, same, k.limit),
    )
  where
    some_is : (a b : List ℕ) → Some a ≡ Some b → a ≡ b
    some_is a b e = cc

-- what was read to its end wasn't too much
pub gave_within : {F : Type 0} (state after : State) (whole : List ℕ) (old new : DeviceTrace) (pool pool_after : PoolTrace F)
    → PlaysAll state whole after old new pool pool_after
    → GaveTooMuch whole new.to_come → ⊥
gave_within state after whole old new pool pool_after all gave = omega (arith, all.small, gave.2)

-- Playing ended with `TooLong` exactly if input gave too much.
pub too_long_at_end : {F : Type 0} (first : State) (old mid new : DeviceTrace) (pool pool_mid pool_after : PoolTrace F)
    (state after : State) (before reading : ReaderState)
    (end : PlayEnd)
    → Keeps first old mid pool pool_mid state before → reading.limit ≡ before.limit
    → (end ≡ playing.Done → EndsTurn state after before reading mid new pool_mid pool_after)
    → (end ≡ playing.Done → reading.received ≤ reading.limit)
    → (end ≢ playing.Done → StopsTurn (begun_limit end) state after before reading mid new pool_mid pool_after)
    → (Some end ≡ Some playing.TooLong) ↔ (reading.limit < reading.received) → (whole : List ℕ)
    → old.to_come ≡ Some whole → (end ≡ playing.TooLong) ↔ GaveTooMuch whole new.to_come
too_long_at_end first old mid new pool pool_mid pool_after state after before reading end k same ends within stops too_long whole observed =
    by end refl
  where
    stopped : end ≢ playing.Done → (end ≡ playing.TooLong) ↔ GaveTooMuch whole new.to_come
    stopped other =
        let much = gave_too_much first old mid new pool pool_mid pool_after state after before reading (begun_limit end) k (stops other) same whole
        observed in
        (λ is. much.0 (too_long.0 (ap Some is)), λ gave. let ended = too_long.1 (much.1 gave) in cc)

    by : (e : PlayEnd) → end ≡ e → (end ≡ playing.TooLong) ↔ GaveTooMuch whole new.to_come
    by playing.Done is = (
      λ long. absurd (cc),
      λ gave. absurd (gave_within first after whole old new pool pool_after
          (keeps_all first old mid new pool pool_mid pool_after state after before reading k (ends is) same (within is) whole observed) gave),
    )
    by playing.ReadFault is = stopped (λ done. absurd (cc))
    by playing.WriteFault is = stopped (λ done. absurd (cc))
    by playing.KeeperFault is = stopped (λ done. absurd (cc))
    by playing.TooLong is = stopped (λ done. absurd (cc))
    by playing.OutOfMemory is = stopped (λ done. absurd (cc))

-- nothing passed where nothing was tried
pub plays_nothing : {F : Type 0} (limit : ℕ) (first : State) (old : DeviceTrace) (pool : PoolTrace F) (whole : List ℕ)
    → old.to_come ≡ Some whole → PlaysPart limit first whole first old old pool pool
plays_nothing limit first old pool whole observed =
    plays_part limit first whole old old old pool pool pool first first unread unread
    (running_start first whole old pool unread observed refl refl)
    (stops_between limit first first unread unread old old pool pool [] gives refl
    (begins_no_line first (stage_trace_of old) (stage_trace_of old) pool refl))
  where
    unread : ReaderState
    unread = record { buffered = []; line = []; received = 0; longest = 0; limit = 0; has_failed = false }

    gives : Gives old.to_come [] old.to_come
    gives = subst (λ o. Gives o [] o) (sym observed) (whole, refl, refl)

-- ---- the same where the traces of output, the clock, the nonces and the fetchers have other names

renamed : {F : Type 0}
    (P : Option (List ℕ) → Option (List ℤ) → Option (List ℕ) → PoolTrace F → PoolTrace F → Type 0)
    (taken taken' : Option (List ℕ)) (moments moments' : Option (List ℤ)) (nonces nonces' : Option (List ℕ))
    (pool pool' pool_after pool_after' : PoolTrace F)
    → P taken moments nonces pool pool_after → taken ≡ taken' → moments ≡ moments' → nonces ≡ nonces' → pool ≡ pool'
    → pool_after ≡ pool_after' → P taken' moments' nonces' pool' pool_after'
renamed P taken taken' moments moments' nonces nonces' pool pool' pool_after pool_after' is t m n p q =
    subst (λ v. P taken' moments' nonces' pool' v) q
    (subst (λ v. P taken' moments' nonces' v pool_after) p
    (subst (λ v. P taken' moments' v pool pool_after) n
    (subst (λ v. P taken' v nonces pool pool_after) m
    (subst (λ v. P v moments nonces pool pool_after) t is))))

pub all_as : {F : Type 0} (first after : State) (whole : List ℕ) (old : DeviceTrace) (observed : Option (List ℕ))
    (taken taken' : Option (List ℕ)) (moments moments' : Option (List ℤ)) (nonces nonces' : Option (List ℕ))
    (pool pool' pool_after pool_after' : PoolTrace F)
    → PlaysAll first whole after old (device_trace observed taken moments nonces) pool pool_after
    → taken ≡ taken' → moments ≡ moments' → nonces ≡ nonces' → pool ≡ pool' → pool_after ≡ pool_after'
    → PlaysAll first whole after old (device_trace observed taken' moments' nonces') pool' pool_after'
all_as first after whole old observed taken taken' moments moments' nonces nonces' pool pool' pool_after pool_after' =
    renamed (λ t m n p q. PlaysAll first whole after old (device_trace observed t m n) p q) taken taken' moments moments'
    nonces nonces' pool pool' pool_after pool_after'

pub part_as : {F : Type 0} (limit : ℕ) (first after : State) (whole : List ℕ) (old : DeviceTrace) (observed : Option (List ℕ))
    (taken taken' : Option (List ℕ)) (moments moments' : Option (List ℤ)) (nonces nonces' : Option (List ℕ))
    (pool pool' pool_after pool_after' : PoolTrace F)
    → PlaysPart limit first whole after old (device_trace observed taken moments nonces) pool pool_after
    → taken ≡ taken' → moments ≡ moments' → nonces ≡ nonces' → pool ≡ pool' → pool_after ≡ pool_after'
    → PlaysPart limit first whole after old (device_trace observed taken' moments' nonces') pool' pool_after'
part_as limit first after whole old observed taken taken' moments moments' nonces nonces' pool pool' pool_after pool_after' =
    renamed (λ t m n p q. PlaysPart limit first whole after old (device_trace observed t m n) p q) taken taken' moments moments'
    nonces nonces' pool pool' pool_after pool_after'

pub read_as : {F : Type 0} (first after : State) (whole : List ℕ) (old : DeviceTrace) (observed : Option (List ℕ))
    (taken taken' : Option (List ℕ)) (moments moments' : Option (List ℤ)) (nonces nonces' : Option (List ℕ))
    (pool pool' pool_after pool_after' : PoolTrace F)
    → PlaysRead first whole after old (device_trace observed taken moments nonces) pool pool_after
    → taken ≡ taken' → moments ≡ moments' → nonces ≡ nonces' → pool ≡ pool' → pool_after ≡ pool_after'
    → PlaysRead first whole after old (device_trace observed taken' moments' nonces') pool' pool_after'
read_as first after whole old observed taken taken' moments moments' nonces nonces' pool pool' pool_after pool_after' =
    renamed (λ t m n p q. PlaysRead first whole after old (device_trace observed t m n) p q) taken taken' moments moments'
    nonces nonces' pool pool' pool_after pool_after'
