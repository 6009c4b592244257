-- How a command ends, by what its parts did.
use Rattle.std.proofs.Common.{◌≡◌, ◌≢◌, ℕ, List, length, Some, None, Result, Ok, Err, OnErr, Option, inl, inr, arith}
use Rattle.std.proofs.Common.{refl, sym, ap, subst, ◌∙◌}
use Rattle.std.specs.Prelude.{◌↔◌, IfSome, codes}
use Rattle.portal_base.specs.Outside.{Rose}
use Rattle.portal_base.specs.declared.outside.Failed.{Failed}
use Rattle.portal_state.specs.State.{State}
use Rattle.harvest_pool.specs.declared.report.RoundReport.{RoundReport}
use Rattle.portal_start.specs.Commands.{ListsReports, Plays, RoundAnswers, WritesWith, status_for, status_for_desk}
use Rattle.portal_start.specs.Commands.{status_unlisted}
use Rattle.portal_state.specs.PortalValue.{AreOfNoState}
use Rattle.portal_state.specs.declared.opening.OpenFault.{OpenFault}
use Rattle.portal_state.specs.declared.opening.OpenFault.TheVariants as opening
use Rattle.portal_keeper.specs.Keeping.{Shows}
use Rattle.portal_keeper.specs.declared.row.KeptRow.{KeptRow}
use Rattle.portal_start.specs.OverStore.{FailsToOpen, IsCauseOfNone, StoreTrace, status_for_opening}
use Rattle.portal_status.specs.declared.status.Status.{Status}
use Rattle.portal_status.specs.declared.status.Status.TheVariants as status
use Rattle.portal_serve.specs.Rounds.{PoolTrace}
use Rattle.portal_serve.specs.Run.{DeviceTrace, GaveTooMuch, PlaysAll, PlaysPart, PlaysRead}
use Rattle.portal_serve.specs.Stopped.{begun_limit}
use Rattle.portal_serve.specs.declared.play.PlayEnd.{PlayEnd}
use Rattle.portal_serve.specs.declared.play.PlayEnd.TheVariants as playing

-- ---- a script that was played

pub plays_by : {F : Type 0} (state after : State) (old new : DeviceTrace) (pool pool_after : PoolTrace F) (end : PlayEnd)
    → (end ≡ playing.Done → (whole : List ℕ) → old.to_come ≡ Some whole
    → PlaysAll state whole after old new pool pool_after)
    → (end ≢ playing.Done → (whole : List ℕ) → old.to_come ≡ Some whole
    → PlaysPart (begun_limit end) state whole after old new pool pool_after)
    → (end ≡ playing.ReadFault → (whole : List ℕ) → old.to_come ≡ Some whole
    → PlaysRead state whole after old new pool pool_after)
    → Plays state after old new pool pool_after end
plays_by state after old new pool pool_after playing.Done all part read = all refl
plays_by state after old new pool pool_after playing.ReadFault all part read = read refl
plays_by state after old new pool pool_after playing.WriteFault all part read = part (λ e. absurd (cc))
plays_by state after old new pool pool_after playing.KeeperFault all part read = part (λ e. absurd (cc))
plays_by state after old new pool pool_after playing.TooLong all part read = part (λ e. absurd (cc))
plays_by state after old new pool pool_after playing.OutOfMemory all part read = part (λ e. absurd (cc))

-- The end of playing is the one whose status it is.
pub read_by : (end : PlayEnd) → status_for end ≡ status.ReadFault → end ≡ playing.ReadFault
read_by playing.Done is = absurd (cc)
read_by playing.ReadFault is = refl
read_by playing.WriteFault is = absurd (cc)
read_by playing.KeeperFault is = absurd (cc)
read_by playing.TooLong is = absurd (cc)
read_by playing.OutOfMemory is = absurd (cc)

pub written_by : (end : PlayEnd) → status_for end ≡ status.WriteFault → end ≡ playing.WriteFault
written_by playing.Done is = absurd (cc)
written_by playing.ReadFault is = absurd (cc)
written_by playing.WriteFault is = refl
written_by playing.KeeperFault is = absurd (cc)
written_by playing.TooLong is = absurd (cc)
written_by playing.OutOfMemory is = absurd (cc)

pub kept_by : (end : PlayEnd) → status_for end ≡ status.KeeperFault → end ≡ playing.KeeperFault
kept_by playing.Done is = absurd (cc)
kept_by playing.ReadFault is = absurd (cc)
kept_by playing.WriteFault is = absurd (cc)
kept_by playing.KeeperFault is = refl
kept_by playing.TooLong is = absurd (cc)
kept_by playing.OutOfMemory is = absurd (cc)

too_long_is : (end : PlayEnd) → status_for end ≡ status.DataFault (codes "input too long") → end ≡ playing.TooLong
too_long_is playing.Done is = absurd (cc)
too_long_is playing.ReadFault is = absurd (cc)
too_long_is playing.WriteFault is = absurd (cc)
too_long_is playing.KeeperFault is = absurd (cc)
too_long_is playing.TooLong is = refl
too_long_is playing.OutOfMemory is = absurd (cc)

-- A status but `OutOfMemory` is that of the end, whether the rounds are listed or not.
unlisted_is : (end : PlayEnd) (known : Status) → known ≢ status.OutOfMemory → status_unlisted end ≡ known
    → status_for end ≡ known
unlisted_is playing.Done known other is = absurd (other (sym is))
unlisted_is playing.ReadFault known other is = is
unlisted_is playing.WriteFault known other is = is
unlisted_is playing.KeeperFault known other is = is
unlisted_is playing.TooLong known other is = is
unlisted_is playing.OutOfMemory known other is = is

pub listed_is : (end : PlayEnd) (reports : List RoundReport) (rounds : RoundAnswers) (ended known : Status)
    → known ≢ status.OutOfMemory → ListsReports end reports rounds ended → ended ≡ known → status_for end ≡ known
listed_is end reports rounds ended known other (inl (ends, same)) is = sym ends ∙ is
listed_is end reports rounds ended known other (inr (ends, none)) is = unlisted_is end known other (sym ends ∙ is)

-- The text `input too long` is the status exactly if playing ended because input was too long.
pub too_long_by : (end : PlayEnd) (reports : List RoundReport) (rounds : RoundAnswers) (ended : Status) (P : Type 0)
    → ListsReports end reports rounds ended
    → ((end ≡ playing.TooLong) ↔ P) → ((ended ≡ status.DataFault (codes "input too long")) ↔ P)
too_long_by end reports rounds ended P lists same = (
  λ is. same.0 (too_long_is end (listed_is end reports rounds ended (status.DataFault (codes "input too long"))
      (λ memory. absurd (cc)) lists is)),
  λ p. ends_too_long lists (same.1 p),
)
  where
    ends_too_long : ListsReports end reports rounds ended → end ≡ playing.TooLong
        → ended ≡ status.DataFault (codes "input too long")
    ends_too_long (inl (ends, listed)) is = ends ∙ ap status_for is
    ends_too_long (inr (ends, none)) is = ends ∙ ap status_unlisted is

-- ---- a portal that isn't opened

-- A status that is none of a source, of a sink, of a listener or of data.
abbrev IsOfOpening : Status → Type 0
IsOfOpening ended =
    (ended ≢ status.ReadFault) × (ended ≢ status.WriteFault) × (ended ≢ status.ListenFault)
    × (ended ≢ status.DataFault (codes "input too long"))

pub opening_is : (store : StoreTrace) (ended : Status) → FailsToOpen store ended → IsOfOpening ended
opening_is store ended (inl memory, stays) =
    (λ is. absurd (cc), λ is. absurd (cc), λ is. absurd (cc), λ is. absurd (cc))
opening_is store ended (inr (inl failed), stays) =
    let why = failed.0 in (λ is. absurd (cc), λ is. absurd (cc), λ is. absurd (cc), λ is. absurd (cc))
opening_is store ended (inr (inr rows), stays) =
    let why = rows.0 in (λ is. absurd (cc), λ is. absurd (cc), λ is. absurd (cc), λ is. absurd (cc))

pub opening_failed : (store : StoreTrace) (ended : Status) → FailsToOpen store ended → ended ≡ status.KeeperFault
    → Rose store.faults store.faults_after
opening_failed store ended (inl memory, stays) is = absurd (cc)
opening_failed store ended (inr (inl failed), stays) is = failed.1
opening_failed store ended (inr (inr rows), stays) is = let why = rows.0 in absurd (cc)

-- Why no portal was opened, by the fault.
pub cause_of_none : (store : StoreTrace) (fault : OpenFault) (ended : Status) → ended ≡ status_for_opening fault
    → (fault ≡ opening.Keeper → Rose store.faults store.faults_after)
    → ((rows : List KeptRow) → fault ≡ opening.BadRows rows
    → Shows store.rows rows × Shows store.rows_after rows × AreOfNoState rows)
    → IsCauseOfNone store ended
cause_of_none store opening.Keeper ended is failed bad = inr (inl (is, failed refl))
cause_of_none store (opening.BadRows rows) ended is failed bad =
    let why = bad rows refl in inr (inr (is, by store.rows why.0 why.2))
  where
    by : (observed : Option (List KeptRow)) → Shows observed rows → AreOfNoState rows → IfSome observed AreOfNoState
    by None shown none = tt
    by (Some kept) shown none = subst AreOfNoState (sym shown) none
cause_of_none store opening.OutOfMemory ended is failed bad = inl is

-- An input that isn't read isn't too long.
pub unread_is : (ended : Status) (whole : List ℕ) (left : Option (List ℕ))
    → ended ≢ status.DataFault (codes "input too long") → left ≡ Some whole
    → ((ended ≡ status.DataFault (codes "input too long")) ↔ GaveTooMuch whole left)
unread_is ended whole left other observed = (
  λ is. absurd (other is),
  λ gave. let same : gave.0 ≡ whole = cc in
      absurd (omega (arith, gave.2, ap length same)),
)

-- ---- a desk that was served

-- If a desk failed, its count of faults rose.
pub fails_by : (before after : ℕ) (served : Result Unit Failed) → OnErr served (Rose before after)
    → status_for_desk served ≡ status.ListenFault → Rose before after
fails_by before after (Ok done) rose is = absurd (cc)
fails_by before after (Err failed) rose is = rose

pub no_keeper_by : (served : Result Unit Failed) → status_for_desk served ≢ status.KeeperFault
no_keeper_by (Ok done) = λ is. absurd (cc)
no_keeper_by (Err failed) = λ is. absurd (cc)

-- ---- a report that was written

-- No report ends by a fault of the store.
pub report_is : (text : List ℕ) (old new : Option (List ℕ)) (ended : Status) → WritesWith text old new ended
    → ended ≢ status.KeeperFault
report_is text old new ended (inl (done, all)) = λ is. absurd (cc)
report_is text old new ended (inr (inl (failed, part))) = λ is. absurd (cc)
report_is text old new ended (inr (inr (memory, none))) = λ is. absurd (cc)
