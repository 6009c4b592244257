-- The statuses of runs that play a script or harvest a source.
use Rattle.std.proofs.Common.{◌≢◌, ℕ, List, Option, Some, None, inl, inr, subst, sym}
use Rattle.portal_base.specs.Outside.{Holdings}
use Rattle.portal_state.specs.State.{State}
use Rattle.portal_serve.specs.Run.{DeviceTrace, StageTrace}
use Rattle.portal_serve.specs.declared.play.PlayEnd.{PlayEnd}
use Rattle.portal_serve.specs.declared.play.PlayEnd.TheVariants as playing
use Rattle.portal_start.proofs.Harvesting.{IsOfNoInput, harvests_is}
use Rattle.portal_start.specs.Commands.{PlaysFrom, RoundAnswers, status_for, status_unlisted}
use Rattle.portal_start.specs.Fetchers.{first_fetch}
use Rattle.portal_start.specs.HarvestCommand.{HarvestsFrom}
use Rattle.portal_start.specs.OverStore.{BeginsOver, FailsToOpen, StoreTrace}
use Rattle.portal_start.specs.Start.{Beginning, FailsToBegin}
use Rattle.portal_status.specs.Fetch.{FailsToFetch, FetchTrace}
use Rattle.portal_status.specs.declared.status.Status.{Status}
use Rattle.portal_status.specs.declared.status.Status.TheVariants as status
use Rattle.portal_words.specs.declared.command.HarvestOptions.{HarvestOptions}

-- ---- a run that begins with no portal, or opens none

fetch_is : (trace : FetchTrace) (location : List ℕ) (ended : Status) → FailsToFetch trace location ended
    → IsOfNoInput ended
fetch_is trace location ended (inl memory) =
    (λ is. absurd (cc), λ is. absurd (cc), λ is. absurd (cc), λ is. absurd (cc))
fetch_is trace location ended (inr (other, why)) =
    (λ is. absurd (cc), λ is. absurd (cc), λ is. absurd (cc), λ is. absurd (cc))

begin_is : (trace : FetchTrace) (portal : Option (List ℕ)) (ended : Status) → FailsToBegin trace portal ended
    → IsOfNoInput ended
begin_is trace None ended memory =
    (λ is. absurd (cc), λ is. absurd (cc), λ is. absurd (cc), λ is. absurd (cc))
begin_is trace (Some location) ended (inl fails) = fetch_is trace location ended fails
begin_is trace (Some location) ended (inr (bytes, held, within, inl memory)) =
    (λ is. absurd (cc), λ is. absurd (cc), λ is. absurd (cc), λ is. absurd (cc))
begin_is trace (Some location) ended (inr (bytes, held, within, inr (why, is_so, named))) =
    (λ is. absurd (cc), λ is. absurd (cc), λ is. absurd (cc), λ is. absurd (cc))

open_is : (store : StoreTrace) (ended : Status) → FailsToOpen store ended → IsOfNoInput ended
open_is store ended (inl memory, stays) =
    (λ is. absurd (cc), λ is. absurd (cc), λ is. absurd (cc), λ is. absurd (cc))
open_is store ended (inr (inl (failed, rose)), stays) =
    (λ is. absurd (cc), λ is. absurd (cc), λ is. absurd (cc), λ is. absurd (cc))
open_is store ended (inr (inr (rows, none)), stays) =
    (λ is. absurd (cc), λ is. absurd (cc), λ is. absurd (cc), λ is. absurd (cc))

-- What holds of the status of each part holds of the run's.
over_is : (Good : Status → Type 0) (trace : FetchTrace) (portal : Option (List ℕ)) (store : StoreTrace) (ended : Status)
    (P : Beginning → State → State → Type 0) (U : Type 0) → (IsOfNoInput ended → Good ended)
    → ((beginning : Beginning) (state after : State) → P beginning state after → Good ended)
    → BeginsOver trace portal store ended P U → Good ended
over_is Good trace portal store ended P U none some (inl (beginning, begins, inl opens)) =
    some beginning opens.state opens.after opens.does
over_is Good trace portal store ended P U none some (inl (beginning, begins, inr (fails, same))) =
    none (open_is store ended fails)
over_is Good trace portal store ended P U none some (inr (fails, same)) = none (begin_is trace portal ended fails)

-- ---- harvest

-- A harvest reads no input and serves no link, and its words name a command.
pub harvest_is : {F : Type 0} (held : F → Holdings) (faults : F → ℕ) (options : HarvestOptions) (fetchers left : List F)
    (store : StoreTrace) (old new : StageTrace) (rounds : RoundAnswers) (ended : Status) (U : Type 0)
    → BeginsOver (first_fetch held faults fetchers left) options.portal store ended
    (λ beginning state after. HarvestsFrom held faults options state after old new fetchers left rounds ended) U
    → IsOfNoInput ended
harvest_is held faults options fetchers left store old new rounds ended U begun =
    over_is IsOfNoInput (first_fetch held faults fetchers left) options.portal store ended
    (λ beginning state after. HarvestsFrom held faults options state after old new fetchers left rounds ended) U
    (λ is. is) (λ beginning state after does. harvests_is options state after old new _ _ rounds ended does.2) begun

-- ---- play

-- A status that is neither of words that name no command nor of a listener.
abbrev IsOfPlay : Status → Type 0
IsOfPlay ended = (ended ≢ status.Words) × (ended ≢ status.ListenFault)

end_is : (end : PlayEnd) → IsOfPlay (status_for end)
end_is playing.Done = (λ is. absurd (cc), λ is. absurd (cc))
end_is playing.ReadFault = (λ is. absurd (cc), λ is. absurd (cc))
end_is playing.WriteFault = (λ is. absurd (cc), λ is. absurd (cc))
end_is playing.KeeperFault = (λ is. absurd (cc), λ is. absurd (cc))
end_is playing.TooLong = (λ is. absurd (cc), λ is. absurd (cc))
end_is playing.OutOfMemory = (λ is. absurd (cc), λ is. absurd (cc))

unlisted_is : (end : PlayEnd) → IsOfPlay (status_unlisted end)
unlisted_is playing.Done = (λ is. absurd (cc), λ is. absurd (cc))
unlisted_is playing.ReadFault = (λ is. absurd (cc), λ is. absurd (cc))
unlisted_is playing.WriteFault = (λ is. absurd (cc), λ is. absurd (cc))
unlisted_is playing.KeeperFault = (λ is. absurd (cc), λ is. absurd (cc))
unlisted_is playing.TooLong = (λ is. absurd (cc), λ is. absurd (cc))
unlisted_is playing.OutOfMemory = (λ is. absurd (cc), λ is. absurd (cc))

plays_is : {F : Type 0} (held : F → Holdings) (faults : F → ℕ) (portal : Option (List ℕ)) (state after : State)
    (old new : DeviceTrace) (fetchers left : List F) (rounds : RoundAnswers) (ended : Status)
    → PlaysFrom held faults portal state after old new fetchers left rounds ended → IsOfPlay ended
plays_is held faults portal state after old new fetchers left rounds ended
    (begun, uses, (end, reports, inl (ends, listed), plays)) = subst IsOfPlay (sym ends) (end_is end)
plays_is held faults portal state after old new fetchers left rounds ended
    (begun, uses, (end, reports, inr (ends, none), plays)) = subst IsOfPlay (sym ends) (unlisted_is end)

-- The words that ask to play a script name a command, and playing it serves no link.
pub play_is : {F : Type 0} (held : F → Holdings) (faults : F → ℕ) (portal : Option (List ℕ)) (fetchers left : List F)
    (store : StoreTrace) (old new : DeviceTrace) (rounds : RoundAnswers) (ended : Status) (U : Type 0)
    → BeginsOver (first_fetch held faults fetchers left) portal store ended
    (λ beginning state after. PlaysFrom held faults portal state after old new fetchers left rounds ended) U
    → IsOfPlay ended
play_is held faults portal fetchers left store old new rounds ended U begun =
    over_is IsOfPlay (first_fetch held faults fetchers left) portal store ended
    (λ beginning state after. PlaysFrom held faults portal state after old new fetchers left rounds ended) U
    (λ is. (is.0, is.2))
    (λ beginning state after does. plays_is held faults portal state after old new fetchers left rounds ended does) begun
