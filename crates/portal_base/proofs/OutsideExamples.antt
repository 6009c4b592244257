-- Computed examples of counters and of the devices in memory.
use Rattle.std.proofs.Common.{◌≡◌, ℕ, Bool, true, false, List, [], ◌∷◌, refl, None, Some, pos}
use Rattle.portal_base.specs.Counted.{next_count, numbers_to, script_moments, given_below_max}
use Rattle.portal_base.specs.Memory.{Plan, SourceState, SinkState, LinkState}
use Rattle.portal_base.specs.Memory.{FetcherState, ListenerState, after_read, after_write}
use Rattle.portal_base.specs.Memory.{after_link_read, after_link_write, are_distinct, fetch_fault, after_fetch}
use Rattle.portal_base.specs.Memory.{after_accept, after_finish}
use Rattle.portal_base.specs.declared.outside.FetchFault.TheVariants.{Failed, Missing, TooLong}

-- a plan in which the second call fails, with these counts of calls and faults
abbrev second_fails : ℕ → ℕ → Plan
second_fails calls faults = record { failing = 2 ∷ []; calls = calls; faults = faults }

abbrev source : List ℕ → ℕ → ℕ → SourceState
source to_come calls faults = record { to_come = to_come; plan = second_fails calls faults }

abbrev sink : List ℕ → ℕ → ℕ → ℕ → SinkState
sink taken room calls faults = record { taken = taken; room = room; plan = second_fails calls faults }

abbrev link : List ℕ → List ℕ → ℕ → ℕ → ℕ → LinkState
link to_come taken room calls faults =
    record { to_come = to_come; taken = taken; room = room; plan = second_fails calls faults }

abbrev fetcher : FetcherState
fetcher = record {
  held = (97 ∷ [], 1 ∷ 2 ∷ []) ∷ (98 ∷ [], 1 ∷ 2 ∷ 3 ∷ []) ∷ [];
  plan = second_fails 0 0;
}

abbrev link-0 : LinkState
link-0 = link (1 ∷ []) [] 1 0 0

abbrev link-1 : LinkState
link-1 = link (2 ∷ []) [] 1 0 0

abbrev listener : List LinkState → List LinkState → Bool → ℕ → ℕ → ListenerState
listener to_come taken_back is_out calls faults =
    record { to_come = to_come; taken_back = taken_back; is_out = is_out; plan = second_fails calls faults }

next_count-at-last : next_count 18446744073709551615 ≡ 18446744073709551615
next_count-at-last = refl

numbers-of-three : given_below_max numbers_to 3 ≡ Some (1 ∷ 2 ∷ 3 ∷ [])
numbers-of-three = refl

moments-of-two : given_below_max script_moments 2 ≡ Some (pos 1704067200 ∷ pos 1704067201 ∷ [])
moments-of-two = refl

-- The second call fails.
read-first : after_read (source (7 ∷ 8 ∷ 9 ∷ []) 0 0) 2 ≡ source (9 ∷ []) 1 0
read-first = refl

read-second : after_read (source (9 ∷ []) 1 0) 2 ≡ source (9 ∷ []) 2 1
read-second = refl

-- One of two bytes fits.
write-partly : after_write (sink (7 ∷ []) 1 0 0) (8 ∷ 9 ∷ []) ≡ sink (7 ∷ 8 ∷ []) 0 1 0
write-partly = refl

write-refused : after_write (sink (7 ∷ []) 0 0 0) (8 ∷ []) ≡ sink (7 ∷ []) 0 1 1
write-refused = refl

-- A read; then a write, which is the second call and fails; then a write of which two of three bytes fit.
link-read : after_link_read (link (7 ∷ 8 ∷ 9 ∷ []) [] 2 0 0) 2 ≡ link (9 ∷ []) [] 2 1 0
link-read = refl

link-write-fails : after_link_write (link (9 ∷ []) [] 2 1 0) (4 ∷ []) ≡ link (9 ∷ []) [] 2 2 1
link-write-fails = refl

link-write-partly : after_link_write (link (9 ∷ []) [] 2 2 1) (4 ∷ 5 ∷ 6 ∷ []) ≡ link (9 ∷ []) (4 ∷ 5 ∷ []) 0 3 1
link-write-partly = refl

-- a location with bytes, one with more bytes than the limit, and one without bytes
holds-two : are_distinct fetcher.held ≡ true
holds-two = refl

holds-one-twice : are_distinct ((97 ∷ [], []) ∷ (98 ∷ [], []) ∷ (97 ∷ [], 1 ∷ []) ∷ []) ≡ false
holds-one-twice = refl

fetch-held : fetch_fault fetcher (97 ∷ []) 2 ≡ None
fetch-held = refl

fetch-too-long : fetch_fault fetcher (98 ∷ []) 2 ≡ Some TooLong
fetch-too-long = refl

fetch-missing : fetch_fault fetcher (99 ∷ []) 2 ≡ Some Missing
fetch-missing = refl

-- The second fetch fails, whatever the contents are.
fetch-fails : fetch_fault (after_fetch fetcher) (97 ∷ []) 2 ≡ Some Failed
fetch-fails = refl

-- One link of two is out, then taken back; the second call of accept fails.
accept-first : after_accept (listener (link-0 ∷ link-1 ∷ []) [] false 0 0) ≡ listener (link-1 ∷ []) [] true 1 0
accept-first = refl

finish-first : after_finish (listener (link-1 ∷ []) [] true 1 0) link-0 ≡ listener (link-1 ∷ []) (link-0 ∷ []) false 1 0
finish-first = refl

accept-fails : after_accept (listener (link-1 ∷ []) (link-0 ∷ []) false 1 0)
    ≡ listener (link-1 ∷ []) (link-0 ∷ []) false 2 1
accept-fails = refl

accept-at-end : after_accept (listener [] (link-0 ∷ []) false 3 1) ≡ listener [] (link-0 ∷ []) false 4 1
accept-at-end = refl
