-- What passes a desk: the links that its listener gives, which go back to it, and what is drawn for each.
use Rattle.std.specs.Prelude.{◌≡◌, ℕ, zero, suc, ℤ, ◌≤◌, Bool, List, ◌++◌, length}
use Rattle.std.specs.Prelude.{map, Option, Some, None, IfSome, MatchOption, option_map}
use Rattle.std.specs.Option.{IsSomeAnd}
use Rattle.portal_base.specs.Counted.{next_count}

-- a link as it came and as it went back, with the moment and the nonce that were drawn for it
pub record Visit (Peer : Type 0) : Type 0 where
  pub link : Peer
  pub back : Peer
  pub moment : ℤ
  pub nonce : ℕ

-- the trace of a desk: the links still to come, those taken back and their count, whether the listener is at its end,
-- its count of faults, and the moments and nonces that were given
pub record DeskTrace (Peer : Type 0) : Type 0 where
  pub to_come : Option (List Peer)
  pub taken_back : Option (List Peer)
  pub count : ℕ
  pub is_at_end : Bool
  pub faults : ℕ
  pub moments : Option (List ℤ)
  pub nonces : Option (List ℕ)

abbrev pub desk_trace : {Peer : Type 0} → Option (List Peer) → Option (List Peer) → ℕ → Bool → ℕ → Option (List ℤ)
    → Option (List ℕ) → DeskTrace Peer
desk_trace to_come taken_back count is_at_end faults moments nonces = record {
  to_come = to_come;
  taken_back = taken_back;
  count = count;
  is_at_end = is_at_end;
  faults = faults;
  moments = moments;
  nonces = nonces;
}

-- These came off the front of those to come. What isn't observable stays so.
abbrev pub GivesAll : {X : Type 0} → Option (List X) → List X → Option (List X) → Type 0
GivesAll {X} old xs new =
    MatchOption old (new ≡ None) (λ all. (rest : List X) × (new ≡ Some rest) × (all ≡ xs ++ rest))

-- These came after those that were taken before.
abbrev pub TakesAll : {X : Type 0} → Option (List X) → List X → Option (List X) → Type 0
TakesAll old xs new = new ≡ option_map (λ all. all ++ xs) old

-- These were given, in order, after those that were given before. Where the device isn't observable afterwards, this
-- claims nothing.
abbrev pub DrawsAll : {X : Type 0} → Option (List X) → List X → Option (List X) → Type 0
DrawsAll old xs new = IfSome new (λ all. IsSomeAnd old (λ before. all ≡ before ++ xs))

-- the count after that number of increments
abbrev pub counted : ℕ → ℕ → ℕ
counted zero count = count
counted (suc more) count = counted more (next_count count)

-- These links came from the listener, at most `limit` of them, and each of them went back. A moment and a nonce were drawn
-- for each.
pub record PassesLinks {Peer : Type 0} (limit : ℕ) (visits : List (Visit Peer)) (old new : DeskTrace Peer) : Type 0 where
  pub few : length visits ≤ limit
  pub came : GivesAll old.to_come (map (λ v. v.link) visits) new.to_come
  pub back : TakesAll old.taken_back (map (λ v. v.back) visits) new.taken_back
  pub count : new.count ≡ counted (length visits) old.count
  pub clock : DrawsAll old.moments (map (λ v. v.moment) visits) new.moments
  pub numbers : DrawsAll old.nonces (map (λ v. v.nonce) visits) new.nonces
