-- A line comes together from pieces.
use Rattle.std.proofs.Common.{◌≡◌, ℕ, List, [], ◌∷◌, ◌++◌, ◌∙◌, refl, sym, ap, subst, append_assoc, ◌+◌, ◌-◌, ◌<◌}
use Rattle.std.proofs.Common.{◌≤◌, length, take, drop, arith, Bool, true, false, cond, get_or, length-append, inl}
use Rattle.std.proofs.Common.{inr, not, nat_lt, true≢false}
use Rattle.std.specs.Prelude.{Option, Some, None, position, ◌==◌}
use Rattle.std.specs.List.{position_or_len, slice_split}
use Rattle.std.specs.Str.Lines.{lines, lines_of_parts, strip_carriage_return}
use Rattle.std.proofs.lemmas.List.{append-nil, get_or-take, drop_more, length-take, take-append-drop, drop-take}
use Rattle.std.proofs.lemmas.List.{drop-drop, nil_from_length}
use Rattle.std.proofs.lemmas.List.Elements.{All-append}
use Rattle.std.proofs.lemmas.List.Sums.{prefix_len_passes}
use Rattle.std.proofs.lemmas.List.Quantifiers.{position-Some}
use Rattle.std.proofs.lemmas.List.Splits.{slice_split_none, slice_split_at, length-slice_split}
use Rattle.std.proofs.lemmas.Bool.{eqb-true, ne_eqb}
use Rattle.std.proofs.lemmas.Bool.Decides.{nat_tests}
use Rattle.std.proofs.lemmas.Grind.{common_steps}
use Rattle.portal_base.specs.Outside.{Gives, IsAtEnd}
use Rattle.portal_lines.specs.Lines.{ReaderState, EndsLine, TakesLine, SkipsLine, FindsEnd, LosesStart, bytes_left}
use Rattle.portal_lines.specs.PartialLines.{HasNoFeed, KeepsRaw, TakesPiece}
use Rattle.portal_base.proofs.OutsideLemmas.{Gives-none, Gives-append}

lines_of_parts-cons : (x : List ℕ) (parts : List (List ℕ)) → 0 < length parts
    → lines_of_parts (x ∷ parts) ≡ strip_carriage_return x ∷ lines_of_parts parts
lines_of_parts-cons x [] some = absurd (omega arith)
lines_of_parts-cons x (y ∷ more) some = refl

length-strip : (raw : List ℕ) → length raw ≤ length (strip_carriage_return raw) + 1
length-strip raw = grind (arith, common_steps)

some_length : (xs : List ℕ) → (xs ≡ [] → ⊥) → 0 < length xs
some_length [] some = absurd (some refl)
some_length (x ∷ xs) some = omega arith

front_some : (front line : List ℕ) → lines front ≡ line ∷ [] → 0 < length front
front_some [] line only = cc
front_some (x ∷ xs) line only = omega arith

not_within : (i n : ℕ) → cond (nat_lt i n) (Some i) None ≡ None → n ≤ i
not_within i n e = grind (arith, nat_tests)

not_true : (b : Bool) → not b ≡ true → b ≡ false
not_true true e = sym e
not_true false e = refl

-- the first line, where it has its line feed
pub lines-fed : (raw more : List ℕ) → HasNoFeed raw → lines (raw ++ 10 ∷ more) ≡ strip_carriage_return raw ∷ lines more
lines-fed raw more free =
    ap lines_of_parts (slice_split_at (λ b. b == 10) raw 10 more free refl)
    ∙ lines_of_parts-cons raw (slice_split (λ b. b == 10) more) (omega (arith, length-slice_split (λ b. b == 10) more))

pub EndsLine-fed : (raw : List ℕ) → HasNoFeed raw → EndsLine (raw ++ 10 ∷ []) (strip_carriage_return raw)
EndsLine-fed raw free more = ap lines (append_assoc raw (10 ∷ []) more) ∙ lines-fed raw more free

-- the last line, which has no line feed
pub lines-last : (raw : List ℕ) → HasNoFeed raw → 0 < length raw → lines raw ≡ raw ∷ []
lines-last raw free some =
    ap lines_of_parts (slice_split_none (λ b. b == 10) raw free)
    ∙ ap (λ t. cond t [] (raw ∷ [])) (ne_eqb (length raw) 0 (λ z. omega arith))

-- the index of the first line feed
pub TakesPiece-at : (bytes : List ℕ) (index : ℕ) → position (λ b. b == 10) bytes ≡ Some index
    → TakesPiece true bytes (take index bytes) (drop (index + 1) bytes)
TakesPiece-at bytes index found =
    let p = position-Some (λ b. b == 10) bytes index 0 found in (
      λ k d below. let lt : k < index = omega (arith, length-take index bytes) in
          let inside : k < length bytes = omega (arith, p.0) in
          let at_zero : (get_or bytes k d == 10) ≡ false =
          subst (λ v. (v == 10) ≡ false) (grind (arith, common_steps)) (p.2 k lt) in
          subst (λ v. (v == 10) ≡ false) (sym (get_or-take index bytes k d lt)) at_zero,
      sym (take-append-drop index bytes) ∙ ap (λ v. take index bytes ++ v) (drop_more bytes index 0 p.0
          ∙ ap (λ v. v ∷ drop (index + 1) bytes) (eqb-true _ 10 p.1)),
    )

pub HasNoFeed-all : (bytes : List ℕ) → position (λ b. b == 10) bytes ≡ None → HasNoFeed bytes
HasNoFeed-all bytes found k d below =
    let whole : length bytes ≤ position_or_len (λ b. b == 10) bytes = not_within _ _ found in
    not_true _ (prefix_len_passes (λ b. not (b == 10)) bytes k d (omega arith))

-- what is left of a part after its first n bytes
pub range-drop : (xs : List ℕ) (start end n : ℕ) → n ≤ end - start
    → take (end - (start + n)) (drop (start + n) xs) ≡ drop n (take (end - start) (drop start xs))
range-drop xs start end n within =
    let e : end - start ≡ n + (end - (start + n)) = omega arith in
    sym (ap (λ m. drop n (take m (drop start xs))) e ∙ drop-take n (end - (start + n)) (drop start xs)
    ∙ ap (take (end - (start + n))) (drop-drop n start xs))

-- A piece is added to the partial line.
abbrev pub Adds : ℕ → List ℕ → Bool → List ℕ → List ℕ → Bool → Type 0
Adds longest kept over piece kept' over' = (raw : List ℕ) → KeepsRaw longest raw kept over
    → KeepsRaw longest (raw ++ piece) kept' over'

-- Part of a line came. The parameters are what was buffered before the call, the bytes to come that were observable of
-- the source then, and the count of bytes received; the longest length of a line; the same three now; and the partial
-- line.
pub record UnderWay (buffered : List ℕ) (observed : Option (List ℕ)) (received longest : ℕ) (window : List ℕ)
    (left : Option (List ℕ)) (now : ℕ) (kept : List ℕ) (over : Bool) : Type 0 where
  pub bytes : List ℕ
  pub raw : List ℕ
  pub gives : Gives observed bytes left
  pub counts : now ≡ received + length bytes
  pub splits : buffered ++ bytes ≡ raw ++ window
  pub free : HasNoFeed raw
  pub keeps : KeepsRaw longest raw kept over

pub UnderWay-start : (buffered : List ℕ) (observed : Option (List ℕ)) (received longest : ℕ) (kept : List ℕ)
    (over : Bool)
    → kept ≡ [] → over ≡ false → UnderWay buffered observed received longest buffered observed received kept over
UnderWay-start buffered observed received longest kept over e f = record {
  bytes = [];
  raw = [];
  gives = Gives-none observed [] refl;
  counts = omega arith;
  splits = append-nil buffered;
  free = λ k d below. absurd (omega arith);
  keeps = subst (KeepsRaw longest [] kept) (sym f) e;
}

module _ (buffered : List ℕ) (observed : Option (List ℕ)) (received longest : ℕ) where
  -- the buffered bytes went into the partial line, and the source gave more
  pub UnderWay-read : (window : List ℕ) (left : Option (List ℕ)) (now : ℕ) (kept : List ℕ) (over : Bool)
      (found : Bool) (piece after kept' : List ℕ) (over' : Bool) (more : List ℕ) (left' : Option (List ℕ))
      (now' max_length : ℕ) → UnderWay buffered observed received longest window left now kept over
      → max_length ≡ longest
      → found ≡ false → TakesPiece found window piece after → Adds max_length kept over piece kept' over'
      → Gives left more left' → now' ≡ now + length more → UnderWay buffered observed received longest more left' now'
      kept' over'
  UnderWay-read window left now kept over true piece after kept' over' more left' now' max_length u same missing takes
      adds gives counts = absurd (true≢false missing)
  UnderWay-read window left now kept over false piece after kept' over' more left' now' max_length u same missing takes
      adds gives counts = record {
        bytes = u.bytes ++ more;
        raw = u.raw ++ piece;
        gives = Gives-append observed left left' u.bytes more u.gives gives;
        counts = omega (arith, u.counts, length-append u.bytes more);
        splits = sym (append_assoc buffered u.bytes more) ∙ ap (λ v. v ++ more)
            (u.splits ∙ ap (λ v. u.raw ++ v) takes.1);
        free = All-append (λ b. (b == 10) ≡ false) u.raw piece u.free takes.0;
        keeps = subst (λ n. KeepsRaw n (u.raw ++ piece) kept' over') same
            (adds u.raw (subst (λ n. KeepsRaw n u.raw kept over) (sym same) u.keeps));
      }

-- The source failed after the start of a line, and that is lost.
pub LosesStart-failed : (old new : ReaderState) (observed left : Option (List ℕ)) (window kept : List ℕ)
    (over found : Bool)
    (piece after : List ℕ) (left' : Option (List ℕ))
    → UnderWay old.buffered observed old.received old.longest window left new.received kept over
    → found ≡ false → TakesPiece found window piece after → left' ≡ left → new.buffered ≡ []
    → LosesStart old observed new left'
LosesStart-failed old new observed left window kept over true piece after left' u missing takes same none =
    absurd (true≢false missing)
LosesStart-failed old new observed left window kept over false piece after left' u missing takes same none = (
  u.bytes,
  u.raw ++ piece,
  subst (λ o. Gives observed u.bytes o) (sym same) u.gives,
  u.counts,
  u.splits ∙ ap (λ v. u.raw ++ v) takes.1
      ∙ sym (ap (λ v. (u.raw ++ piece) ++ v) none ∙ append-nil (u.raw ++ piece)),
  All-append (λ b. (b == 10) ≡ false) u.raw piece u.free takes.0,
)

-- the line feed came
module _ (old new : ReaderState) (observed left : Option (List ℕ)) (window kept : List ℕ) (over : Bool)
    (piece kept' : List ℕ) (max_length : ℕ) (u : UnderWay old.buffered observed old.received old.longest window left
    new.received
    kept over) (same : max_length ≡ old.longest) where
  TakesLine-fed : TakesPiece true window piece new.buffered
      → TakesLine old observed (strip_carriage_return (u.raw ++ piece)) new left
  TakesLine-fed takes =
      let free = All-append (λ b. (b == 10) ≡ false) u.raw piece u.free takes.0 in
      record {
        bytes = u.bytes;
        front = (u.raw ++ piece) ++ 10 ∷ [];
        gives = u.gives;
        counts = u.counts;
        splits = u.splits ∙ ap (λ v. u.raw ++ v) takes.1 ∙ sym (append_assoc u.raw piece (10 ∷ new.buffered))
            ∙ sym (append_assoc (u.raw ++ piece) (10 ∷ []) new.buffered);
        only = lines-fed (u.raw ++ piece) [] free;
        ended = inl (EndsLine-fed (u.raw ++ piece) free);
      }

  added : (over' : Bool) → Adds max_length kept over piece kept' over'
      → KeepsRaw old.longest (u.raw ++ piece) kept' over'
  added over' adds = subst (λ n. KeepsRaw n (u.raw ++ piece) kept' over') same
      (adds u.raw (subst (λ n. KeepsRaw n u.raw kept over) (sym same) u.keeps))

  pub TakesLine-ended : (found : Bool) → found ≡ true → TakesPiece found window piece new.buffered → (over' : Bool)
      → Adds max_length kept over piece kept' over' → over' ≡ false → (line : List ℕ)
      → line ≡ strip_carriage_return kept' → TakesLine old observed line new left
  TakesLine-ended false is takes over' adds fits line e = absurd (true≢false (sym is))
  TakesLine-ended true is takes true adds fits line e = absurd (true≢false fits)
  TakesLine-ended true is takes false adds fits line e =
      subst (λ v. TakesLine old observed v new left) (ap strip_carriage_return (sym (added false adds))
      ∙ sym e) (TakesLine-fed takes)

  pub SkipsLine-ended : (found : Bool) → found ≡ true → TakesPiece found window piece new.buffered → (over' : Bool)
      → Adds max_length kept over piece kept' over' → (over' ≡ false
      → max_length < length (strip_carriage_return kept'))
      → SkipsLine old observed new left
  SkipsLine-ended false is takes over' adds long = absurd (true≢false (sym is))
  SkipsLine-ended true is takes true adds long = (
    strip_carriage_return (u.raw ++ piece),
    TakesLine-fed takes,
    omega (arith, length-strip (u.raw ++ piece), added true adds),
  )
  SkipsLine-ended true is takes false adds long =
      let longer : old.longest < length (strip_carriage_return kept') = omega (arith, same, long refl) in (
        strip_carriage_return (u.raw ++ piece),
        TakesLine-fed takes,
        subst (λ v. old.longest < length (strip_carriage_return v)) (added false adds) longer,
      )

IsAtEnd-same : (observed left : Option (List ℕ)) → Gives observed [] left → left ≡ observed
IsAtEnd-same None left gives = gives
IsAtEnd-same (Some all) left gives = gives.1 ∙ ap Some (sym gives.2)

-- no byte came from a source at its end
IsAtEnd-after : (observed left : Option (List ℕ)) (more : List ℕ) → Gives observed more left → length more ≡ 0
    → IsAtEnd observed → IsAtEnd left
IsAtEnd-after observed left more gives none end =
    subst IsAtEnd (sym (IsAtEnd-same observed left (subst (λ v. Gives observed v left) (nil_from_length more none)
    gives))) end

-- what came is all, since the source is at its end
pub record AtLast (old new : ReaderState) (observed left : Option (List ℕ)) (kept : List ℕ) (over : Bool) : Type 0 where
  pub under_way : UnderWay old.buffered observed old.received old.longest new.buffered left new.received kept over
  pub none : new.buffered ≡ []
  pub at_end : IsAtEnd left

pub AtLast-read : (old new : ReaderState) (observed left : Option (List ℕ)) (window kept : List ℕ) (over found : Bool)
    (piece after kept' : List ℕ) (over' : Bool) (left' : Option (List ℕ)) (max_length : ℕ)
    → UnderWay old.buffered observed old.received old.longest window left new.received kept over
    → max_length ≡ old.longest
    → found ≡ false → TakesPiece found window piece after → Adds max_length kept over piece kept' over'
    → Gives left new.buffered left' → length new.buffered ≡ 0 → IsAtEnd left → AtLast old new observed left' kept' over'
AtLast-read old new observed left window kept over found piece after kept' over' left' max_length u same missing takes
    adds
    gives none end = record {
      under_way = UnderWay-read old.buffered observed old.received old.longest window left new.received kept over found
          piece after
          kept' over' new.buffered left' new.received max_length u same missing takes adds gives (omega (arith, none));
      none = nil_from_length new.buffered none;
      at_end = IsAtEnd-after left left' new.buffered gives none end;
    }

module _ (old new : ReaderState) (observed left : Option (List ℕ)) (kept : List ℕ) where
  TakesLine-rest : (over : Bool) (last : AtLast old new observed left kept over) → 0 < length last.under_way.raw
      → TakesLine old observed last.under_way.raw new left
  TakesLine-rest over last some =
      let u = last.under_way in
      record {
        bytes = u.bytes;
        front = u.raw;
        gives = u.gives;
        counts = u.counts;
        splits = u.splits;
        only = lines-last u.raw u.free some;
        ended = inr (last.none, last.at_end);
      }

  pub SomeLine-last : (over : Bool) → AtLast old new observed left kept over → (over ≡ false → kept ≡ [] → ⊥)
      → (line : List ℕ) × TakesLine old observed line new left
  SomeLine-last true last some = (last.under_way.raw, TakesLine-rest true last (omega (arith, last.under_way.keeps)))
  SomeLine-last false last some = (
    last.under_way.raw,
    TakesLine-rest false last
        (some_length last.under_way.raw (λ z. some refl (last.under_way.keeps ∙ z))),
  )

  pub TakesLine-last : (over : Bool) → AtLast old new observed left kept over → over ≡ false → (kept ≡ [] → ⊥)
      → TakesLine old observed kept new left
  TakesLine-last true last fits some = absurd (true≢false fits)
  TakesLine-last false last fits some =
      subst (λ v. TakesLine old observed v new left) (sym last.under_way.keeps)
      (TakesLine-rest false last (some_length last.under_way.raw (λ z. some (last.under_way.keeps ∙ z))))

  pub SkipsLine-last : (over : Bool) → AtLast old new observed left kept over
      → (over ≡ false → old.longest < length kept) → SkipsLine old observed new left
  SkipsLine-last true last long =
      let u = last.under_way in
      (u.raw, TakesLine-rest true last (omega (arith, u.keeps)), omega (arith, u.keeps))
  SkipsLine-last false last long =
      let u = last.under_way in
      let longer : old.longest < length u.raw = subst (λ v. old.longest < length v) u.keeps (long refl) in
      (u.raw, TakesLine-rest false last (omega arith), longer)

  pub FindsEnd-last : (over : Bool) → AtLast old new observed left kept over → over ≡ false → kept ≡ []
      → FindsEnd old observed new left
  FindsEnd-last true last fits e = absurd (true≢false fits)
  FindsEnd-last false last fits e =
      let u = last.under_way in
      let no_raw : u.raw ≡ [] = sym u.keeps ∙ e in
      let nothing : old.buffered ++ u.bytes ≡ [] = u.splits ∙ ap (λ v. v ++ new.buffered) no_raw ∙ last.none in
      let no_bytes : u.bytes ≡ [] = nil_from_length u.bytes
      (omega (arith, length-append old.buffered u.bytes, ap length nothing)) in
      let same : left ≡ observed = IsAtEnd-same observed left (subst (λ v. Gives observed v left) no_bytes u.gives) in
      record {
        held_before = nil_from_length old.buffered (omega (
          arith,
          length-append old.buffered u.bytes,
          ap length nothing,
        ));
        held_after = last.none;
        received = omega (arith, u.counts, ap length no_bytes);
        observed_same = same;
        at_end = subst IsAtEnd same last.at_end;
      }

-- with each line fewer bytes are left
pub bytes_left-falls : (old new : ReaderState) (observed left : Option (List ℕ)) (line : List ℕ)
    → TakesLine old observed line new left → new.limit ≡ old.limit → new.received ≤ new.limit
    → bytes_left new < bytes_left old
bytes_left-falls old new observed left line takes same within =
    let some : 0 < length takes.front = front_some takes.front line takes.only in
    omega (
      arith,
      takes.counts,
      some,
      length-append old.buffered takes.bytes,
      length-append takes.front new.buffered,
      ap length takes.splits,
    )
