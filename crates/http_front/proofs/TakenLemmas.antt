-- What a request takes off its link, and what it leaves.
use Rattle.std.proofs.Common.{◌≡◌, ◌≢◌, ℕ, ◌+◌, ◌-◌, ◌<◌, ◌≤◌, List, [], ◌∷◌, ◌++◌, ◌∙◌, refl, sym, ap, subst, append_assoc}
use Rattle.std.proofs.Common.{length, take, drop, arith, append-nil, length-append, inl, inr, Bool, true, false, All}
use Rattle.std.proofs.Common.{flat_map}
use Rattle.std.specs.Prelude.{Option, Some, None, Result, Err, ◌==◌, ◌||◌}
use Rattle.std.specs.List.{list_any}
use Rattle.std.proofs.lemmas.List.{length-map, take-append-drop}
use Rattle.std.proofs.lemmas.List.Elements.{All-head, All-map, All-nil, All-cons}
use Rattle.std.proofs.lemmas.Bool.{cases_lt, false≢true}
use Rattle.httparse.specs.Grammar.{RequestHead, print_request, print_field, HasNoRequest, LineEnd, crlf, lf}
use Rattle.httparse.specs.Grammar.{print_end}
use Rattle.portal_base.specs.Outside.{Gives, IsAtEnd}
use Rattle.portal_base.proofs.OutsideLemmas.{Gives-none, Gives-append}
use Rattle.http_front.specs.Head.{marked, marked_byte}
use Rattle.http_front.specs.HeadParse.{HasHeadOf, IsParseOfBuffer, is_due}
use Rattle.http_front.specs.LinkRead.{IsOutside, LosesPiece, ReadsOn}
use Rattle.http_front.specs.Taken.{ReadsBody, ReadsNoHead}
use Rattle.http_front.specs.declared.fault.FrontFault.{FrontFault}
use Rattle.http_front.specs.declared.fault.FrontFault.TheVariants.{BadHead, EndedEarly, LinkFault, OutOfMemory}
use Rattle.http_front.proofs.HeadLemmas.{marked-append}
use Rattle.http_front.proofs.EndLemmas.{parted, all_front, all_back}
use Rattle.http_front.proofs.StartLemmas.{start_of, print_parts}

-- ---- a head ends in a line feed

last_feed : (last : LineEnd) → (front : List ℕ) × (print_end last ≡ front ++ 10 ∷ [])
last_feed crlf = (13 ∷ [], refl)
last_feed lf = ([], refl)

head_feed : (h : RequestHead) → (front : List ℕ) × (print_request h ≡ front ++ 10 ∷ [])
head_feed h =
    let lines = flat_map print_field h.fields in
    let last = last_feed h.last in (
      start_of h ++ (lines ++ last.0),
      sym (append-nil (print_request h)) ∙ print_parts h []
          ∙ ap (λ v. start_of h ++ ((lines ++ v) ++ [])) last.1
          ∙ regroup (start_of h) lines last.0,
    )
  where
    regroup : (a b c : List ℕ) → a ++ ((b ++ (c ++ 10 ∷ [])) ++ []) ≡ (a ++ (b ++ c)) ++ 10 ∷ []
    regroup a b c = simp (append_assoc, append-nil)

-- no byte is a line feed
abbrev HasNoFeed : List ℕ → Type 0
HasNoFeed bytes = All (λ b. (b == 10) ≡ false) bytes

mark_no_feed : (b : ℕ) → (b == 10) ≡ false → (marked_byte b == 10) ≡ false
mark_no_feed b feedless = elim (cases_lt b 128) [ inl small ↦ grind arith | inr large ↦ grind arith ]

marks_no_feed : (bytes : List ℕ) → HasNoFeed bytes → HasNoFeed (marked bytes)
marks_no_feed bytes feedless = All-map (λ b. (b == 10) ≡ false) marked_byte bytes (λ k d lt. mark_no_feed _ (feedless k d lt))

nothing_after : (w z : List ℕ) → w ++ z ≡ [] → z ≡ []
nothing_after [] z e = e
nothing_after (c ∷ w) z e = absurd (cc)

-- a list without a line feed, which ends a list that ends in one, is empty
no_last_feed : (a z front : List ℕ) → HasNoFeed z → a ++ z ≡ front ++ 10 ∷ [] → z ≡ []
no_last_feed a z front feedless e =
    elim (parted a z front (10 ∷ []) e) [
      | inl s ↦ absurd (feed_here (All-head (λ b. (b == 10) ≡ false) 10 []
          (all_back (λ b. (b == 10) ≡ false) s.0 (10 ∷ []) (subst HasNoFeed s.2 feedless))))
      | inr l ↦ nothing_after l.1 z (sym (tail_of 10 l.0 [] (l.1 ++ z) l.3))
    ]
  where
    feed_here : (10 == 10) ≡ false → ⊥
    feed_here e = false≢true (sym e)

    tail_of : (a b : ℕ) (x y : List ℕ) → a ∷ x ≡ b ∷ y → x ≡ y
    tail_of a b x y e = cc

-- more bytes without a line feed complete no head
pub none_without_feed : (before new : List ℕ) → HasNoRequest (marked before) → HasNoFeed new
    → HasNoRequest (marked (before ++ new))
none_without_feed before new none feedless head rest reads =
    let e : marked before ++ marked new ≡ print_request head ++ rest = sym (marked-append before new) ∙ reads.1 in
    let feed = head_feed head in
    elim (parted (marked before) (marked new) (print_request head) rest e) [
      | inl s ↦
          let own : HasNoFeed s.0 = all_front (λ b. (b == 10) ≡ false) s.0 rest
          (subst HasNoFeed s.2 (marks_no_feed new feedless)) in
          let empty : s.0 ≡ [] = no_last_feed (marked before) s.0 feed.0 own (sym s.1 ∙ feed.1) in
          none head [] (
            reads.0,
            sym (append-nil (marked before)) ∙ ap (λ v. marked before ++ v) (sym empty) ∙ sym s.1
                ∙ sym (append-nil (print_request head)),
          )
      | inr l ↦ none head (l.0 ∷ l.1) (reads.0, l.2)
    ]

pub none_in_nothing : HasNoRequest (marked [])
none_in_nothing head rest reads =
    let feed = head_feed head in
    omega (
      arith,
      ap length reads.1,
      length-append (print_request head) rest,
      ap length feed.1,
      length-append feed.0 (10 ∷ []),
    )

any_none : (bytes : List ℕ) → list_any (λ b. b == 10) bytes ≡ false → HasNoFeed bytes
any_none [] feedless = All-nil (λ b. (b == 10) ≡ false)
any_none (b ∷ bytes) feedless = All-cons (λ b. (b == 10) ≡ false) b bytes (first (b == 10) _ feedless)
    (any_none bytes (second (b == 10) _ feedless))
  where
    first : (x y : Bool) → x || y ≡ false → x ≡ false
    first false y e = refl
    first true y e = e

    second : (x y : Bool) → x || y ≡ false → y ≡ false
    second false y e = e
    second true y e = absurd (false≢true (sym e))

-- a buffer that isn't parsed again begins with no head
pub none_until_due : (buffer : List ℕ) (before : ℕ) → HasNoRequest (marked (take before buffer))
    → is_due buffer before ≡ false → HasNoRequest (marked buffer)
none_until_due buffer before none waits =
    subst (λ v. HasNoRequest (marked v)) (take-append-drop before buffer)
    (none_without_feed (take before buffer) (drop before buffer) none (any_none (drop before buffer)
    (second _ _ waits)))
  where
    second : (x y : Bool) → x || y ≡ false → y ≡ false
    second false y e = e
    second true y e = absurd (false≢true (sym e))

-- where a head ends among the new bytes
pub head_past : (before new : List ℕ) (count : ℕ) → HasNoRequest (marked before) → HasHeadOf (before ++ new) count
    → length before < count
head_past before new count none f =
    let e : marked before ++ marked new ≡ print_request f.head ++ f.begins.rest =
    sym (marked-append before new) ∙ f.begins.reads.1 in
    elim (parted (marked before) (marked new) (print_request f.head) f.begins.rest e) [
      | inl s ↦ longer s.0 s.1
      | inr l ↦ absurd (none f.head (l.0 ∷ l.1) (f.begins.reads.0, l.2))
    ]
  where
    longer : (z : List ℕ) → print_request f.head ≡ marked before ++ z → length before < count
    longer [] is = absurd (none f.head [] (
      f.begins.reads.0,
      sym (append-nil (marked before)) ∙ sym is ∙ sym (append-nil (print_request f.head)),
    ))
    longer (c ∷ z) is = omega (
      arith,
      f.length_is,
      ap length is,
      length-append (marked before) (c ∷ z),
      length-map before marked_byte,
    )

-- ---- reads

pub at_end_after : (observed left : Option (List ℕ)) (piece : List ℕ) → piece ≡ [] → Gives observed piece left
    → IsAtEnd observed → IsAtEnd left
at_end_after None left piece none gives end = subst IsAtEnd (sym gives) tt
at_end_after (Some all) left piece none gives end =
    subst IsAtEnd (sym gives.1) (ap (λ v. v ++ gives.0) (sym none) ∙ sym gives.2 ∙ end)

pub loses_nothing : (limit : ℕ) (observed left : Option (List ℕ)) (fault : FrontFault) → left ≡ observed
    → LosesPiece limit observed left fault
loses_nothing limit observed left fault same = record {
  piece = [];
  gives = subst (λ o. Gives observed [] o) (sym same) (Gives-none observed [] refl);
  within = omega arith;
  kept = λ is. refl;
}

pub loses_piece : (limit : ℕ) (observed left : Option (List ℕ)) (fault : FrontFault) (piece : List ℕ)
    → fault ≡ OutOfMemory → Gives observed piece left → length piece ≤ limit → LosesPiece limit observed left fault
loses_piece limit observed left fault piece no_memory gives within = record {
  piece = piece;
  gives = gives;
  within = within;
  kept = λ is. absurd (cc);
}

not_early : (fault : FrontFault) → IsOutside fault → fault ≡ EndedEarly → ⊥
not_early fault (inl is) early = cc
not_early fault (inr is) early = cc

-- no head was found, and the next read failed
pub no_head_lost : (observed middle left : Option (List ℕ)) (buffer : List ℕ) (limit : ℕ) (fault : FrontFault)
    → Gives observed buffer middle → HasNoRequest (marked buffer) → length buffer + limit ≤ 16384
    → LosesPiece limit middle left fault → IsOutside fault → ReadsNoHead observed left fault
no_head_lost observed middle left buffer limit fault gives none short lost outside = record {
  read = buffer ++ lost.piece;
  gives = Gives-append observed middle left buffer lost.piece gives lost.gives;
  short = omega (arith, length-append buffer lost.piece, lost.within);
  ended = λ early. absurd (not_early fault outside early);
  broken = λ is. subst (λ v. HasNoRequest (marked v))
      (sym (ap (λ v. buffer ++ v) (lost.kept is) ∙ append-nil buffer)) none;
}

-- the bytes that came are no head, and none can follow
pub no_head_parsed : (observed middle left : Option (List ℕ)) (before : List ℕ) (limit : ℕ) (now : List ℕ)
    (more : Bool) (fault : FrontFault) → Gives observed before middle → length before + limit ≤ 16384
    → ReadsOn limit middle before left now more → IsParseOfBuffer now more (Err fault) → ReadsNoHead observed left fault
no_head_parsed observed middle left before limit now more fault gives short on parse = record {
  read = now;
  gives = subst (λ v. Gives observed v left) (sym on.joined)
      (Gives-append observed middle left before on.piece gives on.gives);
  short = omega (arith, ap length on.joined, length-append before on.piece, on.within);
  ended = λ early. ended_by parse early;
  broken = λ is. absurd (broken_by parse is);
}
  where
    ended_by : IsParseOfBuffer now more (Err fault) → fault ≡ EndedEarly → IsAtEnd left
    ended_by (inl invalid) early = absurd (let is = invalid.is in cc)
    ended_by (inr (inl partial)) early =
        let end = on.end partial.end in at_end_after middle left on.piece end.0 on.gives end.1
    ended_by (inr (inr no_memory)) early = absurd (cc)

    broken_by : IsParseOfBuffer now more (Err fault) → fault ≡ LinkFault → ⊥
    broken_by (inl invalid) is = let other = invalid.is in cc
    broken_by (inr (inl partial)) is = let other = partial.is in cc
    broken_by (inr (inr no_memory)) is = cc

-- no head begins as many bytes as one may have
pub no_head_full : (observed left : Option (List ℕ)) (buffer : List ℕ) → Gives observed buffer left
    → length buffer ≤ 16384 → ReadsNoHead observed left BadHead
no_head_full observed left buffer gives short = record {
  read = buffer;
  gives = gives;
  short = short;
  ended = λ early. absurd (cc);
  broken = λ is. absurd (cc);
}

-- ---- a body

-- a body that was read, or for which memory ran out
pub body_read : {T : Type 0} (count : ℕ) (received : List ℕ) (observed left : Option (List ℕ))
    (result : Result T FrontFault) (read : List ℕ) → Gives observed read left → length read ≤ count - length received
    → (result ≡ Err EndedEarly → ⊥) → (result ≡ Err LinkFault → ⊥) → ReadsBody count received observed left result
body_read count received observed left result read gives within early broken = record {
  read = read;
  gives = gives;
  within = within;
  ended = λ is. absurd (early is);
  broken = λ is. absurd (broken is);
}

-- the read after a part of the body failed
pub body_lost : {T : Type 0} (count : ℕ) (received : List ℕ) (observed middle left : Option (List ℕ)) (read : List ℕ)
    (limit : ℕ) (fault : FrontFault) → Gives observed read middle → length (received ++ read) + limit ≤ count
    → 0 < limit → LosesPiece limit middle left fault → IsOutside fault
    → (let failed : Result T FrontFault = Err fault in ReadsBody count received observed left failed)
body_lost count received observed middle left read limit fault gives short some lost outside = record {
  read = read ++ lost.piece;
  gives = Gives-append observed middle left read lost.piece gives lost.gives;
  within = omega (arith, length-append received read, length-append read lost.piece, lost.within);
  ended = λ is. absurd (not_early fault outside (cc));
  broken = λ is.
      let broken : fault ≡ LinkFault = cc in
      let none = lost.kept broken in
      omega (
        arith,
        length-append received read,
        length-append received (read ++ lost.piece),
        length-append read lost.piece,
        ap length none,
      );
}

-- the link was at its end after a part of the body
pub body_ended : {T : Type 0} (count : ℕ) (received : List ℕ) (observed middle left : Option (List ℕ)) (read : List ℕ)
    (limit : ℕ) (buffer now : List ℕ) (more : Bool) → Gives observed read middle
    → length (received ++ read) ≤ count → ReadsOn limit middle buffer left now more → more ≡ false
    → (let failed : Result T FrontFault = Err EndedEarly in ReadsBody count received observed left failed)
body_ended count received observed middle left read limit buffer now more gives short on no_more =
    let end = on.end no_more in
    record {
      read = read ++ on.piece;
      gives = Gives-append observed middle left read on.piece gives on.gives;
      within = omega (arith, length-append received read, length-append read on.piece, ap length end.0);
      ended = λ is. at_end_after middle left on.piece end.0 on.gives end.1;
      broken = λ is. absurd (cc);
    }

pub body_same : {T U : Type 0} (count : ℕ) (received : List ℕ) (observed left : Option (List ℕ))
    (fault : FrontFault) → (let failed : Result T FrontFault = Err fault in ReadsBody count received observed left failed)
    → (let failed : Result U FrontFault = Err fault in ReadsBody count received observed left failed)
body_same count received observed left fault b = record {
  read = b.read;
  gives = b.gives;
  within = b.within;
  ended = λ is. b.ended (cc);
  broken = λ is. b.broken (cc);
}
