-- What a link has left once its request was received.
use Rattle.std.proofs.Common.{◌≡◌, ℕ, ◌+◌, ◌-◌, ◌<◌, ◌≤◌, ◌⊎◌, List, [], ◌++◌, ◌∙◌, refl, sym, ap, subst, append_assoc}
use Rattle.std.proofs.Common.{length, take, drop, arith, append-nil, length-append, length-drop, inl, inr, Bool, true, false, max}
use Rattle.std.specs.Prelude.{Option, Some, None, Result, Ok, Err, IfSome, IfOk, IfErr, nat_lt, if◌then◌else◌}
use Rattle.std.proofs.lemmas.Bool.{lt-ltb}
use Rattle.httparse.specs.Grammar.{RequestHead, ReadsRequest}
use Rattle.portal_base.specs.Outside.{Gives, IsAtEnd}
use Rattle.http_front.specs.Head.{marked}
use Rattle.http_front.specs.HeadParse.{HasHeadOf}
use Rattle.http_front.specs.LinkRead.{IsOutside}
use Rattle.http_front.specs.Request.{Reads, IsActionTarget, IsRequest, HasNone, UnlessOutside}
use Rattle.http_front.specs.Taken.{IsOfHead, Leaves, LeavesAfter, ReadsBody, ReadsNoHead, TakesFor, TakesPastHead}
use Rattle.http_front.specs.Taken.{body_in, body_length}
use Rattle.http_front.specs.declared.fault.FrontFault.{FrontFault}
use Rattle.http_front.specs.declared.fault.FrontFault.TheVariants.{BadHead, NoLength, TooLong, NoRoute}
use Rattle.http_front.specs.declared.fault.FrontFault.TheVariants.{Method, EndedEarly, LinkFault, OutOfMemory}
use Rattle.http_front.specs.declared.incoming.Incoming.{Incoming}
use Rattle.http_front.specs.declared.incoming.Incoming.TheVariants as incoming
use Rattle.http_front.specs.declared.action_target.ActionTarget.{ActionTarget}
use Rattle.http_front.specs.declared.action_target.ActionTarget.TheVariants.{Get, Post}
use Rattle.http_front.proofs.HeadLemmas.{begins_on, end_none}
use Rattle.http_front.proofs.ReceiveLemmas.{asks_found, request_of}

-- the head of the buffer, and what came after it in the buffer and later
module _ (buffer : List ℕ) (count : ℕ) (f : HasHeadOf buffer count) (few : length buffer < count + 4096) where
  past_head : (bytes read : List ℕ) (most : ℕ) → length buffer + length read ≤ count + most
      → TakesPastHead (buffer ++ bytes) (buffer ++ read) most
  past_head bytes read most within = (
    f.head,
    begins_on buffer bytes f.head f.begins,
    omega (arith, length-append buffer read, within, f.length_is),
  )

  -- a head at fault, after which nothing was read
  refused : (A : Reads) (fault : FrontFault) (bytes : List ℕ) → IsOfHead fault
      → TakesFor A (Err fault) (buffer ++ bytes) (buffer ++ [])
  refused A BadHead bytes own = inl (past_head bytes [] 4095 (omega (arith, few)))
  refused A NoLength bytes own = past_head bytes [] 4095 (omega (arith, few))
  refused A TooLong bytes own = past_head bytes [] 4095 (omega (arith, few))
  refused A NoRoute bytes own = past_head bytes [] 4095 (omega (arith, few))
  refused A Method bytes own = past_head bytes [] 4095 (omega (arith, few))
  refused A EndedEarly bytes own = absurd own
  refused A LinkFault bytes own = absurd own
  refused A OutOfMemory bytes own =
      omega (arith, few, f.length_is, f.begins.short, length-append buffer [])

  pub leaves_refused : (A : Reads) (observed left : Option (List ℕ)) (fault : FrontFault) → IsOfHead fault
      → left ≡ observed → LeavesAfter A buffer observed left (Err fault)
  leaves_refused A None left fault own same = tt
  leaves_refused A (Some bytes) left fault own same = ([], bytes, same, refl, refused A fault bytes own)

  -- what was read of a body, with the head
  within_body : (read : List ℕ) (n : ℕ) → length read ≤ n - length (drop count buffer)
      → length buffer + length read ≤ count + max 4095 n
  within_body read n within = omega (arith, within, few, f.within, length-drop count buffer)

  unfinished : (A : Reads) (target : ActionTarget) (read : List ℕ)
      → IsActionTarget A (take count buffer) f.head (Ok target)
      → length (drop count buffer ++ read) < body_length target → IsRequest A (buffer ++ read) (Err EndedEarly)
  unfinished A (Get name query token) read asks short = absurd (omega (arith, short))
  unfinished A (Post name n token) read asks short =
      request_of A (buffer ++ read) buffer read count f (Ok (Post name n token)) (Err EndedEarly) refl asks
      (early (nat_lt (length (drop count buffer ++ read)) n) (lt-ltb (length (drop count buffer ++ read)) n short))
    where
      early : (b : Bool) → b ≡ true
          → (let ended : Result Incoming FrontFault = Err EndedEarly in
          let whole : Result Incoming FrontFault =
          Ok (incoming.Post name (take n (drop count buffer ++ read)) token) in
          ended ≡ (if b then ended else whole))
      early true is = refl
      early false is = absurd (cc)

  read_for : (A : Reads) (target : ActionTarget) (result : Result Incoming FrontFault) (bytes left_bytes : List ℕ)
      (observed left : Option (List ℕ))
      (b : ReadsBody (body_length target) (drop count buffer) observed left result)
      → left ≡ Some left_bytes → bytes ≡ b.read ++ left_bytes → body_length target ≤ 262144
      → IfOk result (λ incoming. length (body_in incoming) ≡ body_length target)
      → IfErr result (λ fault. (fault ≡ EndedEarly) ⊎ IsOutside fault)
      → IsActionTarget A (take count buffer) f.head (Ok target)
      → TakesFor A result (buffer ++ bytes) (buffer ++ b.read)
  read_for A target (Ok (incoming.Get name query token)) bytes more observed left b is splits small body late asks =
      past_head bytes b.read 4095 (omega (arith, b.within, body, few))
  read_for A target (Ok (incoming.Post name text token)) bytes more observed left b is splits small body late asks =
      past_head bytes b.read (max 4095 (length text))
      (subst (λ n. length buffer + length b.read ≤ count + max 4095 n) (sym body)
      (within_body b.read (body_length target) b.within))
  read_for A target (Err EndedEarly) bytes more observed left b is splits small body late asks =
      let none : more ≡ [] = subst IsAtEnd is (b.ended refl) in
      ap (λ v. buffer ++ v) (sym (splits ∙ ap (λ v. b.read ++ v) none ∙ append-nil b.read))
  read_for A target (Err LinkFault) bytes more observed left b is splits small body late asks = (
    omega (
      arith,
      within_body b.read (body_length target) b.within,
      small,
      f.length_is,
      f.begins.short,
      length-append buffer b.read,
    ),
    inr (unfinished A target b.read asks (b.broken refl)),
  )
  read_for A target (Err OutOfMemory) bytes more observed left b is splits small body late asks =
      omega (
        arith,
        within_body b.read (body_length target) b.within,
        small,
        f.length_is,
        f.begins.short,
        length-append buffer b.read,
      )
  read_for A target (Err BadHead) bytes more observed left b is splits small body late asks = absurd (other late)
    where
      other : (let fault : FrontFault = BadHead in (fault ≡ EndedEarly) ⊎ IsOutside fault) → ⊥
      other (inl e) = cc
      other (inr (inl e)) = cc
      other (inr (inr e)) = cc
  read_for A target (Err NoLength) bytes more observed left b is splits small body late asks = absurd (other late)
    where
      other : (let fault : FrontFault = NoLength in (fault ≡ EndedEarly) ⊎ IsOutside fault) → ⊥
      other (inl e) = cc
      other (inr (inl e)) = cc
      other (inr (inr e)) = cc
  read_for A target (Err TooLong) bytes more observed left b is splits small body late asks = absurd (other late)
    where
      other : (let fault : FrontFault = TooLong in (fault ≡ EndedEarly) ⊎ IsOutside fault) → ⊥
      other (inl e) = cc
      other (inr (inl e)) = cc
      other (inr (inr e)) = cc
  read_for A target (Err NoRoute) bytes more observed left b is splits small body late asks = absurd (other late)
    where
      other : (let fault : FrontFault = NoRoute in (fault ≡ EndedEarly) ⊎ IsOutside fault) → ⊥
      other (inl e) = cc
      other (inr (inl e)) = cc
      other (inr (inr e)) = cc
  read_for A target (Err Method) bytes more observed left b is splits small body late asks = absurd (other late)
    where
      other : (let fault : FrontFault = Method in (fault ≡ EndedEarly) ⊎ IsOutside fault) → ⊥
      other (inl e) = cc
      other (inr (inl e)) = cc
      other (inr (inr e)) = cc

  pub leaves_read : (A : Reads) (target : ActionTarget) (result : Result Incoming FrontFault) (received : List ℕ)
      (observed left : Option (List ℕ)) → received ≡ drop count buffer
      → ReadsBody (body_length target) received observed left result → body_length target ≤ 262144
      → IfOk result (λ incoming. length (body_in incoming) ≡ body_length target)
      → IfErr result (λ fault. (fault ≡ EndedEarly) ⊎ IsOutside fault)
      → IsActionTarget A (take count buffer) f.head (Ok target) → LeavesAfter A buffer observed left result
  leaves_read A target result received None left same b small body late asks = tt
  leaves_read A target result received (Some bytes) left same b small body late asks =
      let own = subst (λ v. ReadsBody (body_length target) v (Some bytes) left result) same b in (
        own.read,
        own.gives.0,
        own.gives.1,
        own.gives.2,
        read_for A target result bytes own.gives.0 (Some bytes) left own own.gives.1 own.gives.2 small body late asks,
      )

-- the same from the marked bytes of one head, as the code reads it
pub leaves_asked : (A : Reads) (buffer text received : List ℕ) (count : ℕ) (target : ActionTarget)
    (result : Result Incoming FrontFault) (observed left : Option (List ℕ)) (f : HasHeadOf buffer count)
    → length buffer < count + 4096 → text ≡ take count buffer → received ≡ drop count buffer
    → ((mark : RequestHead) (rest : List ℕ) → ReadsRequest (marked text) mark rest
    → length mark.fields ≤ 64 → IsActionTarget A text mark (Ok target))
    → ReadsBody (body_length target) received observed left result → body_length target ≤ 262144
    → IfOk result (λ incoming. length (body_in incoming) ≡ body_length target)
    → IfErr result (λ fault. (fault ≡ EndedEarly) ⊎ IsOutside fault) → LeavesAfter A buffer observed left result
leaves_asked A buffer text received count target result observed left f few t r asks b small body late =
    leaves_read buffer count f few A target result received observed left r b small body late
    (asks_found A buffer count f (Ok target)
    (subst (λ v. (mark : RequestHead) (after : List ℕ) → ReadsRequest (marked v) mark after
    → length mark.fields ≤ 64 → IsActionTarget A v mark (Ok target)) t asks))

-- from the bytes after the buffer to all bytes
pub leaves_all : (A : Reads) (observed middle left : Option (List ℕ)) (buffer shown : List ℕ)
    (result : Result Incoming FrontFault) → Gives observed buffer middle → shown ≡ buffer
    → LeavesAfter A shown middle left result → Leaves A observed left result
leaves_all A None middle left buffer shown result gives e after = tt
leaves_all A (Some all) middle left buffer shown result gives e after =
    let own = subst (λ o. LeavesAfter A buffer o left result) gives.1
    (subst (λ v. LeavesAfter A v middle left result) e after) in (
      buffer ++ own.0,
      own.1,
      own.2,
      gives.2 ∙ ap (λ v. buffer ++ v) own.3 ∙ sym (append_assoc buffer own.0 own.1),
      subst (λ v. TakesFor A result v (buffer ++ own.0)) (sym gives.2) own.4,
    )

-- where no head was found
pub leaves_no_head : (A : Reads) (observed left : Option (List ℕ)) (fault : FrontFault)
    → ReadsNoHead observed left fault
    → UnlessOutside fault (IfSome observed (λ bytes. HasNone bytes (Err fault))) → Leaves A observed left (Err fault)
leaves_no_head A None left fault r none = tt
leaves_no_head A (Some all) left fault r none =
    (r.read, r.gives.0, r.gives.1, r.gives.2, by fault refl none)
  where
    one : HasNone all (Err fault) → (fault ≡ BadHead) ⊎ (fault ≡ EndedEarly)
    one h = elim h.why [ inl p ↦ inl (cc (p.1)) | inr p ↦ inr (cc (p.2)) ]

    neither : {P : Type 0} (other : FrontFault) → fault ≡ other → (other ≡ BadHead → ⊥) → (other ≡ EndedEarly → ⊥)
        → HasNone all (Err fault) → P
    neither other is bad early h =
        elim (one h) [ inl e ↦ absurd (bad (sym is ∙ e)) | inr e ↦ absurd (early (sym is ∙ e)) ]

    by : (f : FrontFault) → fault ≡ f → UnlessOutside fault (IfSome (Some all) (λ bytes. HasNone bytes (Err fault)))
        → TakesFor A (Err f) all r.read
    by BadHead is h = inr r.short
    by NoLength is h = neither NoLength is (λ e. cc) (λ e. cc)
        (subst (λ f. UnlessOutside f (HasNone all (Err fault))) is h)
    by TooLong is h = neither TooLong is (λ e. cc) (λ e. cc)
        (subst (λ f. UnlessOutside f (HasNone all (Err fault))) is h)
    by NoRoute is h = neither NoRoute is (λ e. cc) (λ e. cc)
        (subst (λ f. UnlessOutside f (HasNone all (Err fault))) is h)
    by Method is h = neither Method is (λ e. cc) (λ e. cc)
        (subst (λ f. UnlessOutside f (HasNone all (Err fault))) is h)
    by EndedEarly is h =
        let none_left : r.gives.0 ≡ [] = subst IsAtEnd r.gives.1 (r.ended is) in
        sym (r.gives.2 ∙ ap (λ v. r.read ++ v) none_left ∙ append-nil r.read)
    by LinkFault is h = (omega (arith, r.short), inl (end_none r.read (r.broken is)))
    by OutOfMemory is h = omega (arith, r.short)
