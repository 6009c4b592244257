-- The bytes that a reader of records received over several steps.
use Rattle.std.proofs.Common.{◌≡◌, ◌≤◌, ◌+◌, ℕ, Bool, false, List, [], ◌∷◌, ◌++◌, length, take, refl, sym, ap, subst}
use Rattle.std.proofs.Common.{◌∙◌, arith}
use Rattle.std.specs.Prelude.{Option, Some, None, option_map}
use Rattle.std.proofs.lemmas.List.{append-nil, length-append, length-take-le}
use Rattle.csv.specs.Machine.{next_record}
use Rattle.csv.specs.Reading.{default_config, records, records_from}
use Rattle.portal_base.specs.Outside.{Gives, IsAtEnd}
use Rattle.portal_base.proofs.OutsideLemmas.{Gives-append}
use Rattle.typed_csv.specs.ReaderValue.{ReaderValue, Receives, TakesFirst, remaining_records, text_records}

-- More bytes were received.
pub received_on : (observed mid left : Option (List ℕ)) (given now then : ℕ)
    → (bytes : List ℕ) × Gives observed bytes mid × (now ≡ given + length bytes)
    → (bytes : List ℕ) × Gives mid bytes left × (then ≡ now + length bytes)
    → (bytes : List ℕ) × Gives observed bytes left × (then ≡ given + length bytes)
received_on observed mid left given now then p q =
    (p.0 ++ q.0, Gives-append observed mid left p.0 q.0 p.1 q.1, omega (arith, p.2, q.2, length-append p.0 q.0))

-- No more bytes were received.
pub received_same : (observed left left' : Option (List ℕ)) (given now now' : ℕ) → left' ≡ left → now' ≡ now
    → (bytes : List ℕ) × Gives observed bytes left × (now ≡ given + length bytes)
    → (bytes : List ℕ) × Gives observed bytes left' × (now' ≡ given + length bytes)
received_same observed left left' given now now' e f p = (p.0, subst (λ o. Gives observed p.0 o) (sym e) p.1, f ∙ p.2)

module _ {S : Type 0} (to_come : S → Option (List ℕ)) where
  pub Receives-same : (old mid opened : ReaderValue S) → opened ≡ mid → Receives to_come old mid
      → Receives to_come old opened
  Receives-same old mid opened e r = subst (λ (x : ReaderValue S). Receives to_come old x) (sym e) r

  -- The source read into the front of a room.
  pub received : (opened old : ReaderValue S) (source : S) (count : ℕ) (room : List ℕ) → opened ≡ old
      → count ≤ length room
      → Gives (to_come opened.source) (take count room) (to_come source)
      → (bytes : List ℕ) × Gives (to_come old.source) bytes (to_come source)
      × (opened.given + count ≡ old.given + length bytes)
  received opened old source count room e within gives = (
    take count room,
    subst (λ (r : ReaderValue S). Gives (to_come r.source) (take count room) (to_come source)) e gives,
    omega (arith, ap (λ (r : ReaderValue S). r.given) e, length-take-le count room within),
  )

records-none : records default_config [] ≡ []
unfolding records_from next_record
records-none = refl

text_records-rest : (is_fresh : Bool) (held : List ℕ) → text_records is_fresh (held ++ []) ≡ text_records is_fresh held
text_records-rest is_fresh held = ap (text_records is_fresh) (append-nil held)

-- At the end of the source only the records of the held bytes remain.
first_last : (observed observed' : Option (List ℕ)) (is_fresh is_fresh' : Bool) (held held' : List ℕ)
    (row : List (List ℕ))
    (ready ready' : List (List (List ℕ)))
    → IsAtEnd observed → observed' ≡ observed → ready ≡ [] → held' ≡ [] → is_fresh' ≡ false
    → text_records is_fresh held ≡ row ∷ ready'
    → option_map (λ rest. ready ++ text_records is_fresh (held ++ rest)) observed
    ≡ option_map (λ rest. row ∷ rest) (option_map (λ rest. ready' ++ text_records is_fresh' (held' ++ rest)) observed')
first_last None observed' is_fresh is_fresh' held held' row ready ready' end e none empty stale first = rw e refl
first_last (Some bytes) observed' is_fresh is_fresh' held held' row ready ready' end e none empty stale first =
    rw (e, end, none, empty, stale) (ap Some (text_records-rest is_fresh held ∙ first
    ∙ ap (λ (more : List (List (List ℕ))). row ∷ more)
    (sym (append-nil ready') ∙ ap (λ (more : List (List (List ℕ))). ready' ++ more) (sym records-none))))

pub TakesFirst-last : {S : Type 0} (to_come : S → Option (List ℕ)) (opened old new : ReaderValue S)
    (row : List (List ℕ))
    (ready : List (List (List ℕ)))
    → opened ≡ old → old.ready ≡ [] → IsAtEnd (to_come old.source) → ready ≡ text_records opened.is_fresh opened.held
    → ready ≡ row ∷ new.ready → new.source ≡ opened.source → new.held ≡ [] → new.is_fresh ≡ false
    → TakesFirst (remaining_records to_come old) row (remaining_records to_come new)
TakesFirst-last {S} to_come opened old new row ready e none end made first same empty stale =
    first_last (to_come old.source) (to_come new.source) old.is_fresh new.is_fresh old.held new.held row old.ready
    new.ready
    end (ap to_come (same ∙ ap (λ (r : ReaderValue S). r.source) e)) none empty stale
    (subst (λ (r : ReaderValue S). text_records r.is_fresh r.held ≡ row ∷ new.ready) e (sym made ∙ first))
