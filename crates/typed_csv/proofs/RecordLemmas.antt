-- Records as one recursion over the bytes.
use Rattle.std.proofs.Common.{◌≡◌, ◌⊎◌, ◌<◌, ◌+◌, ℕ, zero, suc, Bool, true, false, List, [], ◌∷◌, ◌++◌, length}
use Rattle.std.proofs.Common.{Option, Some, None, if◌then◌else◌, refl, sym, ap, ◌∙◌, inl, inr, arith}
use Rattle.csv.specs.Machine.{Read, ends_at_end, field_after, fields_after, is_end, next_record, step}
use Rattle.csv.specs.Reading.{default_config, records, records_from, records_next}
use Rattle.csv.specs.declared.parser.State.{State}
use Rattle.csv.specs.declared.parser.State.TheVariants as st

-- the records of the bytes, from a state with the fields and the bytes of the current field so far
unfoldable pub all_records : State → List (List ℕ) → List ℕ → List ℕ → List (List (List ℕ))
all_records s fields field [] = if ends_at_end s then (fields ++ field ∷ []) ∷ [] else []
all_records s fields field (c ∷ rest) =
    if is_end (step default_config s c).1
    then fields_after (step default_config s c).1 fields field ∷ all_records (step default_config s c).0 [] [] rest
    else all_records (step default_config s c).0 (fields_after (step default_config s c).1 fields field)
    (field_after (step default_config s c).1 c field) rest

-- the records from a state
records_at : State → List ℕ → List (List (List ℕ))
records_at s bytes = all_records s [] [] bytes

-- ---- the next record is the first of all

at_end : (b : Bool) (row : List (List ℕ))
    → (if b then row ∷ [] else []) ≡ records_next records_at (if b then Some (row, st.StartRecord, []) else None)
unfolding records_at all_records
at_end true row = refl
at_end false row = refl

at_byte : (b : Bool) (row : List (List ℕ)) (s : State) (rest : List ℕ) (more : List (List (List ℕ)))
    (next : Option Read)
    → more ≡ records_next records_at next
    → (if b then row ∷ records_at s rest else more) ≡ records_next records_at (if b then Some (row, s, rest) else next)
at_byte true row s rest more next e = refl
at_byte false row s rest more next e = e

-- All records are the next one followed by the records after it.
pub all_records-next : (s : State) (fields : List (List ℕ)) (field bytes : List ℕ)
    → all_records s fields field bytes ≡ records_next (λ t rest. all_records t [] [] rest)
    (next_record default_config s fields field bytes)
unfolding records_at all_records next_record
all_records-next s fields field [] = at_end (ends_at_end s) (fields ++ field ∷ [])
all_records-next s fields field (c ∷ rest) =
    at_byte (is_end (step default_config s c).1) (fields_after (step default_config s c).1 fields field)
    (step default_config s c).0 rest _
    (next_record default_config (step default_config s c).0 (fields_after (step default_config s c).1 fields field)
    (field_after (step default_config s c).1 c field) rest)
    (all_records-next (step default_config s c).0 (fields_after (step default_config s c).1 fields field)
    (field_after (step default_config s c).1 c field) rest)

-- ---- a record takes bytes, or is the last one

-- The bytes after a record are fewer than before, or none.
Shortens : List ℕ → Option Read → Type 0
Shortens bytes None = Unit {0}
Shortens bytes (Some p) = (length p.2 < length bytes) ⊎ ((p.1 ≡ st.StartRecord) × (p.2 ≡ []))

shortens_at_end : (b : Bool) (row : List (List ℕ)) → Shortens [] (if b then Some (row, st.StartRecord, []) else None)
unfolding Shortens
shortens_at_end true row = inr (refl, refl)
shortens_at_end false row = tt

shortens_more : (c : ℕ) (rest : List ℕ) (next : Option Read) → Shortens rest next → Shortens (c ∷ rest) next
unfolding Shortens
shortens_more c rest None h = tt
shortens_more c rest (Some p) (inl h) = inl (omega arith)
shortens_more c rest (Some p) (inr h) = inr h

shortens_at_byte : (b : Bool) (row : List (List ℕ)) (s : State) (c : ℕ) (rest : List ℕ) (next : Option Read)
    → Shortens rest next → Shortens (c ∷ rest) (if b then Some (row, s, rest) else next)
unfolding Shortens
shortens_at_byte true row s c rest next h = inl (omega arith)
shortens_at_byte false row s c rest next h = shortens_more c rest next h

next_shortens : (s : State) (fields : List (List ℕ)) (field bytes : List ℕ)
    → Shortens bytes (next_record default_config s fields field bytes)
unfolding next_record
next_shortens s fields field [] = shortens_at_end (ends_at_end s) (fields ++ field ∷ [])
next_shortens s fields field (c ∷ rest) =
    shortens_at_byte (is_end (step default_config s c).1) (fields_after (step default_config s c).1 fields field)
    (step default_config s c).0 c rest
    (next_record default_config (step default_config s c).0 (fields_after (step default_config s c).1 fields field)
    (field_after (step default_config s c).1 c field) rest)
    (next_shortens (step default_config s c).0 (fields_after (step default_config s c).1 fields field)
    (field_after (step default_config s c).1 c field) rest)

-- ---- there are at most as many records as bytes

none_from : (n : ℕ) → records_from default_config n st.StartRecord [] ≡ []
unfolding records_from next_record
none_from zero = refl
none_from (suc n) = refl

after_same : (n : ℕ) (bytes : List ℕ) (next : Option Read) → length bytes < suc n → Shortens bytes next
    → ((s : State) (rest : List ℕ) → length rest < n → records_from default_config n s rest ≡ records_at s rest)
    → records_next (records_from default_config n) next ≡ records_next records_at next
unfolding Shortens records_at all_records
after_same n bytes None h k same = refl
after_same n bytes (Some p) h (inl k) same =
    ap (λ (more : List (List (List ℕ))). p.0 ∷ more) (same p.1 p.2 (omega arith))
after_same n bytes (Some p) h (inr k) same =
    ap (λ (more : List (List (List ℕ))). p.0 ∷ more) (rw (k.0, k.1) (none_from n))

pub records_from-all : (n : ℕ) (s : State) (bytes : List ℕ) → length bytes < n
    → records_from default_config n s bytes ≡ all_records s [] [] bytes
unfolding records_from records_at
records_from-all zero s bytes h = absurd (omega arith)
records_from-all (suc n) s bytes h =
    after_same n bytes (next_record default_config s [] [] bytes) h (next_shortens s [] [] bytes) (records_from-all n)
    ∙ sym (all_records-next s [] [] bytes)

pub records-all : (text : List ℕ) → records default_config text ≡ all_records st.StartRecord [] [] text
records-all text = records_from-all (length text + 1) st.StartRecord text (omega arith)
