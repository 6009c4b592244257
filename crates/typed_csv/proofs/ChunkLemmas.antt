-- The records that a chunk has left at its start, and after a read.
use Rattle.std.proofs.Common.{◌≡◌, ◌+◌, ◌==◌, ◌&&◌, ℕ, Bool, true, false, not, List, [], ◌∷◌, ◌++◌, drop, take}
use Rattle.std.proofs.Common.{length, Option, Some, None, if◌then◌else◌, refl, sym, ap, ◌∙◌, inl, inr, arith}
use Rattle.std.proofs.lemmas.Bool.{and_parts}
use Rattle.std.proofs.lemmas.Str.{IsUtf8-from_is_utf8, is_utf8-from_IsUtf8}
use Rattle.std.specs.Prelude.{option_map}
use Rattle.std.specs.Str.{is_utf8}
use Rattle.csv.specs.Machine.{Read, next_record}
use Rattle.csv.specs.Reading.{NextIs, Ready, ReadsNext, TookRecord, default_config, has_failed, is_flexible}
use Rattle.csv.specs.Reading.{pending_of, reader_config, reader_state, reader_trim, records, records_next, source_of}
use Rattle.csv.specs.Reading.{strip_bom}
use Rattle.csv.specs.Records.{AllText}
use Rattle.csv.specs.declared.parser.State.{State}
use Rattle.csv.specs.declared.parser.State.TheVariants as st
use Rattle.csv.specs.declared.reader.Reader.{Reader}
use Rattle.csv.specs.declared.reader.Trim.TheVariants as trim
use Rattle.typed_csv.specs.Chunk.{IsChunkReader, records_left}
use Rattle.typed_csv.specs.Records.{is_text}
use Rattle.typed_csv.proofs.RecordLemmas.{all_records, all_records-next, records-all, records_from-all}

-- ---- the start

-- a byte order mark doesn't start with a line feed
strip_line_feed : (text : List ℕ) → strip_bom (10 ∷ text) ≡ 10 ∷ text
unfolding strip_bom
strip_line_feed [] = refl
strip_line_feed (a ∷ []) = refl
strip_line_feed (a ∷ b ∷ rest) = refl

-- an empty line isn't a record
skip_line_feed : (text : List ℕ) → all_records st.StartRecord [] [] (10 ∷ text) ≡ all_records st.StartRecord [] [] text
unfolding all_records
skip_line_feed text = refl

left_all : (s : State) (bytes : List ℕ) → records_left s (Some bytes) ≡ all_records s [] [] bytes
left_all s bytes = records_from-all (length bytes + 1) s bytes (omega arith)

pub left-start : (s : State) (source : Option (List ℕ)) (items text : List ℕ) → s ≡ st.StartRecord
    → source ≡ option_map strip_bom (Some items) → items ≡ 10 ∷ text
    → records_left s source ≡ records default_config text
left-start s source items text e f g =
    let known : source ≡ Some (10 ∷ text) = f ∙ ap (λ (bytes : List ℕ). Some (strip_bom bytes)) g
    ∙ ap (λ (bytes : List ℕ). Some bytes) (strip_line_feed text) in
    rw (e, known) (left_all st.StartRecord (10 ∷ text) ∙ skip_line_feed text ∙ sym (records-all text))

-- ---- a read

took_of : (next : Option Read) (fields : List (List ℕ)) (t : State) (rest : List ℕ) → NextIs next true fields t rest
    → records_next (λ s bytes. all_records s [] [] bytes) next ≡ fields ∷ all_records t [] [] rest
took_of None fields t rest h = absurd (cc)
took_of (Some p) fields t rest h = rw (h.1, h.2, h.3) refl

end_of : (next : Option Read) (fields : List (List ℕ)) (t : State) (rest : List ℕ) → NextIs next false fields t rest
    → records_next (λ s bytes. all_records s [] [] bytes) next ≡ []
end_of None fields t rest h = refl
end_of (Some p) fields t rest h = let no = h.0 in absurd (cc)

left_took : (s t : State) (bytes : List ℕ) (after : Option (List ℕ)) (fields : List (List ℕ))
    → ReadsNext default_config s (Some bytes) after true fields t
    → records_left s (Some bytes) ≡ fields ∷ records_left t after
left_took s t bytes None fields h = absurd h
left_took s t bytes (Some rest) fields h =
    left_all s bytes ∙ all_records-next s [] [] bytes ∙ took_of (next_record default_config s [] [] bytes) fields t
    rest h
    ∙ ap (λ (more : List (List (List ℕ))). fields ∷ more) (sym (left_all t rest))

left_end : (s t : State) (bytes : List ℕ) (after : Option (List ℕ)) (fields : List (List ℕ))
    → ReadsNext default_config s (Some bytes) after false fields t → records_left s (Some bytes) ≡ []
left_end s t bytes None fields h = absurd h
left_end s t bytes (Some rest) fields h =
    left_all s bytes ∙ all_records-next s [] [] bytes ∙ end_of (next_record default_config s [] [] bytes) fields t
    rest h

-- The remaining records of a reader are known if its remaining bytes are.
Known : Option (List ℕ) → Type 0
Known source = (bytes : List ℕ) × (source ≡ Some bytes)

known_either : (b : Bool) (stripped kept : Option (List ℕ)) → Known stripped → Known kept
    → Known (if b then stripped else kept)
known_either true stripped kept p q = p
known_either false stripped kept p q = q

known_source : {R : Type 0} (rem : R → Option (List ℕ)) (a : Reader R) (under : List ℕ) → has_failed a ≡ false
    → rem a.rdr ≡ Some under → Known (source_of rem a)
unfolding Known
known_source rem a under f e =
    rw (f, e)
    (known_either (not a.bom_checked && (a.at == 0) && (a.filled == 0)) (Some (strip_bom under))
    (Some (drop a.at (take a.filled a.buffer) ++ under))
    (strip_bom under, refl) (drop a.at (take a.filled a.buffer) ++ under, refl))

-- A reader that hasn't failed continues with the settings of a chunk.
pub going : {R : Type 0} (a : Reader R) → IsChunkReader a → (has_failed a ≡ true → ⊥)
    → (reader_trim a ≡ trim.None) × Ready a × (is_flexible a ≡ true) × (reader_config a ≡ default_config)
going a (inl h) never = absurd (never h)
going a (inr h) never = h

not_failed : (b : Bool) → (b ≡ true → ⊥) → b ≡ false
not_failed true never = absurd (never refl)
not_failed false never = refl

pub record-took : {R : Type 0} (rem : R → Option (List ℕ)) (a b : Reader R) (under : List ℕ) (fields : List (List ℕ))
    → (has_failed a ≡ true → ⊥) → reader_config a ≡ default_config → rem a.rdr ≡ Some under → TookRecord rem a b fields
    → records_left (reader_state a) (source_of rem a) ≡ fields
    ∷ records_left (reader_state b) (pending_of (rem b.rdr) b)
unfolding Known
record-took rem a b under fields never e u h =
    let k = known_source rem a under (not_failed (has_failed a) never) u in
    rw k.1 (left_took a.state b.state k.0 (pending_of (rem b.rdr) b) fields (rw (e, k.1) at h))

pub record-end : {R : Type 0} (rem : R → Option (List ℕ)) (a b : Reader R) (under : List ℕ) (fields : List (List ℕ))
    → (has_failed a ≡ true → ⊥) → reader_config a ≡ default_config → rem a.rdr ≡ Some under
    → ReadsNext a.config a.state (source_of rem a) (pending_of (rem b.rdr) b) false fields b.state
    → records_left (reader_state a) (source_of rem a) ≡ []
unfolding Known
record-end rem a b under fields never e u h =
    let k = known_source rem a under (not_failed (has_failed a) never) u in
    rw k.1 (left_end a.state b.state k.0 (pending_of (rem b.rdr) b) fields (rw (e, k.1) at h))

nothing_either : {R : Type 0} (rem : R → Option (List ℕ)) (a b : Reader R) (under : List ℕ) (fields : List (List ℕ))
    (failed : Bool)
    → has_failed a ≡ failed → IsChunkReader a → rem a.rdr ≡ Some under
    → (reader_trim a ≡ trim.None → Ready a
    → ReadsNext a.config a.state (source_of rem a) (pending_of (rem b.rdr) b) false fields b.state)
    → records_left (reader_state a) (source_of rem a) ≡ []
nothing_either rem a b under fields true f how u reads = rw f refl
nothing_either rem a b under fields false f how u reads =
    let goes : has_failed a ≡ true → ⊥ = λ e. cc in
    let g = going a how goes in
    record-end rem a b under fields goes g.3 u (reads g.0 g.1)

-- If no record is read, none is left.
pub nothing-left : {R : Type 0} (rem : R → Option (List ℕ)) (a b : Reader R) (under : List ℕ) (fields : List (List ℕ))
    → IsChunkReader a → rem a.rdr ≡ Some under
    → (reader_trim a ≡ trim.None → Ready a
    → ReadsNext a.config a.state (source_of rem a) (pending_of (rem b.rdr) b) false fields b.state)
    → records_left (reader_state a) (source_of rem a) ≡ []
nothing-left rem a b under fields how u reads = nothing_either rem a b under fields (has_failed a) refl how u reads

-- After the first read `csv` looks for no byte order mark.
pub source-checked : {R : Type 0} (rem : R → Option (List ℕ)) (b : Reader R) → b.bom_checked ≡ true
    → source_of rem b ≡ pending_of (rem b.rdr) b
source-checked rem b e = rw e refl

-- ---- text

pub is_text-from_AllText : (fields : List (List ℕ)) → AllText fields → is_text fields ≡ true
unfolding AllText
is_text-from_AllText [] h = refl
is_text-from_AllText (field ∷ fields) h = rw (is_utf8-from_IsUtf8 field h.0, is_text-from_AllText fields h.1) refl

pub AllText-from_is_text : (fields : List (List ℕ)) → is_text fields ≡ true → AllText fields
unfolding AllText
AllText-from_is_text [] h = tt
AllText-from_is_text (field ∷ fields) h =
    let parts = and_parts (is_utf8 field) (is_text fields) h in
    (IsUtf8-from_is_utf8 field parts.0, AllText-from_is_text fields parts.1)

pub no_text : (fields : List (List ℕ)) → (AllText fields → ⊥) → is_text fields ≡ false
no_text fields never = not_failed (is_text fields) (λ e. never (AllText-from_is_text fields e))
