-- The triples of a document, by the forms of its lines.
use Rattle.std.proofs.Common.{◌≡◌, ℕ, ◌+◌, List, [], ◌∷◌, ◌++◌, length, Option, Some, None, Ok, Err, sym, ap}
use Rattle.std.proofs.Common.{◌∙◌, ◌↔◌, ◌⊎◌, inl, inr, subst, arith}
use Rattle.ntriples.specs.Document.{lines, IsLineOf, HaveTriples, IsDocument, IsFirstBadLine}
use Rattle.ntriples.specs.ParsedLines.{line_of}
use Rattle.ntriples.specs.declared.term.Triple.{Triple}
use Rattle.harvest_sources.specs.declared.cause.Cause.TheVariants.{NotNTriples}
use Rattle.harvest_readings.specs.Documents.{triples_from, triples_in}

-- how the lines are of the form where reading from the left finds them so
abbrev pub ReadsForms : Type 0
ReadsForms = (bytes : List ℕ) (triple : Option Triple) → (line_of bytes ≡ Some triple) ↔ IsLineOf bytes triple

abbrev pub ReadsBad : Type 0
ReadsBad = (bytes : List ℕ) → (line_of bytes ≡ None) ↔ ((triple : Option Triple) → IsLineOf bytes triple → ⊥)

-- Lines of the form are read.
triples_from-forms : ReadsForms → (number : ℕ) (ls : List (List ℕ)) (ts : List Triple) → HaveTriples ls ts
    → triples_from number ls ≡ Ok ts
triples_from-forms forms number [] ts h = ap Ok (sym h)
triples_from-forms forms number (l ∷ ls) ts h =
    let here = (forms l h.0).1 h.2 in
    let later = triples_from-forms forms (number + 1) ls h.1 h.3 in
    rw (here, later) (ap Ok (sym h.4))

-- Past lines of the form, a bad one gives its number.
triples_from-bad : ReadsForms → (number : ℕ) (before : List (List ℕ)) (bad : List ℕ) (following : List (List ℕ))
    (ts : List Triple) → HaveTriples before ts → line_of bad ≡ None
    → triples_from number (before ++ bad ∷ following) ≡ Err (NotNTriples (number + length before))
triples_from-bad forms number [] bad following ts h none = rw none (ap (λ n. Err (NotNTriples n)) (omega arith))
triples_from-bad forms number (l ∷ ls) bad following ts h none =
    let here = (forms l h.0).1 h.2 in
    let later = triples_from-bad forms (number + 1) ls bad following h.1 h.3 none in
    rw (here, later) (ap (λ n. Err (NotNTriples n)) (omega arith))

-- A document is read.
pub triples_in-document : ReadsForms → (bytes : List ℕ) (ts : List Triple) → IsDocument bytes ts
    → triples_in bytes ≡ Ok ts
unfolding triples_in
triples_in-document forms bytes ts h = triples_from-forms forms 1 (lines bytes) ts h

-- The first bad line gives its number.
pub triples_in-bad : ReadsForms → ReadsBad → (bytes : List ℕ) (number : ℕ) → IsFirstBadLine bytes number
    → triples_in bytes ≡ Err (NotNTriples number)
unfolding triples_in
triples_in-bad forms bads bytes number h =
    ap (triples_from 1) h.cut
    ∙ triples_from-bad forms 1 h.before h.bad h.following h.good.0 h.good.1 ((bads h.bad).1 h.malformed)
    ∙ ap (λ n. Err (NotNTriples n)) (omega (arith, h.counted))

-- Bytes are a document or have a bad line.
abbrev pub AreEither : Type 0
AreEither = (bytes : List ℕ)
    → ((triples : List Triple) × IsDocument bytes triples) ⊎ ((number : ℕ) × IsFirstBadLine bytes number)

document-from : ReadsForms → ReadsBad → (bytes : List ℕ) (ts : List Triple)
    → ((triples : List Triple) × IsDocument bytes triples) ⊎ ((number : ℕ) × IsFirstBadLine bytes number)
    → triples_in bytes ≡ Ok ts → IsDocument bytes ts
document-from forms bads bytes ts (inl d) e =
    let read = triples_in-document forms bytes d.0 d.1 in
    let same : d.0 ≡ ts = cc in
    subst (IsDocument bytes) same d.1
document-from forms bads bytes ts (inr b) e =
    let read = triples_in-bad forms bads bytes b.0 b.1 in
    let no : ⊥ = cc in
    absurd no

bad-from : ReadsForms → ReadsBad → (bytes : List ℕ) (number : ℕ)
    → ((triples : List Triple) × IsDocument bytes triples) ⊎ ((number : ℕ) × IsFirstBadLine bytes number)
    → triples_in bytes ≡ Err (NotNTriples number) → IsFirstBadLine bytes number
bad-from forms bads bytes number (inl d) e =
    let read = triples_in-document forms bytes d.0 d.1 in
    let no : ⊥ = cc in
    absurd no
bad-from forms bads bytes number (inr b) e =
    let read = triples_in-bad forms bads bytes b.0 b.1 in
    let same : b.0 ≡ number = cc in
    subst (λ (n : ℕ). IsFirstBadLine bytes n) same b.1

-- A document is read as its triples, and nothing else is.
pub reads_document : ReadsForms → ReadsBad → AreEither → (bytes : List ℕ) (ts : List Triple)
    → (triples_in bytes ≡ Ok ts) ↔ IsDocument bytes ts
reads_document forms bads either bytes ts =
    (document-from forms bads bytes ts (either bytes), triples_in-document forms bytes ts)

-- A first bad line is read as its number, and nothing else is.
pub reads_bad : ReadsForms → ReadsBad → AreEither → (bytes : List ℕ) (number : ℕ)
    → (triples_in bytes ≡ Err (NotNTriples number)) ↔ IsFirstBadLine bytes number
reads_bad forms bads either bytes number =
    (bad-from forms bads bytes number (either bytes), triples_in-bad forms bads bytes number)
