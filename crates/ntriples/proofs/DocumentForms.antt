-- The lines that are read are the lines that are of the form.
use Rattle.std.proofs.Common.{◌≡◌, ℕ, List, [], ◌∷◌, ◌++◌, Option, Some, None, Result, Ok, Err, inl, inr}
use Rattle.std.proofs.Common.{refl, sym, ap, ◌∙◌, subst}
use Rattle.std.proofs.lemmas.Bool.{false≢true}
use Rattle.std.proofs.lemmas.Option.{same_Some}
use Rattle.std.specs.Prelude.{All, is_some, IsSome, IfOk, IfErr, ◌⊎◌, ◌↔◌}
use Rattle.ntriples.specs.declared.fault.NtFault.{NtFault}
use Rattle.ntriples.specs.declared.fault.NtFault.TheVariants.{Line, OutOfMemory}
use Rattle.ntriples.specs.declared.term.Triple.{Triple}
use Rattle.ntriples.specs.Document.{lines, given, IsLineOf, HaveTriples, IsDocument, IsFirstBadLine, IsFault}
use Rattle.ntriples.specs.ParsedLines.{line_of, triples_of, IsParsed, IsFirstUnparsed, IsParseFault}
use Rattle.ntriples.specs.Written.{CanBeRead, document_text}
use Rattle.ntriples.proofs.Pieces.{bind_some}
use Rattle.ntriples.proofs.Lines.{line_form, form_line, line_no_form, no_form_line}
use Rattle.ntriples.proofs.DocumentLemmas.{none_yet, good_prefix, one_document, never_both, one_bad_line}
use Rattle.ntriples.proofs.DocumentLemmas.{document_or_bad_line, only_document, only_bad_line}
use Rattle.ntriples.proofs.DocumentAgain.{reads_back}

-- ---- the two ways to say it

pub triples_form : (ls : List (List ℕ)) (ts : List Triple) → triples_of ls ≡ Some ts → HaveTriples ls ts
unfolding triples_of
triples_form [] ts e = sym (same_Some [] ts e)
triples_form (l ∷ ls) ts e =
    let p = bind_some (line_of l) _ ts e in
    let q = bind_some (triples_of ls)
    (λ (later : List Triple). let o : Option (List Triple) = Some (given p.0 ++ later) in o) ts p.2 in
    (p.0, q.0, line_form l p.0 p.1, triples_form ls q.0 q.1, sym (same_Some (given p.0 ++ q.0) ts q.2))

form_triples : (ls : List (List ℕ)) (ts : List Triple) → HaveTriples ls ts → triples_of ls ≡ Some ts
form_triples [] ts e = none_yet ∙ ap Some (sym e)
form_triples (l ∷ ls) ts h =
    good_prefix l ls h.0 h.1 (form_line l h.0 h.2) (form_triples ls h.1 h.3) ∙ ap Some (sym h.4)

good_by : (o : Option (List Triple)) (ls : List (List ℕ)) → triples_of ls ≡ o → IsSome o
    → (ts : List Triple) × HaveTriples ls ts
good_by None ls e h = absurd (false≢true h)
good_by (Some ts) ls e h = (ts, triples_form ls ts e)

bad_form : (bytes : List ℕ) (number : ℕ) → IsFirstUnparsed bytes number → IsFirstBadLine bytes number
bad_form bytes number h =
    record {
      before = h.before;
      bad = h.bad;
      following = h.following;
      cut = h.cut;
      good = good_by (triples_of h.before) h.before refl h.good;
      malformed = line_no_form h.bad h.malformed;
      counted = h.counted;
    }

form_bad : (bytes : List ℕ) (number : ℕ) → IsFirstBadLine bytes number → IsFirstUnparsed bytes number
form_bad bytes number h =
    record {
      before = h.before;
      bad = h.bad;
      following = h.following;
      cut = h.cut;
      good = ap is_some (form_triples h.before h.good.0 h.good.1);
      malformed = no_form_line h.bad h.malformed;
      counted = h.counted;
    }

-- ---- the laws

pub a_triple_where_of_form : (bytes : List ℕ) (t : Option Triple) → (line_of bytes ≡ Some t) ↔ IsLineOf bytes t
a_triple_where_of_form bytes t = (line_form bytes t, form_line bytes t)

pub bad_where_of_no_form : (bytes : List ℕ)
    → (line_of bytes ≡ None) ↔ ((t : Option Triple) → IsLineOf bytes t → ⊥)
bad_where_of_no_form bytes = (line_no_form bytes, no_form_line bytes)

pub one_reading : (bytes : List ℕ) (ts us : List Triple) → IsDocument bytes ts → IsDocument bytes us → ts ≡ us
one_reading bytes ts us h k =
    one_document bytes ts us (form_triples (lines bytes) ts h) (form_triples (lines bytes) us k)

pub no_bad_line : (bytes : List ℕ) (ts : List Triple) (number : ℕ) → IsDocument bytes ts → IsFirstBadLine bytes number
    → ⊥
no_bad_line bytes ts number h k =
    never_both bytes ts number (form_triples (lines bytes) ts h) (form_bad bytes number k)

pub one_first : (bytes : List ℕ) (m n : ℕ) → IsFirstBadLine bytes m → IsFirstBadLine bytes n → m ≡ n
one_first bytes m n h k = one_bad_line bytes m n (form_bad bytes m h) (form_bad bytes n k)

pub either : (bytes : List ℕ)
    → ((ts : List Triple) × IsDocument bytes ts) ⊎ ((n : ℕ) × IsFirstBadLine bytes n)
either bytes = elim (document_or_bad_line bytes) [
  | inl d ↦ inl (d.0, triples_form (lines bytes) d.0 d.1)
  | inr b ↦ inr (b.0, bad_form bytes b.0 b.1)
]

pub written_reads_back : (values : List Triple) → All CanBeRead values → IsDocument (document_text values) values
written_reads_back values h = triples_form (lines (document_text values)) values (reads_back values h)

-- ---- what a call answers

pub read_document : (bytes : List ℕ) (r : Result (List Triple) NtFault) → IfOk r (IsParsed bytes)
    → IfOk r (IsDocument bytes)
read_document bytes (Ok ts) h = triples_form (lines bytes) ts h
read_document bytes (Err e) h = tt

pub read_fault : (bytes : List ℕ) (r : Result (List Triple) NtFault) → IfErr r (IsParseFault bytes)
    → IfErr r (IsFault bytes)
read_fault bytes (Ok ts) h = tt
read_fault bytes (Err (Line n)) h = bad_form bytes n h
read_fault bytes (Err OutOfMemory) h = h

pub documents_are_read : (bytes : List ℕ) (r : Result (List Triple) NtFault) → IfOk r (IsParsed bytes)
    → IfErr r (IsParseFault bytes) → (ts : List Triple) → IsDocument bytes ts → (r ≡ Ok ts) ⊎ (r ≡ Err OutOfMemory)
documents_are_read bytes r h k ts d = only_document bytes r h k ts (form_triples (lines bytes) ts d)

pub bad_lines_are_reported : (bytes : List ℕ) (r : Result (List Triple) NtFault) → IfOk r (IsParsed bytes)
    → IfErr r (IsParseFault bytes) → (n : ℕ) → IsFirstBadLine bytes n → (r ≡ Err (Line n)) ⊎ (r ≡ Err OutOfMemory)
bad_lines_are_reported bytes r h k n d = only_bad_line bytes r h k n (form_bad bytes n d)

pub written_back : {V E : Type 0} (items : V → List ℕ) (written : Result V E) (values : List Triple)
    → IfOk written (λ out. items out ≡ document_text values) → All CanBeRead values
    → IfOk written (λ out. IsDocument (items out) values)
written_back items (Ok out) values e h =
    subst (λ (bytes : List ℕ). IsDocument bytes values) (sym e) (written_reads_back values h)
written_back items (Err fault) values e h = tt
