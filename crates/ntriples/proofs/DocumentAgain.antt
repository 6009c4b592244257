-- What is written of triples that can be read is a document of them.
use Rattle.std.proofs.Common.{◌≡◌, ℕ, Bool, true, false, cond, ◌||◌, not, ◌==◌, List, [], ◌∷◌, ◌++◌, Option, Some}
use Rattle.std.proofs.Common.{None, refl, sym, ap, ap₂, ◌∙◌, subst, arith, append_assoc, chars}
use Rattle.std.proofs.Common.{IsUtf8, All}
use Rattle.std.proofs.lemmas.Bool.{and_parts, not-true}
use Rattle.std.proofs.lemmas.Str.{encode_ascii, encodes-append, chars-encodes, scalars-chars, IsUtf8-from_is_utf8}
use Rattle.std.proofs.lemmas.List.Elements.{recursion_from_All}
use Rattle.std.specs.List.{AllByRecursion}
use Rattle.std.specs.Str.{is_utf8}
use lib.Utf8.{scalar, scalars, encode, encodes}
use Rattle.ntriples.specs.declared.term.Term.{Term}
use Rattle.ntriples.specs.declared.term.Triple.{Triple}
use Rattle.ntriples.specs.Reading.{◌>>=◌, skip_blanks, following}
use Rattle.ntriples.specs.Parsing.{subject, object, iriref, object_end, predicate_object, triple, is_end}
use Rattle.ntriples.specs.Parsing.{triple_alone, line}
use Rattle.ntriples.specs.Document.{is_line_end, onto_first, lines}
use Rattle.ntriples.specs.ParsedLines.{line_of, triples_of, IsParsed}
use Rattle.ntriples.proofs.Lines.{form_line}
use Rattle.ntriples.specs.Written.{iri_text, term_text, triple_text, document_text, CanBeRead}
use Rattle.ntriples.proofs.DocumentLemmas.{feed_line, lines_inside, lines_none, empty_line, line_of_text}
use Rattle.ntriples.proofs.Encoded.{no_ends, no_ends-append, scalars-append, no_ends_encodes}
use Rattle.ntriples.proofs.Readings.{Makes, makes_bind, makes_following, iriref_makes}
use Rattle.ntriples.proofs.TermsAgain.{IriStarts, iri_again, SubjectAgain, TermAgain, is_solid, subject_makes}
use Rattle.ntriples.proofs.TermsAgain.{object_makes}

-- ---- what a line gives

-- a triple whose terms are read again
record TripleAgain (value : Triple) : Type 0 where
  pub subject : SubjectAgain value.subject
  pub predicate : IriStarts value.predicate
  pub object : TermAgain object value.object

skip_by : (b : Bool) (c : ℕ) (cs : List ℕ) → scalars (c ∷ cs) ≡ true → scalars (skip_blanks cs) ≡ true
    → scalars (cond b (skip_blanks cs) (c ∷ cs)) ≡ true
skip_by true c cs h k = k
skip_by false c cs h k = h

scalars_skip : (cs : List ℕ) → scalars cs ≡ true → scalars (skip_blanks cs) ≡ true
unfolding skip_blanks
scalars_skip [] h = refl
scalars_skip (c ∷ cs) h =
    skip_by ((c == 32) || (c == 9)) c cs h (scalars_skip cs (and_parts (scalar c) (scalars cs) h).1)

object_end_makes : (cs : List ℕ) → scalars cs ≡ true → Makes (TermAgain object) (object_end cs)
unfolding object_end
object_end_makes cs h =
    makes_bind (TermAgain object) (TermAgain object) (object (skip_blanks cs)) _
    (object_makes (skip_blanks cs) (scalars_skip cs h)) (λ o b n.
    makes_following (TermAgain object) 46 (skip_blanks o.1) _ (scalars_skip o.1 n) (λ rest r. (b, r)))

PredicateObject : List ℕ × Term → Type 0
PredicateObject both = IsUtf8 both.0 × TermAgain object both.1

predicate_object_makes : (cs : List ℕ) → scalars cs ≡ true → Makes PredicateObject (predicate_object cs)
unfolding predicate_object PredicateObject
predicate_object_makes cs h =
    makes_bind IsUtf8 PredicateObject (iriref (skip_blanks cs)) _ (iriref_makes (skip_blanks cs) (scalars_skip cs h))
    (λ p u m. makes_bind (TermAgain object) PredicateObject (object_end p.1) _ (object_end_makes p.1 m)
    (λ o b n. ((u, b), n)))

triple_makes : (cs : List ℕ) → scalars cs ≡ true → Makes TripleAgain (triple cs)
unfolding triple PredicateObject
triple_makes cs h =
    makes_bind SubjectAgain TripleAgain (subject cs) _ (subject_makes cs h) (λ s a k.
    makes_bind PredicateObject TripleAgain (predicate_object s.1) _ (predicate_object_makes s.1 k)
    (λ p b n. (record { subject = a; predicate = iri_again p.0.0 b.0; object = b.1 }, n)))

IfTriple : Option Triple → Type 0
IfTriple None = Unit {0}
IfTriple (Some value) = TripleAgain value

IfLine : Option (Option Triple) → Type 0
IfLine None = Unit {0}
IfLine (Some value) = IfTriple value

alone_cond : (b : Bool) (value : Triple) → TripleAgain value → IfTriple (cond b (Some value) None)
unfolding IfTriple
alone_cond true value h = h
alone_cond false value h = tt

alone_bind : (read : Option (Triple × List ℕ)) → Makes TripleAgain read
    → IfTriple (read >>= λ t. cond (is_end (skip_blanks t.1)) (Some t.0) None)
unfolding IfTriple
alone_bind None h = tt
alone_bind (Some x) h = alone_cond (is_end (skip_blanks x.1)) x.0 h.0

alone_makes : (cs : List ℕ) → scalars cs ≡ true → IfTriple (triple_alone cs)
unfolding triple_alone
alone_makes cs h = alone_bind (triple cs) (triple_makes cs h)

line_cond : (b : Bool) (read : Option Triple) → IfTriple read
    → IfLine (cond b (Some None) (read >>= λ t. Some (Some t)))
unfolding IfLine IfTriple
line_cond true read h = tt
line_cond false None h = tt
line_cond false (Some value) h = h

line_makes : (cs : List ℕ) → scalars cs ≡ true → IfLine (line cs)
unfolding line
line_makes cs h = line_cond (is_end (skip_blanks cs)) (triple_alone (skip_blanks cs))
    (alone_makes (skip_blanks cs) (scalars_skip cs h))

no_utf8 : (bytes : List ℕ) → is_utf8 bytes ≡ false → line_of bytes ≡ None
unfolding line_of
no_utf8 bytes e = rw e refl

line_gives : (b : Bool) (bytes : List ℕ) (value : Triple) → is_utf8 bytes ≡ b → line_of bytes ≡ Some (Some value)
    → TripleAgain value
unfolding IfLine IfTriple
line_gives true bytes value e h =
    let u : IsUtf8 bytes = IsUtf8-from_is_utf8 bytes e in
    subst IfLine (sym (line_of_text bytes u) ∙ h) (line_makes (chars bytes) (scalars-chars bytes u))
line_gives false bytes value e h =
    absurd (let none : ◌≡◌ {A = Option (Option Triple)} None (Some (Some value)) = sym (no_utf8 bytes e) ∙ h in cc)

can_again : (value : Triple) → CanBeRead value → TripleAgain value
can_again value r = line_gives (is_utf8 r.line) r.line value refl (form_line r.line (Some value) r.gives)

-- ---- a line is read again

solid_skips : (c : ℕ) (cs : List ℕ) → is_solid c ≡ true → skip_blanks (c ∷ cs) ≡ c ∷ cs
unfolding skip_blanks
solid_skips c cs h =
    rw (not-true ((c == 32) || (c == 9)) (and_parts (not ((c == 32) || (c == 9))) (not (c == 35)) h).0) refl

solid_shows : (c : ℕ) (cs : List ℕ) → is_solid c ≡ true → is_end (c ∷ cs) ≡ false
solid_shows c cs h = not-true (c == 35) (and_parts (not ((c == 32) || (c == 9))) (not (c == 35)) h).1

triple_reads : (cs a b : List ℕ) (s : Term) (p : List ℕ) (o : Term) → subject cs ≡ Some (s, 32 ∷ a)
    → skip_blanks a ≡ a → iriref a ≡ Some (p, 32 ∷ b) → skip_blanks b ≡ b → object b ≡ Some (o, 32 ∷ 46 ∷ [])
    → triple cs ≡ Some (record { subject = s; predicate = p; object = o }, [])
unfolding triple predicate_object object_end skip_blanks
triple_reads cs a b s p o e f g h k = rw (e, f, g, h, k) refl

line_reads : (cs : List ℕ) (value : Triple) → skip_blanks cs ≡ cs → is_end cs ≡ false → triple cs ≡ Some (value, [])
    → line cs ≡ Some (Some value)
unfolding line triple_alone skip_blanks
line_reads cs value e f g = rw (e, f, g) refl

-- a line that gives the triple, without its end
record LineAgain (value : Triple) : Type 0 where
  pub characters : List ℕ
  pub are : scalars characters ≡ true
  pub whole : no_ends characters ≡ true
  pub spell : encodes characters ++ 10 ∷ [] ≡ triple_text value
  pub again : line characters ≡ Some (Some value)

spaced_scalars : (prefix later : List ℕ) → scalars prefix ≡ true → scalars later ≡ true
    → scalars (prefix ++ 32 ∷ later) ≡ true
spaced_scalars prefix later h k = scalars-append prefix (32 ∷ later) h k

spaced_no_ends : (prefix later : List ℕ) → no_ends prefix ≡ true → no_ends later ≡ true
    → no_ends (prefix ++ 32 ∷ later) ≡ true
spaced_no_ends prefix later h k = no_ends-append prefix (32 ∷ later) h k

spaced_spell : (prefix later text following : List ℕ) → encodes prefix ≡ text → encodes later ≡ following
    → encodes (prefix ++ 32 ∷ later) ≡ text ++ 32 ∷ following
spaced_spell prefix later text following e f =
    encodes-append prefix (32 ∷ later)
    ∙ ap₂ (λ (x y : List ℕ). x ++ y) e
    (ap (λ (t : List ℕ). t ++ encodes later) (encode_ascii 32 (omega arith)) ∙ ap (λ (t : List ℕ). 32 ∷ t) f)

last_spell : encodes (32 ∷ 46 ∷ []) ≡ 32 ∷ 46 ∷ []
unfolding encode
last_spell = refl

object_spell : (prefix text : List ℕ) → encodes prefix ≡ text → encodes (prefix ++ 32 ∷ 46 ∷ []) ≡ text ++ 32 ∷ 46 ∷ []
object_spell prefix text e = encodes-append prefix (32 ∷ 46 ∷ []) ∙ ap₂ (λ (x y : List ℕ). x ++ y) e last_spell

triple_order : (value : Triple)
    → (term_text value.subject ++ 32 ∷ (iri_text value.predicate ++ 32 ∷ (term_text value.object ++ 32 ∷ 46 ∷ [])))
    ++ 10 ∷ [] ≡ triple_text value
unfolding triple_text
triple_order value = simp append_assoc

line_again : (value : Triple) → TripleAgain value → LineAgain value
line_again value t =
    let s = t.subject.term.whole in
    let p = t.predicate.whole in
    let o = t.object.whole in
    let third : List ℕ = o.characters ++ 32 ∷ 46 ∷ [] in
    let second : List ℕ = p.characters ++ 32 ∷ third in
    let first : List ℕ = s.characters ++ 32 ∷ second in
    let at_first : first ≡ t.subject.term.first ∷ (t.subject.term.tail ++ 32 ∷ second) =
    ap (λ (cs : List ℕ). cs ++ 32 ∷ second) t.subject.term.starts in
    let at_second : second ≡ 60 ∷ (t.predicate.tail ++ 32 ∷ third) =
    ap (λ (cs : List ℕ). cs ++ 32 ∷ third) t.predicate.starts in
    let at_third : third ≡ t.object.first ∷ (t.object.tail ++ 32 ∷ 46 ∷ []) =
    ap (λ (cs : List ℕ). cs ++ 32 ∷ 46 ∷ []) t.object.starts in
    let skips_first : skip_blanks first ≡ first =
    ap skip_blanks at_first ∙ solid_skips t.subject.term.first (t.subject.term.tail ++ 32 ∷ second)
    t.subject.term.solid ∙ sym at_first in
    let shows_first : is_end first ≡ false =
    ap is_end at_first ∙ solid_shows t.subject.term.first (t.subject.term.tail ++ 32 ∷ second)
    t.subject.term.solid in
    let skips_second : skip_blanks second ≡ second = ap skip_blanks at_second
    ∙ solid_skips 60 (t.predicate.tail ++ 32 ∷ third) refl ∙ sym at_second in
    let skips_third : skip_blanks third ≡ third =
    ap skip_blanks at_third ∙ solid_skips t.object.first (t.object.tail ++ 32 ∷ 46 ∷ []) t.object.solid
    ∙ sym at_third in
    record {
      characters = first;
      are = spaced_scalars s.characters second s.are
          (spaced_scalars p.characters third p.are (scalars-append o.characters (32 ∷ 46 ∷ []) o.are refl));
      whole = spaced_no_ends s.characters second s.whole
          (spaced_no_ends p.characters third p.whole (no_ends-append o.characters (32 ∷ 46 ∷ []) o.whole refl));
      spell =
          ap (λ (b : List ℕ). b ++ 10 ∷ [])
          (spaced_spell s.characters second _ _ s.spell
          (spaced_spell p.characters third _ _ p.spell (object_spell o.characters _ o.spell)))
          ∙ triple_order value;
      again = line_reads first value skips_first shows_first
          (triple_reads first second third value.subject value.predicate value.object (s.again second) skips_second
          (p.again third) skips_third (o.again (46 ∷ [])));
    }

line_of_again : (value : Triple) (l : LineAgain value) → line_of (encodes l.characters) ≡ Some (Some value)
line_of_again value l = line_of_text (encodes l.characters) (l.characters, (l.are, refl))
    ∙ ap line (chars-encodes l.characters l.are) ∙ l.again

-- ---- the document

lines_through : (bs rest : List ℕ) → no_ends bs ≡ true → lines (bs ++ 10 ∷ rest) ≡ bs ∷ lines rest
lines_through [] rest h = feed_line rest
lines_through (b ∷ bs) rest h =
    let p = and_parts (not (is_line_end b)) (no_ends bs) h in
    lines_inside b (bs ++ 10 ∷ rest) (not-true (is_line_end b) p.0) ∙ ap (onto_first b) (lines_through bs rest p.1)

nothing_again : triples_of ([] ∷ []) ≡ Some []
unfolding triples_of
nothing_again = rw empty_line refl

one_again : (l : List ℕ) (ls : List (List ℕ)) (value : Triple) (values : List Triple) → line_of l ≡ Some (Some value)
    → triples_of ls ≡ Some values → triples_of (l ∷ ls) ≡ Some (value ∷ values)
unfolding triples_of
one_again l ls value values e f = rw (e, f) refl

all_again : (values : List Triple) → AllByRecursion CanBeRead values
    → triples_of (lines (document_text values)) ≡ Some values
all_again [] h = ap triples_of lines_none ∙ nothing_again
all_again (value ∷ values) h =
    let l : LineAgain value = line_again value (can_again value h.0) in
    let following : List ℕ = document_text values in
    let cut : lines (triple_text value ++ following) ≡ encodes l.characters ∷ lines following =
    ap (λ (b : List ℕ). lines (b ++ following)) (sym l.spell)
    ∙ ap lines (append_assoc (encodes l.characters) (10 ∷ []) following)
    ∙ lines_through (encodes l.characters) following (no_ends_encodes l.characters l.whole) in
    ap triples_of cut ∙ one_again (encodes l.characters) (lines following) value values (line_of_again value l)
    (all_again values h.1)

pub reads_back : (values : List Triple) → All CanBeRead values → IsParsed (document_text values) values
reads_back values h = all_again values (recursion_from_All CanBeRead values h)
