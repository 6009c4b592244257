-- Triples and lines: what is read is of the form, and what is of the form is read.
use Rattle.std.proofs.Common.{◌≡◌, ℕ, Bool, true, false, cond, nat_eq, List, [], ◌∷◌, ◌++◌, Option, Some, None}
use Rattle.std.proofs.Common.{inl, inr, refl, sym, ap, ◌∙◌, subst, append_assoc}
use Rattle.std.proofs.lemmas.Bool.{and_parts, and_from, or_cases, eqb-true}
use Rattle.std.proofs.lemmas.List.{append-nil}
use Rattle.std.proofs.lemmas.List.Folds.{list_all-append}
use Rattle.std.proofs.lemmas.Option.{none-some, same_Some, cond_some}
use Rattle.std.specs.List.{list_all}
use Rattle.std.specs.Str.{is_utf8, chars}
use Rattle.ntriples.specs.declared.term.Term.{Term}
use Rattle.ntriples.specs.declared.term.Term.TheVariants.{Iri, Blank, Literal}
use Rattle.ntriples.specs.declared.term.Triple.{Triple}
use Rattle.ntriples.specs.Reading.{◌>>=◌, following, skip_blanks}
use Rattle.ntriples.specs.Parsing.{iriref, subject, object, object_end, predicate_object, triple, is_end}
use Rattle.ntriples.specs.Parsing.{triple_alone, line}
use Rattle.ntriples.specs.Grammar.{is_blank, IsIri, IsString, IsLabel, IsLiteral, IsSubject, IsObject}
use Rattle.ntriples.specs.Document.{IsLineOf}
use Rattle.ntriples.specs.ParsedLines.{line_of}
use Rattle.ntriples.specs.Grammar.{IsLongestMatch, AreBlanks, IsTriple, IsComment, IsLine}
use Rattle.ntriples.proofs.NameLemmas.{following_ends}
use Rattle.ntriples.proofs.Pieces.{bind_some}
use Rattle.ntriples.proofs.Quotes.{iriref_some, iriref_of}
use Rattle.ntriples.proofs.Labels.{Stops}
use Rattle.ntriples.proofs.Labels.Stops.{space, tab, bracket, end, end_space, end_tab, end_comment}
use Rattle.ntriples.proofs.Objects.{subject_some, object_some, subject_of, object_of, iriref_longest, subject_longest}
use Rattle.ntriples.proofs.Objects.{object_longest, read_whole}

-- ---- blanks

record BlanksAt (cs rest : List ℕ) : Type 0 where
  pub prefix : List ℕ
  pub parts : cs ≡ prefix ++ rest
  pub blank : AreBlanks prefix

blanks_by : (b : Bool) (c : ℕ) (cs rest : List ℕ) → is_blank c ≡ b → BlanksAt cs rest
    → BlanksAt (c ∷ cs) (cond b rest (c ∷ cs))
blanks_by true c cs rest e h =
    record {
      prefix = c ∷ h.prefix;
      parts = ap (λ (t : List ℕ). c ∷ t) h.parts;
      blank = and_from (is_blank c) (list_all is_blank h.prefix) e h.blank;
    }
blanks_by false c cs rest e h = record { prefix = []; parts = refl; blank = refl }

blanks_at : (cs : List ℕ) → BlanksAt cs (skip_blanks cs)
unfolding skip_blanks
blanks_at [] = record { prefix = []; parts = refl; blank = refl }
blanks_at (c ∷ cs) = blanks_by (is_blank c) c cs (skip_blanks cs) refl (blanks_at cs)

skip_one : (c : ℕ) (cs : List ℕ) → is_blank c ≡ true → skip_blanks (c ∷ cs) ≡ skip_blanks cs
unfolding skip_blanks
skip_one c cs e = rw e refl

skip_none : (c : ℕ) (cs : List ℕ) → is_blank c ≡ false → skip_blanks (c ∷ cs) ≡ c ∷ cs
unfolding skip_blanks
skip_none c cs e = rw e refl

skip_prefix : (prefix rest : List ℕ) → AreBlanks prefix → skip_blanks (prefix ++ rest) ≡ skip_blanks rest
skip_prefix [] rest h = refl
skip_prefix (c ∷ prefix) rest h =
    let p = and_parts (is_blank c) (list_all is_blank prefix) h in
    skip_one c (prefix ++ rest) p.0 ∙ skip_prefix prefix rest p.1

-- a text that begins with no space, tab or `#`
record Begins (text : List ℕ) : Type 0 where
  pub head : ℕ
  pub more : List ℕ
  pub parts : text ≡ head ∷ more
  pub no_blank : is_blank head ≡ false
  pub no_comment : nat_eq head 35 ≡ false

skip_to : (text rest : List ℕ) → Begins text → skip_blanks (text ++ rest) ≡ text ++ rest
skip_to text rest b =
    ap (λ (t : List ℕ). skip_blanks (t ++ rest)) b.parts ∙ skip_none b.head (b.more ++ rest) b.no_blank
    ∙ ap (λ (t : List ℕ). t ++ rest) (sym b.parts)

-- up to a text after blanks
past : (prefix text rest : List ℕ) → AreBlanks prefix → Begins text
    → skip_blanks (prefix ++ (text ++ rest)) ≡ text ++ rest
past prefix text rest h b = skip_prefix prefix (text ++ rest) h ∙ skip_to text rest b

iri_begins : (text iri : List ℕ) → IsIri text iri → Begins text
iri_begins text iri h = record { head = 60; more = _; parts = h.form; no_blank = refl; no_comment = refl }

label_begins : (text label : List ℕ) → IsLabel text label → Begins text
label_begins text label h = record { head = 95; more = _; parts = h.form; no_blank = refl; no_comment = refl }

string_begins : (text lexical : List ℕ) → IsString text lexical → Begins text
string_begins text lexical h = record { head = 34; more = _; parts = h.form; no_blank = refl; no_comment = refl }

begins_more : (whole text more : List ℕ) → whole ≡ text ++ more → Begins text → Begins whole
begins_more whole text more e b =
    record {
      head = b.head;
      more = b.more ++ more;
      parts = e ∙ ap (λ (t : List ℕ). t ++ more) b.parts;
      no_blank = b.no_blank;
      no_comment = b.no_comment;
    }

subject_begins : (text : List ℕ) (t : Term) → IsSubject text t → Begins text
subject_begins text (Iri iri) h = iri_begins text iri h
subject_begins text (Blank label) h = label_begins text label h
subject_begins text (Literal lexical datatype tag) h = absurd h

literal_begins : (text lexical datatype : List ℕ) (tag : Option (List ℕ)) → IsLiteral text lexical datatype tag
    → Begins text
literal_begins text lexical datatype (Some tag) t =
    begins_more text t.quoted t.suffix t.form (string_begins t.quoted lexical t.string)
literal_begins text lexical datatype None h = elim h [
  | inl p ↦ string_begins text lexical p.0
  | inr t ↦ begins_more text t.quoted (94 ∷ 94 ∷ t.suffix) t.form (string_begins t.quoted lexical t.string)
]

object_begins : (text : List ℕ) (t : Term) → IsObject text t → Begins text
object_begins text (Iri iri) h = iri_begins text iri h
object_begins text (Blank label) h = label_begins text label h
object_begins text (Literal lexical datatype tag) h = literal_begins text lexical datatype tag h

-- ---- what may follow

blank_stops : (c : ℕ) (cs : List ℕ) → is_blank c ≡ true → Stops (c ∷ cs)
blank_stops c cs h = elim (or_cases (nat_eq c 32) (nat_eq c 9) h) [
  | inl e ↦ subst (λ (k : ℕ). Stops (k ∷ cs)) (sym (eqb-true c 32 e)) space
  | inr e ↦ subst (λ (k : ℕ). Stops (k ∷ cs)) (sym (eqb-true c 9 e)) tab
]

stops_following : (prefix rest : List ℕ) → AreBlanks prefix → Stops rest → Stops (prefix ++ rest)
stops_following [] rest h s = s
stops_following (c ∷ prefix) rest h s =
    blank_stops c (prefix ++ rest) (and_parts (is_blank c) (list_all is_blank prefix) h).0

iri_stops : (text iri rest : List ℕ) → IsIri text iri → Stops (text ++ rest)
iri_stops text iri rest h = subst (λ (t : List ℕ). Stops (t ++ rest)) (sym h.form) bracket

end_blank : (c : ℕ) (cs : List ℕ) → is_blank c ≡ true → Stops (46 ∷ c ∷ cs)
end_blank c cs h = elim (or_cases (nat_eq c 32) (nat_eq c 9) h) [
  | inl e ↦ subst (λ (k : ℕ). Stops (46 ∷ k ∷ cs)) (sym (eqb-true c 32 e)) end_space
  | inr e ↦ subst (λ (k : ℕ). Stops (46 ∷ k ∷ cs)) (sym (eqb-true c 9 e)) end_tab
]

end_stops : (room comment : List ℕ) → AreBlanks room → IsComment comment → Stops (46 ∷ room ++ comment)
end_stops [] [] h k = end
end_stops [] (c ∷ cs) h k = subst (λ (d : ℕ). Stops (46 ∷ d ∷ cs)) (sym k) end_comment
end_stops (c ∷ room) comment h k =
    end_blank c (room ++ comment) (and_parts (is_blank c) (list_all is_blank room) h).0

-- ---- triples

-- spaces and tabs in several positions
two_blanks : (a b : List ℕ) → AreBlanks (a ++ b) → AreBlanks a × AreBlanks b
two_blanks a b h = and_parts (list_all is_blank a) (list_all is_blank b) (sym (list_all-append is_blank a b) ∙ h)

both_blanks : (a b : List ℕ) → AreBlanks a → AreBlanks b → AreBlanks (a ++ b)
both_blanks a b h k = list_all-append is_blank a b ∙ and_from (list_all is_blank a) (list_all is_blank b) h k

-- the texts of a triple, the last with what is after it
module _ (s g p h o k rest : List ℕ) where
  abbrev pub from_object : List ℕ
  from_object = k ++ 46 ∷ rest

  abbrev pub from_predicate : List ℕ
  from_predicate = h ++ (o ++ from_object)

  abbrev pub from_subject : List ℕ
  from_subject = g ++ (p ++ from_predicate)

  whole : (s ++ g ++ p ++ h ++ o ++ k ++ 46 ∷ []) ++ rest ≡ s ++ from_subject
  whole = simp append_assoc

  suffix_subject : g ++ p ++ h ++ o ++ k ++ (46 ∷ []) ++ rest ≡ from_subject
  suffix_subject = simp append_assoc

  suffix_predicate : h ++ o ++ k ++ (46 ∷ []) ++ rest ≡ from_predicate
  suffix_predicate = simp append_assoc

  suffix_object : k ++ (46 ∷ []) ++ rest ≡ from_object
  suffix_object = append_assoc k (46 ∷ []) rest

record TripleAt (cs : List ℕ) (x : Triple × List ℕ) : Type 0 where
  pub prefix : List ℕ
  pub parts : cs ≡ prefix ++ x.1
  pub form : IsTriple prefix x.1 x.0

triple_some : (cs : List ℕ) (x : Triple × List ℕ) → triple cs ≡ Some x → TripleAt cs x
unfolding triple predicate_object object_end
triple_some cs x e =
    let a = bind_some (subject cs) _ x e in
    let m = bind_some (predicate_object a.0.1) _ x a.2 in
    let b = bind_some (iriref (skip_blanks a.0.1)) _ m.0 m.1 in
    let n = bind_some (object_end b.0.1) _ m.0 b.2 in
    let c = bind_some (object (skip_blanks b.0.1)) _ n.0 n.1 in
    let d = bind_some (following 46 (skip_blanks c.0.1)) _ n.0 c.2 in
    let s = subject_some cs a.0 a.1 in
    let p = iriref_some (skip_blanks a.0.1) b.0 b.1 in
    let o = object_some (skip_blanks b.0.1) c.0 c.1 in
    let g = blanks_at a.0.1 in
    let h = blanks_at b.0.1 in
    let k = blanks_at c.0.1 in
    let after_object = k.parts ∙ ap (λ (t : List ℕ). k.prefix ++ t) (following_ends 46 (skip_blanks c.0.1) d.0 d.1).1 in
    let after_predicate = h.parts
    ∙ ap (λ (t : List ℕ). h.prefix ++ t) (o.parts ∙ ap (λ (t : List ℕ). o.prefix ++ t) after_object) in
    let after_subject = g.parts
    ∙ ap (λ (t : List ℕ). g.prefix ++ t) (p.parts ∙ ap (λ (t : List ℕ). p.prefix ++ t) after_predicate) in
    let made : (List ℕ × Term) × List ℕ → Triple × List ℕ =
    λ y. (record { subject = a.0.0; predicate = y.0.0; object = y.0.1 }, y.1) in
    let object_is = same_Some {A = Term × List ℕ} (c.0.0, d.0) n.0 d.2 in
    let both_are = same_Some {A = (List ℕ × Term) × List ℕ} ((b.0.0, n.0.0), n.0.1) m.0 n.2 in
    subst (TripleAt cs)
    (ap (λ (y : Term × List ℕ). made ((b.0.0, y.0), y.1)) object_is ∙ ap made both_are
    ∙ same_Some {A = Triple × List ℕ} (made m.0) x m.2)
    (record {
      prefix = s.prefix ++ g.prefix ++ p.prefix ++ h.prefix ++ o.prefix ++ k.prefix ++ 46 ∷ [];
      parts = s.parts ∙ ap (λ (l : List ℕ). s.prefix ++ l) after_subject
          ∙ sym (whole s.prefix g.prefix p.prefix h.prefix o.prefix k.prefix d.0);
      form =
          record {
            subject = s.prefix;
            predicate = p.prefix;
            object = o.prefix;
            after_subject = g.prefix;
            after_predicate = h.prefix;
            after_object = k.prefix;
            form = refl;
            is_subject = subst (λ (l : List ℕ). IsLongestMatch IsSubject s.prefix l a.0.0)
                (after_subject ∙ sym (suffix_subject s.prefix g.prefix p.prefix h.prefix o.prefix k.prefix d.0))
                (read_whole IsSubject subject subject_longest cs a.0 a.1 s);
            is_predicate = subst (λ (l : List ℕ). IsLongestMatch IsIri p.prefix l b.0.0)
                (after_predicate ∙ sym (suffix_predicate s.prefix g.prefix p.prefix h.prefix o.prefix k.prefix d.0))
                (read_whole IsIri iriref iriref_longest (skip_blanks a.0.1) b.0 b.1 p);
            is_object = subst (λ (l : List ℕ). IsLongestMatch IsObject o.prefix l c.0.0)
                (after_object ∙ sym (suffix_object s.prefix g.prefix p.prefix h.prefix o.prefix k.prefix d.0))
                (read_whole IsObject object object_longest (skip_blanks b.0.1) c.0 c.1 o);
            blank = both_blanks (g.prefix ++ h.prefix) k.prefix (both_blanks g.prefix h.prefix g.blank h.blank) k.blank;
          };
    })

triple_read : (cs s g p h o k rest : List ℕ) (t : Triple)
    → subject cs ≡ Some (t.subject, from_subject s g p h o k rest)
    → skip_blanks (from_subject s g p h o k rest) ≡ p ++ from_predicate s g p h o k rest
    → iriref (p ++ from_predicate s g p h o k rest) ≡ Some (t.predicate, from_predicate s g p h o k rest)
    → skip_blanks (from_predicate s g p h o k rest) ≡ o ++ from_object s g p h o k rest
    → object (o ++ from_object s g p h o k rest) ≡ Some (t.object, from_object s g p h o k rest)
    → skip_blanks (from_object s g p h o k rest) ≡ 46 ∷ rest → triple cs ≡ Some (t, rest)
unfolding triple predicate_object object_end
triple_read cs s g p h o k rest t e1 e2 e3 e4 e5 e6 = rw (e1, e2, e3, e4, e5, e6) refl

triple_of : (text room comment : List ℕ) (t : Triple) → IsTriple text (room ++ comment) t → AreBlanks room
    → IsComment comment → triple (text ++ (room ++ comment)) ≡ Some (t, room ++ comment)
triple_of text room comment t i b c =
    let rest : List ℕ = room ++ comment in
    let blank = two_blanks (i.after_subject ++ i.after_predicate) i.after_object i.blank in
    let blank_prefix = two_blanks i.after_subject i.after_predicate blank.0 in
    let after_object : List ℕ = i.after_object ++ 46 ∷ rest in
    let after_predicate : List ℕ = i.after_predicate ++ (i.object ++ after_object) in
    let after_subject : List ℕ = i.after_subject ++ (i.predicate ++ after_predicate) in
    let stops_object = stops_following i.after_object (46 ∷ rest) blank.1 (end_stops room comment b c) in
    let stops_subject = stops_following i.after_subject (i.predicate ++ after_predicate) blank_prefix.0
    (iri_stops i.predicate t.predicate after_predicate i.is_predicate.form) in
    let at : text ++ rest ≡ i.subject ++ after_subject =
    ap (λ (l : List ℕ). l ++ rest) i.form
    ∙ whole i.subject i.after_subject i.predicate i.after_predicate i.object i.after_object rest in
    triple_read (text ++ rest) i.subject i.after_subject i.predicate i.after_predicate i.object i.after_object rest t
    (ap subject at ∙ subject_of i.subject t.subject after_subject i.is_subject.form stops_subject)
    (past i.after_subject i.predicate after_predicate blank_prefix.0
    (iri_begins i.predicate t.predicate i.is_predicate.form))
    (iriref_of i.predicate t.predicate after_predicate i.is_predicate.form)
    (past i.after_predicate i.object after_object blank_prefix.1 (object_begins i.object t.object i.is_object.form))
    (object_of i.object t.object after_object i.is_object.form stops_object)
    (skip_prefix i.after_object (46 ∷ rest) blank.1 ∙ skip_none 46 rest refl)

-- ---- lines

is_comment : (cs : List ℕ) → is_end cs ≡ true → IsComment cs
is_comment [] h = tt
is_comment (c ∷ cs) h = eqb-true c 35 h

comment_is : (cs : List ℕ) → IsComment cs → is_end cs ≡ true
comment_is [] h = refl
comment_is (c ∷ cs) h = rw h refl

skip_comment : (cs : List ℕ) → IsComment cs → skip_blanks cs ≡ cs
unfolding skip_blanks
skip_comment [] h = refl
skip_comment (c ∷ cs) h = rw h refl

empty_line : (cs : List ℕ) → is_end (skip_blanks cs) ≡ true → IsLine cs None
empty_line cs h =
    let b = blanks_at cs in
    record {
      before_triple = b.prefix;
      triple = [];
      after_triple = [];
      comment = skip_blanks cs;
      form = b.parts ∙ ap (λ (t : List ℕ). t ++ skip_blanks cs)
          (sym (append-nil b.prefix) ∙ sym (append-nil (b.prefix ++ [])));
      blank = both_blanks b.prefix [] b.blank refl;
      is_triple = refl;
      is_comment = is_comment (skip_blanks cs) h;
    }

triple_line : (cs : List ℕ) (x : Triple × List ℕ) → triple (skip_blanks cs) ≡ Some x → is_end (skip_blanks x.1) ≡ true
    → IsLine cs (Some x.0)
triple_line cs x e h =
    let b = blanks_at cs in
    let t = triple_some (skip_blanks cs) x e in
    let r = blanks_at x.1 in
    record {
      before_triple = b.prefix;
      triple = t.prefix;
      after_triple = r.prefix;
      comment = skip_blanks x.1;
      form = b.parts ∙ ap (λ (l : List ℕ). b.prefix ++ l) (t.parts ∙ ap (λ (l : List ℕ). t.prefix ++ l) r.parts)
          ∙ simp append_assoc;
      blank = both_blanks b.prefix r.prefix b.blank r.blank;
      is_triple = subst (λ (l : List ℕ). IsTriple t.prefix l x.0) r.parts t.form;
      is_comment = is_comment (skip_blanks x.1) h;
    }

alone_by : (cs : List ℕ) (x : Triple × List ℕ) (y : Triple) (t : Option Triple) → triple (skip_blanks cs) ≡ Some x
    → cond (is_end (skip_blanks x.1)) (Some x.0) None ≡ Some y
    → ◌≡◌ {A = Option (Option Triple)} (Some (Some y)) (Some t)
    → IsLine cs t
alone_by cs x y t e f g =
    let p = cond_some (is_end (skip_blanks x.1)) x.0 y f in
    subst (IsLine cs) (ap Some p.1 ∙ same_Some (Some y) t g) (triple_line cs x e p.0)

line_by : (b : Bool) (cs : List ℕ) (t : Option Triple) → is_end (skip_blanks cs) ≡ b
    → cond b (Some None) (triple_alone (skip_blanks cs) >>= λ t. Some (Some t)) ≡ Some t → IsLine cs t
unfolding triple_alone
line_by true cs t h e = subst (IsLine cs) (same_Some {A = Option Triple} None t e) (empty_line cs h)
line_by false cs t h e =
    let p = bind_some (triple_alone (skip_blanks cs))
    (λ (t : Triple). let o : Option (Option Triple) = Some (Some t) in o) t e in
    let q = bind_some (triple (skip_blanks cs)) _ p.0 p.1 in
    alone_by cs q.0 p.0 t q.1 q.2 p.2

-- a line that is read is of the form
pub line_some : (cs : List ℕ) (t : Option Triple) → line cs ≡ Some t → IsLine cs t
unfolding line
line_some cs t e = line_by (is_end (skip_blanks cs)) cs t refl e

line_empty : (cs comment : List ℕ) → skip_blanks cs ≡ comment → IsComment comment → line cs ≡ Some None
unfolding line
line_empty cs comment e c = rw (e, comment_is comment c) refl

no_triple : (text indent room comment : List ℕ) → text ≡ indent ++ [] ++ room ++ comment
    → AreBlanks (indent ++ room) → IsComment comment → line text ≡ Some None
no_triple text indent room comment e b c =
    let p = two_blanks indent room b in
    let at : text ≡ indent ++ (room ++ comment) =
    e ∙ ap (λ (t : List ℕ). t ++ room ++ comment) (append-nil indent) ∙ append_assoc indent room comment in
    line_empty text comment
    (ap skip_blanks at ∙ skip_prefix indent (room ++ comment) p.0 ∙ skip_prefix room comment p.1
    ∙ skip_comment comment c) c

no_end : (text rest : List ℕ) → Begins text → is_end (text ++ rest) ≡ false
no_end text rest b = ap (λ (t : List ℕ). is_end (t ++ rest)) b.parts ∙ b.no_comment

line_triple : (cs text rest comment : List ℕ) (t : Triple) → skip_blanks cs ≡ text ++ rest → Begins text
    → triple (text ++ rest) ≡ Some (t, rest) → skip_blanks rest ≡ comment → IsComment comment
    → line cs ≡ Some (Some t)
unfolding line triple_alone
line_triple cs text rest comment t e b f g c = rw (e, no_end text rest b, f, g, comment_is comment c) refl

triple_begins : (text following : List ℕ) (t : Triple) → IsTriple text following t → Begins text
triple_begins text following t i =
    begins_more text i.subject
    (i.after_subject ++ (i.predicate ++ (i.after_predicate ++ (i.object ++ (i.after_object ++ 46 ∷ [])))))
    (i.form ∙ simp append_assoc)
    (subject_begins i.subject t.subject i.is_subject.form)

one_triple : (text indent statement room comment : List ℕ) (t : Triple)
    → text ≡ indent ++ statement ++ room ++ comment → AreBlanks (indent ++ room)
    → IsTriple statement (room ++ comment) t → IsComment comment → line text ≡ Some (Some t)
one_triple text indent statement room comment t e b i c =
    let p = two_blanks indent room b in
    let begins = triple_begins statement (room ++ comment) t i in
    line_triple text statement (room ++ comment) comment t
    (ap skip_blanks (e ∙ simp append_assoc) ∙ past indent statement (room ++ comment) p.0 begins) begins
    (triple_of statement room comment t i p.1 c) (skip_prefix room comment p.1 ∙ skip_comment comment c) c

-- a line of the form is read
pub line_is : (text : List ℕ) (t : Option Triple) → IsLine text t → line text ≡ Some t
line_is text None i =
    no_triple text i.before_triple i.after_triple i.comment
    (i.form ∙ ap (λ (s : List ℕ). i.before_triple ++ s ++ i.after_triple ++ i.comment) i.is_triple) i.blank i.is_comment
line_is text (Some t) i =
    one_triple text i.before_triple i.triple i.after_triple i.comment t i.form i.blank i.is_triple i.is_comment

-- ---- lines of bytes

form_by : (b : Bool) (bytes : List ℕ) (t : Option Triple) → is_utf8 bytes ≡ b
    → cond b (line (chars bytes)) None ≡ Some t → IsLineOf bytes t
form_by true bytes t u e = record { utf8 = u; form = line_some (chars bytes) t e }
form_by false bytes t u e = absurd (none-some t e)

pub line_form : (bytes : List ℕ) (t : Option Triple) → line_of bytes ≡ Some t → IsLineOf bytes t
unfolding line_of
line_form bytes t e = form_by (is_utf8 bytes) bytes t refl e

pub form_line : (bytes : List ℕ) (t : Option Triple) → IsLineOf bytes t → line_of bytes ≡ Some t
unfolding line_of
form_line bytes t h = rw (h.utf8, line_is (chars bytes) t h.form) refl

pub line_no_form : (bytes : List ℕ) → line_of bytes ≡ None → (t : Option Triple) → IsLineOf bytes t → ⊥
line_no_form bytes e t h = none-some t (sym e ∙ form_line bytes t h)

no_form_by : (o : Option (Option Triple)) (bytes : List ℕ) → line_of bytes ≡ o
    → ((t : Option Triple) → IsLineOf bytes t → ⊥) → o ≡ None
no_form_by None bytes e h = refl
no_form_by (Some t) bytes e h = absurd (h t (line_form bytes t e))

pub no_form_line : (bytes : List ℕ) → ((t : Option Triple) → IsLineOf bytes t → ⊥) → line_of bytes ≡ None
no_form_line bytes h = no_form_by (line_of bytes) bytes refl h
