-- Literals, subjects and objects: what is read is of the form and as long as it can be, and what is of the form is
-- read, up to what may follow a term.
use Rattle.std.proofs.Common.{◌≡◌, ℕ, ◌≤◌, Bool, true, false, cond, nat_eq, List, [], ◌∷◌, ◌++◌, length}
use Rattle.std.proofs.Common.{Option, Some, None, inl, inr, refl, sym, ap, ◌∙◌, subst, arith, append_assoc}
use Rattle.std.proofs.lemmas.Bool.{eqb-true}
use Rattle.std.proofs.lemmas.List.{append-nil, length-append}
use Rattle.std.proofs.lemmas.Option.{none-some, same_Some}
use Rattle.ntriples.specs.declared.quoted.QuoteKind.TheVariants as kind
use Rattle.ntriples.specs.declared.term.Term.{Term}
use Rattle.ntriples.specs.declared.term.Term.TheVariants.{Iri, Blank, Literal}
use Rattle.ntriples.specs.Reading.{◌>>=◌, following}
use Rattle.ntriples.specs.Parsing.{quoted, iriref, blank_node_label, langtag, datatype, literal_suffix, literal}
use Rattle.ntriples.specs.Parsing.{subject, object}
use Rattle.ntriples.specs.Grammar.{IsString, IsIri, IsLabel, xsd_string, rdf_lang_string, IsTagged, IsTyped, IsLiteral}
use Rattle.ntriples.specs.Grammar.{IsSubject, IsObject, IsLongestMatch, hyphened}
use Rattle.ntriples.proofs.NameLemmas.{following_ends}
use Rattle.ntriples.proofs.Pieces.{Takes, bind_some}
use Rattle.ntriples.proofs.Quotes.{quoted_some, enclosed, iriref_some, quoted_of, iriref_of}
use Rattle.ntriples.proofs.Labels.{Stops, label_some, label_of, label_longest}
use Rattle.ntriples.proofs.Labels.Stops.{space, tab, bracket, end, end_space, end_tab, end_comment}
use Rattle.ntriples.proofs.Tags.{langtag_some, langtag_of, langtag_longest}

-- ---- literals are of the form

-- what with a string at the start is a literal of this lexical form
abbrev IsSuffix : List ℕ → List ℕ → Term → Type 0
IsSuffix lexical prefix t = (text : List ℕ) → IsString text lexical → IsObject (text ++ prefix) t

none_suffix : (lexical : List ℕ) → IsSuffix lexical [] (Literal lexical xsd_string None)
none_suffix lexical text h = inl (subst (λ (t : List ℕ). IsString t lexical) (sym (append-nil text)) h, refl)

tag_suffix : (lexical : List ℕ) (c : ℕ) (cs : List ℕ) (x : Term × List ℕ) → c ≡ 64
    → (langtag cs >>= λ tag. Some (Literal lexical rdf_lang_string (Some tag.0), tag.1)) ≡ Some x
    → Takes (IsSuffix lexical) (c ∷ cs) x.0 x.1
tag_suffix lexical c cs x is e =
    let p = bind_some (langtag cs) (λ (tag : List ℕ × List ℕ).
    let o : Option (Term × List ℕ) = Some (Literal lexical rdf_lang_string (Some tag.0), tag.1) in o) x e in
    let t = langtag_some cs p.0 p.1 in
    subst (λ (y : Term × List ℕ). Takes (IsSuffix lexical) (c ∷ cs) y.0 y.1)
    (same_Some {A = Term × List ℕ} (Literal lexical rdf_lang_string (Some p.0.0), p.0.1) x p.2)
    (record {
      prefix = 64 ∷ t.prefix;
      parts = ap (λ (k : ℕ). k ∷ cs) is ∙ ap (λ (l : List ℕ). 64 ∷ l) t.parts;
      form = λ (text : List ℕ) (h : IsString text lexical).
          record { quoted = text; suffix = 64 ∷ t.prefix; form = refl; string = h; language = t.form; typed = refl };
    })

datatype_some : (cs : List ℕ) (x : List ℕ × List ℕ) → datatype cs ≡ Some x
    → Takes (λ (prefix iri : List ℕ). (rest : List ℕ) × (prefix ≡ 94 ∷ rest) × IsIri rest iri) cs x.0 x.1
unfolding datatype
datatype_some cs x e =
    let p = bind_some (following 94 cs) iriref x e in
    let t = iriref_some p.0 x p.2 in
    record {
      prefix = 94 ∷ t.prefix;
      parts = (following_ends 94 cs p.0 p.1).1 ∙ ap (λ (l : List ℕ). 94 ∷ l) t.parts;
      form = (t.prefix, refl, t.form);
    }

typed_suffix : (lexical : List ℕ) (c : ℕ) (cs : List ℕ) (x : Term × List ℕ) → c ≡ 94
    → (datatype cs >>= λ iri. Some (Literal lexical iri.0 None, iri.1)) ≡ Some x
    → Takes (IsSuffix lexical) (c ∷ cs) x.0 x.1
typed_suffix lexical c cs x is e =
    let p = bind_some (datatype cs) (λ (iri : List ℕ × List ℕ).
    let o : Option (Term × List ℕ) = Some (Literal lexical iri.0 None, iri.1) in o) x e in
    let t = datatype_some cs p.0 p.1 in
    subst (λ (y : Term × List ℕ). Takes (IsSuffix lexical) (c ∷ cs) y.0 y.1)
    (same_Some {A = Term × List ℕ} (Literal lexical p.0.0 None, p.0.1) x p.2)
    (record {
      prefix = 94 ∷ 94 ∷ t.form.0;
      parts = ap (λ (k : ℕ). k ∷ cs) is ∙ ap (λ (l : List ℕ). 94 ∷ l) t.parts
          ∙ ap (λ (l : List ℕ). 94 ∷ l ++ p.0.1) t.form.1;
      form = λ (text : List ℕ) (h : IsString text lexical).
          inr (record { quoted = text; suffix = t.form.0; form = refl; string = h; iri = t.form.2 });
    })

suffix_by : (at caret : Bool) (lexical : List ℕ) (c : ℕ) (cs : List ℕ) (x : Term × List ℕ) → nat_eq c 64 ≡ at
    → nat_eq c 94 ≡ caret
    → cond at (langtag cs >>= λ tag. Some (Literal lexical rdf_lang_string (Some tag.0), tag.1))
    (cond caret (datatype cs >>= λ iri. Some (Literal lexical iri.0 None, iri.1))
    (Some (Literal lexical xsd_string None, c ∷ cs))) ≡ Some x → Takes (IsSuffix lexical) (c ∷ cs) x.0 x.1
suffix_by true caret lexical c cs x h i e = tag_suffix lexical c cs x (eqb-true c 64 h) e
suffix_by false true lexical c cs x h i e = typed_suffix lexical c cs x (eqb-true c 94 i) e
suffix_by false false lexical c cs x h i e =
    subst (λ (y : Term × List ℕ). Takes (IsSuffix lexical) (c ∷ cs) y.0 y.1)
    (same_Some {A = Term × List ℕ} (Literal lexical xsd_string None, c ∷ cs) x e)
    (record { prefix = []; parts = refl; form = none_suffix lexical })

suffix_some : (lexical cs : List ℕ) (x : Term × List ℕ) → literal_suffix lexical cs ≡ Some x
    → Takes (IsSuffix lexical) cs x.0 x.1
unfolding literal_suffix
suffix_some lexical [] x e =
    subst (λ (y : Term × List ℕ). Takes (IsSuffix lexical) [] y.0 y.1)
    (same_Some {A = Term × List ℕ} (Literal lexical xsd_string None, []) x e)
    (record { prefix = []; parts = refl; form = none_suffix lexical })
suffix_some lexical (c ∷ cs) x e = suffix_by (nat_eq c 64) (nat_eq c 94) lexical c cs x refl refl e

literal_some : (cs : List ℕ) (x : Term × List ℕ) → literal cs ≡ Some x → Takes IsObject cs x.0 x.1
unfolding literal
literal_some cs x e =
    let p = bind_some (following 34 cs) _ x e in
    let q = bind_some (quoted kind.Literal p.0) _ x p.2 in
    let t = enclosed kind.Literal 34 p.0 q.0.0 q.0.1 (quoted_some kind.Literal p.0 q.0 q.1) in
    let s = suffix_some q.0.0 q.0.1 x q.2 in
    record {
      prefix = t.prefix ++ s.prefix;
      parts = (following_ends 34 cs p.0 p.1).1 ∙ t.parts ∙ ap (λ (l : List ℕ). t.prefix ++ l) s.parts
          ∙ sym (append_assoc t.prefix s.prefix x.1);
      form = s.form t.prefix t.form;
    }

-- ---- subjects and objects are of the form

blank_some : (cs : List ℕ) (x : Term × List ℕ)
    → (blank_node_label cs >>= λ label. Some (Blank label.0, label.1)) ≡ Some x → Takes IsSubject cs x.0 x.1
blank_some cs x e =
    let p = bind_some (blank_node_label cs)
    (λ (label : List ℕ × List ℕ). let o : Option (Term × List ℕ) = Some (Blank label.0, label.1) in o) x e in
    let t = label_some cs p.0 p.1 in
    subst (λ (y : Term × List ℕ). Takes IsSubject cs y.0 y.1)
    (same_Some {A = Term × List ℕ} (Blank p.0.0, p.0.1) x p.2)
    (record { prefix = t.prefix; parts = t.parts; form = t.form })

iri_some : (cs : List ℕ) (x : Term × List ℕ) → (iriref cs >>= λ iri. Some (Iri iri.0, iri.1)) ≡ Some x
    → Takes IsSubject cs x.0 x.1
iri_some cs x e =
    let p = bind_some (iriref cs)
    (λ (iri : List ℕ × List ℕ). let o : Option (Term × List ℕ) = Some (Iri iri.0, iri.1) in o) x e in
    let t = iriref_some cs p.0 p.1 in
    subst (λ (y : Term × List ℕ). Takes IsSubject cs y.0 y.1)
    (same_Some {A = Term × List ℕ} (Iri p.0.0, p.0.1) x p.2)
    (record { prefix = t.prefix; parts = t.parts; form = t.form })

subject_by : (b : Bool) (cs : List ℕ) (x : Term × List ℕ)
    → cond b (blank_node_label cs >>= λ label. Some (Blank label.0, label.1))
    (iriref cs >>= λ iri. Some (Iri iri.0, iri.1)) ≡ Some x → Takes IsSubject cs x.0 x.1
subject_by true cs x e = blank_some cs x e
subject_by false cs x e = iri_some cs x e

pub subject_some : (cs : List ℕ) (x : Term × List ℕ) → subject cs ≡ Some x → Takes IsSubject cs x.0 x.1
unfolding subject
subject_some [] x e = absurd (none-some x e)
subject_some (c ∷ cs) x e = subject_by (nat_eq c 95) (c ∷ cs) x e

as_object : (t : Term) (text : List ℕ) → IsSubject text t → IsObject text t
as_object (Iri iri) text h = h
as_object (Blank label) text h = h
as_object (Literal lexical datatype tag) text h = absurd h

object_by : (b : Bool) (cs : List ℕ) (x : Term × List ℕ) → cond b (literal cs) (subject cs) ≡ Some x
    → Takes IsObject cs x.0 x.1
object_by true cs x e = literal_some cs x e
object_by false cs x e =
    let t = subject_some cs x e in
    record { prefix = t.prefix; parts = t.parts; form = as_object x.0 t.prefix t.form }

pub object_some : (cs : List ℕ) (x : Term × List ℕ) → object cs ≡ Some x → Takes IsObject cs x.0 x.1
unfolding object
object_some [] x e = absurd (none-some x e)
object_some (c ∷ cs) x e = object_by (nat_eq c 34) (c ∷ cs) x e

-- ---- which of them it is

abbrev as_iri : Option (List ℕ × List ℕ) → Option (Term × List ℕ)
as_iri read = read >>= λ iri. Some (Iri iri.0, iri.1)

abbrev as_blank : Option (List ℕ × List ℕ) → Option (Term × List ℕ)
as_blank read = read >>= λ label. Some (Blank label.0, label.1)

subject_iri : (text iri rest : List ℕ) → IsIri text iri → subject (text ++ rest) ≡ as_iri (iriref (text ++ rest))
unfolding subject
subject_iri text iri rest h = rw h.form refl

subject_blank : (text label rest : List ℕ) → IsLabel text label
    → subject (text ++ rest) ≡ as_blank (blank_node_label (text ++ rest))
unfolding subject
subject_blank text label rest h = rw h.form refl

object_iri : (text iri rest : List ℕ) → IsIri text iri → object (text ++ rest) ≡ subject (text ++ rest)
unfolding object
object_iri text iri rest h = rw h.form refl

object_blank : (text label rest : List ℕ) → IsLabel text label → object (text ++ rest) ≡ subject (text ++ rest)
unfolding object
object_blank text label rest h = rw h.form refl

string_literal : (text lexical rest : List ℕ) → IsString text lexical
    → object (text ++ rest) ≡ literal (text ++ rest)
unfolding object
string_literal text lexical rest h = rw h.form refl

begun : (prefix lexical rest : List ℕ) → quoted kind.Literal (prefix ++ rest) ≡ Some (lexical, rest)
    → literal (34 ∷ prefix ++ rest) ≡ literal_suffix lexical rest
unfolding literal
begun prefix lexical rest e = rw e refl

literal_suffixed : (text lexical rest : List ℕ) → IsString text lexical
    → object (text ++ rest) ≡ literal_suffix lexical rest
literal_suffixed text lexical rest h =
    let p = quoted_of kind.Literal 34 text lexical rest h in
    string_literal text lexical rest h ∙ ap (λ (l : List ℕ). literal (l ++ rest)) p.1 ∙ begun p.0 lexical rest p.2

-- after a string
suffixed : (whole text more lexical rest : List ℕ) → IsString text lexical → whole ≡ text ++ more
    → object (whole ++ rest) ≡ literal_suffix lexical (more ++ rest)
suffixed whole text more lexical rest h at =
    ap (λ (l : List ℕ). object (l ++ rest)) at ∙ ap object (append_assoc text more rest)
    ∙ literal_suffixed text lexical (more ++ rest) h

tag_read : (lexical cs : List ℕ)
    → literal_suffix lexical (64 ∷ cs)
    ≡ (langtag cs >>= λ tag. Some (Literal lexical rdf_lang_string (Some tag.0), tag.1))
unfolding literal_suffix
tag_read lexical cs = refl

typed_read : (lexical cs : List ℕ)
    → literal_suffix lexical (94 ∷ 94 ∷ cs) ≡ (iriref cs >>= λ iri. Some (Literal lexical iri.0 None, iri.1))
unfolding literal_suffix datatype
typed_read lexical cs = refl

-- ---- what is of the form is read

subject_iri_of : (text iri rest : List ℕ) → IsIri text iri → subject (text ++ rest) ≡ Some (Iri iri, rest)
subject_iri_of text iri rest h = subject_iri text iri rest h ∙ ap as_iri (iriref_of text iri rest h)

subject_blank_of : (text label rest : List ℕ) → IsLabel text label → Stops rest
    → subject (text ++ rest) ≡ Some (Blank label, rest)
subject_blank_of text label rest h s = subject_blank text label rest h ∙ ap as_blank (label_of text label rest h s)

pub subject_of : (text : List ℕ) (t : Term) (rest : List ℕ) → IsSubject text t → Stops rest
    → subject (text ++ rest) ≡ Some (t, rest)
subject_of text (Iri iri) rest h s = subject_iri_of text iri rest h
subject_of text (Blank label) rest h s = subject_blank_of text label rest h s
subject_of text (Literal lexical datatype tag) rest h s = absurd h

suffix_stops : (lexical rest : List ℕ) → Stops rest
    → literal_suffix lexical rest ≡ Some (Literal lexical xsd_string None, rest)
unfolding literal_suffix
suffix_stops lexical _ space = refl
suffix_stops lexical _ tab = refl
suffix_stops lexical _ bracket = refl
suffix_stops lexical _ end = refl
suffix_stops lexical _ end_space = refl
suffix_stops lexical _ end_tab = refl
suffix_stops lexical _ end_comment = refl

typed_object : (text lexical datatype rest : List ℕ) → IsTyped text lexical datatype
    → object (text ++ rest) ≡ Some (Literal lexical datatype None, rest)
typed_object text lexical datatype rest t =
    suffixed text t.quoted (94 ∷ 94 ∷ t.suffix) lexical rest t.string t.form ∙ typed_read lexical (t.suffix ++ rest)
    ∙ ap (λ (o : Option (List ℕ × List ℕ)). o >>= λ iri. Some (Literal lexical iri.0 None, iri.1))
    (iriref_of t.suffix datatype rest t.iri)

-- a tagged string, with what is read of the tag
tagged : (text lexical datatype tag rest : List ℕ) (t : IsTagged text lexical datatype tag)
    → object (text ++ rest)
    ≡ (langtag ((t.language.primary ++ hyphened t.language.subtags) ++ rest) >>= λ tag.
    Some (Literal lexical rdf_lang_string (Some tag.0), tag.1))
tagged text lexical datatype tag rest t =
    suffixed text t.quoted t.suffix lexical rest t.string t.form
    ∙ ap (λ (l : List ℕ). literal_suffix lexical (l ++ rest)) t.language.form
    ∙ tag_read lexical ((t.language.primary ++ hyphened t.language.subtags) ++ rest)

literal_of : (text lexical datatype : List ℕ) (tag : Option (List ℕ)) (rest : List ℕ)
    → IsLiteral text lexical datatype tag → Stops rest
    → object (text ++ rest) ≡ Some (Literal lexical datatype tag, rest)
literal_of text lexical datatype (Some tag) rest t s =
    tagged text lexical datatype tag rest t
    ∙ ap (λ (o : Option (List ℕ × List ℕ)). o >>= λ tag. Some (Literal lexical rdf_lang_string (Some tag.0), tag.1))
    (langtag_of t.suffix tag rest t.language s)
    ∙ ap (λ (d : List ℕ). Some (Literal lexical d (Some tag), rest)) (sym t.typed)
literal_of text lexical datatype None rest h s = elim h [
  | inl p ↦ literal_suffixed text lexical rest p.0 ∙ suffix_stops lexical rest s
      ∙ ap (λ (d : List ℕ). Some (Literal lexical d None, rest)) (sym p.1)
  | inr t ↦ typed_object text lexical datatype rest t
]

pub object_of : (text : List ℕ) (t : Term) (rest : List ℕ) → IsObject text t → Stops rest
    → object (text ++ rest) ≡ Some (t, rest)
object_of text (Iri iri) rest h s = object_iri text iri rest h ∙ subject_iri_of text iri rest h
object_of text (Blank label) rest h s = object_blank text label rest h ∙ subject_blank_of text label rest h s
object_of text (Literal lexical datatype tag) rest h s = literal_of text lexical datatype tag rest h s

-- ---- a term is read as long as it can be

abbrev Longest : {A : Type 0} → (List ℕ → A → Type 0) → (List ℕ → Option (A × List ℕ)) → Type 0
Longest {A} Form read = (text : List ℕ) (t : A) (rest : List ℕ) (x : A × List ℕ) → Form text t
    → read (text ++ rest) ≡ Some x → length x.1 ≤ length rest

exactly : {A : Type 0} (o : Option (A × List ℕ)) (t : A) (rest : List ℕ) (x : A × List ℕ) → o ≡ Some (t, rest)
    → o ≡ Some x → length x.1 ≤ length rest
exactly {A} o t rest x e f =
    let same = same_Some {A = A × List ℕ} (t, rest) x (sym e ∙ f) in
    omega (arith, ap (λ (y : A × List ℕ). length y.1) same)

pub iriref_longest : Longest IsIri iriref
iriref_longest text iri rest x h e = exactly (iriref (text ++ rest)) iri rest x (iriref_of text iri rest h) e

read_on : (o : Option (List ℕ × List ℕ)) (f : List ℕ → Term) (rest : List ℕ) (x : Term × List ℕ)
    → ((y : List ℕ × List ℕ) → o ≡ Some y → length y.1 ≤ length rest) → (o >>= λ y. Some (f y.0, y.1)) ≡ Some x
    → length x.1 ≤ length rest
read_on o f rest x below e =
    let p = bind_some o (λ (y : List ℕ × List ℕ). let r : Option (Term × List ℕ) = Some (f y.0, y.1) in r) x e in
    let same = same_Some {A = Term × List ℕ} (f p.0.0, p.0.1) x p.2 in
    omega (arith, ap (λ (y : Term × List ℕ). length y.1) same, below p.0 p.1)

pub subject_longest : Longest IsSubject subject
subject_longest text (Iri iri) rest x h e =
    exactly (subject (text ++ rest)) (Iri iri) rest x (subject_iri_of text iri rest h) e
subject_longest text (Blank label) rest x h e =
    read_on (blank_node_label (text ++ rest)) Blank rest x (λ y k. label_longest text label rest y h k)
    (sym (subject_blank text label rest h) ∙ e)
subject_longest text (Literal lexical datatype tag) rest x h e = absurd h

suffix_shorter : (lexical rest : List ℕ) (x : Term × List ℕ) → literal_suffix lexical rest ≡ Some x
    → length x.1 ≤ length rest
suffix_shorter lexical rest x e =
    let t = suffix_some lexical rest x e in
    omega (arith, length-append t.prefix x.1, ap length t.parts)

literal_longest : (text lexical datatype : List ℕ) (tag : Option (List ℕ)) (rest : List ℕ) (x : Term × List ℕ)
    → IsLiteral text lexical datatype tag → object (text ++ rest) ≡ Some x → length x.1 ≤ length rest
literal_longest text lexical datatype (Some tag) rest x t e =
    read_on (langtag ((t.language.primary ++ hyphened t.language.subtags) ++ rest))
    (λ (tag : List ℕ). Literal lexical rdf_lang_string (Some tag)) rest x
    (λ y k. langtag_longest t.suffix tag (t.language.primary ++ hyphened t.language.subtags) rest y t.language
    t.language.form k)
    (sym (tagged text lexical datatype tag rest t) ∙ e)
literal_longest text lexical datatype None rest x h e = elim h [
  | inl p ↦ suffix_shorter lexical rest x (sym (literal_suffixed text lexical rest p.0) ∙ e)
  | inr t ↦ exactly (object (text ++ rest)) (Literal lexical datatype None) rest x
      (typed_object text lexical datatype rest t) e
]

pub object_longest : Longest IsObject object
object_longest text (Iri iri) rest x h e =
    subject_longest text (Iri iri) rest x h (sym (object_iri text iri rest h) ∙ e)
object_longest text (Blank label) rest x h e =
    subject_longest text (Blank label) rest x h (sym (object_blank text label rest h) ∙ e)
object_longest text (Literal lexical datatype tag) rest x h e =
    literal_longest text lexical datatype tag rest x h e

nothing : (more rest : List ℕ) → length (more ++ rest) ≤ length rest → more ≡ []
nothing [] rest h = refl
nothing (c ∷ more) rest h = absurd (omega (arith, length-append more rest))

pub read_whole : {A : Type 0} (Form : List ℕ → A → Type 0) (read : List ℕ → Option (A × List ℕ)) → Longest Form read
    → (cs : List ℕ) (x : A × List ℕ) → read cs ≡ Some x → (t : Takes Form cs x.0 x.1)
    → IsLongestMatch Form t.prefix x.1 x.0
read_whole Form read longest cs x e t =
    record {
      form = t.form;
      longest = λ more rest other at h.
          let whole : cs ≡ (t.prefix ++ more) ++ rest =
          t.parts ∙ ap (λ (l : List ℕ). t.prefix ++ l) at ∙ sym (append_assoc t.prefix more rest) in
          let below = longest (t.prefix ++ more) other rest x h (ap read (sym whole) ∙ e) in
          nothing more rest (omega (arith, ap length at));
    }
