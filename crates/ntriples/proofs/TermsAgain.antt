-- The terms that are read are read again from what is written of them.
use Rattle.std.proofs.Common.{◌≡◌, ℕ, Bool, true, false, ◌&&◌, ◌||◌, not, nat_eq, List, [], ◌∷◌, ◌++◌, ◌==◌, Option}
use Rattle.std.proofs.Common.{Some, None, refl, sym, ap, ap₂, ◌∙◌, subst, arith, append_assoc, flat_map, bytes_eq}
use Rattle.std.proofs.Common.{IsUtf8}
use Rattle.std.proofs.lemmas.Bool.{and_parts, and_from}
use Rattle.std.proofs.lemmas.Str.{encode_ascii, encodes-append}
use Rattle.std.proofs.lemmas.Slice.Eq.{bytes_eq-Decides}
use lib.Utf8.{scalar, scalars, encode, encodes}
use Rattle.ntriples.specs.declared.quoted.QuoteKind.{QuoteKind}
use Rattle.ntriples.specs.declared.quoted.QuoteKind.TheVariants.{Iri, Literal}
use Rattle.ntriples.specs.declared.term.Term.{Term}
use Rattle.ntriples.specs.declared.term.Term.TheVariants as term
use Rattle.ntriples.specs.Reading.{◌>>=◌, character}
use Rattle.ntriples.specs.Parsing.{quoted, iriref, blank_node_label, langtag, datatype}
use Rattle.ntriples.specs.Grammar.{xsd_string, rdf_lang_string}
use Rattle.ntriples.specs.Parsing.{literal_suffix, literal, subject, object}
use Rattle.ntriples.specs.Written.{iri_byte, literal_byte, iri_text, quoted_text, typed_text, suffix_text, term_text}
use Rattle.ntriples.proofs.Encoded.{piece, no_ends, no_ends-append, scalars-append, pieces_encodes, pieces_no_ends}
use Rattle.ntriples.proofs.Encoded.{pieces_scalars}
use Rattle.ntriples.proofs.ReadAgain.{quoted_again}
use Rattle.ntriples.proofs.Readings.{Makes, makes_bind, makes_cond, makes_following, quoted_makes, iriref_makes}
use Rattle.ntriples.proofs.Again.{Again}
use Rattle.ntriples.proofs.NamesAgain.{LabelAgain, TagAgain, blank_makes, langtag_makes}

pub makes_map : {A : Type 0} (P Q : A → Type 0) (read : Option (A × List ℕ)) → ((x : A) → P x → Q x) → Makes P read
    → Makes Q read
makes_map P Q None f h = tt
makes_map P Q (Some x) f h = (f x.0 h.0, h.1)

makes_to : {A B : Type 0} (P : A → Type 0) (Q : B → Type 0) (read : Option (A × List ℕ)) (make : A → B)
    → ((x : A) → P x → Q (make x)) → Makes P read → Makes Q (read >>= λ x. Some (make x.0, x.1))
makes_to P Q None make f h = tt
makes_to P Q (Some x) make f h = (f x.0 h.0, h.1)

-- ---- between an opening and a closing character

abbrev closed_by : QuoteKind → ℕ → List ℕ → List ℕ
closed_by kind close cs = flat_map (piece kind) cs ++ close ∷ []

closed_scalars : (kind : QuoteKind) (close : ℕ) (cs : List ℕ) → scalar close ≡ true → scalars cs ≡ true
    → scalars (closed_by kind close cs) ≡ true
closed_scalars kind close cs e h = scalars-append (flat_map (piece kind) cs) (close ∷ []) (pieces_scalars kind cs h)
    (and_from (scalar close) true e refl)

closed_spells : (kind : QuoteKind) (close : ℕ) (cs : List ℕ) → encode close ≡ close ∷ []
    → encodes (closed_by kind close cs) ≡ flat_map (piece kind) (encodes cs) ++ close ∷ []
closed_spells kind close cs e = encodes-append (flat_map (piece kind) cs) (close ∷ [])
    ∙ ap₂ (λ (x y : List ℕ). x ++ y) (pieces_encodes kind cs) (ap (λ (t : List ℕ). t ++ []) e)

-- ---- IRIs

iri_scalars : (cs : List ℕ) → scalars cs ≡ true → scalars (60 ∷ closed_by Iri 62 cs) ≡ true
iri_scalars cs h = closed_scalars Iri 62 cs refl h

iri_no_ends : (cs : List ℕ) → no_ends (60 ∷ closed_by Iri 62 cs) ≡ true
iri_no_ends cs = no_ends-append (flat_map iri_byte cs) (62 ∷ []) (pieces_no_ends Iri cs) refl

iri_spells : (cs : List ℕ) → encodes (60 ∷ closed_by Iri 62 cs) ≡ iri_text (encodes cs)
unfolding iri_text
iri_spells cs =
    ap₂ (λ (x y : List ℕ). x ++ y) (encode_ascii 60 (omega arith))
    (closed_spells Iri 62 cs (encode_ascii 62 (omega arith)))

after_iri : (cs more : List ℕ) → iriref (60 ∷ (flat_map iri_byte cs ++ 62 ∷ more)) ≡ Some (encodes cs, more)
unfolding iriref
after_iri cs more = quoted_again Iri cs more

iri_reads : (cs more : List ℕ) → iriref ((60 ∷ closed_by Iri 62 cs) ++ more) ≡ Some (encodes cs, more)
iri_reads cs more = ap (λ (t : List ℕ). iriref (60 ∷ t)) (append_assoc (flat_map iri_byte cs) (62 ∷ []) more)
    ∙ after_iri cs more

abbrev pub IriAgain : List ℕ → Type 0
IriAgain iri = Again (List ℕ) iriref iri (iri_text iri)

abbrev iri_of : (cs : List ℕ) → scalars cs ≡ true → IriAgain (encodes cs)
iri_of cs h = record {
  characters = 60 ∷ closed_by Iri 62 cs;
  are = iri_scalars cs h;
  whole = iri_no_ends cs;
  spell = iri_spells cs;
  again = λ more. iri_reads cs (32 ∷ more);
}

-- an IRI, with what begins it
pub record IriStarts (iri : List ℕ) : Type 0 where
  pub whole : IriAgain iri
  pub tail : List ℕ
  pub starts : whole.characters ≡ 60 ∷ tail

pub iri_again : (iri : List ℕ) → IsUtf8 iri → IriStarts iri
iri_again iri (cs, (h, e)) =
    subst IriStarts e (record { whole = iri_of cs h; tail = closed_by Iri 62 cs; starts = refl })

-- ---- terms

-- what begins neither a comment nor blanks
abbrev pub is_solid : ℕ → Bool
is_solid c = not ((c == 32) || (c == 9)) && not (c == 35)

pub record TermAgain (f : List ℕ → Option (Term × List ℕ)) (value : Term) : Type 0 where
  pub whole : Again Term f value (term_text value)
  pub first : ℕ
  pub tail : List ℕ
  pub starts : whole.characters ≡ first ∷ tail
  pub solid : is_solid first ≡ true

pub record SubjectAgain (value : Term) : Type 0 where
  pub term : TermAgain subject value
  pub unquoted : nat_eq term.first 34 ≡ false

subject_iri : (rest iri after : List ℕ) → iriref (60 ∷ rest) ≡ Some (iri, after)
    → subject (60 ∷ rest) ≡ Some (term.Iri iri, after)
unfolding subject
subject_iri rest iri after e = rw e refl

subject_blank : (rest label after : List ℕ) → blank_node_label (95 ∷ rest) ≡ Some (label, after)
    → subject (95 ∷ rest) ≡ Some (term.Blank label, after)
unfolding subject
subject_blank rest label after e = rw e refl

iri_term : (iri : List ℕ) → term_text (term.Iri iri) ≡ iri_text iri
unfolding term_text
iri_term iri = refl

blank_term : (label : List ℕ) → term_text (term.Blank label) ≡ 95 ∷ 58 ∷ label
unfolding term_text
blank_term label = refl

iri_subject : (iri : List ℕ) → IsUtf8 iri → SubjectAgain (term.Iri iri)
iri_subject iri u =
    let i : IriStarts iri = iri_again iri u in
    record {
      term = record {
        whole = record {
          characters = i.whole.characters;
          are = i.whole.are;
          whole = i.whole.whole;
          spell = i.whole.spell ∙ sym (iri_term iri);
          again = λ more.
              ap (λ (cs : List ℕ). subject (cs ++ 32 ∷ more)) i.starts
              ∙ subject_iri (i.tail ++ 32 ∷ more) iri (32 ∷ more)
              (ap (λ (cs : List ℕ). iriref (cs ++ 32 ∷ more)) (sym i.starts) ∙ i.whole.again more);
        };
        first = 60;
        tail = i.tail;
        starts = i.starts;
        solid = refl;
      };
      unquoted = refl;
    }

blank_subject : (label : List ℕ) → LabelAgain label → SubjectAgain (term.Blank label)
blank_subject label l = record {
  term = record {
    whole = record {
      characters = l.whole.characters;
      are = l.whole.are;
      whole = l.whole.whole;
      spell = l.whole.spell ∙ sym (blank_term label);
      again = λ more.
          ap (λ (cs : List ℕ). subject (cs ++ 32 ∷ more)) l.starts
          ∙ subject_blank (l.tail ++ 32 ∷ more) label (32 ∷ more)
          (ap (λ (cs : List ℕ). blank_node_label (cs ++ 32 ∷ more)) (sym l.starts) ∙ l.whole.again more);
    };
    first = 95;
    tail = l.tail;
    starts = l.starts;
    solid = refl;
  };
  unquoted = refl;
}

some_character : (cs : List ℕ) → scalars cs ≡ true → Makes (λ c. scalar c ≡ true) (character cs)
some_character [] h = tt
some_character (c ∷ cs) h = and_parts (scalar c) (scalars cs) h

pub subject_makes : (cs : List ℕ) → scalars cs ≡ true → Makes SubjectAgain (subject cs)
unfolding subject
subject_makes cs h =
    makes_bind (λ c. scalar c ≡ true) SubjectAgain (character cs) _ (some_character cs h) (λ c s k.
    makes_cond SubjectAgain (nat_eq c.0 95) (blank_node_label cs >>= λ label. Some (term.Blank label.0, label.1))
    (iriref cs >>= λ iri. Some (term.Iri iri.0, iri.1))
    (λ e. makes_to LabelAgain SubjectAgain (blank_node_label cs) term.Blank blank_subject (blank_makes cs h))
    (λ e. makes_to IsUtf8 SubjectAgain (iriref cs) term.Iri iri_subject (iriref_makes cs h)))

object_subject : (c : ℕ) (rest : List ℕ) → nat_eq c 34 ≡ false → object (c ∷ rest) ≡ subject (c ∷ rest)
unfolding object
object_subject c rest e = rw e refl

object_from_subject : (value : Term) → SubjectAgain value → TermAgain object value
object_from_subject value s = record {
  whole = record {
    characters = s.term.whole.characters;
    are = s.term.whole.are;
    whole = s.term.whole.whole;
    spell = s.term.whole.spell;
    again = λ more.
        ap (λ (cs : List ℕ). object (cs ++ 32 ∷ more)) s.term.starts
        ∙ object_subject s.term.first (s.term.tail ++ 32 ∷ more) s.unquoted
        ∙ ap (λ (cs : List ℕ). subject (cs ++ 32 ∷ more)) (sym s.term.starts) ∙ s.term.whole.again more;
  };
  first = s.term.first;
  tail = s.term.tail;
  starts = s.term.starts;
  solid = s.term.solid;
}

-- ---- literals

-- what is written after the closing quote
record SuffixAgain (text iri : List ℕ) (tag : Option (List ℕ)) : Type 0 where
  pub characters : List ℕ
  pub are : scalars characters ≡ true
  pub whole : no_ends characters ≡ true
  pub spell : encodes characters ≡ suffix_text iri tag
  pub again : (more : List ℕ)
      → literal_suffix text (characters ++ 32 ∷ more) ≡ Some (term.Literal text iri tag, 32 ∷ more)

string_reads : (text more : List ℕ)
    → literal_suffix text (32 ∷ more) ≡ Some (term.Literal text xsd_string None, 32 ∷ more)
unfolding literal_suffix
string_reads text more = refl

string_spells : [] ≡ suffix_text xsd_string None
unfolding suffix_text
string_spells = refl

string_suffix : (text : List ℕ) → SuffixAgain text xsd_string None
string_suffix text =
    record { characters = []; are = refl; whole = refl; spell = string_spells; again = string_reads text }

typed_reads : (text rest iri after : List ℕ) → iriref rest ≡ Some (iri, after)
    → literal_suffix text (94 ∷ 94 ∷ rest) ≡ Some (term.Literal text iri None, after)
unfolding literal_suffix datatype
typed_reads text rest iri after e = rw e refl

typed_spells : (iri : List ℕ) → bytes_eq iri xsd_string ≡ false → suffix_text iri None ≡ 94 ∷ 94 ∷ iri_text iri
unfolding suffix_text typed_text
typed_spells iri e = rw e refl

two_before : (c d : ℕ) (cs text : List ℕ) → encode c ≡ c ∷ [] → encode d ≡ d ∷ [] → encodes cs ≡ text
    → encodes (c ∷ d ∷ cs) ≡ c ∷ d ∷ text
two_before c d cs text e f h = ap₂ (λ (x y : List ℕ). x ++ (y ++ encodes cs)) e f ∙ ap (λ (t : List ℕ). c ∷ d ∷ t) h

typed_suffix_by : (b : Bool) (text iri : List ℕ) → bytes_eq iri xsd_string ≡ b → IsUtf8 iri → SuffixAgain text iri None
typed_suffix_by true text iri e u =
    subst (λ (t : List ℕ). SuffixAgain text t None) (sym ((bytes_eq-Decides iri xsd_string).0 e)) (string_suffix text)
typed_suffix_by false text iri e u =
    let i : IriStarts iri = iri_again iri u in
    record {
      characters = 94 ∷ 94 ∷ i.whole.characters;
      are = i.whole.are;
      whole = i.whole.whole;
      spell = two_before 94 94 i.whole.characters (iri_text iri) (encode_ascii 94 (omega arith))
          (encode_ascii 94 (omega arith)) i.whole.spell ∙ sym (typed_spells iri e);
      again = λ more. typed_reads text (i.whole.characters ++ 32 ∷ more) iri (32 ∷ more) (i.whole.again more);
    }

typed_suffix : (text iri : List ℕ) → IsUtf8 iri → SuffixAgain text iri None
typed_suffix text iri u = typed_suffix_by (bytes_eq iri xsd_string) text iri refl u

tagged_reads : (text rest tag after : List ℕ) → langtag rest ≡ Some (tag, after)
    → literal_suffix text (64 ∷ rest) ≡ Some (term.Literal text rdf_lang_string (Some tag), after)
unfolding literal_suffix
tagged_reads text rest tag after e = rw e refl

tagged_spells : (cs tag : List ℕ) → encodes cs ≡ tag → encodes (64 ∷ cs) ≡ suffix_text rdf_lang_string (Some tag)
unfolding suffix_text
tagged_spells cs tag e = ap (λ (t : List ℕ). t ++ encodes cs) (encode_ascii 64 (omega arith))
    ∙ ap (λ (t : List ℕ). 64 ∷ t) e

tagged_suffix : (text tag : List ℕ) → TagAgain tag → SuffixAgain text rdf_lang_string (Some tag)
tagged_suffix text tag t = record {
  characters = 64 ∷ t.characters;
  are = t.are;
  whole = t.whole;
  spell = tagged_spells t.characters tag t.spell;
  again = λ more. tagged_reads text (t.characters ++ 32 ∷ more) tag (32 ∷ more) (t.again more);
}

HasSuffix : List ℕ → Term → Type 0
HasSuffix text (term.Iri iri) = ⊥
HasSuffix text (term.Blank label) = ⊥
HasSuffix text (term.Literal lexical iri tag) = (text ≡ lexical) × SuffixAgain text iri tag

datatype_makes : (cs : List ℕ) → scalars cs ≡ true → Makes IsUtf8 (datatype cs)
unfolding datatype
datatype_makes cs h = makes_following IsUtf8 94 cs _ h (λ rest k. iriref_makes rest k)

suffix_makes : (text cs : List ℕ) → scalars cs ≡ true → Makes (HasSuffix text) (literal_suffix text cs)
unfolding literal_suffix HasSuffix
suffix_makes text [] h = ((refl, string_suffix text), refl)
suffix_makes text (c ∷ cs) h =
    let tail : scalars cs ≡ true = (and_parts (scalar c) (scalars cs) h).1 in
    makes_cond (HasSuffix text) (nat_eq c 64)
    (langtag cs >>= λ tag. Some (term.Literal text rdf_lang_string (Some tag.0), tag.1)) _
    (λ e. makes_to TagAgain (HasSuffix text) (langtag cs) (λ tag. term.Literal text rdf_lang_string (Some tag))
    (λ tag t. (refl, tagged_suffix text tag t)) (langtag_makes cs tail))
    (λ e. makes_cond (HasSuffix text) (nat_eq c 94)
    (datatype cs >>= λ iri. Some (term.Literal text iri.0 None, iri.1))
    (Some (term.Literal text xsd_string None, c ∷ cs))
    (λ f. makes_to IsUtf8 (HasSuffix text) (datatype cs) (λ iri. term.Literal text iri None)
    (λ iri u. (refl, typed_suffix text iri u)) (datatype_makes cs tail))
    (λ f. ((refl, string_suffix text), h)))

literal_reads : (cs suffix more : List ℕ) (value : Term) (after : List ℕ)
    → literal_suffix (encodes cs) (suffix ++ more) ≡ Some (value, after)
    → literal ((34 ∷ (closed_by Literal 34 cs ++ suffix)) ++ more) ≡ Some (value, after)
unfolding literal
literal_reads cs suffix more value after e =
    let order : (closed_by Literal 34 cs ++ suffix) ++ more ≡ flat_map literal_byte cs ++ 34 ∷ (suffix ++ more) =
    append_assoc (closed_by Literal 34 cs) suffix more ∙ append_assoc (flat_map literal_byte cs) (34 ∷ [])
    (suffix ++ more) in
    ap (λ (t : List ℕ). quoted Literal t >>= λ text. literal_suffix text.0 text.1) order
    ∙ ap (λ r. r >>= λ text. literal_suffix text.0 text.1) (quoted_again Literal cs (suffix ++ more)) ∙ e

literal_spells : (cs suffix iri : List ℕ) (tag : Option (List ℕ)) → encodes suffix ≡ suffix_text iri tag
    → encodes (34 ∷ (closed_by Literal 34 cs ++ suffix)) ≡ term_text (term.Literal (encodes cs) iri tag)
unfolding term_text quoted_text
literal_spells cs suffix iri tag e =
    ap₂ (λ (x y : List ℕ). x ++ y) (encode_ascii 34 (omega arith))
    (encodes-append (closed_by Literal 34 cs) suffix
    ∙ ap₂ (λ (x y : List ℕ). x ++ y) (closed_spells Literal 34 cs (encode_ascii 34 (omega arith))) e)

object_literal : (rest : List ℕ) → object (34 ∷ rest) ≡ literal (34 ∷ rest)
unfolding object
object_literal rest = refl

literal_of : (cs iri : List ℕ) (tag : Option (List ℕ)) → scalars cs ≡ true → SuffixAgain (encodes cs) iri tag
    → TermAgain object (term.Literal (encodes cs) iri tag)
literal_of cs iri tag h s = record {
  whole = record {
    characters = 34 ∷ (closed_by Literal 34 cs ++ s.characters);
    are = scalars-append (closed_by Literal 34 cs) s.characters (closed_scalars Literal 34 cs refl h) s.are;
    whole = no_ends-append (closed_by Literal 34 cs) s.characters
        (no_ends-append (flat_map literal_byte cs) (34 ∷ []) (pieces_no_ends Literal cs) refl) s.whole;
    spell = literal_spells cs s.characters iri tag s.spell;
    again = λ more. object_literal ((closed_by Literal 34 cs ++ s.characters) ++ 32 ∷ more)
        ∙ literal_reads cs s.characters (32 ∷ more) (term.Literal (encodes cs) iri tag) (32 ∷ more) (s.again more);
  };
  first = 34;
  tail = closed_by Literal 34 cs ++ s.characters;
  starts = refl;
  solid = refl;
}

literal_at : (text iri : List ℕ) (tag : Option (List ℕ)) → IsUtf8 text → SuffixAgain text iri tag
    → TermAgain object (term.Literal text iri tag)
literal_at text iri tag (cs, (h, e)) s =
    subst (λ (t : List ℕ). SuffixAgain t iri tag → TermAgain object (term.Literal t iri tag)) e
    (literal_of cs iri tag h) s

literal_by : (text : List ℕ) (value : Term) → IsUtf8 text → HasSuffix text value → TermAgain object value
unfolding HasSuffix
literal_by text (term.Iri iri) u h = absurd h
literal_by text (term.Blank label) u h = absurd h
literal_by text (term.Literal lexical iri tag) u h = subst (λ (t : List ℕ). TermAgain object (term.Literal t iri tag))
    h.0 (literal_at text iri tag u h.1)

literal_makes : (cs : List ℕ) → scalars cs ≡ true → Makes (TermAgain object) (literal cs)
unfolding literal
literal_makes cs h =
    makes_following (TermAgain object) 34 cs _ h (λ rest k.
    makes_bind IsUtf8 (TermAgain object) (quoted Literal rest) _ (quoted_makes Literal rest k) (λ text u m.
    makes_map (HasSuffix text.0) (TermAgain object) (literal_suffix text.0 text.1)
    (λ value s. literal_by text.0 value u s) (suffix_makes text.0 text.1 m)))

pub object_makes : (cs : List ℕ) → scalars cs ≡ true → Makes (TermAgain object) (object cs)
unfolding object
object_makes cs h =
    makes_bind (λ c. scalar c ≡ true) (TermAgain object) (character cs) _ (some_character cs h) (λ c s k.
    makes_cond (TermAgain object) (nat_eq c.0 34) (literal cs) (subject cs) (λ e. literal_makes cs h)
    (λ e. makes_map SubjectAgain (TermAgain object) (subject cs) object_from_subject (subject_makes cs h)))
