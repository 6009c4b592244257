-- The productions of RDF 1.1 N-Triples, section 7, in generative form: each says of which characters a text of the
-- production is made, and what this text stands for. What stands for a text is its UTF-8.
use Rattle.std.specs.Prelude.{◌≡◌, ◌⊎◌, ℕ, ◌+◌, ◌*◌, ◌^◌, ◌==◌, nat_lt, if◌then◌else◌, Bool, true, false, ◌||◌, ◌&&◌}
use Rattle.std.specs.Prelude.{not, List, [], ◌∷◌, ◌++◌, length, Option, Some, None, codes}
use Rattle.std.specs.List.{list_all, flat_map}
use Rattle.std.specs.Char.{digit_value}
use Rattle.std.specs.Str.{encode_utf8_all}
use Rattle.ntriples.specs.declared.term.Term.{Term}
use Rattle.ntriples.specs.declared.term.Term.TheVariants.{Iri, Blank, Literal}
use Rattle.ntriples.specs.declared.term.Triple.{Triple}
use Rattle.ntriples.specs.Characters.{is_digit, is_letter, is_pn_chars_u, is_pn_chars, is_iri_character}

-- ---- classes of characters

-- a space or a tab
abbrev pub is_blank : ℕ → Bool
is_blank c = (c == 32) || (c == 9)

-- HEX ::= [0-9] | [A-F] | [a-f]
abbrev pub is_hex : ℕ → Bool
is_hex c = nat_lt (digit_value c) 16

-- a Unicode scalar value
abbrev pub is_scalar : ℕ → Bool
is_scalar c = nat_lt c 0xD800 || (nat_lt 0xDFFF c && nat_lt c 0x11_0000)

-- what STRING_LITERAL_QUOTE may hold unescaped: all but `"`, `\`, a line feed and a carriage return
abbrev pub is_string_character : ℕ → Bool
is_string_character c = not (c == 34) && not (c == 92) && not (c == 10) && not (c == 13)

-- PN_CHARS or `.`
abbrev pub is_inside_label : ℕ → Bool
is_inside_label c = is_pn_chars c || (c == 46)

abbrev pub is_alphanumeric : ℕ → Bool
is_alphanumeric c = is_letter c || is_digit c

-- at least one character, each of a class
abbrev pub are_some : (ℕ → Bool) → List ℕ → Bool
are_some is_one [] = false
are_some is_one (c ∷ cs) = list_all is_one (c ∷ cs)

-- ---- escapes

-- the number that hexadecimal digits spell
abbrev pub hex_number : List ℕ → ℕ
hex_number [] = 0
hex_number (d ∷ ds) = digit_value d * 16 ^ length ds + hex_number ds

-- UCHAR ::= '\u' HEX HEX HEX HEX | '\U' HEX HEX HEX HEX HEX HEX HEX HEX
-- It stands for the scalar value that the digits name.
pub record IsUchar (text : List ℕ) (c : ℕ) : Type 0 where
  pub digits : List ℕ
  pub form : ((text ≡ codes "\\u" ++ digits) × (length digits ≡ 4))
      ⊎ ((text ≡ codes "\\U" ++ digits) × (length digits ≡ 8))
  pub hexadecimal : list_all is_hex digits ≡ true
  pub named : c ≡ hex_number digits
  pub scalar : is_scalar c ≡ true

-- what the letter of an ECHAR stands for
unfoldable pub echar : ℕ → Option ℕ
echar c =
    if c == 116 then Some 9 else if c == 98 then Some 8 else if c == 110 then Some 10 else if c == 114 then Some 13
    else if c == 102 then Some 12 else if c == 34 then Some 34 else if c == 39 then Some 39
    else if c == 92 then Some 92 else None

-- ECHAR ::= '\' [tbnrf"'\]
abbrev pub IsEchar : List ℕ → ℕ → Type 0
IsEchar text c = (letter : ℕ) × (text ≡ codes "\\" ++ letter ∷ []) × (echar letter ≡ Some c)

-- ---- IRIs and strings

-- a piece of an IRI: a character that may stand there, or an escape
abbrev pub IsIriPiece : List ℕ → ℕ → Type 0
IsIriPiece text c = ((text ≡ c ∷ []) × (is_iri_character c ≡ true)) ⊎ IsUchar text c

-- a piece of a string
abbrev pub IsStringPiece : List ℕ → ℕ → Type 0
IsStringPiece text c = ((text ≡ c ∷ []) × (is_string_character c ≡ true)) ⊎ (IsEchar text c ⊎ IsUchar text c)

-- pieces one after the other, one for each of these characters
abbrev pub ArePieces : (List ℕ → ℕ → Type 0) → List ℕ → List ℕ → Type 0
ArePieces IsPiece text [] = text ≡ []
ArePieces IsPiece text (c ∷ cs) =
    (piece : List ℕ) × (rest : List ℕ) × (text ≡ piece ++ rest) × IsPiece piece c × ArePieces IsPiece rest cs

-- pieces between an opening and a closing character
pub record IsQuoted (opening closing : ℕ) (IsPiece : List ℕ → ℕ → Type 0) (text value : List ℕ) : Type 0 where
  pub inside : List ℕ
  pub characters : List ℕ
  pub form : text ≡ opening ∷ (inside ++ closing ∷ [])
  pub pieces : ArePieces IsPiece inside characters
  pub named : value ≡ encode_utf8_all characters

-- IRIREF ::= '<' ([^#x00-#x20<>"{}|^`\] | UCHAR)* '>'
abbrev pub IsIri : List ℕ → List ℕ → Type 0
IsIri = IsQuoted 60 62 IsIriPiece

-- STRING_LITERAL_QUOTE ::= '"' ([^#x22#x5C#xA#xD] | ECHAR | UCHAR)* '"'
abbrev pub IsString : List ℕ → List ℕ → Type 0
IsString = IsQuoted 34 34 IsStringPiece

-- ---- labels and tags

-- what follows the first character of a label: nothing, or ((PN_CHARS | '.')* PN_CHARS)
abbrev pub IsLabelRest : List ℕ → Type 0
IsLabelRest text = (text ≡ []) ⊎ ((inside : List ℕ) × (last : ℕ) × (text ≡ inside ++ last ∷ [])
    × (list_all is_inside_label inside ≡ true) × (is_pn_chars last ≡ true))

-- BLANK_NODE_LABEL ::= '_:' (PN_CHARS_U | [0-9]) ((PN_CHARS | '.')* PN_CHARS)?
pub record IsLabel (text label : List ℕ) : Type 0 where
  pub first : ℕ
  pub rest : List ℕ
  pub form : text ≡ codes "_:" ++ first ∷ rest
  pub begins : (is_pn_chars_u first || is_digit first) ≡ true
  pub goes_on : IsLabelRest rest
  pub named : label ≡ encode_utf8_all (first ∷ rest)

-- subtags, each after its hyphen
abbrev pub hyphened : List (List ℕ) → List ℕ
hyphened subtags = flat_map (λ subtag. codes "-" ++ subtag) subtags

-- LANGTAG ::= '@' [a-zA-Z]+ ('-' [a-zA-Z0-9]+)*
pub record IsLanguage (text tag : List ℕ) : Type 0 where
  pub primary : List ℕ
  pub subtags : List (List ℕ)
  pub form : text ≡ codes "@" ++ primary ++ hyphened subtags
  pub letters : are_some is_letter primary ≡ true
  pub alphanumerics : list_all (are_some is_alphanumeric) subtags ≡ true
  pub named : tag ≡ encode_utf8_all (primary ++ hyphened subtags)

-- ---- terms

abbrev pub xsd_string : List ℕ
xsd_string = codes "http://www.w3.org/2001/XMLSchema#string"

abbrev pub rdf_lang_string : List ℕ
rdf_lang_string = codes "http://www.w3.org/1999/02/22-rdf-syntax-ns#langString"

-- literal ::= STRING_LITERAL_QUOTE ('^^' IRIREF | LANGTAG)?
-- With a language its datatype is that of such strings; with nothing after it, that of strings.
pub record IsTagged (text lexical datatype tag : List ℕ) : Type 0 where
  pub quoted : List ℕ
  pub suffix : List ℕ
  pub form : text ≡ quoted ++ suffix
  pub string : IsString quoted lexical
  pub language : IsLanguage suffix tag
  pub typed : datatype ≡ rdf_lang_string

pub record IsTyped (text lexical datatype : List ℕ) : Type 0 where
  pub quoted : List ℕ
  pub suffix : List ℕ
  pub form : text ≡ quoted ++ (codes "^^" ++ suffix)
  pub string : IsString quoted lexical
  pub iri : IsIri suffix datatype

abbrev pub IsLiteral : List ℕ → List ℕ → List ℕ → Option (List ℕ) → Type 0
IsLiteral text lexical datatype (Some tag) = IsTagged text lexical datatype tag
IsLiteral text lexical datatype None =
    (IsString text lexical × (datatype ≡ xsd_string)) ⊎ IsTyped text lexical datatype

-- subject ::= IRIREF | BLANK_NODE_LABEL
abbrev pub IsSubject : List ℕ → Term → Type 0
IsSubject text (Iri iri) = IsIri text iri
IsSubject text (Blank label) = IsLabel text label
IsSubject text (Literal lexical datatype tag) = ⊥

-- object ::= IRIREF | BLANK_NODE_LABEL | literal
abbrev pub IsObject : List ℕ → Term → Type 0
IsObject text (Iri iri) = IsIri text iri
IsObject text (Blank label) = IsLabel text label
IsObject text (Literal lexical datatype tag) = IsLiteral text lexical datatype tag

-- A term is the longest match of its production: with more of what follows it is no longer of the production.
pub record IsLongestMatch {A : Type 0} (IsTerm : List ℕ → A → Type 0) (text following : List ℕ) (term : A) : Type 0 where
  pub form : IsTerm text term
  pub longest : (more rest : List ℕ) (other : A) → following ≡ more ++ rest → IsTerm (text ++ more) other → more ≡ []

-- ---- triples and lines

abbrev pub AreBlanks : List ℕ → Type 0
AreBlanks text = list_all is_blank text ≡ true

-- triple ::= subject predicate object '.'
-- predicate ::= IRIREF
-- Spaces and tabs may stand between. What is after the triple is on the same line.
pub record IsTriple (text following : List ℕ) (t : Triple) : Type 0 where
  pub subject : List ℕ
  pub predicate : List ℕ
  pub object : List ℕ
  pub after_subject : List ℕ
  pub after_predicate : List ℕ
  pub after_object : List ℕ
  pub form : text
      ≡ subject ++ after_subject ++ predicate ++ after_predicate ++ object ++ after_object ++ codes "."
  pub is_subject : IsLongestMatch IsSubject subject
      (after_subject ++ predicate ++ after_predicate ++ object ++ after_object ++ codes "." ++ following) t.subject
  pub is_predicate : IsLongestMatch IsIri predicate
      (after_predicate ++ object ++ after_object ++ codes "." ++ following) t.predicate
  pub is_object : IsLongestMatch IsObject object (after_object ++ codes "." ++ following) t.object
  pub blank : AreBlanks (after_subject ++ after_predicate ++ after_object)

-- triple?
abbrev pub IsOptionalTriple : List ℕ → List ℕ → Option Triple → Type 0
IsOptionalTriple text following None = text ≡ []
IsOptionalTriple text following (Some t) = IsTriple text following t

-- nothing, or `#` and the rest of the line
abbrev pub IsComment : List ℕ → Type 0
IsComment [] = Unit {0}
IsComment (c ∷ cs) = c ≡ 35

-- a line of a document (section 2, and ntriplesDoc of section 7): spaces and tabs, at most one triple, spaces and
-- tabs, and at most a comment
pub record IsLine (text : List ℕ) (t : Option Triple) : Type 0 where
  pub before_triple : List ℕ
  pub triple : List ℕ
  pub after_triple : List ℕ
  pub comment : List ℕ
  pub form : text ≡ before_triple ++ triple ++ after_triple ++ comment
  pub blank : AreBlanks (before_triple ++ after_triple)
  pub is_triple : IsOptionalTriple triple (after_triple ++ comment) t
  pub is_comment : IsComment comment
