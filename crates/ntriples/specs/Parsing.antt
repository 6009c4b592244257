-- How the productions are read from the left: each function gives the value of the longest prefix of its production, with
-- texts as UTF-8, and the characters after it.
use Rattle.std.specs.Prelude.{ℕ, zero, suc, ◌+◌, ◌*◌, ◌-◌, ◌==◌, nat_lt, if◌then◌else◌, Bool, true, false, ◌&&◌, ◌||◌}
use Rattle.std.specs.Prelude.{not, List, [], ◌∷◌, length, Option, Some, None}
use Rattle.std.specs.Char.{digit_value, encode_utf8}
use Rattle.ntriples.specs.declared.quoted.QuoteKind.{QuoteKind}
use Rattle.ntriples.specs.declared.quoted.QuoteKind.TheVariants.{Iri, Literal}
use Rattle.ntriples.specs.declared.names.Class.{Class}
use Rattle.ntriples.specs.declared.names.Class.TheVariants.{Letters, Alphanumerics, Label, Dots}
use Rattle.ntriples.specs.declared.term.Term.{Term}
use Rattle.ntriples.specs.declared.term.Term.TheVariants as term
use Rattle.ntriples.specs.declared.term.Triple.{Triple}
use Rattle.ntriples.specs.Characters.{is_digit, is_letter, is_pn_chars_u, is_pn_chars, is_iri_character}
use Rattle.ntriples.specs.Grammar.{is_scalar, echar, xsd_string, rdf_lang_string}
use Rattle.ntriples.specs.Reading.{◌>>=◌, onto, prepended, character, following, skip_blanks}

abbrev pub scalar : ℕ → List ℕ → Option (ℕ × List ℕ)
scalar c cs = if is_scalar c then Some (c, cs) else None

-- HEX: a hexadecimal digit in either case
unfoldable pub hex : List ℕ → Option (ℕ × List ℕ)
hex cs = do
  c ← character cs
  if nat_lt (digit_value c.0) 16 then Some (digit_value c.0, c.1) else None

-- two and four of them
unfoldable pub hex2 : List ℕ → Option (ℕ × List ℕ)
hex2 cs = do
  a ← hex cs
  b ← hex a.1
  Some (16 * a.0 + b.0, b.1)

unfoldable pub hex4 : List ℕ → Option (ℕ × List ℕ)
hex4 cs = do
  a ← hex2 cs
  b ← hex2 a.1
  Some (256 * a.0 + b.0, b.1)

-- the scalar value that four and that eight of them name
unfoldable pub short_code : List ℕ → Option (ℕ × List ℕ)
short_code cs = do
  c ← hex4 cs
  scalar c.0 c.1

unfoldable pub long_code : List ℕ → Option (ℕ × List ℕ)
long_code cs = do
  high ← hex4 cs
  low ← hex4 high.1
  scalar (65536 * high.0 + low.0) low.1

-- UCHAR, after its backslash: `u` and four or `U` and eight digits
unfoldable pub uchar : List ℕ → Option (ℕ × List ℕ)
uchar cs = do
  c ← character cs
  if c.0 == 117 then short_code c.1 else if c.0 == 85 then long_code c.1 else None

-- ECHAR or UCHAR, after the backslash
abbrev pub echar_or : Option ℕ → List ℕ → Option (ℕ × List ℕ) → Option (ℕ × List ℕ)
echar_or (Some c) rest other = Some (c, rest)
echar_or None rest other = other

unfoldable pub literal_escape : List ℕ → Option (ℕ × List ℕ)
literal_escape cs = do
  c ← character cs
  echar_or (echar c.0) c.1 (uchar cs)

-- IRIREF is closed by `>`, and STRING_LITERAL_QUOTE by `"`.
abbrev pub closing : QuoteKind → ℕ
closing Iri = 62
closing Literal = 34

-- what stands for itself
abbrev pub is_unescaped : QuoteKind → ℕ → Bool
is_unescaped Iri c = is_iri_character c
is_unescaped Literal c = not (c == 10) && not (c == 13)

abbrev pub escape : QuoteKind → List ℕ → Option (ℕ × List ℕ)
escape Iri cs = uchar cs
escape Literal cs = literal_escape cs

-- what an escape stands for, as the next character of the value
abbrev pub escaped_character : QuoteKind → List ℕ → Option (Option ℕ × List ℕ)
escaped_character kind cs = escape kind cs >>= λ e. Some (Some e.0, e.1)

-- the next character of the value, or none at the closing one
unfoldable pub quoted_character : QuoteKind → List ℕ → Option (Option ℕ × List ℕ)
quoted_character kind cs = do
  c ← character cs
  if c.0 == closing kind then Some (None, c.1)
      else if c.0 == 92 then escaped_character kind c.1
      else if is_unescaped kind c.0 then Some (Some c.0, c.1)
      else None

-- IRIREF or STRING_LITERAL_QUOTE, after the opening character: the value up to the closing one. This count of
-- leading characters is passed over, as they belong to what was read before.
unfoldable pub quoted_from : QuoteKind → ℕ → List ℕ → Option (List ℕ × List ℕ)
quoted_from kind skip [] = None
quoted_from kind (suc skip) (c ∷ cs) = quoted_from kind skip cs
quoted_from kind zero (c ∷ cs) = do
  next ← quoted_character kind (c ∷ cs)
  elim next.0 [
    | None ↦ Some ([], next.1)
    | Some d ↦ prepended (encode_utf8 d) (quoted_from kind (length cs - length next.1) cs)
  ]

abbrev pub quoted : QuoteKind → List ℕ → Option (List ℕ × List ℕ)
quoted kind cs = quoted_from kind 0 cs

-- IRIREF: `<`, and the IRI up to `>`
unfoldable pub iriref : List ℕ → Option (List ℕ × List ℕ)
iriref cs = do
  rest ← following 60 cs
  quoted Iri rest

-- a class of characters
abbrev pub is_in : Class → ℕ → Bool
is_in Letters c = is_letter c
is_in Alphanumerics c = is_letter c || is_digit c
is_in Label c = is_pn_chars c
is_in Dots c = c == 46

abbrev pub begins_in : Class → List ℕ → Bool
begins_in class [] = false
begins_in class (c ∷ cs) = is_in class c

-- as many characters of a class as there are, maybe none
unfoldable pub run : Class → List ℕ → List ℕ × List ℕ
run class [] = ([], [])
run class (c ∷ cs) = if is_in class c then onto (encode_utf8 c) (run class cs) else ([], c ∷ cs)

-- of BLANK_NODE_LABEL what follows its first character: PN_CHARS and `.`, up to the last PN_CHARS
abbrev pub dotted : List ℕ → List ℕ × List ℕ → List ℕ × List ℕ
dotted cs ([], rest) = ([], 46 ∷ cs)
dotted cs (b ∷ bs, rest) = (46 ∷ b ∷ bs, rest)

unfoldable pub label_rest : List ℕ → List ℕ × List ℕ
label_rest [] = ([], [])
label_rest (c ∷ cs) =
    if is_pn_chars c then onto (encode_utf8 c) (label_rest cs)
    else if c == 46 then dotted cs (label_rest cs)
    else ([], c ∷ cs)

-- BLANK_NODE_LABEL: `_:`, PN_CHARS_U or a digit, and the rest
unfoldable pub blank_node_label : List ℕ → Option (List ℕ × List ℕ)
blank_node_label cs = do
  underscore ← following 95 cs
  colon ← following 58 underscore
  c ← character colon
  if is_pn_chars_u c.0 || is_digit c.0 then prepended (encode_utf8 c.0) (Some (label_rest c.1)) else None

-- at least one character of a class
abbrev pub some_of : List ℕ × List ℕ → Option (List ℕ × List ℕ)
some_of ([], rest) = None
some_of (b ∷ bs, rest) = Some (b ∷ bs, rest)

unfoldable pub tag_part : Class → List ℕ → Option (List ℕ × List ℕ)
tag_part part cs = some_of (run part cs)

-- any number of subtags, each with `-` before it; this count of leading characters is passed over
unfoldable pub subtags_from : ℕ → List ℕ → Option (List ℕ × List ℕ)
subtags_from skip [] = Some ([], [])
subtags_from (suc skip) (c ∷ cs) = subtags_from skip cs
subtags_from zero (c ∷ cs) =
    if c == 45 then
    (tag_part Alphanumerics cs >>= λ part. prepended (45 ∷ part.0) (subtags_from (length cs - length part.1) cs))
    else Some ([], c ∷ cs)

-- LANGTAG, after its `@`
unfoldable pub langtag : List ℕ → Option (List ℕ × List ℕ)
langtag cs = do
  primary ← tag_part Letters cs
  prepended primary.0 (subtags_from 0 primary.1)

-- the datatype of a literal, after its first `^`
unfoldable pub datatype : List ℕ → Option (List ℕ × List ℕ)
datatype cs = do
  rest ← following 94 cs
  iriref rest

-- the literal of a language, after its `@`, and that of a datatype, after its first `^`
abbrev pub language_tagged : List ℕ → List ℕ → Option (Term × List ℕ)
language_tagged text cs = langtag cs >>= λ tag. Some (term.Literal text rdf_lang_string (Some tag.0), tag.1)

abbrev pub typed : List ℕ → List ℕ → Option (Term × List ℕ)
typed text cs = datatype cs >>= λ iri. Some (term.Literal text iri.0 None, iri.1)

-- of a literal what follows its closing quote: `@` and LANGTAG, `^^` and IRIREF, or nothing
unfoldable pub literal_suffix : List ℕ → List ℕ → Option (Term × List ℕ)
literal_suffix text [] = Some (term.Literal text xsd_string None, [])
literal_suffix text (c ∷ cs) =
    if c == 64 then language_tagged text cs
    else if c == 94 then typed text cs
    else Some (term.Literal text xsd_string None, c ∷ cs)

-- literal: STRING_LITERAL_QUOTE, and what may follow
unfoldable pub literal : List ℕ → Option (Term × List ℕ)
literal cs = do
  rest ← following 34 cs
  text ← quoted Literal rest
  literal_suffix text.0 text.1

-- subject: IRIREF or BLANK_NODE_LABEL
abbrev pub iri_term : List ℕ → Option (Term × List ℕ)
iri_term cs = iriref cs >>= λ iri. Some (term.Iri iri.0, iri.1)

abbrev pub blank_node : List ℕ → Option (Term × List ℕ)
blank_node cs = blank_node_label cs >>= λ label. Some (term.Blank label.0, label.1)

unfoldable pub subject : List ℕ → Option (Term × List ℕ)
subject cs = do
  c ← character cs
  if c.0 == 95 then blank_node cs else iri_term cs

-- object: IRIREF, BLANK_NODE_LABEL or literal
unfoldable pub object : List ℕ → Option (Term × List ℕ)
object cs = do
  c ← character cs
  if c.0 == 34 then literal cs else subject cs

-- triple: subject, predicate, object and `.`, with spaces and tabs allowed between
unfoldable pub object_end : List ℕ → Option (Term × List ℕ)
object_end cs = do
  o ← object (skip_blanks cs)
  rest ← following 46 (skip_blanks o.1)
  Some (o.0, rest)

unfoldable pub predicate_object : List ℕ → Option ((List ℕ × Term) × List ℕ)
predicate_object cs = do
  p ← iriref (skip_blanks cs)
  o ← object_end p.1
  Some ((p.0, o.0), o.1)

unfoldable pub triple : List ℕ → Option (Triple × List ℕ)
triple cs = do
  s ← subject cs
  p ← predicate_object s.1
  Some (record { subject = s.0; predicate = p.0.0; object = p.0.1 }, p.1)

-- nothing more, or a comment
abbrev pub is_end : List ℕ → Bool
is_end [] = true
is_end (c ∷ cs) = c == 35

unfoldable pub triple_alone : List ℕ → Option Triple
triple_alone cs = do
  t ← triple cs
  if is_end (skip_blanks t.1) then Some t.0 else None

-- a line: at most one triple, and at most a comment, with spaces and tabs around
unfoldable pub line : List ℕ → Option (Option Triple)
line cs =
    if is_end (skip_blanks cs) then Some None
    else triple_alone (skip_blanks cs) >>= λ t. Some (Some t)
