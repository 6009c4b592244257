-- The text of triples in RDF 1.1 N-Triples, one line each, with as few escapes as the grammar allows: the canonical form
-- of section 4, except that a character that IRIREF does not allow is written as UCHAR.
use Rattle.std.specs.Prelude.{ℕ, ◌+◌, ◌/◌, ◌%◌, ◌==◌, nat_lt, if◌then◌else◌, List, [], ◌∷◌, ◌++◌, Option, Some}
use Rattle.std.specs.Prelude.{None, codes}
use Rattle.std.specs.List.{flat_map}
use Rattle.std.specs.Str.{bytes_eq}
use Rattle.ntriples.specs.declared.term.Term.{Term}
use Rattle.ntriples.specs.declared.term.Term.TheVariants.{Iri, Blank, Literal}
use Rattle.ntriples.specs.declared.term.Triple.{Triple}
use Rattle.ntriples.specs.Characters.{is_iri_character}
use Rattle.ntriples.specs.Grammar.{xsd_string}
use Rattle.ntriples.specs.Document.{IsLineOf}

-- a hexadecimal digit in upper case
abbrev pub upper_digit : ℕ → ℕ
upper_digit d = if nat_lt d 10 then 48 + d else 55 + d

-- UCHAR of a character below 256: `\u00` and two digits
unfoldable pub code_escape : ℕ → List ℕ
code_escape c = codes "\\u00" ++ upper_digit (c / 16) ∷ upper_digit (c % 16) ∷ []

-- a character that an IRI may not hold is written as UCHAR; all of it is ASCII
unfoldable pub iri_byte : ℕ → List ℕ
iri_byte b = if is_iri_character b then b ∷ [] else code_escape b

-- a character that a literal may not hold is written as ECHAR
unfoldable pub literal_byte : ℕ → List ℕ
literal_byte b =
    if b == 92 then codes "\\\\" else if b == 34 then codes "\\\"" else if b == 10 then codes "\\n"
    else if b == 13 then codes "\\r" else b ∷ []

unfoldable pub iri_text : List ℕ → List ℕ
iri_text iri = codes "<" ++ flat_map iri_byte iri ++ codes ">"

unfoldable pub quoted_text : List ℕ → List ℕ
quoted_text text = codes "\"" ++ flat_map literal_byte text ++ codes "\""

unfoldable pub typed_text : List ℕ → List ℕ
typed_text datatype = codes "^^" ++ iri_text datatype

-- the datatype of strings isn't written
unfoldable pub suffix_text : List ℕ → Option (List ℕ) → List ℕ
suffix_text datatype (Some tag) = codes "@" ++ tag
suffix_text datatype None = if bytes_eq datatype xsd_string then [] else typed_text datatype

unfoldable pub term_text : Term → List ℕ
term_text (Iri iri) = iri_text iri
term_text (Blank label) = codes "_:" ++ label
term_text (Literal text datatype tag) = quoted_text text ++ suffix_text datatype tag

unfoldable pub triple_text : Triple → List ℕ
triple_text t = term_text t.subject ++ codes " " ++ iri_text t.predicate ++ codes " " ++ term_text t.object
    ++ codes " .\n"

-- each triple on a line
abbrev pub document_text : List Triple → List ℕ
document_text ts = flat_map triple_text ts

-- some line is of the triple
pub record CanBeRead (t : Triple) : Type 0 where
  pub line : List ℕ
  pub gives : IsLineOf line (Some t)
