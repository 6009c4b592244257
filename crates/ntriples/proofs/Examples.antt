-- Worked documents and lines. Reading them from the left computes, and so they are of the form, or of none.
use Rattle.std.proofs.Common.{◌≡◌, ℕ, List, [], ◌∷◌, ◌++◌, Option, Some, None, refl, codes}
use Rattle.std.specs.Char.{encode_utf8}
use Rattle.std.specs.Str.{is_utf8, chars}
use Rattle.ntriples.specs.declared.term.Term.{Term}
use Rattle.ntriples.specs.declared.term.Term.TheVariants.{Iri, Blank, Literal}
use Rattle.ntriples.specs.declared.term.Triple.{Triple}
use Rattle.ntriples.specs.Characters.{is_pn_chars_base, is_pn_chars_u, is_pn_chars, is_iri_character}
use Rattle.ntriples.specs.Reading.{skip_blanks}
use Rattle.ntriples.specs.Parsing.{hex, hex2, hex4, short_code, long_code, uchar, literal_escape, quoted_character}
use Rattle.ntriples.specs.Grammar.{echar}
use Rattle.ntriples.specs.Parsing.{quoted_from, iriref, run, label_rest, blank_node_label, tag_part, subtags_from}
use Rattle.ntriples.specs.Parsing.{langtag, literal_suffix, literal, subject, object}
use Rattle.ntriples.specs.Grammar.{xsd_string, rdf_lang_string}
use Rattle.ntriples.specs.Parsing.{object_end, predicate_object, triple, triple_alone, line}
use Rattle.ntriples.specs.Document.{lines, IsLineOf, IsDocument, IsFirstBadLine}
use Rattle.ntriples.specs.ParsedLines.{line_of, triples_of}
use Rattle.ntriples.specs.Written.{iri_byte, literal_byte, iri_text, quoted_text, suffix_text, term_text, triple_text}
use Rattle.ntriples.specs.Written.{document_text}
use Rattle.ntriples.proofs.Lines.{line_form, line_no_form}
use Rattle.ntriples.proofs.DocumentForms.{triples_form}

abbrev about : List ℕ → List ℕ → Term → Triple
about subject predicate object = record { subject = Iri subject; predicate = predicate; object = object }

-- U+1F600 in UTF-8
abbrev smile : List ℕ
smile = 0xF0 ∷ 0x9F ∷ 0x98 ∷ 0x80 ∷ []

abbrev two_triples : List Triple
two_triples = about (codes "a") (codes "b") (Literal (codes "x") xsd_string None)
    ∷ about (codes "a") (codes "b") (Literal smile xsd_string None) ∷ []

-- two lines, the first with a comment and ended by CR LF, the last without an end
two_lines : IsDocument (codes "<a> <b> \"x\" . # note\r\n<a> <b> \"\\U0001F600\" .") two_triples
unfolding lines line_of triples_of is_utf8 chars encode_utf8 skip_blanks is_iri_character hex hex2 hex4 long_code uchar
    echar literal_escape quoted_character quoted_from iriref literal_suffix literal subject object object_end
    predicate_object triple triple_alone
    line
two_lines = triples_form (lines (codes "<a> <b> \"x\" . # note\r\n<a> <b> \"\\U0001F600\" .")) two_triples refl

two_written : document_text two_triples ≡ codes "<a> <b> \"x\" .\n<a> <b> \"" ++ smile ++ codes "\" .\n"
unfolding iri_byte literal_byte iri_text quoted_text suffix_text term_text triple_text is_iri_character
two_written = refl

nothing : IsDocument [] []
unfolding lines line_of triples_of is_utf8 chars skip_blanks line
nothing = triples_form (lines []) [] refl

-- a line has no form where it is read as none
abbrev HasNoForm : List ℕ → Type 0
HasNoForm bytes = (t : Option Triple) → IsLineOf bytes t → ⊥

surrogate : HasNoForm (codes "<a> <b> \"\\uD800\" .")
unfolding line_of is_utf8 chars encode_utf8 skip_blanks is_iri_character hex hex2 hex4 short_code uchar echar
    literal_escape quoted_character quoted_from iriref literal subject object object_end predicate_object triple
    triple_alone line
surrogate = line_no_form (codes "<a> <b> \"\\uD800\" .") refl

-- a dot inside a label belongs to it, and one after it doesn't
abbrev dotted_label : Triple
dotted_label = record { subject = Blank (codes "a"); predicate = codes "p"; object = Blank (codes "b.c") }

label_with_dot : IsLineOf (codes "_:a <p> _:b.c .") (Some dotted_label)
unfolding line_of is_utf8 chars encode_utf8 skip_blanks is_iri_character is_pn_chars_base is_pn_chars_u is_pn_chars
    quoted_character quoted_from iriref label_rest blank_node_label subject object object_end predicate_object triple
    triple_alone line
label_with_dot = line_form (codes "_:a <p> _:b.c .") (Some dotted_label) refl

dot_after_label : HasNoForm (codes "_:a <p> _:b. .")
unfolding line_of is_utf8 chars encode_utf8 skip_blanks is_iri_character is_pn_chars_base is_pn_chars_u is_pn_chars
    quoted_character quoted_from iriref label_rest blank_node_label subject object object_end predicate_object triple
    triple_alone line
dot_after_label = line_no_form (codes "_:a <p> _:b. .") refl

language : IsLineOf (codes "<a> <p> \"x\"@en-GB.")
    (Some (about (codes "a") (codes "p") (Literal (codes "x") rdf_lang_string (Some (codes "en-GB")))))
unfolding line_of is_utf8 chars encode_utf8 skip_blanks is_iri_character quoted_character quoted_from iriref run
    tag_part subtags_from langtag literal_suffix literal subject object object_end predicate_object triple triple_alone
    line
language = line_form (codes "<a> <p> \"x\"@en-GB.")
    (Some (about (codes "a") (codes "p") (Literal (codes "x") rdf_lang_string (Some (codes "en-GB"))))) refl

-- CR LF is one line end, LF CR are two, and so are CR CR
line_ends : lines (codes "a\r\nb\n\rc\r\rd\n") ≡ codes "a" ∷ codes "b" ∷ [] ∷ codes "c" ∷ [] ∷ codes "d" ∷ [] ∷ []
unfolding lines
line_ends = refl

-- `"x` and `" .` on two lines: the first is the bad one
raw_line_end : IsFirstBadLine (codes "<a> <b> \"x\n\" .") 1
unfolding lines line_of triples_of is_utf8 chars encode_utf8 skip_blanks is_iri_character quoted_character quoted_from
    iriref literal subject object object_end predicate_object triple triple_alone line
raw_line_end =
    record {
      before = [];
      bad = codes "<a> <b> \"x";
      following = codes "\" ." ∷ [];
      cut = refl;
      good = ([], refl);
      malformed = line_no_form (codes "<a> <b> \"x") refl;
      counted = refl;
    }
