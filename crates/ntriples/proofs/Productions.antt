-- Worked texts of each production, put together by hand from what the definitions say.
use Rattle.std.proofs.Common.{◌≡◌, ℕ, List, [], ◌∷◌, ◌++◌, Some, None, true, inl, inr, refl, ap}
use Rattle.std.proofs.Common.{sym, ◌∙◌, drop, arith, codes}
use Rattle.std.proofs.lemmas.Bool.{both_ways}
use Rattle.std.specs.Char.{encode_utf8}
use Rattle.ntriples.specs.declared.term.Term.TheVariants.{Iri, Blank, Literal}
use Rattle.ntriples.specs.Characters.{is_pn_chars_base, is_pn_chars_u, is_pn_chars, is_iri_character}
use Rattle.ntriples.specs.Grammar.{is_scalar, IsUchar, echar, IsEchar, IsIri, IsString, IsLabel, IsLanguage, IsSubject}
use Rattle.ntriples.specs.Grammar.{IsObject, hex_number, xsd_string, rdf_lang_string}

-- UCHAR of four digits, in either case, and of eight
short_escape : IsUchar (codes "\\u00eF") 0xEF
short_escape =
    record { digits = codes "00eF"; form = inl (refl, refl); hexadecimal = refl; named = refl; scalar = refl }

long_escape : IsUchar (codes "\\U0001F600") 0x1F600
long_escape =
    record { digits = codes "0001F600"; form = inr (refl, refl); hexadecimal = refl; named = refl; scalar = refl }

abbrev second : List ℕ → ℕ
second [] = 0
second (a ∷ []) = 0
second (a ∷ b ∷ cs) = b

-- a surrogate is named by none
no_surrogate : (c : ℕ) → IsUchar (codes "\\uD800") c → ⊥
no_surrogate c u = elim u.form [
  | inl p ↦ no_scalar (u.named ∙ ap hex_number (sym (ap (drop 2) p.0))) u.scalar
  | inr p ↦ absurd (omega (arith, ap second p.0))
]
  where
    no_scalar : c ≡ 0xD800 → is_scalar c ≡ true → ⊥
    no_scalar e h = both_ways (is_scalar 0xD800) refl (ap is_scalar (sym e) ∙ h)

-- ECHAR
tab_escape : IsEchar (codes "\\t") 9
unfolding echar
tab_escape = (116, refl, refl)

-- IRIREF: a character, and an escape of one that may not stand there
an_iri : IsIri (codes "<a\\u003E>") (codes "a>")
unfolding is_iri_character encode_utf8
an_iri =
    record {
      inside = codes "a\\u003E";
      characters = 97 ∷ 62 ∷ [];
      form = refl;
      pieces = (
        codes "a",
        codes "\\u003E",
        refl,
        inl (refl, refl),
        (
          codes "\\u003E",
          [],
          refl,
          inr (record {
            digits = codes "003E";
            form = inl (refl, refl);
            hexadecimal = refl;
            named = refl;
            scalar = refl;
          }),
          refl,
        ),
      );
      named = refl;
    }

-- STRING_LITERAL_QUOTE: an escaped quote, and a character of two bytes
abbrev e_acute : List ℕ
e_acute = 0xE9 ∷ []

a_string : IsString (codes "\"\\\"" ++ e_acute ++ codes "\"") (codes "\"" ++ 0xC3 ∷ 0xA9 ∷ [])
unfolding echar encode_utf8
a_string =
    record {
      inside = codes "\\\"" ++ e_acute;
      characters = 34 ∷ 0xE9 ∷ [];
      form = refl;
      pieces = (codes "\\\"", e_acute, refl, inr (inl (34, refl, refl)), (e_acute, [], refl, inl (refl, refl), refl));
      named = refl;
    }

-- BLANK_NODE_LABEL: a digit first, and dots inside
a_label : IsLabel (codes "_:0..b") (codes "0..b")
unfolding is_pn_chars is_pn_chars_u is_pn_chars_base encode_utf8
a_label =
    record {
      first = 48;
      rest = codes "..b";
      form = refl;
      begins = refl;
      goes_on = inr (codes "..", 98, refl, refl, refl);
      named = refl;
    }

-- LANGTAG
a_language : IsLanguage (codes "@de-AT-1996") (codes "de-AT-1996")
unfolding encode_utf8
a_language =
    record {
      primary = codes "de";
      subtags = codes "AT" ∷ codes "1996" ∷ [];
      form = refl;
      letters = refl;
      alphanumerics = refl;
      named = refl;
    }

-- a string alone, with a datatype, and with a language
x : IsString (codes "\"x\"") (codes "x")
unfolding encode_utf8
x =
    record {
      inside = codes "x";
      characters = codes "x";
      form = refl;
      pieces = (codes "x", [], refl, inl (refl, refl), refl);
      named = refl;
    }

t : IsIri (codes "<t>") (codes "t")
unfolding is_iri_character encode_utf8
t =
    record {
      inside = codes "t";
      characters = codes "t";
      form = refl;
      pieces = (codes "t", [], refl, inl (refl, refl), refl);
      named = refl;
    }

alone : IsObject (codes "\"x\"") (Literal (codes "x") xsd_string None)
alone = inl (x, refl)

typed : IsObject (codes "\"x\"^^<t>") (Literal (codes "x") (codes "t") None)
typed = inr (record { quoted = codes "\"x\""; suffix = codes "<t>"; form = refl; string = x; iri = t })

tagged : IsObject (codes "\"x\"@de-AT-1996") (Literal (codes "x") rdf_lang_string (Some (codes "de-AT-1996")))
tagged =
    record {
      quoted = codes "\"x\"";
      suffix = codes "@de-AT-1996";
      form = refl;
      string = x;
      language = a_language;
      typed = refl;
    }

-- an IRI and a label are subjects and objects
as_subjects : IsSubject (codes "<t>") (Iri (codes "t")) × IsSubject (codes "_:0..b") (Blank (codes "0..b"))
as_subjects = (t, a_label)

as_objects : IsObject (codes "<t>") (Iri (codes "t")) × IsObject (codes "_:0..b") (Blank (codes "0..b"))
as_objects = (t, a_label)
