-- What is written of IRIs and of lexical forms is read again.
use Rattle.std.proofs.Common.{◌≡◌, ℕ, ◌+◌, ◌*◌, ◌/◌, ◌%◌, ◌<◌, Bool, true, false, nat_eq, List, [], ◌∷◌, ◌++◌, Some}
use Rattle.std.proofs.Common.{None, inl, inr, refl, sym, ap, ◌∙◌, arith, append_assoc, flat_map}
use Rattle.std.proofs.lemmas.Bool.{cases_lt, cases_eq, lt-ltb, ne_eqb, eqb-true, agree_below_at, both_ways}
use Rattle.std.specs.Char.{digit_value}
use lib.Utf8.{encode, encodes}
use Rattle.ntriples.specs.declared.quoted.QuoteKind.{QuoteKind}
use Rattle.ntriples.specs.declared.quoted.QuoteKind.TheVariants.{Iri, Literal}
use Rattle.ntriples.specs.Characters.{is_iri_character}
use Rattle.ntriples.specs.Reading.{prepended}
use Rattle.ntriples.specs.Parsing.{hex, hex2, hex4, short_code, uchar, literal_escape, closing, is_unescaped}
use Rattle.ntriples.specs.Grammar.{is_scalar, echar}
use Rattle.ntriples.specs.Parsing.{quoted_character, quoted}
use Rattle.ntriples.specs.Written.{upper_digit, code_escape, iri_byte, literal_byte}
use Rattle.ntriples.proofs.QuotedLemmas.{quoted_at}
use Rattle.ntriples.proofs.Pieces.{closed}
use Rattle.ntriples.proofs.Encoded.{piece, iri_high}

-- ---- escapes

digit_again : (d : ℕ) → d < 16 → digit_value (upper_digit d) ≡ d
digit_again d h =
    eqb-true (digit_value (upper_digit d)) d
    (agree_below_at (λ n. nat_eq (digit_value (upper_digit n)) n) (λ n. true) 16 d refl h)

hex_again_at : (c d : ℕ) (rest : List ℕ) → digit_value c ≡ d → d < 16 → hex (c ∷ rest) ≡ Some (d, rest)
unfolding hex
hex_again_at c d rest e h = rw (e, lt-ltb d 16 h) refl

hex_again : (d : ℕ) (rest : List ℕ) → d < 16 → hex (upper_digit d ∷ rest) ≡ Some (d, rest)
hex_again d rest h = hex_again_at (upper_digit d) d rest (digit_again d h) h

hex4_again : (p q r s : ℕ) (rest : List ℕ) → hex (p ∷ q ∷ r ∷ s ∷ rest) ≡ Some (0, q ∷ r ∷ s ∷ rest)
    → hex (q ∷ r ∷ s ∷ rest) ≡ Some (0, r ∷ s ∷ rest) → (c d : ℕ) → hex (r ∷ s ∷ rest) ≡ Some (c, s ∷ rest)
    → hex (s ∷ rest) ≡ Some (d, rest) → hex4 (p ∷ q ∷ r ∷ s ∷ rest) ≡ Some (16 * c + d, rest)
unfolding hex2 hex4
hex4_again p q r s rest hp hq c d hr hs = rw (hp, hq, hr, hs) (ap (λ (n : ℕ). Some (n, rest)) (omega arith))

small_scalar : (c : ℕ) → c < 128 → is_scalar c ≡ true
small_scalar c h = rw (lt-ltb c 0xD800 (omega arith)) refl

short_again : (c : ℕ) (more : List ℕ) → c < 128
    → short_code (48 ∷ 48 ∷ upper_digit (c / 16) ∷ upper_digit (c % 16) ∷ more) ≡ Some (c, more)
unfolding short_code
short_again c more h =
    let number : 16 * (c / 16) + c % 16 ≡ c = omega arith in
    let digits = hex4_again 48 48 (upper_digit (c / 16)) (upper_digit (c % 16)) more (hex_again 0 _ (omega arith))
    (hex_again 0 _ (omega arith)) (c / 16) (c % 16) (hex_again (c / 16) _ (omega arith))
    (hex_again (c % 16) _ (omega arith)) in
    rw digits (rw number (rw (small_scalar c h) refl))

code_again : (c : ℕ) (more : List ℕ) → c < 128
    → uchar (117 ∷ 48 ∷ 48 ∷ upper_digit (c / 16) ∷ upper_digit (c % 16) ∷ more) ≡ Some (c, more)
unfolding uchar
code_again c more h = short_again c more h

-- ---- characters

unescaped_again : (kind : QuoteKind) (c : ℕ) (more : List ℕ) → nat_eq c (closing kind) ≡ false → nat_eq c 92 ≡ false
    → is_unescaped kind c ≡ true → quoted_character kind (c ∷ more) ≡ Some (Some c, more)
unfolding quoted_character
unescaped_again kind c more e f g = rw (e, f, g) refl

not_iri : (c : ℕ) → is_iri_character c ≡ false → (d : ℕ) → is_iri_character d ≡ true → nat_eq d c ≡ false
not_iri c h d k = ne_eqb d c (λ e. both_ways (is_iri_character c) h (ap is_iri_character (sym e) ∙ k))

closing_isn't : is_iri_character 62 ≡ false
unfolding is_iri_character
closing_isn't = refl

backslash_isn't : is_iri_character 92 ≡ false
unfolding is_iri_character
backslash_isn't = refl

escaped_small : (c : ℕ) → is_iri_character c ≡ false → c < 128
escaped_small c h =
    elim (cases_lt c 128) [ inl low ↦ low | inr high ↦ absurd (both_ways (is_iri_character c) h (iri_high c high)) ]

iri_escaped : (c : ℕ) (more : List ℕ) → c < 128 → quoted_character Iri (code_escape c ++ more) ≡ Some (Some c, more)
unfolding quoted_character code_escape
iri_escaped c more h = rw (code_again c more h) refl

iri_again_by : (b : Bool) (c : ℕ) (more : List ℕ) → is_iri_character c ≡ b
    → quoted_character Iri (iri_byte c ++ more) ≡ Some (Some c, more)
unfolding iri_byte
iri_again_by true c more e =
    rw e (unescaped_again Iri c more (not_iri 62 closing_isn't c e) (not_iri 92 backslash_isn't c e) e)
iri_again_by false c more e = rw e (iri_escaped c more (escaped_small c e))

slash_again : (more : List ℕ) → quoted_character Literal (literal_byte 92 ++ more) ≡ Some (Some 92, more)
unfolding literal_byte quoted_character literal_escape echar
slash_again more = refl

quote_again : (more : List ℕ) → quoted_character Literal (literal_byte 34 ++ more) ≡ Some (Some 34, more)
unfolding literal_byte quoted_character literal_escape echar
quote_again more = refl

feed_again : (more : List ℕ) → quoted_character Literal (literal_byte 10 ++ more) ≡ Some (Some 10, more)
unfolding literal_byte quoted_character literal_escape echar
feed_again more = refl

return_again : (more : List ℕ) → quoted_character Literal (literal_byte 13 ++ more) ≡ Some (Some 13, more)
unfolding literal_byte quoted_character literal_escape echar
return_again more = refl

other_again : (c : ℕ) (more : List ℕ) → nat_eq c 92 ≡ false → nat_eq c 34 ≡ false → nat_eq c 10 ≡ false
    → nat_eq c 13 ≡ false → quoted_character Literal (literal_byte c ++ more) ≡ Some (Some c, more)
unfolding literal_byte
other_again c more e f g h = rw (e, f, g, h) (unescaped_again Literal c more f e (rw (g, h) refl))

literal_again : (c : ℕ) (more : List ℕ) → quoted_character Literal (literal_byte c ++ more) ≡ Some (Some c, more)
literal_again c more = elim (cases_eq c 92) [
  | inl e ↦ rw e (slash_again more)
  | inr not92 ↦ elim (cases_eq c 34) [
    | inl e ↦ rw e (quote_again more)
    | inr not34 ↦ elim (cases_eq c 10) [
      | inl e ↦ rw e (feed_again more)
      | inr not10 ↦ elim (cases_eq c 13) [
        | inl e ↦ rw e (return_again more)
        | inr not13 ↦ other_again c more (ne_eqb c 92 not92) (ne_eqb c 34 not34) (ne_eqb c 10 not10) (ne_eqb c 13 not13)
      ]
    ]
  ]
]

piece_again : (kind : QuoteKind) (c : ℕ) (more : List ℕ)
    → quoted_character kind (piece kind c ++ more) ≡ Some (Some c, more)
piece_again Iri c more = iri_again_by (is_iri_character c) c more refl
piece_again Literal c more = literal_again c more

-- ---- the whole

pub quoted_again : (kind : QuoteKind) (cs rest : List ℕ)
    → quoted kind (flat_map (piece kind) cs ++ closing kind ∷ rest) ≡ Some (encodes cs, rest)
quoted_again kind [] rest = quoted_at kind (closing kind ∷ rest) (None, rest) (closed kind rest)
quoted_again kind (c ∷ cs) rest =
    let following : List ℕ = flat_map (piece kind) cs ++ closing kind ∷ rest in
    ap (quoted kind) (append_assoc (piece kind c) (flat_map (piece kind) cs) (closing kind ∷ rest))
    ∙ quoted_at kind (piece kind c ++ following) (Some c, following) (piece_again kind c following)
    ∙ ap (prepended (encode c)) (quoted_again kind cs rest)
