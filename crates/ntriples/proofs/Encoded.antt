-- What `write` makes of the UTF-8 of characters, byte by byte, is the UTF-8 of what it makes of each character.
use Rattle.std.proofs.Common.{◌≡◌, ℕ, suc, ◌<◌, ◌≤◌, Bool, true, ◌&&◌, not, nat_lt, List, [], ◌∷◌, ◌++◌, length}
use Rattle.std.proofs.Common.{get_or, inl, inr, refl, sym, ap, ap₂, ◌∙◌, arith, flat_map}
use Rattle.std.proofs.lemmas.List.{append-nil}
use Rattle.std.proofs.lemmas.List.Concat.{flat_map-append}
use Rattle.std.proofs.lemmas.Bool.{and_parts, and_from, cases_lt, ltb-true, lt-ltb, le-ltb, ne_eqb, agree_below_at}
use Rattle.std.proofs.lemmas.Str.{encode_ascii, inside_one, encodes-append}
use lib.Utf8.{scalar, scalars, encode, encodes}
use Rattle.ntriples.specs.declared.quoted.QuoteKind.{QuoteKind}
use Rattle.ntriples.specs.declared.quoted.QuoteKind.TheVariants.{Iri, Literal}
use Rattle.ntriples.specs.Characters.{is_iri_character}
use Rattle.ntriples.specs.Document.{is_line_end}
use Rattle.ntriples.specs.Written.{code_escape, iri_byte, literal_byte}

abbrev pub piece : QuoteKind → ℕ → List ℕ
piece Iri = iri_byte
piece Literal = literal_byte

abbrev pub are_ascii : List ℕ → Bool
are_ascii [] = true
are_ascii (b ∷ bs) = nat_lt b 128 && are_ascii bs

abbrev pub are_high : List ℕ → Bool
are_high [] = true
are_high (b ∷ bs) = not (nat_lt b 128) && are_high bs

-- no line end is among them
abbrev pub no_ends : List ℕ → Bool
no_ends [] = true
no_ends (b ∷ bs) = not (is_line_end b) && no_ends bs

-- ---- lists

pub scalars-append : (xs ys : List ℕ) → scalars xs ≡ true → scalars ys ≡ true → scalars (xs ++ ys) ≡ true
scalars-append [] ys h k = k
scalars-append (x ∷ xs) ys h k = let p = and_parts (scalar x) (scalars xs) h in
    and_from (scalar x) (scalars (xs ++ ys)) p.0 (scalars-append xs ys p.1 k)

pub no_ends-append : (xs ys : List ℕ) → no_ends xs ≡ true → no_ends ys ≡ true → no_ends (xs ++ ys) ≡ true
no_ends-append [] ys h k = k
no_ends-append (x ∷ xs) ys h k = let p = and_parts (not (is_line_end x)) (no_ends xs) h in
    and_from (not (is_line_end x)) (no_ends (xs ++ ys)) p.0 (no_ends-append xs ys p.1 k)

high_head : (b : ℕ) (bs : List ℕ) → are_high (b ∷ bs) ≡ true → (128 ≤ b) × (are_high bs ≡ true)
high_head b bs h = let p = and_parts (not (nat_lt b 128)) (are_high bs) h in (not_below b p.0, p.1)
  where
    not_below : (b : ℕ) → not (nat_lt b 128) ≡ true → 128 ≤ b
    not_below b h = grind arith

high_byte : (b : ℕ) → 128 ≤ b → not (nat_lt b 128) ≡ true
high_byte b h = rw (le-ltb b 128 h) refl

high_from : (bs : List ℕ) → ((k : ℕ) → k < length bs → 128 ≤ get_or bs k 0) → are_high bs ≡ true
high_from [] h = refl
high_from (b ∷ bs) h = and_from (not (nat_lt b 128)) (are_high bs) (high_byte b (h 0 (omega arith)))
    (high_from bs (λ k below. h (suc k) (omega arith)))

high_encode : (c : ℕ) → 128 ≤ c → are_high (encode c) ≡ true
high_encode c h = high_from (encode c) (λ k below. elim (cases_lt (get_or (encode c) k 0) 128) [
  | inl low ↦ absurd (omega (arith, inside_one c [] (encode c) k (sym (append-nil (encode c))) below low))
  | inr high ↦ high
])

ascii_encodes : (bs : List ℕ) → are_ascii bs ≡ true → encodes bs ≡ bs
ascii_encodes [] h = refl
ascii_encodes (b ∷ bs) h = let p = and_parts (nat_lt b 128) (are_ascii bs) h in
    ap₂ (λ (x y : List ℕ). x ++ y) (encode_ascii b (ltb-true b 128 p.0)) (ascii_encodes bs p.1)

-- ---- what is made of one character

is_good : List ℕ → Bool
is_good text = are_ascii text && (no_ends text && scalars text)

iri_table : (c : ℕ) → c < 128 → is_good (iri_byte c) ≡ true
unfolding iri_byte code_escape is_iri_character is_good
iri_table c h = agree_below_at (λ n. is_good (iri_byte n)) (λ n. true) 128 c refl h

literal_table : (c : ℕ) → c < 128 → is_good (literal_byte c) ≡ true
unfolding literal_byte is_good
literal_table c h = agree_below_at (λ n. is_good (literal_byte n)) (λ n. true) 128 c refl h

pub iri_high : (c : ℕ) → 128 ≤ c → is_iri_character c ≡ true
unfolding is_iri_character
iri_high c h =
    rw (
      lt-ltb 32 c (omega arith),
      ne_eqb c 60 (λ e. omega arith),
      ne_eqb c 62 (λ e. omega arith),
      ne_eqb c 34
          (λ e. omega arith),
      ne_eqb c 123 (λ e. omega arith),
      ne_eqb c 125 (λ e. omega arith),
      ne_eqb c 124
          (λ e. omega arith),
      ne_eqb c 94 (λ e. omega arith),
      ne_eqb c 96 (λ e. omega arith),
      ne_eqb c 92
          (λ e. omega arith),
    ) refl

piece_high : (kind : QuoteKind) (c : ℕ) → 128 ≤ c → piece kind c ≡ c ∷ []
unfolding iri_byte literal_byte
piece_high Iri c h = rw (iri_high c h) refl
piece_high Literal c h =
    rw (
      ne_eqb c 92 (λ e. omega arith),
      ne_eqb c 34 (λ e. omega arith),
      ne_eqb c 10 (λ e. omega arith),
      ne_eqb c 13
          (λ e. omega arith),
    ) refl

piece_good : (kind : QuoteKind) (c : ℕ) → c < 128 → is_good (piece kind c) ≡ true
piece_good Iri c h = iri_table c h
piece_good Literal c h = literal_table c h

good_parts : (text : List ℕ) → is_good text ≡ true
    → (are_ascii text ≡ true) × (no_ends text ≡ true) × (scalars text ≡ true)
unfolding is_good
good_parts text h = let p = and_parts (are_ascii text) (no_ends text && scalars text) h in let q =
    and_parts (no_ends text) (scalars text) p.1 in (p.0, q.0, q.1)

high_no_end : (b : ℕ) → 128 ≤ b → not (is_line_end b) ≡ true
high_no_end b h = rw (ne_eqb b 10 (λ e. omega arith), ne_eqb b 13 (λ e. omega arith)) refl

pieces_high : (kind : QuoteKind) (bs : List ℕ) → are_high bs ≡ true → flat_map (piece kind) bs ≡ bs
pieces_high kind [] h = refl
pieces_high kind (b ∷ bs) h = let p = high_head b bs h in
    ap₂ (λ (x y : List ℕ). x ++ y) (piece_high kind b p.0) (pieces_high kind bs p.1)

no_ends_high : (bs : List ℕ) → are_high bs ≡ true → no_ends bs ≡ true
no_ends_high [] h = refl
no_ends_high (b ∷ bs) h = let p = high_head b bs h in
    and_from (not (is_line_end b)) (no_ends bs) (high_no_end b p.0) (no_ends_high bs p.1)

piece_encodes : (kind : QuoteKind) (c : ℕ) → encodes (piece kind c) ≡ flat_map (piece kind) (encode c)
piece_encodes kind c = elim (cases_lt c 128) [
  | inl low ↦ ascii_encodes (piece kind c) (good_parts (piece kind c) (piece_good kind c low)).0
      ∙ sym (append-nil (piece kind c)) ∙ ap (flat_map (piece kind)) (sym (encode_ascii c low))
  | inr high ↦ ap encodes (piece_high kind c high) ∙ append-nil (encode c)
      ∙ sym (pieces_high kind (encode c) (high_encode c high))
]

piece_no_ends : (kind : QuoteKind) (c : ℕ) → no_ends (piece kind c) ≡ true
piece_no_ends kind c = elim (cases_lt c 128) [
  | inl low ↦ (good_parts (piece kind c) (piece_good kind c low)).1
  | inr high ↦ ap no_ends (piece_high kind c high) ∙ and_from (not (is_line_end c)) true (high_no_end c high) refl
]

piece_scalars : (kind : QuoteKind) (c : ℕ) → scalar c ≡ true → scalars (piece kind c) ≡ true
piece_scalars kind c h = elim (cases_lt c 128) [
  | inl low ↦ (good_parts (piece kind c) (piece_good kind c low)).2
  | inr high ↦ ap scalars (piece_high kind c high) ∙ and_from (scalar c) true h refl
]

-- ---- what is made of many

pub pieces_encodes : (kind : QuoteKind) (cs : List ℕ)
    → encodes (flat_map (piece kind) cs) ≡ flat_map (piece kind) (encodes cs)
pieces_encodes kind [] = refl
pieces_encodes kind (c ∷ cs) =
    encodes-append (piece kind c) (flat_map (piece kind) cs)
    ∙ ap₂ (λ (x y : List ℕ). x ++ y) (piece_encodes kind c) (pieces_encodes kind cs)
    ∙ sym (flat_map-append (piece kind) (encode c) (encodes cs))

pub pieces_no_ends : (kind : QuoteKind) (cs : List ℕ) → no_ends (flat_map (piece kind) cs) ≡ true
pieces_no_ends kind [] = refl
pieces_no_ends kind (c ∷ cs) = no_ends-append (piece kind c) (flat_map (piece kind) cs) (piece_no_ends kind c)
    (pieces_no_ends kind cs)

pub pieces_scalars : (kind : QuoteKind) (cs : List ℕ) → scalars cs ≡ true → scalars (flat_map (piece kind) cs) ≡ true
pieces_scalars kind [] h = refl
pieces_scalars kind (c ∷ cs) h =
    let p = and_parts (scalar c) (scalars cs) h in
    scalars-append (piece kind c) (flat_map (piece kind) cs) (piece_scalars kind c p.0) (pieces_scalars kind cs p.1)

no_ends_encode : (c : ℕ) → not (is_line_end c) ≡ true → no_ends (encode c) ≡ true
no_ends_encode c h = elim (cases_lt c 128) [
  | inl low ↦ ap no_ends (encode_ascii c low) ∙ and_from (not (is_line_end c)) true h refl
  | inr high ↦ no_ends_high (encode c) (high_encode c high)
]

pub no_ends_encodes : (cs : List ℕ) → no_ends cs ≡ true → no_ends (encodes cs) ≡ true
no_ends_encodes [] h = refl
no_ends_encodes (c ∷ cs) h =
    let p = and_parts (not (is_line_end c)) (no_ends cs) h in
    no_ends-append (encode c) (encodes cs) (no_ends_encode c p.0) (no_ends_encodes cs p.1)
