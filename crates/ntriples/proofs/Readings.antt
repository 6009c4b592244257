-- What a production reads of scalar values is made of scalar values, and so is what it leaves.
use Rattle.std.proofs.Common.{◌≡◌, ℕ, zero, suc, ◌+◌, ◌*◌, ◌-◌, ◌<◌, Bool, true, false, cond, ◌&&◌, nat_lt, nat_eq}
use Rattle.std.proofs.Common.{List, [], ◌∷◌, ◌++◌, length, Option, Some, None, inl, inr, refl, sym, ap, ◌∙◌, arith}
use Rattle.std.proofs.Common.{IfSome, IsUtf8}
use Rattle.std.proofs.lemmas.Bool.{and_parts, or_cases, ltb-true}
use Rattle.std.proofs.lemmas.Str.{IsUtf8-append, IsUtf8-encode, IsUtf8-nil}
use Rattle.std.specs.Char.{encode_utf8, IsScalar}
use lib.Utf8.{scalars, low_scalar}
use lib.Utf8 as text
use Rattle.ntriples.specs.declared.quoted.QuoteKind.{QuoteKind}
use Rattle.ntriples.specs.declared.quoted.QuoteKind.TheVariants.{Iri, Literal}
use Rattle.ntriples.specs.Reading.{◌>>=◌, prepended, character, following}
use Rattle.ntriples.specs.Parsing.{hex4, scalar, short_code, long_code, uchar, echar_or}
use Rattle.ntriples.specs.Grammar.{is_scalar, echar}
use Rattle.ntriples.specs.Parsing.{literal_escape, closing, is_unescaped, escape, quoted_character, quoted_from, quoted}
use Rattle.ntriples.specs.Parsing.{iriref}
use Rattle.ntriples.proofs.Suffixes.{EndsWith, Ends, hex4_ends}

abbrev pub Makes : {A : Type 0} → (A → Type 0) → Option (A × List ℕ) → Type 0
Makes P None = Unit {0}
Makes P (Some x) = P x.0 × (scalars x.1 ≡ true)

abbrev pub Anything : {A : Type 0} → A → Type 0
Anything x = Unit {0}

pub makes_bind : {A B : Type 0} (P : A → Type 0) (Q : B → Type 0) (r : Option (A × List ℕ)) (f : A × List ℕ
    → Option (B × List ℕ)) → Makes P r → ((x : A × List ℕ) → P x.0 → scalars x.1 ≡ true → Makes Q (f x))
    → Makes Q (r >>= f)
makes_bind P Q None f h k = tt
makes_bind P Q (Some x) f h k = k x h.0 h.1

pub makes_cond : {A : Type 0} (P : A → Type 0) (b : Bool) (x y : Option (A × List ℕ)) → (b ≡ true → Makes P x)
    → (b ≡ false → Makes P y) → Makes P (cond b x y)
makes_cond P true x y h k = h refl
makes_cond P false x y h k = k refl

following_by : {B : Type 0} (Q : B → Type 0) (b : Bool) (cs : List ℕ) (f : List ℕ → Option (B × List ℕ))
    → scalars cs ≡ true → ((rest : List ℕ) → scalars rest ≡ true → Makes Q (f rest))
    → Makes Q ((cond b (Some cs) None) >>= f)
following_by Q true cs f h k = k cs h
following_by Q false cs f h k = tt

pub makes_following : {B : Type 0} (Q : B → Type 0) (expected : ℕ) (cs : List ℕ) (f : List ℕ → Option (B × List ℕ))
    → scalars cs ≡ true → ((rest : List ℕ) → scalars rest ≡ true → Makes Q (f rest)) → Makes Q (following expected cs >>= f)
makes_following Q expected [] f h k = tt
makes_following Q expected (c ∷ cs) f h k = following_by Q (nat_eq c expected) cs f (and_parts (text.scalar c) (scalars cs) h).1 k

pub character_makes : (cs : List ℕ) → scalars cs ≡ true → Makes IsScalar (character cs)
character_makes [] h = tt
character_makes (c ∷ cs) h = and_parts (text.scalar c) (scalars cs) h

scalars_following : (prefix rest : List ℕ) → scalars (prefix ++ rest) ≡ true → scalars rest ≡ true
scalars_following [] rest h = h
scalars_following (c ∷ prefix) rest h = scalars_following prefix rest (and_parts (text.scalar c) (scalars (prefix ++ rest)) h).1

scalars_end : (cs rest : List ℕ) → EndsWith cs rest → scalars cs ≡ true → scalars rest ≡ true
scalars_end cs rest p h = scalars_following p.prefix rest (ap scalars (sym p.parts) ∙ h)

ends_make : {A : Type 0} (cs : List ℕ) (r : Option (A × List ℕ)) → Ends cs r → scalars cs ≡ true → Makes Anything r
ends_make cs None p h = tt
ends_make cs (Some x) p h = (tt, scalars_end cs x.1 p h)

-- ---- escapes

scalar_from : (c : ℕ) → is_scalar c ≡ true → IsScalar c
scalar_from c h = elim (or_cases (nat_lt c 0xD800) (nat_lt 0xDFFF c && nat_lt c 0x11_0000) h) [
  | inl low ↦ low_scalar c (ltb-true c 0xD800 low)
  | inr p ↦ high_scalar c (and_parts (nat_lt 0xDFFF c) (nat_lt c 0x11_0000) p)
]
  where
    high_scalar : (c : ℕ) → (nat_lt 0xDFFF c ≡ true) × (nat_lt c 0x11_0000 ≡ true) → IsScalar c
    high_scalar c p =
        let above : 0xDFFF < c = ltb-true 0xDFFF c p.0 in
        let below : c < 0x11_0000 = ltb-true c 0x11_0000 p.1 in
        grind arith

scalar_makes : (c : ℕ) (cs : List ℕ) → scalars cs ≡ true → Makes IsScalar (scalar c cs)
scalar_makes c cs h = makes_cond IsScalar (is_scalar c) (Some (c, cs)) None (λ e. (scalar_from c e, h)) (λ e. tt)

hex4_makes : (cs : List ℕ) → scalars cs ≡ true → Makes Anything (hex4 cs)
hex4_makes cs h = ends_make cs (hex4 cs) (hex4_ends cs) h

short_code_makes : (cs : List ℕ) → scalars cs ≡ true → Makes IsScalar (short_code cs)
unfolding short_code
short_code_makes cs h = makes_bind Anything IsScalar (hex4 cs) _ (hex4_makes cs h) (λ c any k. scalar_makes c.0 c.1 k)

long_code_makes : (cs : List ℕ) → scalars cs ≡ true → Makes IsScalar (long_code cs)
unfolding long_code
long_code_makes cs h =
    makes_bind Anything IsScalar (hex4 cs) _ (hex4_makes cs h) (λ high any k.
    makes_bind Anything IsScalar (hex4 high.1) _ (hex4_makes high.1 k)
    (λ low also m. scalar_makes (65536 * high.0 + low.0) low.1 m))

uchar_makes : (cs : List ℕ) → scalars cs ≡ true → Makes IsScalar (uchar cs)
unfolding uchar
uchar_makes cs h =
    makes_bind IsScalar IsScalar (character cs) _ (character_makes cs h) (λ c s k.
    makes_cond IsScalar (nat_eq c.0 117) (short_code c.1) (cond (nat_eq c.0 85) (long_code c.1) None)
    (λ e. short_code_makes c.1 k)
    (λ e. makes_cond IsScalar (nat_eq c.0 85) (long_code c.1) None (λ f. long_code_makes c.1 k) (λ f. tt)))

some_cond : (b : Bool) (d : ℕ) (other : Option ℕ) → IsScalar d → IfSome other IsScalar
    → IfSome (cond b (Some d) other) IsScalar
some_cond true d other h k = h
some_cond false d other h k = k

echar_scalar : (c : ℕ) → IfSome (echar c) IsScalar
unfolding echar
echar_scalar c =
    some_cond (nat_eq c 116) 9 _ refl
    (some_cond (nat_eq c 98) 8 _ refl (some_cond (nat_eq c 110) 10 _ refl (some_cond (nat_eq c 114) 13 _ refl
    (some_cond (nat_eq c 102) 12 _ refl
    (some_cond (nat_eq c 34) 34 _ refl
    (some_cond (nat_eq c 39) 39 _ refl (some_cond (nat_eq c 92) 92 None refl tt)))))))

echar_or_makes : (o : Option ℕ) (rest : List ℕ) (other : Option (ℕ × List ℕ)) → IfSome o IsScalar
    → scalars rest ≡ true → Makes IsScalar other → Makes IsScalar (echar_or o rest other)
echar_or_makes (Some d) rest other h k m = (h, k)
echar_or_makes None rest other h k m = m

literal_escape_makes : (cs : List ℕ) → scalars cs ≡ true → Makes IsScalar (literal_escape cs)
unfolding literal_escape
literal_escape_makes cs h =
    makes_bind IsScalar IsScalar (character cs) _ (character_makes cs h) (λ c s k.
    echar_or_makes (echar c.0) c.1 (uchar cs) (echar_scalar c.0) k (uchar_makes cs h))

escape_makes : (kind : QuoteKind) (cs : List ℕ) → scalars cs ≡ true → Makes IsScalar (escape kind cs)
escape_makes Iri cs h = uchar_makes cs h
escape_makes Literal cs h = literal_escape_makes cs h

-- ---- what is quoted

abbrev IsNext : Option ℕ → Type 0
IsNext o = IfSome o IsScalar

quoted_character_makes : (kind : QuoteKind) (cs : List ℕ) → scalars cs ≡ true → Makes IsNext (quoted_character kind cs)
unfolding quoted_character
quoted_character_makes kind cs h =
    makes_bind IsScalar IsNext (character cs) _ (character_makes cs h) (λ c s k.
    makes_cond IsNext (nat_eq c.0 (closing kind)) (Some (None, c.1)) _ (λ e. (tt, k))
    (λ e. makes_cond IsNext (nat_eq c.0 92) (escape kind c.1 >>= λ d. Some (Some d.0, d.1)) _
    (λ f. makes_bind IsScalar IsNext (escape kind c.1) _ (escape_makes kind c.1 k) (λ d t m. (t, m)))
    (λ f. makes_cond IsNext (is_unescaped kind c.0) (Some (Some c.0, c.1)) None (λ g. (s, k)) (λ g. tt))))

prefix_makes : (prefix : List ℕ) (r : Option (List ℕ × List ℕ)) → IsUtf8 prefix → Makes IsUtf8 r
    → Makes IsUtf8 (prepended prefix r)
prefix_makes prefix None u h = tt
prefix_makes prefix (Some x) u h = (IsUtf8-append prefix x.0 u h.0, h.1)

next_makes : (kind : QuoteKind) (cs : List ℕ) (next : Option ℕ × List ℕ) → IsNext next.0 → scalars next.1 ≡ true
    → ((skip : ℕ) → Makes IsUtf8 (quoted_from kind skip cs))
    → Makes IsUtf8
    (elim next.0 [
      | None ↦ Some ([], next.1)
      | Some d ↦ prepended (encode_utf8 d) (quoted_from kind (length cs - length next.1) cs)
    ])
next_makes kind cs (None, rest) s k later = (IsUtf8-nil, k)
next_makes kind cs (Some d, rest) s k later =
    prefix_makes (encode_utf8 d) (quoted_from kind (length cs - length rest) cs) (IsUtf8-encode d s)
    (later (length cs - length rest))

quoted_from_makes : (kind : QuoteKind) (skip : ℕ) (cs : List ℕ) → scalars cs ≡ true
    → Makes IsUtf8 (quoted_from kind skip cs)
unfolding quoted_from
quoted_from_makes kind skip [] h = tt
quoted_from_makes kind (suc skip) (c ∷ cs) h =
    quoted_from_makes kind skip cs (and_parts (text.scalar c) (scalars cs) h).1
quoted_from_makes kind zero (c ∷ cs) h =
    makes_bind IsNext IsUtf8 (quoted_character kind (c ∷ cs)) _ (quoted_character_makes kind (c ∷ cs) h)
    (λ next s k. next_makes kind cs next s k
    (λ skip. quoted_from_makes kind skip cs (and_parts (text.scalar c) (scalars cs) h).1))

pub quoted_makes : (kind : QuoteKind) (cs : List ℕ) → scalars cs ≡ true → Makes IsUtf8 (quoted kind cs)
quoted_makes kind cs h = quoted_from_makes kind 0 cs h

pub iriref_makes : (cs : List ℕ) → scalars cs ≡ true → Makes IsUtf8 (iriref cs)
unfolding iriref
iriref_makes cs h = makes_following IsUtf8 60 cs _ h (λ rest k. quoted_makes Iri rest k)
