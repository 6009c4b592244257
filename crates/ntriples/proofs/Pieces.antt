-- Escapes, and the pieces of IRIs and strings: what is read is of the form, and what is of the form is read.
use Rattle.std.proofs.Common.{◌≡◌, ℕ, ◌+◌, ◌*◌, ◌^◌, Bool, true, false, cond, not}
use Rattle.std.proofs.Common.{nat_eq, List, [], ◌∷◌, ◌++◌, length, Option, Some, None, inl, inr, refl, sym, ap, ◌∙◌}
use Rattle.std.proofs.Common.{subst, arith}
use Rattle.std.proofs.lemmas.Bool.{and_parts, and_from, eqb-true, ne_eqb, both_ways}
use Rattle.std.proofs.lemmas.Option.{none-some, same_Some, cond_some}
use Rattle.std.specs.Prelude.{◌⊎◌}
use Rattle.std.specs.List.{list_all}
use Rattle.std.specs.Char.{digit_value}
use Rattle.ntriples.specs.declared.quoted.QuoteKind.{QuoteKind}
use Rattle.ntriples.specs.declared.quoted.QuoteKind.TheVariants.{Iri, Literal}
use Rattle.ntriples.specs.Characters.{is_iri_character}
use Rattle.ntriples.specs.Reading.{◌>>=◌, character}
use Rattle.ntriples.specs.Parsing.{hex, hex2, hex4, scalar, short_code, long_code, uchar, echar_or, literal_escape}
use Rattle.ntriples.specs.Parsing.{closing}
use Rattle.ntriples.specs.Parsing.{is_unescaped, escape, quoted_character}
use Rattle.ntriples.specs.Grammar.{is_hex, is_scalar, is_string_character, hex_number, IsUchar, echar, IsEchar}
use Rattle.ntriples.specs.Grammar.{IsIriPiece, IsStringPiece}

-- a text of the form at the start, and what is left after it
pub record Takes {A : Type 0} (Form : List ℕ → A → Type 0) (cs : List ℕ) (value : A) (rest : List ℕ) : Type 0 where
  pub prefix : List ℕ
  pub parts : cs ≡ prefix ++ rest
  pub form : Form prefix value

pub bind_some : {A B : Type 0} (o : Option A) (f : A → Option B) (y : B) → (o >>= f) ≡ Some y
    → (x : A) × (o ≡ Some x) × (f x ≡ Some y)
bind_some None f y e = absurd (none-some y e)
bind_some (Some x) f y e = (x, refl, e)

pub character_some : (cs : List ℕ) (x : ℕ × List ℕ) → character cs ≡ Some x → cs ≡ x.0 ∷ x.1
character_some [] x e = absurd (none-some x e)
character_some (c ∷ cs) x e = ap (λ (y : ℕ × List ℕ). y.0 ∷ y.1) (same_Some {A = ℕ × List ℕ} (c, cs) x e)

-- ---- hexadecimal digits

record HexAt (cs : List ℕ) (x : ℕ × List ℕ) : Type 0 where
  pub digit : ℕ
  pub parts : cs ≡ digit ∷ x.1
  pub good : is_hex digit ≡ true
  pub value : x.0 ≡ digit_value digit

hex_some : (cs : List ℕ) (x : ℕ × List ℕ) → hex cs ≡ Some x → HexAt cs x
unfolding hex
hex_some [] x e = absurd (none-some x e)
hex_some (c ∷ cs) x e =
    let p = cond_some {A = ℕ × List ℕ} (is_hex c) (digit_value c, cs) x e in
    record {
      digit = c;
      parts = ap (λ (y : ℕ × List ℕ). c ∷ y.1) p.1;
      good = p.0;
      value = sym (ap (λ (y : ℕ × List ℕ). y.0) p.1);
    }

hex_of : (c : ℕ) (rest : List ℕ) → is_hex c ≡ true → hex (c ∷ rest) ≡ Some (digit_value c, rest)
unfolding hex
hex_of c rest h = rw h refl

four : (a b c d : ℕ) → 256 * (16 * a + b) + (16 * c + d) ≡ a * 16 ^ 3 + (b * 16 ^ 2 + (c * 16 ^ 1 + (d * 16 ^ 0 + 0)))
four a b c d = omega arith

eight : (a b c d e f g h : ℕ)
    → 65536 * (a * 16 ^ 3 + (b * 16 ^ 2 + (c * 16 ^ 1 + (d * 16 ^ 0 + 0))))
    + (e * 16 ^ 3 + (f * 16 ^ 2 + (g * 16 ^ 1 + (h * 16 ^ 0 + 0))))
    ≡ a * 16 ^ 7
    + (b * 16 ^ 6 + (c * 16 ^ 5 + (d * 16 ^ 4 + (e * 16 ^ 3 + (f * 16 ^ 2 + (g * 16 ^ 1 + (h * 16 ^ 0 + 0)))))))
eight a b c d e f g h = omega arith

all_of_four : (a b c d : ℕ) (more : List ℕ) → is_hex a ≡ true → is_hex b ≡ true → is_hex c ≡ true → is_hex d ≡ true
    → list_all is_hex more ≡ true → list_all is_hex (a ∷ b ∷ c ∷ d ∷ more) ≡ true
all_of_four a b c d more h i j k m =
    and_from (is_hex a) (list_all is_hex (b ∷ c ∷ d ∷ more)) h
    (and_from (is_hex b) (list_all is_hex (c ∷ d ∷ more)) i
    (and_from (is_hex c) (list_all is_hex (d ∷ more)) j (and_from (is_hex d) (list_all is_hex more) k m)))

record AllFour (a b c d : ℕ) (more : List ℕ) : Type 0 where
  pub one : is_hex a ≡ true
  pub two : is_hex b ≡ true
  pub three : is_hex c ≡ true
  pub last : is_hex d ≡ true
  pub others : list_all is_hex more ≡ true

all_four : (a b c d : ℕ) (more : List ℕ) → list_all is_hex (a ∷ b ∷ c ∷ d ∷ more) ≡ true → AllFour a b c d more
all_four a b c d more h =
    let p = and_parts (is_hex a) (list_all is_hex (b ∷ c ∷ d ∷ more)) h in
    let q = and_parts (is_hex b) (list_all is_hex (c ∷ d ∷ more)) p.1 in
    let r = and_parts (is_hex c) (list_all is_hex (d ∷ more)) q.1 in
    let s = and_parts (is_hex d) (list_all is_hex more) r.1 in
    record { one = p.0; two = q.0; three = r.0; last = s.0; others = s.1 }

record FourAt (cs : List ℕ) (x : ℕ × List ℕ) : Type 0 where
  pub a : ℕ
  pub b : ℕ
  pub c : ℕ
  pub d : ℕ
  pub parts : cs ≡ a ∷ b ∷ c ∷ d ∷ x.1
  pub good : AllFour a b c d []
  pub value : x.0 ≡ hex_number (a ∷ b ∷ c ∷ d ∷ [])

record TwoAt (cs : List ℕ) (x : ℕ × List ℕ) : Type 0 where
  pub a : ℕ
  pub b : ℕ
  pub parts : cs ≡ a ∷ b ∷ x.1
  pub first : is_hex a ≡ true
  pub second : is_hex b ≡ true
  pub value : x.0 ≡ 16 * digit_value a + digit_value b

hex2_some : (cs : List ℕ) (x : ℕ × List ℕ) → hex2 cs ≡ Some x → TwoAt cs x
unfolding hex2
hex2_some cs x e =
    let p = bind_some (hex cs) _ x e in
    let q = bind_some (hex p.0.1) _ x p.2 in
    let a = hex_some cs p.0 p.1 in
    let b = hex_some p.0.1 q.0 q.1 in
    let same = same_Some {A = ℕ × List ℕ} (16 * p.0.0 + q.0.0, q.0.1) x q.2 in
    record {
      a = a.digit;
      b = b.digit;
      parts = a.parts ∙ ap (λ (t : List ℕ). a.digit ∷ t) (b.parts ∙ ap (λ (y : ℕ × List ℕ). b.digit ∷ y.1) same);
      first = a.good;
      second = b.good;
      value = sym (ap (λ (y : ℕ × List ℕ). y.0) same) ∙ ap (λ (n : ℕ). 16 * n + q.0.0) a.value
          ∙ ap (λ (n : ℕ). 16 * digit_value a.digit + n) b.value;
    }

hex4_some : (cs : List ℕ) (x : ℕ × List ℕ) → hex4 cs ≡ Some x → FourAt cs x
unfolding hex4
hex4_some cs x e =
    let p = bind_some (hex2 cs) _ x e in
    let q = bind_some (hex2 p.0.1) _ x p.2 in
    let high = hex2_some cs p.0 p.1 in
    let low = hex2_some p.0.1 q.0 q.1 in
    let same = same_Some {A = ℕ × List ℕ} (256 * p.0.0 + q.0.0, q.0.1) x q.2 in
    record {
      a = high.a;
      b = high.b;
      c = low.a;
      d = low.b;
      parts = high.parts ∙ ap (λ (t : List ℕ). high.a ∷ high.b ∷ t)
          (low.parts ∙ ap (λ (y : ℕ × List ℕ). low.a ∷ low.b ∷ y.1) same);
      good = record { one = high.first; two = high.second; three = low.first; last = low.second; others = refl };
      value = sym (ap (λ (y : ℕ × List ℕ). y.0) same) ∙ ap (λ (n : ℕ). 256 * n + q.0.0) high.value
          ∙ ap (λ (n : ℕ). 256 * (16 * digit_value high.a + digit_value high.b) + n) low.value
          ∙ four (digit_value high.a) (digit_value high.b) (digit_value low.a) (digit_value low.b);
    }

hex4_of : (a b c d : ℕ) (more rest : List ℕ) → AllFour a b c d more
    → hex4 (a ∷ b ∷ c ∷ d ∷ rest) ≡ Some (hex_number (a ∷ b ∷ c ∷ d ∷ []), rest)
unfolding hex2 hex4
hex4_of a b c d more rest h =
    rw (
      hex_of a (b ∷ c ∷ d ∷ rest) h.one,
      hex_of b (c ∷ d ∷ rest) h.two,
      hex_of c (d ∷ rest) h.three,
      hex_of d rest h.last,
    )
    (ap (λ (n : ℕ). Some (n, rest)) (four (digit_value a) (digit_value b) (digit_value c) (digit_value d)))

record Four (ds : List ℕ) (n : ℕ) : Type 0 where
  pub a : ℕ
  pub b : ℕ
  pub c : ℕ
  pub d : ℕ
  pub more : List ℕ
  pub parts : ds ≡ a ∷ b ∷ c ∷ d ∷ more
  pub others : length more ≡ n

first_four : (ds : List ℕ) (n : ℕ) → length ds ≡ 4 + n → Four ds n
first_four [] n e = absurd (omega arith)
first_four (a ∷ []) n e = absurd (omega arith)
first_four (a ∷ b ∷ []) n e = absurd (omega arith)
first_four (a ∷ b ∷ c ∷ []) n e = absurd (omega arith)
first_four (a ∷ b ∷ c ∷ d ∷ more) n e =
    record { a = a; b = b; c = c; d = d; more = more; parts = refl; others = omega arith }

-- ---- UCHAR

-- an escape of this form, after its backslash
abbrev pub AfterBackslash : (List ℕ → ℕ → Type 0) → List ℕ → ℕ → Type 0
AfterBackslash Form prefix c = Form (92 ∷ prefix) c

TakesUchar : List ℕ → ℕ × List ℕ → Type 0
TakesUchar cs x = Takes (AfterBackslash IsUchar) cs x.0 x.1

scalar_some : (c : ℕ) (cs : List ℕ) (x : ℕ × List ℕ) → scalar c cs ≡ Some x
    → (is_scalar x.0 ≡ true) × (x.0 ≡ c) × (cs ≡ x.1)
scalar_some c cs x e =
    let p = cond_some {A = ℕ × List ℕ} (is_scalar c) (c, cs) x e in
    let same : c ≡ x.0 = ap (λ (y : ℕ × List ℕ). y.0) p.1 in
    (ap is_scalar (sym same) ∙ p.0, sym same, ap (λ (y : ℕ × List ℕ). y.1) p.1)

short_some : (u : ℕ) (cs : List ℕ) (x : ℕ × List ℕ) → u ≡ 117 → short_code cs ≡ Some x → TakesUchar (u ∷ cs) x
unfolding short_code TakesUchar
short_some u cs x is e =
    let p = bind_some (hex4 cs) _ x e in
    let h = hex4_some cs p.0 p.1 in
    let s = scalar_some p.0.0 p.0.1 x p.2 in
    let digits : List ℕ = h.a ∷ h.b ∷ h.c ∷ h.d ∷ [] in
    record {
      prefix = u ∷ digits;
      parts = ap (λ (t : List ℕ). u ∷ t) h.parts
          ∙ ap (λ (t : List ℕ). u ∷ h.a ∷ h.b ∷ h.c ∷ h.d ∷ t) s.2;
      form =
          record {
            digits = digits;
            form = inl (ap (λ (v : ℕ). 92 ∷ v ∷ digits) is, refl);
            hexadecimal = all_of_four h.a h.b h.c h.d [] h.good.one h.good.two h.good.three h.good.last refl;
            named = s.1 ∙ h.value;
            scalar = s.0;
          };
    }

long_some : (u : ℕ) (cs : List ℕ) (x : ℕ × List ℕ) → u ≡ 85 → long_code cs ≡ Some x → TakesUchar (u ∷ cs) x
unfolding long_code TakesUchar
long_some u cs x is e =
    let p = bind_some (hex4 cs) _ x e in
    let q = bind_some (hex4 p.0.1) _ x p.2 in
    let h = hex4_some cs p.0 p.1 in
    let l = hex4_some p.0.1 q.0 q.1 in
    let s = scalar_some (65536 * p.0.0 + q.0.0) q.0.1 x q.2 in
    let low : List ℕ = l.a ∷ l.b ∷ l.c ∷ l.d ∷ [] in
    let digits : List ℕ = h.a ∷ h.b ∷ h.c ∷ h.d ∷ low in
    record {
      prefix = u ∷ digits;
      parts = ap (λ (t : List ℕ). u ∷ t) (h.parts ∙ ap (λ (t : List ℕ). h.a ∷ h.b ∷ h.c ∷ h.d ∷ t)
          (l.parts ∙ ap (λ (t : List ℕ). l.a ∷ l.b ∷ l.c ∷ l.d ∷ t) s.2));
      form =
          record {
            digits = digits;
            form = inr (ap (λ (v : ℕ). 92 ∷ v ∷ digits) is, refl);
            hexadecimal = all_of_four h.a h.b h.c h.d low h.good.one h.good.two h.good.three h.good.last
                (all_of_four l.a l.b l.c l.d [] l.good.one l.good.two l.good.three l.good.last refl);
            named = s.1 ∙ ap (λ (n : ℕ). 65536 * n + q.0.0) h.value
                ∙ ap (λ (n : ℕ). 65536 * hex_number (h.a ∷ h.b ∷ h.c ∷ h.d ∷ []) + n) l.value
                ∙ eight (digit_value h.a) (digit_value h.b) (digit_value h.c) (digit_value h.d) (digit_value l.a)
                (digit_value l.b) (digit_value l.c) (digit_value l.d);
            scalar = s.0;
          };
    }

uchar_by : (short long : Bool) (c : ℕ) (cs : List ℕ) (x : ℕ × List ℕ) → nat_eq c 117 ≡ short → nat_eq c 85 ≡ long
    → cond short (short_code cs) (cond long (long_code cs) None) ≡ Some x → TakesUchar (c ∷ cs) x
uchar_by true long c cs x s l e = short_some c cs x (eqb-true c 117 s) e
uchar_by false true c cs x s l e = long_some c cs x (eqb-true c 85 l) e
uchar_by false false c cs x s l e = absurd (none-some x e)

uchar_some : (cs : List ℕ) (x : ℕ × List ℕ) → uchar cs ≡ Some x → TakesUchar cs x
unfolding uchar
uchar_some [] x e = absurd (none-some x e)
uchar_some (c ∷ cs) x e = uchar_by (nat_eq c 117) (nat_eq c 85) c cs x refl refl e

-- the text of an escape: a backslash, and what is read after it
record Escapes (read : List ℕ → Option (ℕ × List ℕ)) (text : List ℕ) (c : ℕ) : Type 0 where
  pub prefix : List ℕ
  pub parts : text ≡ 92 ∷ prefix
  pub reads : (rest : List ℕ) → read (prefix ++ rest) ≡ Some (c, rest)

short_of : (a b c d : ℕ) (rest : List ℕ) → AllFour a b c d [] → is_scalar (hex_number (a ∷ b ∷ c ∷ d ∷ [])) ≡ true
    → uchar (117 ∷ a ∷ b ∷ c ∷ d ∷ rest) ≡ Some (hex_number (a ∷ b ∷ c ∷ d ∷ []), rest)
unfolding uchar short_code
short_of a b c d rest h s = rw (hex4_of a b c d [] rest h) (rw s refl)

long_number : (h l : ℕ) (rest : List ℕ) (c : ℕ) → 65536 * h + l ≡ c → is_scalar c ≡ true
    → scalar (65536 * h + l) rest ≡ Some (c, rest)
long_number h l rest c e s = rw e (rw s refl)

long_of : (a b c d e f g h : ℕ) (rest : List ℕ) → AllFour a b c d (e ∷ f ∷ g ∷ h ∷ []) → AllFour e f g h []
    → is_scalar (hex_number (a ∷ b ∷ c ∷ d ∷ e ∷ f ∷ g ∷ h ∷ [])) ≡ true
    → uchar (85 ∷ a ∷ b ∷ c ∷ d ∷ e ∷ f ∷ g ∷ h ∷ rest)
    ≡ Some (hex_number (a ∷ b ∷ c ∷ d ∷ e ∷ f ∷ g ∷ h ∷ []), rest)
unfolding uchar long_code
long_of a b c d e f g h rest i j s =
    rw (hex4_of a b c d (e ∷ f ∷ g ∷ h ∷ []) (e ∷ f ∷ g ∷ h ∷ rest) i, hex4_of e f g h [] rest j)
    (long_number (hex_number (a ∷ b ∷ c ∷ d ∷ [])) (hex_number (e ∷ f ∷ g ∷ h ∷ [])) rest
    (hex_number (a ∷ b ∷ c ∷ d ∷ e ∷ f ∷ g ∷ h ∷ []))
    (eight (digit_value a) (digit_value b) (digit_value c) (digit_value d) (digit_value e) (digit_value f)
    (digit_value g) (digit_value h)) s)

no_digits : (ds : List ℕ) → length ds ≡ 0 → ds ≡ []
no_digits [] e = refl
no_digits (d ∷ ds) e = absurd (omega arith)

uchar_of : (text : List ℕ) (c : ℕ) → IsUchar text c → Escapes uchar text c
uchar_of text c u = elim u.form [
  | inl p ↦ short_of_four p.0 (first_four u.digits 0 p.1)
  | inr p ↦ long_of_eight p.0 (first_four u.digits 4 p.1)
]
  where
    short_of_four : text ≡ 92 ∷ 117 ∷ u.digits → Four u.digits 0 → Escapes uchar text c
    short_of_four at f =
        let digits : List ℕ = f.a ∷ f.b ∷ f.c ∷ f.d ∷ [] in
        let are : u.digits ≡ digits =
        f.parts ∙ ap (λ (t : List ℕ). f.a ∷ f.b ∷ f.c ∷ f.d ∷ t) (no_digits f.more f.others) in
        let good = all_four f.a f.b f.c f.d [] (subst (λ (t : List ℕ). list_all is_hex t ≡ true) are u.hexadecimal) in
        let value : c ≡ hex_number digits = u.named ∙ ap hex_number are in
        let s : is_scalar (hex_number digits) ≡ true = subst (λ (n : ℕ). is_scalar n ≡ true) value u.scalar in
        record {
          prefix = 117 ∷ digits;
          parts = at ∙ ap (λ (t : List ℕ). 92 ∷ 117 ∷ t) are;
          reads = λ rest. short_of f.a f.b f.c f.d rest good s ∙ ap (λ (n : ℕ). Some (n, rest)) (sym value);
        }

    long_of_eight : text ≡ 92 ∷ 85 ∷ u.digits → Four u.digits 4 → Escapes uchar text c
    long_of_eight at f =
        let l = first_four f.more 0 f.others in
        let low : List ℕ = l.a ∷ l.b ∷ l.c ∷ l.d ∷ [] in
        let digits : List ℕ = f.a ∷ f.b ∷ f.c ∷ f.d ∷ low in
        let rest_is : f.more ≡ low =
        l.parts ∙ ap (λ (t : List ℕ). l.a ∷ l.b ∷ l.c ∷ l.d ∷ t) (no_digits l.more l.others) in
        let are : u.digits ≡ digits = f.parts ∙ ap (λ (t : List ℕ). f.a ∷ f.b ∷ f.c ∷ f.d ∷ t) rest_is in
        let good = all_four f.a f.b f.c f.d low (subst (λ (t : List ℕ). list_all is_hex t ≡ true) are u.hexadecimal) in
        let value : c ≡ hex_number digits = u.named ∙ ap hex_number are in
        let s : is_scalar (hex_number digits) ≡ true = subst (λ (n : ℕ). is_scalar n ≡ true) value u.scalar in
        record {
          prefix = 85 ∷ digits;
          parts = at ∙ ap (λ (t : List ℕ). 92 ∷ 85 ∷ t) are;
          reads = λ rest. long_of f.a f.b f.c f.d l.a l.b l.c l.d rest good (all_four l.a l.b l.c l.d [] good.others) s
              ∙ ap (λ (n : ℕ). Some (n, rest)) (sym value);
        }

-- ---- pieces

abbrev pub IsPiece : QuoteKind → List ℕ → ℕ → Type 0
IsPiece Iri = IsIriPiece
IsPiece Literal = IsStringPiece

literal_escape_by : (o : Option ℕ) (c : ℕ) (cs : List ℕ) (x : ℕ × List ℕ) → echar c ≡ o
    → echar_or o cs (uchar (c ∷ cs)) ≡ Some x → Takes (AfterBackslash IsStringPiece) (c ∷ cs) x.0 x.1
unfolding TakesUchar
literal_escape_by (Some d) c cs x is e =
    let same = same_Some {A = ℕ × List ℕ} (d, cs) x e in
    record {
      prefix = c ∷ [];
      parts = ap (λ (y : ℕ × List ℕ). c ∷ y.1) same;
      form = inr (inl (c, refl, is ∙ ap (λ (y : ℕ × List ℕ). Some y.0) same));
    }
literal_escape_by None c cs x is e =
    let t = uchar_some (c ∷ cs) x e in
    record { prefix = t.prefix; parts = t.parts; form = inr (inr t.form) }

literal_escape_some : (cs : List ℕ) (x : ℕ × List ℕ) → literal_escape cs ≡ Some x
    → Takes (AfterBackslash IsStringPiece) cs x.0 x.1
unfolding literal_escape
literal_escape_some [] x e = absurd (none-some x e)
literal_escape_some (c ∷ cs) x e = literal_escape_by (echar c) c cs x refl e

escape_some : (kind : QuoteKind) (cs : List ℕ) (x : ℕ × List ℕ) → escape kind cs ≡ Some x
    → Takes (AfterBackslash (IsPiece kind)) cs x.0 x.1
unfolding TakesUchar
escape_some Iri cs x e =
    let t = uchar_some cs x e in
    record { prefix = t.prefix; parts = t.parts; form = inr t.form }
escape_some Literal cs x e = literal_escape_some cs x e

unescaped_form : (kind : QuoteKind) (c : ℕ) → nat_eq c (closing kind) ≡ false → nat_eq c 92 ≡ false
    → is_unescaped kind c ≡ true → IsPiece kind (c ∷ []) c
unescaped_form Iri c e f h = inl (refl, h)
unescaped_form Literal c e f h =
    let p = and_parts (not (nat_eq c 10)) (not (nat_eq c 13)) h in
    inl (refl, rw (e, f, p.0, p.1) refl)

-- the closing character, or a piece at the start
abbrev pub IsNext : QuoteKind → List ℕ → Option ℕ → List ℕ → Type 0
IsNext kind cs None rest = cs ≡ closing kind ∷ rest
IsNext kind cs (Some d) rest = Takes (IsPiece kind) cs d rest

next_by : (closes slash unescaped : Bool) (kind : QuoteKind) (c : ℕ) (cs : List ℕ) (x : Option ℕ × List ℕ)
    → nat_eq c (closing kind) ≡ closes → nat_eq c 92 ≡ slash → is_unescaped kind c ≡ unescaped
    → cond closes (Some (None, cs)) (cond slash (escape kind cs >>= λ e. Some (Some e.0, e.1))
    (cond unescaped (Some (Some c, cs)) None)) ≡ Some x → IsNext kind (c ∷ cs) x.0 x.1
next_by true slash unescaped kind c cs x h i j e =
    subst (λ (y : Option ℕ × List ℕ). IsNext kind (c ∷ cs) y.0 y.1)
    (same_Some {A = Option ℕ × List ℕ} (None, cs) x e) (ap (λ (k : ℕ). k ∷ cs) (eqb-true c (closing kind) h))
next_by false true unescaped kind c cs x h i j e =
    let p = bind_some (escape kind cs) (λ (y : ℕ × List ℕ). let z : Option (Option ℕ × List ℕ) = Some (Some y.0, y.1)
    in z) x e in
    let t = escape_some kind cs p.0 p.1 in
    let is : c ≡ 92 = eqb-true c 92 i in
    subst (λ (y : Option ℕ × List ℕ). IsNext kind (c ∷ cs) y.0 y.1)
    (same_Some {A = Option ℕ × List ℕ} (Some p.0.0, p.0.1) x p.2)
    (record {
      prefix = c ∷ t.prefix;
      parts = ap (λ (l : List ℕ). c ∷ l) t.parts;
      form = subst (λ (k : ℕ). IsPiece kind (k ∷ t.prefix) p.0.0) (sym is) t.form;
    })
next_by false false true kind c cs x h i j e =
    subst (λ (y : Option ℕ × List ℕ). IsNext kind (c ∷ cs) y.0 y.1)
    (same_Some {A = Option ℕ × List ℕ} (Some c, cs) x e)
    (record { prefix = c ∷ []; parts = refl; form = unescaped_form kind c h i j })
next_by false false false kind c cs x h i j e = absurd (none-some x e)

pub next_some : (kind : QuoteKind) (cs : List ℕ) (x : Option ℕ × List ℕ) → quoted_character kind cs ≡ Some x
    → IsNext kind cs x.0 x.1
unfolding quoted_character
next_some kind [] x e = absurd (none-some x e)
next_some kind (c ∷ cs) x e =
    next_by (nat_eq c (closing kind)) (nat_eq c 92) (is_unescaped kind c) kind c cs x refl refl refl e

-- ---- pieces are read

differs : (test : ℕ → Bool) (c k : ℕ) → test c ≡ true → test k ≡ false → nat_eq c k ≡ false
differs test c k h i = ne_eqb c k (λ e. both_ways (test k) i (ap test (sym e) ∙ h))

unescaped_of : (kind : QuoteKind) (c : ℕ) (rest : List ℕ) → nat_eq c (closing kind) ≡ false → nat_eq c 92 ≡ false
    → is_unescaped kind c ≡ true → quoted_character kind (c ∷ rest) ≡ Some (Some c, rest)
unfolding quoted_character
unescaped_of kind c rest e f g = rw (e, f, g) refl

iri_unescaped_of : (c : ℕ) (rest : List ℕ) → is_iri_character c ≡ true
    → quoted_character Iri (c ∷ rest) ≡ Some (Some c, rest)
unfolding is_iri_character
iri_unescaped_of c rest h = unescaped_of Iri c rest (differs is_iri_character c 62 h refl)
    (differs is_iri_character c 92 h refl) h

string_unescaped_of : (c : ℕ) (rest : List ℕ) → is_string_character c ≡ true
    → quoted_character Literal (c ∷ rest) ≡ Some (Some c, rest)
string_unescaped_of c rest h =
    unescaped_of Literal c rest (differs is_string_character c 34 h refl) (differs is_string_character c 92 h refl)
    (rw (differs is_string_character c 10 h refl, differs is_string_character c 13 h refl) refl)

after_slash : (kind : QuoteKind) (prefix rest : List ℕ) (c : ℕ) → escape kind (prefix ++ rest) ≡ Some (c, rest)
    → quoted_character kind (92 ∷ prefix ++ rest) ≡ Some (Some c, rest)
unfolding quoted_character
after_slash Iri prefix rest c e = rw e refl
after_slash Literal prefix rest c e = rw e refl

escaped_of : (kind : QuoteKind) (text : List ℕ) (c : ℕ) (rest : List ℕ) → Escapes (escape kind) text c
    → quoted_character kind (text ++ rest) ≡ Some (Some c, rest)
escaped_of kind text c rest p =
    ap (λ (t : List ℕ). quoted_character kind (t ++ rest)) p.parts ∙ after_slash kind p.prefix rest c (p.reads rest)

letter_of : (letter c : ℕ) (rest : List ℕ) → echar letter ≡ Some c → literal_escape (letter ∷ rest) ≡ Some (c, rest)
unfolding literal_escape
letter_of letter c rest e = rw e refl

echar_of : (text : List ℕ) (c : ℕ) → IsEchar text c → Escapes literal_escape text c
echar_of text c p =
    record { prefix = p.0 ∷ []; parts = p.1; reads = λ (rest : List ℕ). letter_of p.0 c rest p.2 }

-- the letter of a UCHAR is none of an ECHAR
other_letter : (letter : ℕ) (cs : List ℕ) → (letter ≡ 117) ⊎ (letter ≡ 85)
    → literal_escape (letter ∷ cs) ≡ uchar (letter ∷ cs)
unfolding literal_escape echar
other_letter letter cs h = elim h [ inl e ↦ rw e refl | inr e ↦ rw e refl ]

first_letter : (prefix digits : List ℕ) (k : ℕ) → 92 ∷ prefix ≡ 92 ∷ k ∷ digits
    → (letter : ℕ) × (more : List ℕ) × (prefix ≡ letter ∷ more) × (letter ≡ k)
first_letter [] digits k e = absurd cc
first_letter (letter ∷ more) digits k e = (letter, more, refl, cc)

either_letter : (text : List ℕ) (c : ℕ) (u : IsUchar text c) (prefix : List ℕ) → text ≡ 92 ∷ prefix
    → (letter : ℕ) × (more : List ℕ) × (prefix ≡ letter ∷ more) × ((letter ≡ 117) ⊎ (letter ≡ 85))
either_letter text c u prefix e = elim u.form [
  | inl q ↦ let p = first_letter prefix u.digits 117 (sym e ∙ q.0) in (p.0, p.1, p.2, inl p.3)
  | inr q ↦ let p = first_letter prefix u.digits 85 (sym e ∙ q.0) in (p.0, p.1, p.2, inr p.3)
]

unread_letter : (text : List ℕ) (c : ℕ) → IsUchar text c → Escapes literal_escape text c
unread_letter text c u =
    let p = uchar_of text c u in
    let l = either_letter text c u p.prefix p.parts in
    record {
      prefix = p.prefix;
      parts = p.parts;
      reads = λ (rest : List ℕ). ap (λ (t : List ℕ). literal_escape (t ++ rest)) l.2
          ∙ other_letter l.0 (l.1 ++ rest) l.3 ∙ ap (λ (t : List ℕ). uchar (t ++ rest)) (sym l.2) ∙ p.reads rest;
    }

pub piece_of : (kind : QuoteKind) (text : List ℕ) (c : ℕ) (rest : List ℕ) → IsPiece kind text c
    → quoted_character kind (text ++ rest) ≡ Some (Some c, rest)
piece_of Iri text c rest p = elim p [
  | inl unescaped ↦ rw unescaped.0 (iri_unescaped_of c rest unescaped.1)
  | inr u ↦ escaped_of Iri text c rest (uchar_of text c u)
]
piece_of Literal text c rest p = elim p [
  | inl unescaped ↦ rw unescaped.0 (string_unescaped_of c rest unescaped.1)
  | inr escape ↦ elim escape [
    | inl e ↦ escaped_of Literal text c rest (echar_of text c e)
    | inr u ↦ escaped_of Literal text c rest (unread_letter text c u)
  ]
]

pub closed : (kind : QuoteKind) (rest : List ℕ) → quoted_character kind (closing kind ∷ rest) ≡ Some (None, rest)
unfolding quoted_character
closed Iri rest = refl
closed Literal rest = refl
