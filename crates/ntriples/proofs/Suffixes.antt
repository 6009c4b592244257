-- What a production leaves is an end of what it was given.
use Rattle.std.proofs.Common.{◌≡◌, ℕ, ◌+◌, ◌*◌, ◌-◌, ◌≤◌, Bool, true, false, cond, List, [], ◌∷◌, ◌++◌, length, drop}
use Rattle.std.proofs.Common.{Option, Some, None, refl, sym, ap, subst, ◌∙◌, append_assoc, arith}
use Rattle.std.proofs.lemmas.List.{drop_at, length-append}
use Rattle.std.specs.Prelude.{nat_lt, nat_eq}
use Rattle.std.specs.Char.{digit_value}
use Rattle.ntriples.specs.Reading.{◌>>=◌, character}
use Rattle.ntriples.specs.Parsing.{hex, hex2, hex4, scalar, short_code, long_code, uchar, echar_or}
use Rattle.ntriples.specs.Grammar.{is_scalar, echar}
use Rattle.ntriples.specs.Parsing.{literal_escape}

pub record EndsWith (cs rest : List ℕ) : Type 0 where
  pub prefix : List ℕ
  pub parts : cs ≡ prefix ++ rest

pub ends_same : (cs : List ℕ) → EndsWith cs cs
ends_same cs = record { prefix = []; parts = refl }

pub ends_then : (a b c : List ℕ) → EndsWith a b → EndsWith b c → EndsWith a c
ends_then a b c p q =
    record {
      prefix = p.prefix ++ q.prefix;
      parts = p.parts ∙ ap (λ (t : List ℕ). p.prefix ++ t) q.parts
          ∙ sym (append_assoc p.prefix q.prefix c);
    }

pub ends_more : (c : ℕ) (a b : List ℕ) → EndsWith a b → EndsWith (c ∷ a) b
ends_more c a b p = record { prefix = c ∷ p.prefix; parts = ap (λ (t : List ℕ). c ∷ t) p.parts }

pub ends_drop : (cs rest : List ℕ) → EndsWith cs rest → drop (length cs - length rest) cs ≡ rest
ends_drop cs rest p =
    ap (λ (t : List ℕ). drop (length cs - length rest) t) p.parts
    ∙ drop_at p.prefix rest (length cs - length rest) (omega (arith, length-append p.prefix rest, ap length p.parts))

pub ends_shorter : (cs rest : List ℕ) → EndsWith cs rest → length rest ≤ length cs
ends_shorter cs rest p = omega (arith, length-append p.prefix rest, ap length p.parts)

-- whatever is read, what is left is an end of this
abbrev pub Ends : {A : Type 0} → List ℕ → Option (A × List ℕ) → Type 0
Ends cs None = Unit {0}
Ends cs (Some x) = EndsWith cs x.1

pub ends_at : {A : Type 0} (cs : List ℕ) (r : Option (A × List ℕ)) (x : A × List ℕ) → Ends cs r → r ≡ Some x
    → EndsWith cs x.1
ends_at cs r x h e = subst (Ends cs) e h

ends_from : {A : Type 0} (a b : List ℕ) (r : Option (A × List ℕ)) → EndsWith a b → Ends b r → Ends a r
ends_from a b None p h = tt
ends_from a b (Some x) p h = ends_then a b x.1 p h

pub ends_bind : {A B : Type 0} (cs : List ℕ) (r : Option (A × List ℕ)) (f : A × List ℕ → Option (B × List ℕ))
    → Ends cs r → ((x : A × List ℕ) → Ends x.1 (f x)) → Ends cs (r >>= f)
ends_bind cs None f h k = tt
ends_bind cs (Some x) f h k = ends_from cs x.1 (f x) h (k x)

pub ends_cond : {A : Type 0} (cs : List ℕ) (b : Bool) (x y : Option (A × List ℕ)) → Ends cs x → Ends cs y
    → Ends cs (cond b x y)
ends_cond cs true x y h k = h
ends_cond cs false x y h k = k

pub character_ends : (cs : List ℕ) → Ends cs (character cs)
character_ends [] = tt
character_ends (c ∷ cs) = record { prefix = c ∷ []; parts = refl }

pub hex_ends : (cs : List ℕ) → Ends cs (hex cs)
unfolding hex
hex_ends cs =
    ends_bind cs (character cs) _ (character_ends cs)
    (λ c. ends_cond c.1 (nat_lt (digit_value c.0) 16) (Some (digit_value c.0, c.1)) None (ends_same c.1) tt)

hex2_ends : (cs : List ℕ) → Ends cs (hex2 cs)
unfolding hex2
hex2_ends cs =
    ends_bind cs (hex cs) _ (hex_ends cs) (λ a. ends_bind a.1 (hex a.1) _ (hex_ends a.1) (λ b. ends_same b.1))

pub hex4_ends : (cs : List ℕ) → Ends cs (hex4 cs)
unfolding hex4
hex4_ends cs =
    ends_bind cs (hex2 cs) _ (hex2_ends cs) (λ a. ends_bind a.1 (hex2 a.1) _ (hex2_ends a.1) (λ b. ends_same b.1))

pub scalar_ends : (c : ℕ) (cs : List ℕ) → Ends cs (scalar c cs)
scalar_ends c cs = ends_cond cs (is_scalar c) (Some (c, cs)) None (ends_same cs) tt

pub short_code_ends : (cs : List ℕ) → Ends cs (short_code cs)
unfolding short_code
short_code_ends cs = ends_bind cs (hex4 cs) _ (hex4_ends cs) (λ c. scalar_ends c.0 c.1)

pub long_code_ends : (cs : List ℕ) → Ends cs (long_code cs)
unfolding long_code
long_code_ends cs =
    ends_bind cs (hex4 cs) _ (hex4_ends cs) (λ high.
    ends_bind high.1 (hex4 high.1) _ (hex4_ends high.1) (λ low. scalar_ends (65536 * high.0 + low.0) low.1))

pub uchar_ends : (cs : List ℕ) → Ends cs (uchar cs)
unfolding uchar
uchar_ends cs =
    ends_bind cs (character cs) _ (character_ends cs) (λ c.
    ends_cond c.1 (nat_eq c.0 117) (short_code c.1) (cond (nat_eq c.0 85) (long_code c.1) None) (short_code_ends c.1)
    (ends_cond c.1 (nat_eq c.0 85) (long_code c.1) None (long_code_ends c.1) tt))

echar_or_ends : (o : Option ℕ) (c : ℕ) (cs : List ℕ) → Ends (c ∷ cs) (echar_or o cs (uchar (c ∷ cs)))
echar_or_ends (Some d) c cs = record { prefix = c ∷ []; parts = refl }
echar_or_ends None c cs = uchar_ends (c ∷ cs)

pub literal_escape_ends : (cs : List ℕ) → Ends cs (literal_escape cs)
unfolding literal_escape
literal_escape_ends [] = tt
literal_escape_ends (c ∷ cs) = echar_or_ends (echar c) c cs
