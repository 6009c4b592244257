-- Reading what is quoted one character at a time, as a loop does.
use Rattle.std.proofs.Common.{◌≡◌, ℕ, zero, suc, ◌-◌, ◌<◌, cond, List, [], ◌∷◌, ◌++◌, length, drop, Option, Some}
use Rattle.std.proofs.Common.{None, refl, sym, ap, ◌∙◌, append_assoc, arith}
use Rattle.std.proofs.lemmas.List.{append-nil}
use Rattle.std.specs.Prelude.{nat_eq}
use Rattle.std.specs.Char.{encode_utf8}
use Rattle.ntriples.specs.declared.fault.Refusal.{Refusal}
use Rattle.ntriples.specs.declared.fault.Refusal.TheVariants.{Malformed, OutOfMemory}
use Rattle.ntriples.specs.declared.quoted.QuoteKind.{QuoteKind}
use Rattle.ntriples.specs.declared.quoted.QuoteKind.TheVariants.{Iri, Literal}
use Rattle.ntriples.specs.Reading.{◌>>=◌, Fails, prepended}
use Rattle.ntriples.specs.Parsing.{closing, is_unescaped, escape, quoted_character, quoted_from, quoted}
use Rattle.ntriples.proofs.Suffixes.{Ends, ends_same, ends_at, ends_bind, ends_cond, ends_drop, ends_shorter}
use Rattle.ntriples.proofs.Suffixes.{uchar_ends, literal_escape_ends}

escape_ends : (kind : QuoteKind) (cs : List ℕ) → Ends cs (escape kind cs)
escape_ends Iri cs = uchar_ends cs
escape_ends Literal cs = literal_escape_ends cs

quoted_character_ends : (kind : QuoteKind) (c : ℕ) (cs : List ℕ) → Ends cs (quoted_character kind (c ∷ cs))
unfolding quoted_character
quoted_character_ends kind c cs =
    let escaped = escape kind cs >>= λ e. Some (Some e.0, e.1) in
    let unescaped : Option (Option ℕ × List ℕ) = cond (is_unescaped kind c) (Some (Some c, cs)) None in
    ends_cond cs (nat_eq c (closing kind)) (Some (None, cs)) (cond (nat_eq c 92) escaped unescaped) (ends_same cs)
    (ends_cond cs (nat_eq c 92) escaped unescaped
    (ends_bind cs (escape kind cs) _ (escape_ends kind cs) (λ e. ends_same e.1))
    (ends_cond cs (is_unescaped kind c) (Some (Some c, cs)) None (ends_same cs) tt))

pub quoted_character_shorter : (kind : QuoteKind) (cs : List ℕ) (x : Option ℕ × List ℕ)
    → quoted_character kind cs ≡ Some x → length x.1 < length cs
unfolding quoted_character
quoted_character_shorter kind [] x e = absurd cc
quoted_character_shorter kind (c ∷ cs) x e =
    omega (
      arith,
      ends_shorter cs x.1
          (ends_at cs (quoted_character kind (c ∷ cs)) x (quoted_character_ends kind c cs) e),
    )

quoted_skip : (kind : QuoteKind) (skip : ℕ) (cs : List ℕ) → quoted_from kind skip cs ≡ quoted_from kind 0 (drop skip cs)
unfolding quoted_from
quoted_skip kind zero cs = refl
quoted_skip kind (suc skip) [] = refl
quoted_skip kind (suc skip) (c ∷ cs) = quoted_skip kind skip cs

-- after the next character
abbrev pub goes_on : QuoteKind → Option ℕ × List ℕ → Option (List ℕ × List ℕ)
goes_on kind (None, rest) = Some ([], rest)
goes_on kind (Some d, rest) = prepended (encode_utf8 d) (quoted kind rest)

quoted_cons : (kind : QuoteKind) (c : ℕ) (cs : List ℕ) (x : Option ℕ × List ℕ)
    → quoted_character kind (c ∷ cs) ≡ Some x → quoted kind (c ∷ cs) ≡ goes_on kind x
unfolding quoted_from
quoted_cons kind c cs (None, rest) e = rw e refl
quoted_cons kind c cs (Some d, rest) e =
    rw e (ap (prepended (encode_utf8 d))
    (quoted_skip kind (length cs - length rest) cs
    ∙ ap (quoted_from kind 0)
    (ends_drop cs rest
    (ends_at cs (quoted_character kind (c ∷ cs)) (Some d, rest) (quoted_character_ends kind c cs) e))))

pub quoted_at : (kind : QuoteKind) (cs : List ℕ) (x : Option ℕ × List ℕ) → quoted_character kind cs ≡ Some x
    → quoted kind cs ≡ goes_on kind x
quoted_at kind [] x e = absurd (unfold quoted_character in cc)
quoted_at kind (c ∷ cs) x e = quoted_cons kind c cs x e

pub quoted_none : (kind : QuoteKind) (cs : List ℕ) → quoted_character kind cs ≡ None → quoted kind cs ≡ None
unfolding quoted_from
quoted_none kind [] e = refl
quoted_none kind (c ∷ cs) e = rw e refl

regroup : (prefix more : List ℕ) (read : Option (List ℕ × List ℕ))
    → prepended prefix (prepended more read) ≡ prepended (prefix ++ more) read
regroup prefix more None = refl
regroup prefix more (Some x) = ap (λ (v : List ℕ). Some (v, x.1)) (simp append_assoc)

pub quoted_more : (kind : QuoteKind) (prefix cs : List ℕ) (d : ℕ) (rest : List ℕ) (total : Option (List ℕ × List ℕ))
    → quoted_character kind cs ≡ Some (Some d, rest) → prepended prefix (quoted kind cs) ≡ total
    → prepended (prefix ++ encode_utf8 d) (quoted kind rest) ≡ total
quoted_more kind prefix cs d rest total e so_far =
    sym (regroup prefix (encode_utf8 d) (quoted kind rest))
    ∙ ap (prepended prefix) (sym (quoted_at kind cs (Some d, rest) e)) ∙ so_far

pub quoted_done : (kind : QuoteKind) (prefix cs rest : List ℕ) (total : Option (List ℕ × List ℕ))
    → quoted_character kind cs ≡ Some (None, rest) → prepended prefix (quoted kind cs) ≡ total
    → total ≡ Some (prefix, rest)
quoted_done kind prefix cs rest total e so_far =
    sym so_far ∙ ap (prepended prefix) (quoted_at kind cs (None, rest) e)
    ∙ ap (λ (v : List ℕ). Some (v, rest)) (append-nil prefix)

pub quoted_fails : (kind : QuoteKind) (r : Refusal) (prefix cs : List ℕ) (total : Option (List ℕ × List ℕ))
    → Fails r (quoted_character kind cs) → prepended prefix (quoted kind cs) ≡ total → Fails r total
quoted_fails kind OutOfMemory prefix cs total e so_far = tt
quoted_fails kind Malformed prefix cs total e so_far = sym so_far ∙ ap (prepended prefix) (quoted_none kind cs e)
