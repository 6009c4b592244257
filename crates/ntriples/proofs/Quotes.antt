-- What is quoted, and IRIs: what is read is of the form, and what is of the form is read, whatever follows.
use Rattle.std.proofs.Common.{◌≡◌, ℕ, zero, suc, ◌<◌, List, [], ◌∷◌, ◌++◌, length, Option, Some, None, refl, sym, ap}
use Rattle.std.proofs.Common.{◌∙◌, subst, arith, append_assoc}
use Rattle.std.proofs.lemmas.Option.{none-some, same_Some}
use lib.Utf8.{encode, encodes}
use Rattle.ntriples.specs.declared.quoted.QuoteKind.{QuoteKind}
use Rattle.ntriples.specs.declared.quoted.QuoteKind.TheVariants.{Iri}
use Rattle.ntriples.specs.Reading.{onto, prepended, following}
use Rattle.ntriples.specs.Parsing.{closing, quoted_character, quoted, iriref}
use Rattle.ntriples.specs.Grammar.{ArePieces, IsQuoted, IsIri}
use Rattle.ntriples.proofs.QuotedLemmas.{quoted_at, quoted_none, goes_on, quoted_character_shorter}
use Rattle.ntriples.proofs.NameLemmas.{following_ends}
use Rattle.ntriples.proofs.Pieces.{Takes, bind_some, IsPiece, IsNext, next_some, piece_of, closed}

-- ---- what is read is of the form

-- pieces up to the closing character
pub record Inside (kind : QuoteKind) (cs : List ℕ) (value rest : List ℕ) : Type 0 where
  pub inside : List ℕ
  pub characters : List ℕ
  pub parts : cs ≡ inside ++ closing kind ∷ rest
  pub pieces : ArePieces (IsPiece kind) inside characters
  pub named : value ≡ encodes characters

one_more : (kind : QuoteKind) (cs : List ℕ) (d : ℕ) (r : List ℕ) (value rest : List ℕ) → Takes (IsPiece kind) cs d r
    → Inside kind r value rest → Inside kind cs (encode d ++ value) rest
one_more kind cs d r value rest t i =
    record {
      inside = t.prefix ++ i.inside;
      characters = d ∷ i.characters;
      parts = t.parts ∙ ap (λ (l : List ℕ). t.prefix ++ l) i.parts
          ∙ sym (append_assoc t.prefix i.inside (closing kind ∷ rest));
      pieces = (t.prefix, i.inside, refl, t.form, i.pieces);
      named = ap (λ (l : List ℕ). encode d ++ l) i.named;
    }

abbrev Smaller : QuoteKind → List ℕ → Type 0
Smaller kind cs = (r : List ℕ) (x : List ℕ × List ℕ) → length r < length cs → quoted kind r ≡ Some x
    → Inside kind r x.0 x.1

inside_next : (kind : QuoteKind) (cs : List ℕ) (o : Option ℕ) (r : List ℕ) (x : List ℕ × List ℕ)
    → length r < length cs → IsNext kind cs o r → Smaller kind cs → goes_on kind (o, r) ≡ Some x
    → Inside kind cs x.0 x.1
inside_next kind cs None r x below n later e =
    subst (λ (y : List ℕ × List ℕ). Inside kind cs y.0 y.1) (same_Some {A = List ℕ × List ℕ} ([], r) x e)
    (record { inside = []; characters = []; parts = n; pieces = refl; named = refl })
inside_next kind cs (Some d) r x below n later e =
    let p = bind_some (quoted kind r)
    (λ (y : List ℕ × List ℕ). let z : Option (List ℕ × List ℕ) = Some (onto (encode d) y) in z) x e in
    subst (λ (y : List ℕ × List ℕ). Inside kind cs y.0 y.1)
    (same_Some {A = List ℕ × List ℕ} (onto (encode d) p.0) x p.2)
    (one_more kind cs d r p.0.0 p.0.1 n (later r p.0 below p.1))

inside_by : (kind : QuoteKind) (cs : List ℕ) (o : Option (Option ℕ × List ℕ)) (x : List ℕ × List ℕ)
    → quoted_character kind cs ≡ o → Smaller kind cs → quoted kind cs ≡ Some x → Inside kind cs x.0 x.1
inside_by kind cs None x is later e = absurd (none-some x (sym (quoted_none kind cs is) ∙ e))
inside_by kind cs (Some n) x is later e =
    inside_next kind cs n.0 n.1 x (quoted_character_shorter kind cs n is) (next_some kind cs n is) later
    (sym (quoted_at kind cs n is) ∙ e)

inside_within : (n : ℕ) (kind : QuoteKind) (cs : List ℕ) (x : List ℕ × List ℕ) → length cs < n
    → quoted kind cs ≡ Some x → Inside kind cs x.0 x.1
inside_within zero kind cs x h e = absurd (omega arith)
inside_within (suc n) kind cs x h e =
    inside_by kind cs (quoted_character kind cs) x refl
    (λ r y below k. inside_within n kind r y (omega arith) k) e

pub quoted_some : (kind : QuoteKind) (cs : List ℕ) (x : List ℕ × List ℕ) → quoted kind cs ≡ Some x
    → Inside kind cs x.0 x.1
quoted_some kind cs x e = inside_within (suc (length cs)) kind cs x (omega arith) e

pub enclosed : (kind : QuoteKind) (opening : ℕ) (cs value rest : List ℕ) → Inside kind cs value rest
    → Takes (IsQuoted opening (closing kind) (IsPiece kind)) (opening ∷ cs) value rest
enclosed kind opening cs value rest i =
    record {
      prefix = opening ∷ i.inside ++ closing kind ∷ [];
      parts = ap (λ (l : List ℕ). opening ∷ l) (i.parts ∙ sym (append_assoc i.inside (closing kind ∷ []) rest));
      form = record {
        inside = i.inside;
        characters = i.characters;
        form = refl;
        pieces = i.pieces;
        named = i.named;
      };
    }

pub iriref_some : (cs : List ℕ) (x : List ℕ × List ℕ) → iriref cs ≡ Some x → Takes IsIri cs x.0 x.1
unfolding iriref
iriref_some cs x e =
    let p = bind_some (following 60 cs) (quoted Iri) x e in
    subst (λ (l : List ℕ). Takes IsIri l x.0 x.1) (sym (following_ends 60 cs p.0 p.1).1)
    (enclosed Iri 60 p.0 x.0 x.1 (quoted_some Iri p.0 x p.2))

-- ---- what is of the form is read

inside_of : (kind : QuoteKind) (characters inside rest : List ℕ) → ArePieces (IsPiece kind) inside characters
    → quoted kind (inside ++ closing kind ∷ rest) ≡ Some (encodes characters, rest)
inside_of kind [] inside rest p =
    ap (λ (l : List ℕ). quoted kind (l ++ closing kind ∷ rest)) p
    ∙ quoted_at kind (closing kind ∷ rest) (None, rest) (closed kind rest)
inside_of kind (c ∷ cs) inside rest p =
    let later : List ℕ = p.1 ++ closing kind ∷ rest in
    ap (λ (l : List ℕ). quoted kind (l ++ closing kind ∷ rest)) p.2
    ∙ ap (quoted kind) (append_assoc p.0 p.1 (closing kind ∷ rest))
    ∙ quoted_at kind (p.0 ++ later) (Some c, later) (piece_of kind p.0 c later p.3)
    ∙ ap (prepended (encode c)) (inside_of kind cs p.1 rest p.4)

-- after the opening character
pub quoted_of : (kind : QuoteKind) (opening : ℕ) (text value rest : List ℕ)
    → IsQuoted opening (closing kind) (IsPiece kind) text value
    → (prefix : List ℕ) × (text ≡ opening ∷ prefix) × (quoted kind (prefix ++ rest) ≡ Some (value, rest))
quoted_of kind opening text value rest q = (
  q.inside ++ closing kind ∷ [],
  q.form,
  ap (quoted kind) (append_assoc q.inside (closing kind ∷ []) rest)
      ∙ inside_of kind q.characters q.inside rest q.pieces
      ∙ ap (λ (l : List ℕ). Some (l, rest)) (sym q.named),
)

pub iriref_of : (text iri rest : List ℕ) → IsIri text iri → iriref (text ++ rest) ≡ Some (iri, rest)
unfolding iriref
iriref_of text iri rest q =
    let p = quoted_of Iri 60 text iri rest q in
    ap (λ (l : List ℕ). iriref (l ++ rest)) p.1 ∙ p.2
