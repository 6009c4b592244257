-- The orders of terms and of triples make no two of them equal.
use Rattle.std.proofs.Common.{◌≡◌, ℕ, ◌<◌, Bool, true, false, cond, List, [], ◌∷◌, Some, None, refl, sym, ap, ◌∙◌}
use Rattle.std.proofs.Common.{arith}
use Rattle.std.specs.declared.cmp.Ordering.{Ordering}
use Rattle.std.specs.declared.cmp.Ordering.TheVariants.{Less, Equal, Greater}
use Rattle.std.specs.Ordering.{nat_cmp, int_cmp, flip_args, ordering_then}
use Rattle.std.proofs.lemmas.Cmp.{ranked, int_ranked}
use Rattle.ntriples.specs.declared.term.Term.{Term}
use Rattle.ntriples.specs.declared.term.Term.TheVariants.{Iri, Blank, Literal}
use Rattle.ntriples.specs.declared.term.Triple.{Triple}
use Rattle.dcat_map.specs.Terms.{is_english, rank_of, language_of, text_of, datatype_of, text_cmp, term_cmp, triple_cmp}
use Rattle.dcat_map.proofs.SetLemmas.{TellsApart}

pub then_equal : (r s : Ordering) → ordering_then r s ≡ Equal → (r ≡ Equal) × (s ≡ Equal)
then_equal Less s h = absurd (cc)
then_equal Equal s h = (refl, h)
then_equal Greater s h = absurd (cc)

same_number : (x y : ℕ) → nat_cmp x y ≡ Equal → x ≡ y
same_number x y h = ranked x y Equal (sym h)

pub same_text : TellsApart text_cmp
same_text [] [] h = refl
same_text [] (y ∷ ys) h = absurd (cc)
same_text (x ∷ xs) [] h = absurd (cc)
same_text (x ∷ xs) (y ∷ ys) h =
    let parts = then_equal (nat_cmp x y) (text_cmp xs ys) h in
    let first : x ≡ y = same_number x y parts.0 in
    let rest : xs ≡ ys = same_text xs ys parts.1 in
    cc

then_none : (r : Ordering) → ordering_then r Equal ≡ r
then_none Less = refl
then_none Equal = refl
then_none Greater = refl

-- Two IRIs are in the order of their texts.
pub iris_by_text : (i j : List ℕ) → text_cmp i j ≡ term_cmp (Iri i) (Iri j)
unfolding term_cmp
iris_by_text i j = sym (then_none (text_cmp i j))

-- Two blank nodes are in the order of their labels.
pub blank_nodes_by_label : (i j : List ℕ) → text_cmp i j ≡ term_cmp (Blank i) (Blank j)
unfolding term_cmp
blank_nodes_by_label i j = sym (then_none (text_cmp i j))

-- A literal with a language has the rank 1 or 2.
tagged : (tag : List ℕ) → (0 < cond (is_english tag) 1 2) × (cond (is_english tag) 1 2 < 3)
tagged tag =
    let P : Bool → Type 0 = λ b. (0 < cond b 1 2) × (cond b 1 2 < 3) in
    elim (is_english tag) as P [ true ↦ (omega arith, omega arith) | false ↦ (omega arith, omega arith) ]

from_parts : (a b : Term) → rank_of a ≡ rank_of b → language_of a ≡ language_of b → text_of a ≡ text_of b
    → datatype_of a ≡ datatype_of b → a ≡ b
from_parts (Iri i) (Iri j) r l t d = ap Iri t
from_parts (Iri i) (Blank j) r l t d = absurd (omega arith)
from_parts (Iri i) (Literal u e None) r l t d = absurd (omega arith)
from_parts (Iri i) (Literal u e (Some tag)) r l t d = let h = tagged tag in absurd (omega arith)
from_parts (Blank i) (Iri j) r l t d = absurd (omega arith)
from_parts (Blank i) (Blank j) r l t d = ap Blank t
from_parts (Blank i) (Literal u e None) r l t d = absurd (omega arith)
from_parts (Blank i) (Literal u e (Some tag)) r l t d = let h = tagged tag in absurd (omega arith)
from_parts (Literal u e None) (Iri j) r l t d = absurd (omega arith)
from_parts (Literal u e None) (Blank j) r l t d = absurd (omega arith)
from_parts (Literal u e None) (Literal v f None) r l t d = cc
from_parts (Literal u e None) (Literal v f (Some tag)) r l t d = let h = tagged tag in absurd (omega arith)
from_parts (Literal u e (Some tag)) (Iri j) r l t d = let h = tagged tag in absurd (omega arith)
from_parts (Literal u e (Some tag)) (Blank j) r l t d = let h = tagged tag in absurd (omega arith)
from_parts (Literal u e (Some tag)) (Literal v f None) r l t d = let h = tagged tag in absurd (omega arith)
from_parts (Literal u e (Some tag)) (Literal v f (Some more)) r l t d = cc

pub same_term : TellsApart term_cmp
unfolding term_cmp
same_term a b h =
    let first = then_equal (nat_cmp (rank_of a) (rank_of b)) _ h in
    let second = then_equal (text_cmp (language_of a) (language_of b)) _ first.1 in
    let third = then_equal (text_cmp (text_of a) (text_of b)) _ second.1 in
    from_parts a b (same_number _ _ first.0) (same_text _ _ second.0) (same_text _ _ third.0) (same_text _ _ third.1)

pub same_triple : TellsApart triple_cmp
unfolding triple_cmp
same_triple t u h =
    let first = then_equal (term_cmp t.subject u.subject) _ h in
    let second = then_equal (text_cmp t.predicate u.predicate) _ first.1 in
    let subject : t.subject ≡ u.subject = same_term _ _ first.0 in
    let predicate : t.predicate ≡ u.predicate = same_text _ _ second.0 in
    let object : t.object ≡ u.object = same_term _ _ second.1 in
    let make : Term → List ℕ → Term → Triple = λ s p o. record { subject = s; predicate = p; object = o } in
    ap (λ s. make s t.predicate t.object) subject ∙ ap (λ p. make u.subject p t.object) predicate
    ∙ ap (λ o. make u.subject u.predicate o) object

-- Moments in descending order.
pub same_moment : TellsApart (flip_args int_cmp)
same_moment x y h = sym (int_ranked y x Equal (sym h))
