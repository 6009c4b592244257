-- The order of terms (RDF 1.1 Concepts, section 3.1) by which one of several literals is picked: without a language
-- first, then the language `en`, then the other languages, then by language, text and datatype. IRIs come after
-- literals, and blank nodes after IRIs, each by their bytes.
use Rattle.std.specs.Prelude.{ℕ, ◌==◌, if◌then◌else◌, Bool, true, false, ◌&&◌, ◌||◌, List, [], ◌∷◌, Some, None}
use Rattle.std.specs.declared.cmp.Ordering.{Ordering}
use Rattle.std.specs.Ordering.{nat_cmp, on, then_cmp}
use Rattle.std.specs.Cmp.{IsTotalOrder, on_total, then_total, nat_cmp_total}
use Rattle.std.specs.Cmp.Lexicographic.{slice_cmp, nat_list_cmp_total}
use Rattle.std.specs.Str.{bytes_eq}
use Rattle.ntriples.specs.declared.term.Term.{Term}
use Rattle.ntriples.specs.declared.term.Term.TheVariants.{Iri, Blank, Literal}
use Rattle.ntriples.specs.declared.term.Triple.{Triple}

-- nothing more, or a further subtag
abbrev pub ends_subtag : List ℕ → Bool
ends_subtag [] = true
ends_subtag (c ∷ cs) = c == 45

-- a language tag whose first subtag is `en`, in upper or lower case (BCP 47, section 2.1)
abbrev pub is_english : List ℕ → Bool
is_english [] = false
is_english (e ∷ []) = false
is_english (e ∷ n ∷ rest) = (e == 101 || e == 69) && (n == 110 || n == 78) && ends_subtag rest

abbrev pub rank_of : Term → ℕ
rank_of (Literal text datatype None) = 0
rank_of (Literal text datatype (Some tag)) = if is_english tag then 1 else 2
rank_of (Iri iri) = 3
rank_of (Blank label) = 4

-- the language tag, or nothing
abbrev pub language_of : Term → List ℕ
language_of (Literal text datatype (Some tag)) = tag
language_of (Literal text datatype None) = []
language_of (Iri iri) = []
language_of (Blank label) = []

-- a literal's text, an IRI, or a label
abbrev pub text_of : Term → List ℕ
text_of (Literal text datatype tag) = text
text_of (Iri iri) = iri
text_of (Blank label) = label

abbrev pub datatype_of : Term → List ℕ
datatype_of (Literal text datatype tag) = datatype
datatype_of (Iri iri) = []
datatype_of (Blank label) = []

-- by bytes
abbrev pub text_cmp : List ℕ → List ℕ → Ordering
text_cmp = slice_cmp nat_cmp

unfoldable pub term_cmp : Term → Term → Ordering
term_cmp =
    then_cmp (on rank_of nat_cmp)
    (then_cmp (on language_of text_cmp) (then_cmp (on text_of text_cmp) (on datatype_of text_cmp)))

-- triples by subject, then predicate, then object
unfoldable pub triple_cmp : Triple → Triple → Ordering
triple_cmp =
    then_cmp (on (λ t. t.subject) term_cmp) (then_cmp (on (λ t. t.predicate) text_cmp) (on (λ t. t.object) term_cmp))

pub term_cmp_total : IsTotalOrder term_cmp
unfolding term_cmp
term_cmp_total =
    then_total (on_total rank_of nat_cmp_total)
    (then_total (on_total language_of nat_list_cmp_total)
    (then_total (on_total text_of nat_list_cmp_total) (on_total datatype_of nat_list_cmp_total)))

pub triple_cmp_total : IsTotalOrder triple_cmp
unfolding triple_cmp
triple_cmp_total =
    then_total (on_total (λ t. t.subject) term_cmp_total)
    (then_total (on_total (λ t. t.predicate) nat_list_cmp_total) (on_total (λ t. t.object) term_cmp_total))

-- the term is this IRI
abbrev pub is_iri : List ℕ → Term → Bool
is_iri iri (Iri name) = bytes_eq name iri
is_iri iri (Blank label) = false
is_iri iri (Literal text datatype tag) = false
