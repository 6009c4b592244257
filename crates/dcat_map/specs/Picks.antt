-- How one value is taken of several. The triples are those about one subject and one predicate, in any order.
use Rattle.std.specs.Prelude.{◌≡◌, ◌⊎◌, ℕ, if◌then◌else◌, Bool, true, false, List, [], ◌∷◌, Option, Some, None}
use Rattle.std.specs.declared.cmp.Ordering.TheVariants.{Less}
use Rattle.std.specs.List.{filter_map}
use Rattle.ntriples.specs.declared.term.Term.{Term}
use Rattle.ntriples.specs.declared.term.Term.TheVariants.{Iri, Blank, Literal}
use Rattle.ntriples.specs.declared.term.Triple.{Triple}
use Rattle.dcat_map.specs.Sets.{least}
use Rattle.dcat_map.specs.Terms.{term_cmp, text_of, text_cmp}
use Rattle.dcat_map.specs.Graphs.{IsObject}
use Rattle.dcat_map.specs.Listings.{iri_of}

-- a literal that isn't empty
abbrev pub is_filled : Term → Bool
is_filled (Literal [] datatype tag) = false
is_filled (Literal (b ∷ bs) datatype tag) = true
is_filled (Iri iri) = false
is_filled (Blank label) = false

abbrev pub filled : Term → Option Term
filled t = if is_filled t then Some t else None

-- Pick: of the literals that aren't empty, the one that comes before all others in the order of terms
unfoldable pub pick : List Triple → Option Term
pick ts = least term_cmp (filter_map (λ t. filled t.object) ts)

-- The literal is the pick of what the triples say of the subject by the predicate: one of the objects that isn't
-- empty, which comes before all other such ones.
pub record IsPick (triples : List Triple) (subject : Term) (predicate : List ℕ) (literal : Term) : Type 0 where
  pub object : IsObject triples subject predicate literal
  pub filled : is_filled literal ≡ true
  pub before : (other : Term) → IsObject triples subject predicate other → is_filled other ≡ true
      → (literal ≡ other) ⊎ (term_cmp literal other ≡ Less)

abbrev pub text_or_empty : Option Term → List ℕ
text_or_empty None = []
text_or_empty (Some t) = text_of t

-- the text of the pick, or else empty
unfoldable pub picked : List Triple → List ℕ
picked ts = text_or_empty (pick ts)

-- an IRI, or a literal's text
abbrev pub name_or_text : Term → Option (List ℕ)
name_or_text (Iri iri) = Some iri
name_or_text (Blank label) = None
name_or_text (Literal text datatype tag) = Some text

-- the least by bytes of the IRIs and of the literals' texts
unfoldable pub least_named : List Triple → Option (List ℕ)
least_named ts = least text_cmp (filter_map (λ t. name_or_text t.object) ts)

-- the least by bytes of the IRIs
unfoldable pub least_iri : List Triple → Option (List ℕ)
least_iri ts = least text_cmp (filter_map (λ t. iri_of t.object) ts)

abbrev pub or_empty : Option (List ℕ) → List ℕ
or_empty None = []
or_empty (Some text) = text
