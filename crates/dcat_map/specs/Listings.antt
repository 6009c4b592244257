-- What a graph's catalogues list (DCAT 3, section 6.3).
use Rattle.std.specs.Prelude.{◌≡◌, ◌↔◌, ℕ, Bool, true, false, List, [], ◌∷◌, length, map, filter, Option, Some, None}
use Rattle.std.specs.List.{filter_map, flat_map, Contains}
use Rattle.std.specs.List.Sorted.{IsStrictlySortedBy}
use Rattle.ntriples.specs.declared.term.Term.{Term}
use Rattle.ntriples.specs.declared.term.Term.TheVariants.{Iri, Blank, Literal}
use Rattle.ntriples.specs.declared.term.Triple.{Triple}
use Rattle.dcat_map.specs.declared.listing.Listing.{Listing}
use Rattle.dcat_map.specs.Sets.{ascending_set}
use Rattle.dcat_map.specs.Terms.{term_cmp}
use Rattle.dcat_map.specs.Vocabulary.{rdf_type, dcat_catalog, dcat_dataset}
use Rattle.dcat_map.specs.Graphs.{graph_of, objects, is_typed}

-- the subjects that the triples say to be catalogues
unfoldable pub catalogues_in : List Triple → List Term
catalogues_in g = map (λ t. t.subject) (filter (is_typed dcat_catalog) g)

-- what dcat:dataset leads to in the graph from each of the subjects that the triples say to be catalogues
unfoldable pub links_in : List Triple → List Triple → List Term
links_in g triples = flat_map (λ catalogue. objects g catalogue dcat_dataset) (catalogues_in triples)

-- what dcat:dataset leads to from some catalogue, as a set
unfoldable pub entries_in : List Triple → List Term
entries_in g = ascending_set term_cmp (links_in g g)

abbrev pub iri_of : Term → Option (List ℕ)
iri_of (Iri iri) = Some iri
iri_of (Blank label) = None
iri_of (Literal text datatype tag) = None

abbrev pub is_unnamed : Term → Bool
is_unnamed (Iri iri) = false
is_unnamed (Blank label) = true
is_unnamed (Literal text datatype tag) = true

-- the IRIs among the entries, in their order, and how many entries are no IRI
unfoldable pub listing_in : List Triple → Listing
listing_in g = record { iris = filter_map iri_of (entries_in g); unnamed = length (filter is_unnamed (entries_in g)) }

-- the listing, where there is a catalogue
abbrev pub if_any : {A B : Type 0} → List A → B → Option B
if_any [] b = None
if_any (a ∷ as') b = Some b

unfoldable pub catalogued : List Triple → Option Listing
catalogued g = if_any (catalogues_in g) (listing_in g)

-- the listing of the graph of the triples
unfoldable pub listing_of : List Triple → Option Listing
listing_of triples = catalogued (graph_of triples)

-- the triples say of the subject that it is a catalogue
abbrev pub IsCatalogue : List Triple → Term → Type 0
IsCatalogue triples subject =
    Contains triples (record { subject = subject; predicate = rdf_type; object = Iri dcat_catalog })

-- some catalogue of the triples has this as an object of dcat:dataset
pub record IsEntry (triples : List Triple) (object : Term) : Type 0 where
  pub catalogue : Term
  pub typed : IsCatalogue triples catalogue
  pub link : Contains triples (record { subject = catalogue; predicate = dcat_dataset; object = object })

-- these are, each once, the entries of catalogues of the triples that are no IRIs
pub record AreUnnamed (triples : List Triple) (objects : List Term) : Type 0 where
  pub apart : IsStrictlySortedBy term_cmp objects
  pub entries : (object : Term) → Contains objects object ↔ (IsEntry triples object × (is_unnamed object ≡ true))

-- some catalogue of the triples has the IRI as an object of dcat:dataset
pub record IsListed (triples : List Triple) (iri : List ℕ) : Type 0 where
  pub catalogue : Term
  pub typed : Contains triples (record { subject = catalogue; predicate = rdf_type; object = Iri dcat_catalog })
  pub link : Contains triples (record { subject = catalogue; predicate = dcat_dataset; object = Iri iri })
