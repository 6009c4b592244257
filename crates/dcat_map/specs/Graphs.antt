-- A graph is a set of triples (RDF 1.1 Concepts, section 3): neither their order nor a repeat makes a difference.
use Rattle.std.specs.Prelude.{ℕ, Bool, ◌&&◌, List, map, filter}
use Rattle.std.specs.List.{list_any, Contains}
use Rattle.std.specs.Ordering.{is_eq}
use Rattle.std.specs.Str.{bytes_eq}
use Rattle.ntriples.specs.declared.term.Term.{Term}
use Rattle.ntriples.specs.declared.term.Triple.{Triple}
use Rattle.dcat_map.specs.Sets.{ascending_set}
use Rattle.dcat_map.specs.Terms.{term_cmp, triple_cmp, is_iri}
use Rattle.dcat_map.specs.Vocabulary.{rdf_type, dcat_dataset_class}

-- the graph of a list of triples: its triples, each once, in ascending order
unfoldable pub graph_of : List Triple → List Triple
graph_of triples = ascending_set triple_cmp triples

abbrev pub has_subject : Term → Triple → Bool
has_subject subject t = is_eq (term_cmp t.subject subject)

abbrev pub has_predicate : List ℕ → Triple → Bool
has_predicate predicate t = bytes_eq t.predicate predicate

-- the triple has this subject and this predicate
unfoldable pub is_about : Term → List ℕ → Triple → Bool
is_about subject predicate t = has_subject subject t && has_predicate predicate t

-- the triples with this subject and this predicate
abbrev pub about : List Triple → Term → List ℕ → List Triple
about g subject predicate = filter (is_about subject predicate) g

-- their objects, which ascend as the graph does
abbrev pub objects : List Triple → Term → List ℕ → List Term
objects g subject predicate = map (λ t. t.object) (about g subject predicate)

-- the triple says that its subject is of this class
abbrev pub is_typed : List ℕ → Triple → Bool
is_typed class t = bytes_eq t.predicate rdf_type && is_iri class t.object

-- the IRI is described: a triple of the graph says that it is a dcat:Dataset
unfoldable pub is_described : List Triple → List ℕ → Bool
is_described g iri = list_any (λ t. is_iri iri t.subject && is_typed dcat_dataset_class t) g

-- the triples have this object of this subject and this predicate
abbrev pub IsObject : List Triple → Term → List ℕ → Term → Type 0
IsObject triples subject predicate object =
    Contains triples (record { subject = subject; predicate = predicate; object = object })
