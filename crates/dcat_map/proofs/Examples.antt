-- Worked examples, by computation.
use Rattle.std.proofs.Common.{◌≡◌, List, [], ◌∷◌, Some, None, refl}
use Rattle.std.specs.Prelude.{codes}
use Rattle.ntriples.specs.declared.term.Term.TheVariants.{Iri, Blank, Literal}
use Rattle.ntriples.specs.declared.term.Triple.{Triple}
use Rattle.ntriples.specs.Grammar.{xsd_string, rdf_lang_string}
use Rattle.dcat_map.specs.Sets.{ascending_set, least}
use Rattle.dcat_map.specs.Terms.{term_cmp, triple_cmp}
use Rattle.dcat_map.specs.Graphs.{graph_of, is_about, about}
use Rattle.dcat_map.specs.Listings.{listing_of, catalogued, catalogues_in, listing_in, entries_in, links_in}
use Rattle.dcat_map.specs.Picks.{pick, picked}
use Rattle.dcat_map.specs.Distributions.{after_mark, last_part}
use Rattle.dcat_map.specs.Vocabulary.{rdf_type, dcat_catalog, dcat_dataset, dct_title}

-- a catalogue that lists `<abc>` and a blank node
small : List Triple
small =
    record { subject = Blank (codes "c"); predicate = dcat_dataset; object = Blank (codes "b") }
    ∷ record { subject = Blank (codes "c"); predicate = dcat_dataset; object = Iri (codes "abc") }
    ∷ record { subject = Blank (codes "c"); predicate = rdf_type; object = Iri dcat_catalog }
    ∷ record { subject = Blank (codes "c"); predicate = dcat_dataset; object = Iri (codes "abc") }
    ∷ []

lists_one_and_counts_one : listing_of small ≡ Some (record { iris = codes "abc" ∷ []; unnamed = 1 })
unfolding small listing_of catalogued catalogues_in listing_in entries_in links_in graph_of ascending_set is_about
    term_cmp triple_cmp
lists_one_and_counts_one = refl

lists_nothing : listing_of [] ≡ None
unfolding listing_of catalogued catalogues_in graph_of ascending_set
lists_nothing = refl

-- titles in German, in English and without a language
titles : List Triple
titles =
    record {
      subject = Iri (codes "x");
      predicate = dct_title;
      object = Literal (codes "Luft") rdf_lang_string (Some (codes "de"));
    }
    ∷ record {
      subject = Iri (codes "x");
      predicate = dct_title;
      object = Literal (codes "Air") rdf_lang_string (Some (codes "en"));
    }
    ∷ record { subject = Iri (codes "x"); predicate = dct_title; object = Literal (codes "Zz") xsd_string None }
    ∷ []

picks_the_title_without_a_language : picked (about (graph_of titles) (Iri (codes "x")) dct_title) ≡ codes "Zz"
unfolding titles pick picked least graph_of ascending_set is_about term_cmp triple_cmp
picks_the_title_without_a_language = refl

cuts_after_the_last_mark : last_part (codes "h/a#b/CSV") ≡ codes "CSV"
unfolding after_mark
cuts_after_the_last_mark = refl
