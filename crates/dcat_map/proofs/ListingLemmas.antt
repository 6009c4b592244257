-- Links are joined as the triples that give them, and a graph has a catalogue where some triple says so.
use Rattle.std.proofs.Common.{◌≡◌, Bool, true, false, cond, ◌||◌, List, [], ◌∷◌, ◌++◌, Some, None, refl, sym, ap, ◌∙◌}
use Rattle.std.proofs.Common.{map, filter}
use Rattle.std.specs.List.{flat_map, list_any}
use Rattle.std.proofs.lemmas.Grind.{flat_map-append}
use Rattle.std.proofs.lemmas.List.{map-append}
use Rattle.std.proofs.lemmas.List.Elements.{filter-append}
use Rattle.ntriples.specs.declared.term.Term.{Term}
use Rattle.ntriples.specs.declared.term.Triple.{Triple}
use Rattle.dcat_map.specs.Graphs.{objects, is_typed}
use Rattle.dcat_map.specs.Vocabulary.{dcat_catalog, dcat_dataset}
use Rattle.dcat_map.specs.Listings.{catalogues_in, links_in, listing_in, catalogued, if_any}

catalogues_in-append : (xs ys : List Triple) → catalogues_in (xs ++ ys) ≡ catalogues_in xs ++ catalogues_in ys
unfolding catalogues_in
catalogues_in-append xs ys = ap (map (λ t. t.subject)) (filter-append (is_typed dcat_catalog) xs ys)
    ∙ map-append (λ (t : Triple). t.subject) (filter (is_typed dcat_catalog) xs) (filter (is_typed dcat_catalog) ys)

pub links_in-append : (g xs ys : List Triple) → links_in g (xs ++ ys) ≡ links_in g xs ++ links_in g ys
unfolding links_in
links_in-append g xs ys =
    let from : Term → List Term = λ catalogue. objects g catalogue dcat_dataset in
    ap (flat_map from) (catalogues_in-append xs ys) ∙ flat_map-append from (catalogues_in xs) (catalogues_in ys)

pub links_in-nil : (g : List Triple) → links_in g [] ≡ []
unfolding links_in catalogues_in
links_in-nil g = refl

if_any-filter : {X Y B : Type 0} (p : X → Bool) (f : X → Y) (b : B) (xs : List X)
    → if_any (map f (filter p xs)) b ≡ cond (list_any p xs) (Some b) None
if_any-filter p f b [] = refl
if_any-filter {X} {Y} {B} p f b (x ∷ xs) =
    let P : Bool
    → Type 0 = λ v. if_any (map f (cond v (x ∷ filter p xs) (filter p xs))) b
    ≡ cond (v || list_any p xs) (Some b) None in
    elim (p x) as P [ true ↦ refl | false ↦ if_any-filter p f b xs ]

-- A graph's listing, by the test whether it has a catalogue.
pub catalogued-by : (g : List Triple) (b : Bool) → b ≡ list_any (is_typed dcat_catalog) g
    → catalogued g ≡ cond b (Some (listing_in g)) None
unfolding catalogues_in catalogued
catalogued-by g b e = if_any-filter (is_typed dcat_catalog) (λ t. t.subject) (listing_in g) g
    ∙ ap (λ v. cond v (Some (listing_in g)) None) (sym e)
