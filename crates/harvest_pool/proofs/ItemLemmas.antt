-- The items of a catalogue: each is what the catalogue's graph gives of its IRI.
use Rattle.std.proofs.Common.{◌≡◌, ◌∙◌, ℕ, Bool, List, [], ◌∷◌, map, Some, None, Ok, Err, refl, sym, ap, subst, inl, inr}
use Rattle.portal_base.proofs.Unique.{IsIn}
use Rattle.packages.proofs.FindLemmas.{map-IsIn}
use Rattle.harvest_sources.specs.declared.step.Item.{Item}
use Rattle.harvest_readings.specs.Catalogues.{catalogue_by, catalogue_read, item_in}
use Rattle.harvest_readings.specs.Harvests.{Documents, catalogue_at, graph_at}
use Rattle.harvest_readings.specs.declared.catalogue.Catalogue.{Catalogue}

-- Each item is what this function gives of its IRI.
record AreGiven (items : List Item) : Type 0 where
  pub give : List ℕ → Item
  pub again : (i : Item) → IsIn i items → i ≡ give i.iri

given_again : (give : List ℕ → Item) → ((iri : List ℕ) → (give iri).iri ≡ iri) → (iris : List (List ℕ)) (i : Item)
    → IsIn i (map give iris) → i ≡ give i.iri
given_again give keeps iris i m =
    let w = map-IsIn give i iris m in w.2 ∙ ap give (sym (ap (λ (j : Item). j.iri) w.2 ∙ keeps w.0))

of_listing : (graph : _) (listing : _) (catalogue : Catalogue) → catalogue_by graph listing ≡ Ok catalogue
    → AreGiven catalogue.items
of_listing graph None catalogue e = absurd (cc)
of_listing graph (Some listing) catalogue e =
    let same : record { items = map (item_in graph) listing.iris; unnamed = listing.unnamed } ≡ catalogue = cc in
    record {
      give = item_in graph;
      again = λ i m. given_again (item_in graph) (λ iri. refl) listing.iris i
          (subst (λ (c : Catalogue). IsIn i c.items) (sym same) m);
    }

of_graph : (read : _) (catalogue : Catalogue) → catalogue_read read ≡ Ok catalogue → AreGiven catalogue.items
of_graph (Ok graph) catalogue e = of_listing graph _ catalogue e
of_graph (Err why) catalogue e = absurd (cc)

-- No two items have one IRI.
pub same_items : (documents : Documents) (failed : Bool) (url : List ℕ) (catalogue : Catalogue)
    → catalogue_at documents failed url ≡ Ok catalogue → (i j : Item) → IsIn i catalogue.items
    → IsIn j catalogue.items → i.iri ≡ j.iri → i ≡ j
same_items documents failed url catalogue e i j m n same =
    let w = of_graph (graph_at documents failed url) catalogue e in w.again i m ∙ ap w.give same ∙ sym (w.again j n)

-- Where two functions agree on the items of a list, they give the same list.
pub map-each : {X Y : Type 0} (f g : X → Y) (xs : List X) → ((x : X) → IsIn x xs → f x ≡ g x) → map f xs ≡ map g xs
map-each f g [] same = refl
map-each f g (x ∷ xs) same =
    ap (λ y. y ∷ map f xs) (same x (inl refl)) ∙ ap (λ ys. g x ∷ ys) (map-each f g xs (λ y m. same y (inr m)))
