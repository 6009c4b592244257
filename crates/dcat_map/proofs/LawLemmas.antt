-- The laws of listings, picks and leasts.
use Rattle.std.proofs.Common.{◌≡◌, ◌≢◌, ℕ, ℤ, true, false, cond, List, [], ◌∷◌, Some, None, refl, sym, ap, ◌∙◌}
use Rattle.std.proofs.Common.{subst, inl, inr, ◌↔◌, ◌⊎◌, Option, length}
use Rattle.std.specs.declared.cmp.Ordering.{Ordering}
use Rattle.std.specs.declared.cmp.Ordering.TheVariants.{Less, Equal, Greater}
use Rattle.std.specs.Ordering.{ordering_then, ordering_reverse, match_ordering, int_cmp, flip_args}
use Rattle.std.specs.Prelude.{◌<ℤ◌}
use Rattle.std.specs.Cmp.{IsTotalOrder}
use Rattle.std.specs.Cmp.Lexicographic.{nat_list_cmp_total}
use Rattle.std.specs.List.{AllByRecursion, Contains, filter, filter_map}
use Rattle.std.specs.List.Sorted.{IsStrictlySortedBy}
use Rattle.std.proofs.lemmas.Bool.{both_ways, false_from_ne_true}
use Rattle.std.proofs.lemmas.Option.{none-some, same_Some, cond_some}
use Rattle.std.proofs.lemmas.Cmp.{tied_itself, int_ranked, back_total, int_cmp_total}
use Rattle.std.proofs.lemmas.List.Kept.{IsStrictlySortedBy-filter}
use Rattle.ntriples.specs.declared.term.Term.{Term}
use Rattle.ntriples.specs.declared.term.Term.TheVariants.{Iri, Blank, Literal}
use Rattle.ntriples.specs.declared.term.Triple.{Triple}
use Rattle.dcat_map.specs.declared.listing.Listing.{Listing}
use Rattle.dcat_map.specs.Sets.{ascending_set, least, lesser_of}
use Rattle.dcat_map.specs.Terms.{text_of, text_cmp, term_cmp, term_cmp_total}
use Rattle.dcat_map.specs.Graphs.{graph_of, about, is_typed, objects, IsObject}
use Rattle.dcat_map.specs.Listings.{catalogues_in, links_in, entries_in, iri_of, listing_in, if_any, catalogued}
use Rattle.dcat_map.specs.Listings.{listing_of, is_unnamed, IsListed, IsCatalogue, IsEntry, AreUnnamed}
use Rattle.dcat_map.specs.Picks.{is_filled, filled, pick, picked, text_or_empty, IsPick}
use Rattle.dcat_map.specs.Vocabulary.{rdf_type, dcat_catalog, dcat_dataset}
use Rattle.dcat_map.proofs.Leasts.{first, least_first}
use Rattle.dcat_map.proofs.Memberships.{IsIn-filter, filter-IsIn, IsIn-map, map-IsIn, IsIn-flat_map, flat_map-IsIn}
use Rattle.dcat_map.proofs.Memberships.{IsIn-filter_map, filter_map-IsIn, typed-itself, typed-made, IsIn-graph_of}
use Rattle.dcat_map.proofs.Memberships.{graph_of-IsIn, IsIn-about, about-IsIn}
use Rattle.dcat_map.proofs.Orders.{same_text, same_term, same_moment}
use Rattle.dcat_map.proofs.SetLemmas.{TellsApart, IsIn, IsIn-Contains, Contains-IsIn, below_in, IsIn-ascending_set}
use Rattle.dcat_map.proofs.SetLemmas.{ascending_set-IsIn, IsStrictlySortedBy-ascending_set}

less_alone : (r : Ordering) → ordering_then r Equal ≡ Less → r ≡ Less
less_alone Less h = refl
less_alone Equal h = absurd (cc)
less_alone Greater h = absurd (cc)

iris_above : (a : List ℕ) (ts : List Term) → AllByRecursion (λ t. term_cmp (Iri a) t ≡ Less) ts
    → AllByRecursion (λ b. text_cmp a b ≡ Less) (filter_map iri_of ts)
unfolding term_cmp
iris_above a [] h = tt
iris_above a (Iri b ∷ ts) h = (less_alone (text_cmp a b) h.0, iris_above a ts h.1)
iris_above a (Blank label ∷ ts) h = iris_above a ts h.1
iris_above a (Literal text datatype tag ∷ ts) h = iris_above a ts h.1

iris_ascend : (ts : List Term) → IsStrictlySortedBy term_cmp ts → IsStrictlySortedBy text_cmp (filter_map iri_of ts)
unfolding IsStrictlySortedBy
iris_ascend [] up = tt
iris_ascend (Iri a ∷ ts) up = (iris_above a ts up.0, iris_ascend ts up.1)
iris_ascend (Blank label ∷ ts) up = iris_ascend ts up.1
iris_ascend (Literal text datatype tag ∷ ts) up = iris_ascend ts up.1

if_any-some : {A B : Type 0} (as' : List A) (b c : B) → if_any as' b ≡ Some c → c ≡ b
if_any-some [] b c h = absurd (cc)
if_any-some (a ∷ as') b c h = cc

-- The IRIs of a listing are those among the entries.
listed_iris : (ts : List Triple) (l : Listing) → listing_of ts ≡ Some l
    → l.iris ≡ filter_map iri_of (entries_in (graph_of ts))
unfolding listing_of catalogued listing_in
listed_iris ts l h =
    ap (λ (m : Listing). m.iris) (if_any-some (catalogues_in (graph_of ts)) (listing_in (graph_of ts)) l h)

entries_ascend : (g : List Triple) → IsStrictlySortedBy term_cmp (entries_in g)
unfolding entries_in
entries_ascend g = IsStrictlySortedBy-ascending_set term_cmp term_cmp_total (links_in g g)

pub listed_ascend : (ts : List Triple) (l : Listing) → listing_of ts ≡ Some l → IsStrictlySortedBy text_cmp l.iris
listed_ascend ts l h =
    subst (IsStrictlySortedBy text_cmp) (sym (listed_iris ts l h))
    (iris_ascend (entries_in (graph_of ts)) (entries_ascend (graph_of ts)))

iri_made : (iri : List ℕ) (o : Term) → iri_of o ≡ Some iri → o ≡ Iri iri
iri_made iri (Iri name) h = cc
iri_made iri (Blank label) h = absurd (cc)
iri_made iri (Literal text datatype tag) h = absurd (cc)

catalogues-IsIn : (g : List Triple) (c : Term) → IsIn c (catalogues_in g)
    → IsIn (record { subject = c; predicate = rdf_type; object = Iri dcat_catalog }) g
unfolding catalogues_in
catalogues-IsIn g c m =
    let found = map-IsIn (λ (t : Triple). t.subject) c (filter (is_typed dcat_catalog) g) m in
    let t : Triple = found.0 in
    let parts = filter-IsIn (is_typed dcat_catalog) t g found.1 in
    let made : t ≡ record { subject = c; predicate = rdf_type; object = Iri dcat_catalog } =
    typed-made dcat_catalog t parts.1
    ∙ ap (λ s. record { subject = s; predicate = rdf_type; object = Iri dcat_catalog }) (sym found.2) in
    subst (λ u. IsIn u g) made parts.0

IsIn-catalogues : (g : List Triple) (c : Term)
    → IsIn (record { subject = c; predicate = rdf_type; object = Iri dcat_catalog }) g → IsIn c (catalogues_in g)
unfolding catalogues_in
IsIn-catalogues g c m =
    IsIn-map (λ (t : Triple). t.subject) (record { subject = c; predicate = rdf_type; object = Iri dcat_catalog })
    (filter (is_typed dcat_catalog) g)
    (IsIn-filter (is_typed dcat_catalog) (record { subject = c; predicate = rdf_type; object = Iri dcat_catalog }) g m
    (typed-itself c dcat_catalog))

entries-IsIn : (g : List Triple) (o : Term) → IsIn o (entries_in g)
    → (c : Term) × IsIn (record { subject = c; predicate = rdf_type; object = Iri dcat_catalog }) g
    × IsIn (record { subject = c; predicate = dcat_dataset; object = o }) g
unfolding entries_in links_in
entries-IsIn g o m =
    let found = flat_map-IsIn (λ c. objects g c dcat_dataset) o (catalogues_in g)
    (ascending_set-IsIn term_cmp o (links_in g g) m) in
    let c : Term = found.0 in
    let object = map-IsIn (λ (t : Triple). t.object) o (about g c dcat_dataset) found.2 in (
      c,
      catalogues-IsIn g c found.1,
      subst
          (λ p. IsIn (record { subject = c; predicate = dcat_dataset; object = p }) g) (sym object.2)
          (about-IsIn g c dcat_dataset object.0 object.1),
    )

IsIn-entries : (g : List Triple) (c o : Term)
    → IsIn (record { subject = c; predicate = rdf_type; object = Iri dcat_catalog }) g
    → IsIn (record { subject = c; predicate = dcat_dataset; object = o }) g → IsIn o (entries_in g)
unfolding entries_in links_in
IsIn-entries g c o typed link =
    IsIn-ascending_set term_cmp same_term o (links_in g g)
    (IsIn-flat_map (λ d. objects g d dcat_dataset) o c (catalogues_in g) (IsIn-catalogues g c typed)
    (IsIn-map (λ (t : Triple). t.object) (record { subject = c; predicate = dcat_dataset; object = o })
    (about g c dcat_dataset) (IsIn-about g c dcat_dataset o link)))

listed-to : (ts : List Triple) (iri : List ℕ) → IsIn iri (filter_map iri_of (entries_in (graph_of ts)))
    → IsListed ts iri
listed-to ts iri m =
    let found = filter_map-IsIn iri_of iri (entries_in (graph_of ts)) m in
    let parts = entries-IsIn (graph_of ts) found.0 found.1 in
    let c : Term = parts.0 in
    let link : IsIn (record { subject = c; predicate = dcat_dataset; object = Iri iri }) (graph_of ts) =
    subst (λ o. IsIn (record { subject = c; predicate = dcat_dataset; object = o }) (graph_of ts))
    (iri_made iri found.0 found.2) parts.2 in
    record {
      catalogue = c;
      typed = Contains-IsIn _ ts (graph_of-IsIn _ ts parts.1);
      link = Contains-IsIn _ ts (graph_of-IsIn _ ts link);
    }

listed-from : (ts : List Triple) (iri : List ℕ) → IsListed ts iri
    → IsIn iri (filter_map iri_of (entries_in (graph_of ts)))
listed-from ts iri h =
    IsIn-filter_map iri_of iri (Iri iri) (entries_in (graph_of ts))
    (IsIn-entries (graph_of ts) h.catalogue (Iri iri) (IsIn-graph_of _ ts (IsIn-Contains _ ts h.typed))
    (IsIn-graph_of _ ts (IsIn-Contains _ ts h.link)))
    refl

pub listed_exactly : (ts : List Triple) (l : Listing) (iri : List ℕ) → listing_of ts ≡ Some l
    → Contains l.iris iri ↔ IsListed ts iri
listed_exactly ts l iri h = (
  λ m. listed-to ts iri (subst (IsIn iri) (listed_iris ts l h) (IsIn-Contains iri l.iris m)),
  λ d. Contains-IsIn iri l.iris (subst (IsIn iri) (sym (listed_iris ts l h)) (listed-from ts iri d)),
)

-- What is the pick's, of the objects about a subject and a predicate.
filled_parts : (o z : Term) → filled o ≡ Some z → (is_filled o ≡ true) × (o ≡ z)
filled_parts o z h = cond_some (is_filled o) o z h

objects_filled : (ts : List Triple) (s : Term) (p : List ℕ) → List Term
objects_filled ts s p = filter_map (λ (t : Triple). filled t.object) (about (graph_of ts) s p)

filled-to : (ts : List Triple) (s : Term) (p : List ℕ) (z : Term) → IsIn z (objects_filled ts s p)
    → IsObject ts s p z × (is_filled z ≡ true)
unfolding objects_filled
filled-to ts s p z m =
    let found = filter_map-IsIn (λ (t : Triple). filled t.object) z (about (graph_of ts) s p) m in
    let t : Triple = found.0 in
    let parts = filled_parts t.object z found.2 in (
      subst (λ (o : Term). IsObject ts s p o) parts.1
          (Contains-IsIn _ ts (graph_of-IsIn _ ts (about-IsIn (graph_of ts) s p t found.1))),
      ap is_filled (sym parts.1) ∙ parts.0,
    )

filled-from : (ts : List Triple) (s : Term) (p : List ℕ) (z : Term) → IsObject ts s p z → is_filled z ≡ true
    → IsIn z (objects_filled ts s p)
unfolding objects_filled
filled-from ts s p z m h =
    IsIn-filter_map (λ (t : Triple). filled t.object) z (record { subject = s; predicate = p; object = z })
    (about (graph_of ts) s p)
    (IsIn-about (graph_of ts) s p z (IsIn-graph_of _ ts (IsIn-Contains _ ts m)))
    (ap (λ b. cond b (Some z) None) h)

pick-least : (ts : List Triple) (s : Term) (p : List ℕ)
    → pick (about (graph_of ts) s p) ≡ least term_cmp (objects_filled ts s p)
unfolding pick objects_filled
pick-least ts s p = refl

first-least : {X : Type 0} (cmp : X → X → Ordering) (x : X) (xs : List X) → IsStrictlySortedBy cmp xs → IsIn x xs
    → ((z : X) → IsIn z xs → cmp z x ≡ Less → ⊥) → first xs ≡ Some x
unfolding IsStrictlySortedBy
first-least cmp x [] up m none = absurd m
first-least cmp x (y ∷ ys) up (inl e) none = ap Some (sym e)
first-least cmp x (y ∷ ys) up (inr m) none = absurd (none y (inl refl) (below_in cmp y x ys up.0 m))

least-is : {X : Type 0} (cmp : X → X → Ordering) (o : IsTotalOrder cmp) → TellsApart cmp → (x : X) (xs : List X)
    → IsIn x xs → ((z : X) → IsIn z xs → cmp z x ≡ Less → ⊥) → least cmp xs ≡ Some x
least-is cmp o apart x xs m none =
    least_first cmp apart xs ∙ first-least cmp x (ascending_set cmp xs) (IsStrictlySortedBy-ascending_set cmp o xs)
    (IsIn-ascending_set cmp apart x xs m)
    (λ z n. none z (ascending_set-IsIn cmp z xs n))

least-parts : {X : Type 0} (cmp : X → X → Ordering) (o : IsTotalOrder cmp) → TellsApart cmp → (x : X) (xs : List X)
    → least cmp xs ≡ Some x → IsIn x xs × ((z : X) → IsIn z xs → (x ≡ z) ⊎ (cmp x z ≡ Less))
unfolding IsStrictlySortedBy
least-parts {X} cmp o apart x xs e =
    by_set (ascending_set cmp xs) (IsStrictlySortedBy-ascending_set cmp o xs) (sym (least_first cmp apart xs) ∙ e)
    (λ z m. ascending_set-IsIn cmp z xs m) (λ z m. IsIn-ascending_set cmp apart z xs m)
  where
    of_head : (y : X) (ys : List X) → y ≡ x → AllByRecursion (λ z. cmp y z ≡ Less) ys → (z : X) → IsIn z (y ∷ ys)
        → (x ≡ z) ⊎ (cmp x z ≡ Less)
    of_head y ys is up z (inl f) = inl (sym is ∙ sym f)
    of_head y ys is up z (inr n) = inr (ap (λ (w : X). cmp w z) (sym is) ∙ below_in cmp y z ys up n)

    by_set : (ys : List X) → IsStrictlySortedBy cmp ys → first ys ≡ Some x → ((z : X) → IsIn z ys → IsIn z xs)
        → ((z : X) → IsIn z xs → IsIn z ys) → IsIn x xs × ((z : X) → IsIn z xs → (x ≡ z) ⊎ (cmp x z ≡ Less))
    by_set [] up f back to = absurd (none-some x f)
    by_set (y ∷ ys) up f back to = let is : y ≡ x = same_Some y x f in
        (back x (inl (sym is)), λ z m. of_head y ys is up.0 z (to z m))

least-none : {X : Type 0} (cmp : X → X → Ordering) (xs : List X) → least cmp xs ≡ None → xs ≡ []
unfolding least
least-none cmp [] e = refl
least-none {X} cmp (x ∷ xs) e = absurd (some_least (least cmp xs) e)
  where
    some_least : (best : Option X) → lesser_of cmp best (Some x) ≡ None → ⊥
    some_least None h = none-some x (sym h)
    some_least (Some y) h = none-some (match_ordering (cmp x y) x y y) (sym h)

none-least : {X : Type 0} (cmp : X → X → Ordering) (xs : List X) → ((z : X) → IsIn z xs → ⊥) → least cmp xs ≡ None
unfolding least
none-least cmp [] h = refl
none-least cmp (x ∷ xs) h = absurd (h x (inl refl))

-- ---- picks

pub picked-first : (ts : List Triple) (s : Term) (p : List ℕ) (o : Term) → IsObject ts s p o → is_filled o ≡ true
    → ((other : Term) → IsObject ts s p other → is_filled other ≡ true → term_cmp other o ≢ Less)
    → picked (about (graph_of ts) s p) ≡ text_of o
unfolding picked
picked-first ts s p o m h none =
    ap text_or_empty (pick-least ts s p ∙ least-is term_cmp term_cmp_total same_term o (objects_filled ts s p)
    (filled-from ts s p o m h)
    (λ z n below. let parts = filled-to ts s p z n in none z parts.0 parts.1 below))

no_filled : (ts : List Triple) (s : Term) (p : List ℕ) → ((o : Term) → IsObject ts s p o → is_filled o ≡ false)
    → (z : Term) → IsIn z (objects_filled ts s p) → ⊥
no_filled ts s p none z n =
    let parts = filled-to ts s p z n in
    both_ways (is_filled z) (none z parts.0) parts.1

pub pick-none : (ts : List Triple) (s : Term) (p : List ℕ) → ((o : Term) → IsObject ts s p o → is_filled o ≡ false)
    → pick (about (graph_of ts) s p) ≡ None
pick-none ts s p none = pick-least ts s p ∙ none-least term_cmp (objects_filled ts s p) (no_filled ts s p none)

pub picked-none : (ts : List Triple) (s : Term) (p : List ℕ) → ((o : Term) → IsObject ts s p o → is_filled o ≡ false)
    → picked (about (graph_of ts) s p) ≡ []
unfolding picked
picked-none ts s p none = ap text_or_empty (pick-none ts s p none)

pub none-pick : (ts : List Triple) (s : Term) (p : List ℕ) → pick (about (graph_of ts) s p) ≡ None
    → (o : Term) → IsObject ts s p o → is_filled o ≡ false
none-pick ts s p e o m =
    false_from_ne_true (is_filled o)
    (λ h. subst (IsIn o) (least-none term_cmp (objects_filled ts s p) (sym (pick-least ts s p) ∙ e))
    (filled-from ts s p o m h))

pub pick-is : (ts : List Triple) (s : Term) (p : List ℕ) (o : Term) → pick (about (graph_of ts) s p) ≡ Some o
    → IsPick ts s p o
pick-is ts s p o e =
    let parts = least-parts term_cmp term_cmp_total same_term o (objects_filled ts s p)
    (sym (pick-least ts s p) ∙ e) in
    let is = filled-to ts s p o parts.0 in
    record {
      object = is.0;
      filled = is.1;
      before = λ other m h. parts.1 other (filled-from ts s p other m h);
    }

not_before : (o z : Term) → (o ≡ z) ⊎ (term_cmp o z ≡ Less) → term_cmp z o ≡ Less → ⊥
not_before o z (inl e) below =
    let no : ◌≡◌ {A = Ordering} Less Equal = sym below ∙ ap (λ (w : Term). term_cmp w o) (sym e)
    ∙ tied_itself term_cmp_total o in cc
not_before o z (inr e) below =
    let no : ◌≡◌ {A = Ordering} Less Greater = sym below ∙ term_cmp_total.antisymm z o ∙ ap ordering_reverse e in cc

pub is-pick : (ts : List Triple) (s : Term) (p : List ℕ) (o : Term) → IsPick ts s p o
    → pick (about (graph_of ts) s p) ≡ Some o
is-pick ts s p o i =
    pick-least ts s p ∙ least-is term_cmp term_cmp_total same_term o (objects_filled ts s p)
    (filled-from ts s p o i.object i.filled)
    (λ z n below. let parts = filled-to ts s p z n in not_before o z (i.before z parts.0 parts.1) below)

-- ---- leasts

pub least-text : (texts : List (List ℕ)) (t : List ℕ) → Contains texts t
    → ((other : List ℕ) → Contains texts other → text_cmp other t ≢ Less) → least text_cmp texts ≡ Some t
least-text texts t m none = least-is text_cmp nat_list_cmp_total same_text t texts (IsIn-Contains t texts m)
    (λ z n. none z (Contains-IsIn z texts n))

pub least-moment : (moments : List ℤ) (last : ℤ) → Contains moments last
    → ((other : ℤ) → Contains moments other → ¬ (last <ℤ other)) → least (flip_args int_cmp) moments ≡ Some last
least-moment moments last m none =
    least-is (flip_args int_cmp) (back_total int_cmp_total) same_moment last moments (IsIn-Contains last moments m)
    (λ z n below. none z (Contains-IsIn z moments n) (int_ranked last z Less (sym below)))

-- ---- what is listed and has no name

sorted_unnamed : (ts : List Triple) → IsStrictlySortedBy term_cmp (filter is_unnamed (entries_in (graph_of ts)))
sorted_unnamed ts =
    IsStrictlySortedBy-filter term_cmp is_unnamed (entries_in (graph_of ts)) (entries_ascend (graph_of ts))

entry-to : (ts : List Triple) (o : Term) → IsIn o (entries_in (graph_of ts)) → IsEntry ts o
entry-to ts o m =
    let parts = entries-IsIn (graph_of ts) o m in
    record {
      catalogue = parts.0;
      typed = Contains-IsIn _ ts (graph_of-IsIn _ ts parts.1);
      link = Contains-IsIn _ ts (graph_of-IsIn _ ts parts.2);
    }

entry-from : (ts : List Triple) (o : Term) → IsEntry ts o → IsIn o (entries_in (graph_of ts))
entry-from ts o h =
    IsIn-entries (graph_of ts) h.catalogue o (IsIn-graph_of _ ts (IsIn-Contains _ ts h.typed))
    (IsIn-graph_of _ ts (IsIn-Contains _ ts h.link))

are_unnamed : (ts : List Triple) → AreUnnamed ts (filter is_unnamed (entries_in (graph_of ts)))
are_unnamed ts =
    let entries = entries_in (graph_of ts) in
    record {
      apart = sorted_unnamed ts;
      entries = λ o. (
        λ m. let parts = filter-IsIn is_unnamed o entries (IsIn-Contains o (filter is_unnamed entries) m) in
            (entry-to ts o parts.0, parts.1),
        λ h. Contains-IsIn o (filter is_unnamed entries) (IsIn-filter is_unnamed o entries (entry-from ts o h.0) h.1),
      );
    }

unnamed_count : (ts : List Triple) (l : Listing) → listing_of ts ≡ Some l
    → l.unnamed ≡ length (filter is_unnamed (entries_in (graph_of ts)))
unfolding listing_of catalogued listing_in
unnamed_count ts l h =
    ap (λ (m : Listing). m.unnamed) (if_any-some (catalogues_in (graph_of ts)) (listing_in (graph_of ts)) l h)

pub unnamed_counted : (ts : List Triple) (l : Listing) → listing_of ts ≡ Some l
    → (objects : List Term) × AreUnnamed ts objects × (l.unnamed ≡ length objects)
unnamed_counted ts l h = (filter is_unnamed (entries_in (graph_of ts)), are_unnamed ts, unnamed_count ts l h)

-- ---- no catalogue

none_any : {A B : Type 0} (as' : List A) (b : B) → if_any as' b ≡ None → as' ≡ []
none_any [] b h = refl
none_any (a ∷ as') b h = absurd (none-some b (sym h))

any_none : {A B : Type 0} (as' : List A) (b : B) → ((a : A) → IsIn a as' → ⊥) → if_any as' b ≡ None
any_none [] b h = refl
any_none (a ∷ as') b h = absurd (h a (inl refl))

no_catalogue : (ts : List Triple) → listing_of ts ≡ None → (c : Term) → IsCatalogue ts c → ⊥
unfolding listing_of catalogued
no_catalogue ts h c m =
    subst (IsIn c) (none_any (catalogues_in (graph_of ts)) (listing_in (graph_of ts)) h)
    (IsIn-catalogues (graph_of ts) c (IsIn-graph_of _ ts (IsIn-Contains _ ts m)))

no_listing : (ts : List Triple) → ((c : Term) → IsCatalogue ts c → ⊥) → listing_of ts ≡ None
unfolding listing_of catalogued
no_listing ts h =
    any_none (catalogues_in (graph_of ts)) (listing_in (graph_of ts))
    (λ c m. h c (Contains-IsIn _ ts (graph_of-IsIn _ ts (catalogues-IsIn (graph_of ts) c m))))

pub no_catalogue_exactly : (ts : List Triple) → (listing_of ts ≡ None) ↔ ((c : Term) → IsCatalogue ts c → ⊥)
no_catalogue_exactly ts = (no_catalogue ts, no_listing ts)
