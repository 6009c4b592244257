-- What is in lists that are made of others, and in a graph.
use Rattle.std.proofs.Common.{◌≡◌, ℕ, Bool, true, false, cond, ◌&&◌, List, [], ◌∷◌, ◌++◌, Option, Some, None, refl}
use Rattle.std.proofs.Common.{sym, ap, ◌∙◌, subst, inl, inr, ◌⊎◌, map}
use Rattle.std.specs.declared.cmp.Ordering.{Ordering}
use Rattle.std.specs.declared.cmp.Ordering.TheVariants.{Less, Equal, Greater}
use Rattle.std.specs.Ordering.{is_eq}
use Rattle.std.specs.List.{filter, filter_map, flat_map, cons_option}
use Rattle.std.specs.Str.{bytes_eq}
use Rattle.std.proofs.lemmas.Cmp.{tied_itself}
use Rattle.std.proofs.lemmas.Map.Text.{is_eq-slice_cmp}
use Rattle.std.specs.Cmp.Lexicographic.{nat_list_cmp_total}
use Rattle.ntriples.specs.declared.term.Term.{Term}
use Rattle.ntriples.specs.declared.term.Term.TheVariants.{Iri, Blank, Literal}
use Rattle.ntriples.specs.declared.term.Triple.{Triple}
use Rattle.dcat_map.specs.Terms.{text_cmp, term_cmp, triple_cmp, term_cmp_total, is_iri}
use Rattle.dcat_map.specs.Graphs.{graph_of, is_about, is_typed, about}
use Rattle.dcat_map.specs.Vocabulary.{rdf_type}
use Rattle.dcat_map.proofs.SetLemmas.{IsIn, IsIn-ascending_set, ascending_set-IsIn}
use Rattle.dcat_map.proofs.Orders.{same_text, same_term, same_triple}

pub IsIn-filter : {X : Type 0} (p : X → Bool) (x : X) (xs : List X) → IsIn x xs → p x ≡ true → IsIn x (filter p xs)
IsIn-filter p x [] m h = absurd m
IsIn-filter {X} p x (y ∷ ys) (inl e) h =
    let here : p y ≡ true = ap p (sym e) ∙ h in
    subst (λ b. IsIn x (cond b (y ∷ filter p ys) (filter p ys))) (sym here) (inl e)
IsIn-filter {X} p x (y ∷ ys) (inr m) h =
    let P : Bool → Type 0 = λ b. IsIn x (cond b (y ∷ filter p ys) (filter p ys)) in
    elim (p y) as P [ true ↦ inr (IsIn-filter p x ys m h) | false ↦ IsIn-filter p x ys m h ]

pub filter-IsIn : {X : Type 0} (p : X → Bool) (x : X) (xs : List X) → IsIn x (filter p xs) → IsIn x xs × (p x ≡ true)
filter-IsIn p x [] m = absurd m
filter-IsIn {X} p x (y ∷ ys) m =
    let P : Bool → Type 0 = λ b. p y ≡ b → IsIn x (cond b (y ∷ filter p ys) (filter p ys))
    → IsIn x (y ∷ ys) × (p x ≡ true) in
    (elim (p y) as P [
      | true ↦ λ e n. kept e (filter-IsIn p x ys) n
      | false ↦ λ e n. let rest = filter-IsIn p x ys n in (inr rest.0, rest.1)
    ]) refl m
  where
    kept : p y ≡ true → (IsIn x (filter p ys) → IsIn x ys × (p x ≡ true)) → IsIn x (y ∷ filter p ys)
        → IsIn x (y ∷ ys) × (p x ≡ true)
    kept e go (inl f) = (inl f, ap p f ∙ e)
    kept e go (inr n) = let rest = go n in (inr rest.0, rest.1)

pub IsIn-map : {X Y : Type 0} (f : X → Y) (x : X) (xs : List X) → IsIn x xs → IsIn (f x) (map f xs)
IsIn-map f x [] m = absurd m
IsIn-map f x (y ∷ ys) (inl e) = inl (ap f e)
IsIn-map f x (y ∷ ys) (inr m) = inr (IsIn-map f x ys m)

pub map-IsIn : {X Y : Type 0} (f : X → Y) (z : Y) (xs : List X) → IsIn z (map f xs) → (x : X) × IsIn x xs × (z ≡ f x)
map-IsIn f z [] m = absurd m
map-IsIn f z (x ∷ xs) (inl e) = (x, inl refl, e)
map-IsIn f z (x ∷ xs) (inr m) = let rest = map-IsIn f z xs m in (rest.0, inr rest.1, rest.2)

IsIn-append_left : {X : Type 0} (z : X) (xs ys : List X) → IsIn z xs → IsIn z (xs ++ ys)
IsIn-append_left z [] ys m = absurd m
IsIn-append_left z (x ∷ xs) ys (inl e) = inl e
IsIn-append_left z (x ∷ xs) ys (inr m) = inr (IsIn-append_left z xs ys m)

IsIn-append_right : {X : Type 0} (z : X) (xs ys : List X) → IsIn z ys → IsIn z (xs ++ ys)
IsIn-append_right z [] ys m = m
IsIn-append_right z (x ∷ xs) ys m = inr (IsIn-append_right z xs ys m)

append-IsIn : {X : Type 0} (z : X) (xs ys : List X) → IsIn z (xs ++ ys) → IsIn z xs ⊎ IsIn z ys
append-IsIn z [] ys m = inr m
append-IsIn z (x ∷ xs) ys (inl e) = inl (inl e)
append-IsIn {X} z (x ∷ xs) ys (inr m) = further (append-IsIn z xs ys m)
  where
    further : IsIn z xs ⊎ IsIn z ys → IsIn z (x ∷ xs) ⊎ IsIn z ys
    further (inl n) = inl (inr n)
    further (inr n) = inr n

pub IsIn-flat_map : {X Y : Type 0} (f : X → List Y) (z : Y) (x : X) (xs : List X) → IsIn x xs → IsIn z (f x)
    → IsIn z (flat_map f xs)
IsIn-flat_map f z x [] m h = absurd m
IsIn-flat_map {X} f z x (y ∷ ys) (inl e) h =
    IsIn-append_left z (f y) (flat_map f ys) (subst (λ (w : X). IsIn z (f w)) e h)
IsIn-flat_map f z x (y ∷ ys) (inr m) h = IsIn-append_right z (f y) (flat_map f ys) (IsIn-flat_map f z x ys m h)

pub flat_map-IsIn : {X Y : Type 0} (f : X → List Y) (z : Y) (xs : List X) → IsIn z (flat_map f xs)
    → (x : X) × IsIn x xs × IsIn z (f x)
flat_map-IsIn f z [] m = absurd m
flat_map-IsIn {X} {Y} f z (x ∷ xs) m = by_part (flat_map-IsIn f z xs) (append-IsIn z (f x) (flat_map f xs) m)
  where
    by_part : (IsIn z (flat_map f xs) → (y : X) × IsIn y xs × IsIn z (f y)) → IsIn z (f x) ⊎ IsIn z (flat_map f xs)
        → (y : X) × IsIn y (x ∷ xs) × IsIn z (f y)
    by_part go (inl n) = (x, inl refl, n)
    by_part go (inr n) = let rest = go n in (rest.0, inr rest.1, rest.2)

pub IsIn-filter_map : {X Y : Type 0} (h : X → Option Y) (z : Y) (x : X) (xs : List X) → IsIn x xs → h x ≡ Some z
    → IsIn z (filter_map h xs)
IsIn-filter_map h z x [] m e = absurd m
IsIn-filter_map {X} {Y} h z x (y ∷ ys) (inl f) e =
    let here : h y ≡ Some z = ap h (sym f) ∙ e in
    subst (λ (o : Option Y). IsIn z (cons_option o (filter_map h ys))) (sym here) (inl refl)
IsIn-filter_map {X} {Y} h z x (y ∷ ys) (inr m) e = skipped (h y) (IsIn-filter_map h z x ys m e)
  where
    skipped : (o : Option Y) → IsIn z (filter_map h ys) → IsIn z (cons_option o (filter_map h ys))
    skipped None n = n
    skipped (Some w) n = inr n

pub filter_map-IsIn : {X Y : Type 0} (h : X → Option Y) (z : Y) (xs : List X) → IsIn z (filter_map h xs)
    → (x : X) × IsIn x xs × (h x ≡ Some z)
filter_map-IsIn h z [] m = absurd m
filter_map-IsIn {X} {Y} h z (x ∷ xs) m =
    let P : Option Y → Type 0 = λ o. h x ≡ o → IsIn z (cons_option o (filter_map h xs))
    → (y : X) × IsIn y (x ∷ xs) × (h y ≡ Some z) in
    (elim (h x) as P [
      | None ↦ λ e n. let rest = filter_map-IsIn h z xs n in (rest.0, inr rest.1, rest.2)
      | Some w ↦ λ e n. kept w e (filter_map-IsIn h z xs) n
    ]) refl m
  where
    kept : (w : Y) → h x ≡ Some w → (IsIn z (filter_map h xs) → (y : X) × IsIn y xs × (h y ≡ Some z))
        → IsIn z (w ∷ filter_map h xs) → (y : X) × IsIn y (x ∷ xs) × (h y ≡ Some z)
    kept w e go (inl f) = (x, inl refl, e ∙ ap Some (sym f))
    kept w e go (inr n) = let rest = go n in (rest.0, inr rest.1, rest.2)

both_true : (a b : Bool) → (a && b) ≡ true → (a ≡ true) × (b ≡ true)
both_true true b h = (refl, h)
both_true false b h = absurd (cc)

pub equal_from_is_eq : (r : Ordering) → is_eq r ≡ true → r ≡ Equal
equal_from_is_eq Less h = absurd (cc)
equal_from_is_eq Equal h = refl
equal_from_is_eq Greater h = absurd (cc)

same_bytes : (xs ys : List ℕ) → bytes_eq xs ys ≡ true → xs ≡ ys
same_bytes xs ys h = same_text xs ys (equal_from_is_eq (text_cmp xs ys) (is_eq-slice_cmp xs ys ∙ h))

bytes_eq-itself : (xs : List ℕ) → bytes_eq xs xs ≡ true
bytes_eq-itself xs = sym (is_eq-slice_cmp xs xs) ∙ ap is_eq (tied_itself nat_list_cmp_total xs)

make : Term → List ℕ → Term → Triple
make s p o = record { subject = s; predicate = p; object = o }

-- The triple with this subject, predicate and object is about them.
pub about-itself : (s : Term) (p : List ℕ) (o : Term)
    → is_about s p (record { subject = s; predicate = p; object = o }) ≡ true
unfolding is_about
about-itself s p o =
    ap (λ b. b && bytes_eq p p) (ap is_eq (tied_itself term_cmp_total s)) ∙ bytes_eq-itself p

pub about-parts : (s : Term) (p : List ℕ) (t : Triple) → is_about s p t ≡ true → (t.subject ≡ s) × (t.predicate ≡ p)
unfolding is_about
about-parts s p t h =
    let parts = both_true (is_eq (term_cmp t.subject s)) (bytes_eq t.predicate p) h in
    (same_term t.subject s (equal_from_is_eq (term_cmp t.subject s) parts.0), same_bytes t.predicate p parts.1)

-- A triple about a subject and a predicate is the one with its object.
pub about-made : (s : Term) (p : List ℕ) (t : Triple) → is_about s p t ≡ true
    → t ≡ record { subject = s; predicate = p; object = t.object }
unfolding make
about-made s p t h =
    let parts = about-parts s p t h in
    ap (λ a. make a t.predicate t.object) parts.0 ∙ ap (λ a. make s a t.object) parts.1

pub typed-itself : (s : Term) (class : List ℕ)
    → is_typed class (record { subject = s; predicate = rdf_type; object = Iri class }) ≡ true
typed-itself s class = ap (λ b. b && bytes_eq class class) (bytes_eq-itself rdf_type) ∙ bytes_eq-itself class

iri_object : (class : List ℕ) (o : Term) → is_iri class o ≡ true → o ≡ Iri class
iri_object class (Iri name) h = ap Iri (same_bytes name class h)
iri_object class (Blank label) h = absurd (cc)
iri_object class (Literal text datatype tag) h = absurd (cc)

pub typed-made : (class : List ℕ) (t : Triple) → is_typed class t ≡ true
    → t ≡ record { subject = t.subject; predicate = rdf_type; object = Iri class }
unfolding make
typed-made class t h =
    let parts = both_true (bytes_eq t.predicate rdf_type) (is_iri class t.object) h in
    ap (λ a. make t.subject a t.object) (same_bytes t.predicate rdf_type parts.0)
    ∙ ap (λ o. make t.subject rdf_type o) (iri_object class t.object parts.1)

-- The graph has the triples of the list.
pub IsIn-graph_of : (t : Triple) (ts : List Triple) → IsIn t ts → IsIn t (graph_of ts)
unfolding graph_of
IsIn-graph_of t ts m = IsIn-ascending_set triple_cmp same_triple t ts m

pub graph_of-IsIn : (t : Triple) (ts : List Triple) → IsIn t (graph_of ts) → IsIn t ts
unfolding graph_of
graph_of-IsIn t ts m = ascending_set-IsIn triple_cmp t ts m

-- An object is one of those about its subject and predicate just where the triple is in the graph.
pub IsIn-about : (g : List Triple) (s : Term) (p : List ℕ) (o : Term)
    → IsIn (record { subject = s; predicate = p; object = o }) g
    → IsIn (record { subject = s; predicate = p; object = o }) (about g s p)
IsIn-about g s p o m = IsIn-filter (is_about s p) (record { subject = s; predicate = p; object = o }) g m
    (about-itself s p o)

pub about-IsIn : (g : List Triple) (s : Term) (p : List ℕ) (t : Triple) → IsIn t (about g s p)
    → IsIn (record { subject = s; predicate = p; object = t.object }) g
about-IsIn g s p t m =
    let parts = filter-IsIn (is_about s p) t g m in
    subst (λ u. IsIn u g) (about-made s p t parts.1) parts.0
