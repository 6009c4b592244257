-- What is added and what is deleted make up the change of the count of datasets.
use Rattle.std.proofs.Common.{◌≡◌, ℕ, ◌+◌, Bool, true, false, not, ◌||◌, List, [], ◌∷◌, length, map, refl, sym, ap, ◌∙◌}
use Rattle.std.proofs.Common.{inl, inr, subst, arith}
use Rattle.std.specs.Prelude.{filter}
use Rattle.std.specs.Ordering.{nat_cmp}
use Rattle.std.specs.Cmp.Lexicographic.{slice_cmp, nat_list_cmp_total}
use Rattle.std.specs.List.{count_by, list_any}
use Rattle.std.specs.Str.{bytes_eq}
use Rattle.std.proofs.lemmas.List.{length-map}
use Rattle.std.proofs.lemmas.List.Filters.{length-filter_both}
use Rattle.std.proofs.lemmas.List.Sums.{length-filter}
use Rattle.std.proofs.lemmas.Slice.Eq.{bytes_eq-Decides}
use Rattle.portal_base.specs.Ordered.{IsAscending, IsBelowAll}
use Rattle.portal_base.proofs.Filtered.{IsAscending-filter, IsIn-filter, filter-IsIn}
use Rattle.portal_base.proofs.Unique.{IsIn, unique}
use Rattle.packages.specs.declared.package.Package.{Package}
use Rattle.packages.proofs.FindLemmas.{IsIn-map, map-IsIn}
use Rattle.harvest_results.specs.Counts.{counts_of, has_name_of}
use Rattle.harvest_results.specs.Readings.{CatalogueReading}
use Rattle.harvest_results.specs.Readings.CatalogueReading.{Broken, Listed}
use Rattle.harvest_results.specs.Results.{datasets_after}
use Rattle.harvest_results.proofs.CountLemmas.{list_any-IsIn}
use Rattle.harvest_results.proofs.LookupLemmas.{name_cmp}
use Rattle.harvest_results.proofs.ResultLemmas.{after-ascending}

pub any-found : {X : Type 0} (p : X → Bool) (xs : List X) → list_any p xs ≡ true → (x : X) × IsIn x xs × (p x ≡ true)
any-found p [] h = absurd (cc)
any-found {X} p (x ∷ xs) h = by (p x) refl h (any-found p xs)
  where
    by : (b : Bool) → p x ≡ b → (b || list_any p xs) ≡ true
        → (list_any p xs ≡ true → (y : X) × IsIn y xs × (p y ≡ true)) → (y : X) × IsIn y (x ∷ xs) × (p y ≡ true)
    by true is e go = (x, inl refl, is)
    by false is e go = let w = go e in (w.0, inr w.1, w.2)

-- ---- the names of two lists

abbrev name_of : Package → List ℕ
name_of d = d.name

IsBelowAll-names : (d : Package) (ds : List Package) → IsBelowAll name_cmp d ds
    → IsBelowAll (slice_cmp nat_cmp) d.name (map name_of ds)
IsBelowAll-names d [] below = tt
IsBelowAll-names d (e ∷ es) below = (below.0, IsBelowAll-names d es below.1)

IsAscending-names : (ds : List Package) → IsAscending name_cmp ds → IsAscending (slice_cmp nat_cmp) (map name_of ds)
IsAscending-names [] up = tt
IsAscending-names (d ∷ ds) up = (IsBelowAll-names d ds up.0, IsAscending-names ds up.1)

-- A name that both lists have is a name of what is picked of the other.
in-both : (ds es : List Package) (name : List ℕ) → IsIn name (map name_of (filter (has_name_of es) ds))
    → IsIn name (map name_of (filter (has_name_of ds) es))
in-both ds es name m =
    let w = map-IsIn name_of name (filter (has_name_of es) ds) m in
    let here = IsIn-filter (has_name_of es) w.0 ds w.1 in
    let e = any-found (λ (e : Package). bytes_eq e.name w.0.name) es here.1 in
    let like : e.0.name ≡ w.0.name = (bytes_eq-Decides e.0.name w.0.name).0 e.2 in
    let back : has_name_of ds e.0 ≡ true =
    list_any-IsIn (λ (d : Package). bytes_eq d.name e.0.name) w.0 ds here.0
    ((bytes_eq-Decides w.0.name e.0.name).1 (sym like)) in
    subst (λ (n : List ℕ). IsIn n (map name_of (filter (has_name_of ds) es))) (like ∙ sym w.2)
    (IsIn-map name_of e.0 (filter (has_name_of ds) es) (filter-IsIn (has_name_of ds) e.0 es e.1 back))

pub same-count : (ds es : List Package) → IsAscending name_cmp ds → IsAscending name_cmp es
    → count_by (has_name_of es) ds ≡ count_by (has_name_of ds) es
same-count ds es up_d up_e =
    let names : map name_of (filter (has_name_of es) ds) ≡ map name_of (filter (has_name_of ds) es) =
    unique (slice_cmp nat_cmp) nat_list_cmp_total (map name_of (filter (has_name_of es) ds))
    (map name_of (filter (has_name_of ds) es))
    (IsAscending-names (filter (has_name_of es) ds) (IsAscending-filter name_cmp (has_name_of es) ds up_d))
    (IsAscending-names (filter (has_name_of ds) es) (IsAscending-filter name_cmp (has_name_of ds) es up_e))
    (in-both ds es) (in-both es ds) in
    let first = length-filter (has_name_of es) ds in
    let second = length-filter (has_name_of ds) es in
    let m = length-map (filter (has_name_of es) ds) name_of in
    let n = length-map (filter (has_name_of ds) es) name_of in
    let lengths = ap length names in
    sym first ∙ sym m ∙ lengths ∙ n ∙ second

pub count-rest : {X : Type 0} (p : X → Bool) (xs : List X) → count_by p xs + count_by (λ x. not (p x)) xs ≡ length xs
count-rest p xs =
    let parts = length-filter_both p (λ x. not (p x)) (λ x. refl) xs in
    let first = length-filter p xs in
    let second = length-filter (λ x. not (p x)) xs in
    omega arith

pub balance : (old : List Package) (reading : CatalogueReading) → IsAscending name_cmp old
    → (counts_of old reading).added + length old
    ≡ length (datasets_after old reading) + (counts_of old reading).deleted
balance old (Broken cause) up = omega arith
balance old (Listed source items unnamed) up =
    let after = datasets_after old (Listed source items unnamed) in
    let same = same-count after old (after-ascending old source items unnamed) up in
    let one = count-rest (has_name_of old) after in
    let two = count-rest (has_name_of after) old in
    omega arith
