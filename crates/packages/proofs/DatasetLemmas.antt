-- The datasets of a shelf by id, the effect of each change on them, and the datasets that a key finds.
use Rattle.std.proofs.Common.{◌≡◌, ℕ, ◌<◌, ◌^◌, Bool, true, false, cond, List, [], ◌∷◌, Option, Some, None, length, map}
use Rattle.std.proofs.Common.{refl, sym, ap, ◌∙◌, subst, ◌⊎◌, inl, inr, true≢false, IfSome, IfNone, IsTrue}
use Rattle.std.specs.Prelude.{filter, find}
use Rattle.std.specs.List.{All, list_any}
use Rattle.std.specs.Option.{option_map, option_map_or}
use Rattle.std.specs.declared.cmp.Ordering.TheVariants.{Less, Equal}
use Rattle.std.specs.Ordering.{nat_cmp, is_eq}
use Rattle.std.proofs.lemmas.Map.Text.{is_eq-slice_cmp}
use Rattle.std.proofs.lemmas.Slice.Eq.{bytes_eq-Decides}
use Rattle.slab.specs.Slab.{Slab, get, entries, Updates}
use Rattle.portal_base.specs.Ordered.{IsAscending, ascending, upserted, dropped}
use Rattle.portal_base.proofs.Inserted.{AreApart, IsAscending-ascending, list_any-ascending}
use Rattle.portal_base.proofs.Upserted.{IsAscending-upserted, IsAscending-dropped, IsIn-upserted, upserted-IsIn}
use Rattle.portal_base.proofs.Upserted.{All-each, upserted-IsIn_other, IsIn-dropped, dropped-IsIn}
use Rattle.portal_base.proofs.Filtered.{IsIn-filter, filter-IsIn}
use Rattle.portal_base.proofs.Unique.{IsIn, unique, below_in, IsIn-ascending, ascending-IsIn}
use Rattle.digest_index.specs.Index.{IndexState, IsUnder}
use Rattle.packages.specs.Digest.{digest_of}
use Rattle.packages.specs.ShelfInvariant.{HasUniqueKeys, IsConsistent, IsReady, is_named_at, shelf_state}
use Rattle.packages.specs.Named.{is_named}
use Rattle.packages.specs.Order.{dataset_cmp, dataset_cmp_total}
use Rattle.packages.specs.Shelf.{IsValidShelf, number_cmp, package_at, number_in}
use Rattle.packages.specs.Tags.{text_set}
use Rattle.packages.specs.declared.package.Package.{Package}
use Rattle.packages.proofs.FindLemmas.{find-none, none-find, none-list_any, find-alone, IsIn-map, map-IsIn}
use Rattle.packages.proofs.FindLemmas.{list_any-map, count-map, count-ascending}
use Rattle.packages.proofs.ShelfInvariantLemmas.{IsFree, id_named, same_some, after_update, unchanged, before_removal}
use Rattle.packages.proofs.EntryLemmas.{nat_cmp-same, IsAscending-entries, IsIn-entries, entries-IsIn}
use Rattle.packages.proofs.EntryLemmas.{IsIn-package_at, package_at-IsIn}
use Rattle.packages.proofs.TextSets.{text_set-same}

-- ---- datasets that compare as equal

pub like_id : (d e : Package) → is_eq (dataset_cmp d e) ≡ true → d.id ≡ e.id
like_id d e like = (bytes_eq-Decides d.id e.id).0 (sym (is_eq-slice_cmp d.id e.id) ∙ like)

pub id_like : (d e : Package) → d.id ≡ e.id → is_eq (dataset_cmp d e) ≡ true
id_like d e same = is_eq-slice_cmp d.id e.id ∙ (bytes_eq-Decides d.id e.id).1 same

pub unlike : (d e : Package) → (d.id ≡ e.id → ⊥) → is_eq (dataset_cmp d e) ≡ false
unlike d e apart = by (is_eq (dataset_cmp d e)) refl
  where
    by : (b : Bool) → is_eq (dataset_cmp d e) ≡ b → b ≡ false
    by true is = absurd (apart (like_id d e is))
    by false is = refl

-- ---- the datasets ascend

-- no two entries have datasets of one id
abbrev pub HasDistinctIds : List (ℕ × Package) → Type 0
HasDistinctIds es = (x y : ℕ × Package) → IsIn x es → IsIn y es → x.1.id ≡ y.1.id → x.0 ≡ y.0

AreApart-datasets : (es : List (ℕ × Package)) → IsAscending number_cmp es → HasDistinctIds es
    → AreApart dataset_cmp (map (λ e. e.1) es)
AreApart-datasets [] up apart = tt
AreApart-datasets (x ∷ xs) up apart = (
  none-list_any (λ d. is_eq (dataset_cmp d x.1)) (map (λ e. e.1) xs) other,
  AreApart-datasets xs up.1 (λ y z m n. apart y z (inr m) (inr n)),
)
  where
    later : (e : ℕ × Package) → IsIn e xs → e.1.id ≡ x.1.id → ⊥
    later e m same =
        let number : e.0 ≡ x.0 = apart e x (inr m) (inl refl) same in
        let below : nat_cmp x.0 e.0 ≡ Less = below_in number_cmp x e xs up.0 m in
        let equal : nat_cmp x.0 e.0 ≡ Equal = ap (nat_cmp x.0) number ∙ nat_cmp-same x.0 in
        absurd (cc)

    other : (d : Package) → IsIn d (map (λ e. e.1) xs) → is_eq (dataset_cmp d x.1) ≡ false
    other d m =
        let w = map-IsIn (λ e. e.1) d xs m in
        unlike d x.1 (λ same. later w.0 w.1 (ap (λ f. f.id) (sym w.2) ∙ same))

pub IsAscending-datasets : (es : List (ℕ × Package)) → IsAscending number_cmp es → HasDistinctIds es
    → IsAscending dataset_cmp (ascending dataset_cmp (map (λ e. e.1) es))
IsAscending-datasets es up apart =
    IsAscending-ascending dataset_cmp dataset_cmp_total (map (λ e. e.1) es) (AreApart-datasets es up apart)

-- ---- the datasets and the entries are the same

pub datasets-IsIn : (d : Package) (es : List (ℕ × Package)) → IsIn d (ascending dataset_cmp (map (λ e. e.1) es))
    → (n : ℕ) × IsIn (n, d) es
datasets-IsIn d es m =
    let w = map-IsIn (λ e. e.1) d es (ascending-IsIn dataset_cmp d (map (λ e. e.1) es) m) in
    (w.0.0, subst (λ f. IsIn (w.0.0, f) es) (sym w.2) w.1)

pub IsIn-datasets : (n : ℕ) (d : Package) (es : List (ℕ × Package)) → IsIn (n, d) es
    → IsIn d (ascending dataset_cmp (map (λ e. e.1) es))
IsIn-datasets n d es m =
    IsIn-ascending dataset_cmp d (map (λ e. e.1) es) (IsIn-map (λ e. e.1) (n, d) es m)

-- the datasets of a slab, ordered by id
abbrev pub datasets_by_id : Slab Package → List Package
datasets_by_id s = ascending dataset_cmp (map (λ e. e.1) (entries s))

datasets_by_id-get : (s : Slab Package) (d : Package) → IsIn d (datasets_by_id s) → (n : ℕ) × (get s n ≡ Some d)
datasets_by_id-get s d m = let w = datasets-IsIn d (entries s) m in (w.0, entries-IsIn w.0 d s w.1)

get-datasets_by_id : (s : Slab Package) (n : ℕ) (d : Package) → get s n ≡ Some d → IsIn d (datasets_by_id s)
get-datasets_by_id s n d there = IsIn-datasets n d (entries s) (IsIn-entries n d s there)

-- datasets with the same id are at the same number
one_number : (s : Slab Package) → HasUniqueKeys s → (m n : ℕ) (d e : Package) → get s m ≡ Some d → get s n ≡ Some e
    → d.id ≡ e.id → m ≡ n
one_number s apart m n d e there also same =
    apart d.id m n d e there also (id_named d) (ap (λ t. is_named t e) same ∙ id_named e)

IsAscending-datasets_by_id : (s : Slab Package) → HasUniqueKeys s → IsAscending dataset_cmp (datasets_by_id s)
IsAscending-datasets_by_id s apart =
    IsAscending-datasets (entries s) (IsAscending-entries s)
    (λ x y m n same. one_number s apart x.0 y.0 x.1 y.1 (entries-IsIn x.0 x.1 s m) (entries-IsIn y.0 y.1 s n) same)

-- ---- one change

-- A dataset that is put at a vacant number, or in place of one with the same id, is inserted by its id.
pub datasets_by_id-with : (old new : Slab Package) (n : ℕ) (p : Package) → HasUniqueKeys old → HasUniqueKeys new
    → Updates old new n (Some p) → ((q : Package) → get old n ≡ Some q → q.id ≡ p.id)
    → datasets_by_id new ≡ upserted dataset_cmp p (datasets_by_id old)
datasets_by_id-with old new n p was now change own =
    unique dataset_cmp dataset_cmp_total (datasets_by_id new) (upserted dataset_cmp p (datasets_by_id old))
    (IsAscending-datasets_by_id new now)
    (IsAscending-upserted dataset_cmp dataset_cmp_total p (datasets_by_id old) (IsAscending-datasets_by_id old was)) to
    from
  where
    to : (z : Package) → IsIn z (datasets_by_id new) → IsIn z (upserted dataset_cmp p (datasets_by_id old))
    to z m = by (datasets_by_id-get new z m).0 (datasets_by_id-get new z m).1
      where
        by : (k : ℕ) → get new k ≡ Some z → IsIn z (upserted dataset_cmp p (datasets_by_id old))
        by k there =
            elim (after_update old new n p change k z there) [
              | inl x ↦ subst (λ y. IsIn y (upserted dataset_cmp p (datasets_by_id old))) (sym x.1)
                  (upserted-IsIn dataset_cmp p (datasets_by_id old))
              | inr x ↦ upserted-IsIn_other dataset_cmp p z (datasets_by_id old) (get-datasets_by_id old k z x.1)
                  (unlike z p (λ same. x.0 (one_number new now k n z p there change.changed same)))
            ]

    from : (z : Package) → IsIn z (upserted dataset_cmp p (datasets_by_id old)) → IsIn z (datasets_by_id new)
    from z m = by (IsIn-upserted dataset_cmp p z (datasets_by_id old) m)
      where
        by : (z ≡ p) ⊎ (IsIn z (datasets_by_id old) × (is_eq (dataset_cmp z p) ≡ false)) → IsIn z (datasets_by_id new)
        by (inl same) = subst (λ y. IsIn y (datasets_by_id new)) (sym same) (get-datasets_by_id new n p change.changed)
        by (inr x) =
            let w = datasets_by_id-get old z x.0 in
            get-datasets_by_id new w.0 z
            (unchanged old new n (Some p) change w.0 z
            (λ same. true≢false (sym (id_like z p (own z (ap (get old) (sym same) ∙ w.1))) ∙ x.1)) w.1)

-- The dataset at a number that gets vacant is dropped.
pub datasets_by_id-without : (old new : Slab Package) (n : ℕ) (p : Package) → HasUniqueKeys old → HasUniqueKeys new
    → Updates old new n None → get old n ≡ Some p
    → datasets_by_id new ≡ dropped (λ d. dataset_cmp d p) (datasets_by_id old)
datasets_by_id-without old new n p was now change there =
    unique dataset_cmp dataset_cmp_total (datasets_by_id new) (dropped (λ d. dataset_cmp d p) (datasets_by_id old))
    (IsAscending-datasets_by_id new now)
    (IsAscending-dropped dataset_cmp (λ d. dataset_cmp d p) (datasets_by_id old) (IsAscending-datasets_by_id old was))
    to from
  where
    to : (z : Package) → IsIn z (datasets_by_id new) → IsIn z (dropped (λ d. dataset_cmp d p) (datasets_by_id old))
    to z m =
        let w = datasets_by_id-get new z m in
        let stood = before_removal old new n change w.0 z w.1 in
        dropped-IsIn (λ d. dataset_cmp d p) z (datasets_by_id old) (get-datasets_by_id old w.0 z stood.1)
        (unlike z p (λ same. stood.0 (one_number old was w.0 n z p stood.1 there same)))

    from : (z : Package) → IsIn z (dropped (λ d. dataset_cmp d p) (datasets_by_id old)) → IsIn z (datasets_by_id new)
    from z m =
        let stood = IsIn-dropped (λ d. dataset_cmp d p) z (datasets_by_id old) m in
        let w = datasets_by_id-get old z stood.0 in
        let mine : w.0 ≡ n → z.id ≡ p.id =
        λ same. ap (λ d. d.id) (same_some z p (sym w.1 ∙ ap (get old) same ∙ there)) in
        get-datasets_by_id new w.0 z
        (unchanged old new n None change w.0 z (λ same. true≢false (sym (id_like z p (mine same)) ∙ stood.1)) w.1)

-- ---- the dataset at a number

pub package_at_slab : (n : ℕ) (s : Slab Package) (b : Bool) → package_at n (shelf_state s b) ≡ get s n
package_at_slab n s b = by (get s n) refl (package_at n (shelf_state s b)) refl
  where
    by : (o : Option Package) → get s n ≡ o → (r : Option Package) → package_at n (shelf_state s b) ≡ r → r ≡ o
    by (Some d) there r is = sym is ∙ package_at-IsIn n d (entries s) (IsAscending-entries s) (IsIn-entries n d s there)
    by None none None is = refl
    by None none (Some d) is = sym (entries-IsIn n d s (IsIn-package_at n d (entries s) is)) ∙ none

-- The numbers of a shelf are below 2^32.
pub numbers_below : (s : Slab Package) (index : IndexState ℕ) (b : Bool) → IsConsistent s index b
    → All (λ e. e.0 < 2 ^ 32) (entries s)
numbers_below s index b consistent =
    All-each (λ e. e.0 < 2 ^ 32) (entries s) (λ e m. consistent.below e.0 e.1 (entries-IsIn e.0 e.1 s m))

-- The value of a consistent shelf is valid.
pub IsValidShelf-consistent : (s : Slab Package) (index : IndexState ℕ) (b : Bool) → IsConsistent s index b
    → IsValidShelf (shelf_state s b)
IsValidShelf-consistent s index b kept =
    record {
      numbers = IsAscending-entries s;
      below = λ n d there. kept.below n d (sym (package_at_slab n s b) ∙ there);
      apart = λ key m n d e there also.
          kept.apart key m n d e (sym (package_at_slab m s b) ∙ there) (sym (package_at_slab n s b) ∙ also);
      vacant = by b kept.ready;
    }
  where
    by : (c : Bool) → (c ≡ true → IsReady s index)
        → IfSome (cond c (Some s.vacant_key) None) (λ n. (n < 2 ^ 32) × (package_at n (shelf_state s b) ≡ None))
    by true ready = ((ready refl).number, package_at_slab s.vacant_key s b ∙ (ready refl).vacant)
    by false ready = tt

-- ---- what is found by a key

-- the number of a dataset that has the key
pub number_is : (s : Slab Package) (b : Bool) → HasUniqueKeys s → (key : List ℕ) (n : ℕ) (d : Package)
    → get s n ≡ Some d
    → is_named key d ≡ true → number_in key (shelf_state s b) ≡ Some n
number_is s b apart key n d there named =
    ap (option_map (λ e. e.0))
    (find-alone (λ e. is_named key e.1) (n, d) (entries s) (IsIn-entries n d s there) named alone)
  where
    alone : (y : ℕ × Package) → IsIn y (entries s) → is_named key y.1 ≡ true → y ≡ (n, d)
    alone y m also =
        let at_y : get s y.0 ≡ Some y.1 = entries-IsIn y.0 y.1 s m in
        let number : y.0 ≡ n = apart key y.0 n y.1 d at_y there also named in
        let dataset : y.1 ≡ d = same_some y.1 d (sym at_y ∙ ap (get s) number ∙ there) in
        let both : (y.0, y.1) ≡ (n, d) = cc in
        both

-- no number, if no dataset has the key
pub number_none : (s : Slab Package) (b : Bool) (key : List ℕ)
    → ((n : ℕ) (d : Package) → get s n ≡ Some d → is_named key d ≡ false) → number_in key (shelf_state s b) ≡ None
number_none s b key fails =
    ap (option_map (λ e. e.0))
    (none-find (λ e. is_named key e.1) (entries s) (λ e m. fails e.0 e.1 (entries-IsIn e.0 e.1 s m)))

none_mapped : {X Y : Type 0} (f : X → Y) (o : Option X) → option_map f o ≡ None → o ≡ None
none_mapped f None h = refl
none_mapped f (Some x) h = absurd (cc)

pub none_named : (s : Slab Package) (b : Bool) (key : List ℕ) → number_in key (shelf_state s b) ≡ None
    → (n : ℕ) (d : Package) → get s n ≡ Some d → is_named key d ≡ false
none_named s b key none n d there =
    find-none (λ e. is_named key e.1) (n, d) (entries s)
    (none_mapped (λ e. e.0) (find (λ e. is_named key e.1) (entries s)) none) (IsIn-entries n d s there)

pub free-none : (s : Slab Package) (b : Bool) (p : Package) → number_in p.id (shelf_state s b) ≡ None
    → number_in p.name (shelf_state s b) ≡ None → IsFree s p
free-none s b p id name m d there = (none_named s b p.id id m d there, none_named s b p.name name m d there)

-- The number that is found among the candidates is that of the dataset with the key.
pub number_of-found : (s : Slab Package) (index : IndexState ℕ) (b : Bool) (key : List ℕ) (r : Option ℕ)
    → IsConsistent s index b
    → IfSome r (λ n. IsTrue (is_named_at n key s))
    → IfNone r ((n : ℕ) → IsUnder index (digest_of key) n → is_named_at n key s ≡ false)
    → r ≡ number_in key (shelf_state s b)
number_of-found s index b key None kept named none =
    sym (number_none s b key (λ n d there. by n d there (is_named key d) refl))
  where
    by : (n : ℕ) (d : Package) → get s n ≡ Some d → (t : Bool) → is_named key d ≡ t → t ≡ false
    by n d there true is =
        absurd (true≢false (sym (ap (λ o. option_map_or (is_named key) o false) there ∙ is)
        ∙ none n (kept.indexed.candidate key n d there is)))
    by n d there false is = refl
number_of-found s index b key (Some n) kept named none = by (get s n) refl named
  where
    by : (o : Option Package) → get s n ≡ o → option_map_or (is_named key) o false ≡ true
        → Some n ≡ number_in key (shelf_state s b)
    by None is h = absurd (true≢false (sym h))
    by (Some d) is h = sym (number_is s b kept.apart key n d is h)

-- ---- walks

pub count_of_listed : (test : Package → Bool) (s : Slab Package)
    → length (filter (λ e. test e.1) (entries s)) ≡ length (filter test (datasets_by_id s))
count_of_listed test s =
    sym (count-ascending dataset_cmp test (map (λ e. e.1) (entries s)) ∙ count-map (λ e. e.1) test (entries s))

pub any_of_listed : (test : Package → Bool) (s : Slab Package)
    → list_any (λ e. test e.1) (entries s) ≡ list_any test (datasets_by_id s)
any_of_listed test s =
    sym (list_any-ascending dataset_cmp test (map (λ e. e.1) (entries s)) ∙ list_any-map (λ e. e.1) test (entries s))

pub names_of_listed : (test : Package → Bool) (s : Slab Package)
    → text_set (map (λ e. e.1.name) (filter (λ e. test e.1) (entries s)))
    ≡ text_set (map (λ d. d.name) (filter test (datasets_by_id s)))
names_of_listed test s =
    text_set-same (map (λ e. e.1.name) (filter (λ e. test e.1) (entries s)))
    (map (λ d. d.name) (filter test (datasets_by_id s))) to from
  where
    to : (z : List ℕ) → IsIn z (map (λ e. e.1.name) (filter (λ e. test e.1) (entries s)))
        → IsIn z (map (λ d. d.name) (filter test (datasets_by_id s)))
    to z m =
        let w = map-IsIn (λ e. e.1.name) z (filter (λ e. test e.1) (entries s)) m in
        let kept = IsIn-filter (λ e. test e.1) w.0 (entries s) w.1 in
        subst (λ t. IsIn t (map (λ d. d.name) (filter test (datasets_by_id s)))) (sym w.2)
        (IsIn-map (λ d. d.name) w.0.1 (filter test (datasets_by_id s))
        (filter-IsIn test w.0.1 (datasets_by_id s) (IsIn-datasets w.0.0 w.0.1 (entries s) kept.0) kept.1))

    from : (z : List ℕ) → IsIn z (map (λ d. d.name) (filter test (datasets_by_id s)))
        → IsIn z (map (λ e. e.1.name) (filter (λ e. test e.1) (entries s)))
    from z m =
        let w = map-IsIn (λ d. d.name) z (filter test (datasets_by_id s)) m in
        let kept = IsIn-filter test w.0 (datasets_by_id s) w.1 in
        let e = datasets-IsIn w.0 (entries s) kept.0 in
        subst (λ t. IsIn t (map (λ e. e.1.name) (filter (λ e. test e.1) (entries s)))) (sym w.2)
        (IsIn-map (λ e. e.1.name) (e.0, w.0) (filter (λ e. test e.1) (entries s))
        (filter-IsIn (λ e. test e.1) (e.0, w.0) (entries s) e.1 kept.1))
