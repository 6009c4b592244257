-- In an ascending list the items of one part are next to each other: the triples of a subject, and of these the ones of a
-- predicate.
use Rattle.std.proofs.Common.{◌≡◌, ℕ, zero, suc, get_or, ◌<◌, ◌≤◌, length, take, drop, Bool, true, false, cond, ◌&&◌}
use Rattle.std.proofs.Common.{List, [], ◌∷◌, refl, sym, ap, ◌∙◌, arith, subst}
use Rattle.std.specs.declared.cmp.Ordering.{Ordering}
use Rattle.std.specs.declared.cmp.Ordering.TheVariants.{Less, Equal, Greater}
use Rattle.std.specs.Ordering.{is_eq, is_lt, is_le, is_gt, on, then_cmp, ordering_then, ordering_reverse}
use Rattle.std.specs.Cmp.{IsTotalOrder}
use Rattle.std.specs.Cmp.Lexicographic.{nat_list_cmp_total}
use Rattle.std.specs.List.{AllByRecursion, AllWithin, filter}
use Rattle.std.specs.List.Sorted.{IsPartitionPoint, IsPartitionedBy, IsStrictlySortedBy}
use Rattle.std.proofs.lemmas.Cmp.{upto}
use Rattle.std.proofs.lemmas.Map.Text.{is_eq-slice_cmp}
use Rattle.ntriples.specs.declared.term.Term.{Term}
use Rattle.ntriples.specs.declared.term.Triple.{Triple}
use Rattle.dcat_map.specs.Terms.{text_cmp, term_cmp, triple_cmp, term_cmp_total}
use Rattle.dcat_map.specs.Graphs.{has_subject, is_about, about}
use Rattle.dcat_map.proofs.Memberships.{equal_from_is_eq}

all_at : {X : Type 0} (P : X → Type 0) (xs : List X) (k : ℕ) (d : X) → AllByRecursion P xs → k < length xs
    → P (get_or xs k d)
all_at P [] k d h lt = absurd (omega arith)
all_at P (x ∷ xs) zero d h lt = h.0
all_at P (x ∷ xs) (suc k) d h lt = all_at P xs k d h.1 (omega arith)

-- A test that each item below a passing one passes divides an ascending list.
IsPartitionedBy-sorted : {X : Type 0} (cmp : X → X → Ordering) (p : X → Bool)
    → ((t u : X) → cmp t u ≡ Less → p u ≡ true → p t ≡ true) → (xs : List X) → IsStrictlySortedBy cmp xs
    → IsPartitionedBy p xs
unfolding IsStrictlySortedBy
IsPartitionedBy-sorted cmp p step [] up i j d le lt h = absurd (omega arith)
IsPartitionedBy-sorted cmp p step (x ∷ xs) up zero zero d le lt h = h
IsPartitionedBy-sorted cmp p step (x ∷ xs) up zero (suc j) d le lt h =
    step x (get_or xs j d) (all_at (λ y. cmp x y ≡ Less) xs j d up.0 (omega arith)) h
IsPartitionedBy-sorted cmp p step (x ∷ xs) up (suc i) zero d le lt h = absurd (omega arith)
IsPartitionedBy-sorted cmp p step (x ∷ xs) up (suc i) (suc j) d le lt h =
    IsPartitionedBy-sorted cmp p step xs up.1 i j d (omega arith) (omega arith) h

-- Where no item passes, the filter gives none.
filter-none : {X : Type 0} (p : X → Bool) (xs : List X) → AllWithin (λ y. p y ≡ false) xs 0 (length xs)
    → filter p xs ≡ []
filter-none p [] h = refl
filter-none {X} p (x ∷ xs) h =
    let here : p x ≡ false = h 0 x (omega arith) (omega arith) in
    let rest : filter p xs ≡ [] = filter-none p xs (λ k d low high. h (suc k) d (omega arith) (omega arith)) in
    rw (here, rest) refl

filter-filter : {X : Type 0} (p q r : X → Bool) → ((x : X) → (q x && p x) ≡ r x) → (xs : List X)
    → filter p (filter q xs) ≡ filter r xs
filter-filter p q r e [] = refl
filter-filter {X} p q r e (x ∷ xs) =
    let P : Bool → Type 0 = λ b. filter p (cond b (x ∷ filter q xs) (filter q xs))
    ≡ cond (b && p x) (x ∷ filter r xs) (filter r xs) in
    (elim (q x) as P [
      | true ↦ ap (λ l. cond (p x) (x ∷ l) l) (filter-filter p q r e xs)
      | false ↦ filter-filter p q r e xs
    ]) ∙ ap (λ b. cond b (x ∷ filter r xs) (filter r xs)) (e x)

-- Where no item is below, the first ones that aren't above are those that are level.
take-level : {X : Type 0} (R : X → Ordering) (xs : List X) (n : ℕ) → n ≤ length xs
    → AllWithin (λ x. is_lt (R x) ≡ false) xs 0 (length xs)
    → IsPartitionPoint (λ x. is_le (R x) ≡ true) (λ x. is_le (R x) ≡ false) xs n → take n xs ≡ filter (λ x. is_eq (R x)) xs
take-level R [] zero le low high = refl
take-level R [] (suc n) le low high = absurd (omega arith)
take-level R (x ∷ xs) zero le low high =
    sym (filter-none (λ y. is_eq (R y)) (x ∷ xs) (λ k d lo hi. above (R (get_or (x ∷ xs) k d)) (high.1 k d lo hi)))
  where
    above : (r : Ordering) → is_le r ≡ false → is_eq r ≡ false
    above Less h = absurd (cc)
    above Equal h = absurd (cc)
    above Greater h = refl
take-level R (x ∷ xs) (suc n) le low high =
    let here : is_eq (R x) ≡ true =
    level (R x) (low 0 x (omega arith) (omega arith)) (high.0 0 x (omega arith) (omega arith)) in
    let rest : take n xs ≡ filter (λ y. is_eq (R y)) xs =
    take-level R xs n (omega arith) (λ k d lo hi. low (suc k) d (omega arith) (omega arith)) (
      λ k d lo hi. high.0 (suc k) d (omega arith) (omega arith),
      λ k d lo hi. high.1 (suc k) d (omega arith) (omega arith),
    ) in
    rw here (ap (λ l. x ∷ l) rest)
  where
    level : (r : Ordering) → is_lt r ≡ false → is_le r ≡ true → is_eq r ≡ true
    level Less a b = absurd (cc)
    level Equal a b = refl
    level Greater a b = absurd (cc)

-- After the items that are below, the first ones that aren't above are those that are level.
take-drop-level : {X : Type 0} (R : X → Ordering) (xs : List X) (i n : ℕ) → i ≤ length xs → n ≤ length (drop i xs)
    → IsPartitionPoint (λ x. is_lt (R x) ≡ true) (λ x. is_lt (R x) ≡ false) xs i
    → IsPartitionPoint (λ x. is_le (R x) ≡ true) (λ x. is_le (R x) ≡ false) (drop i xs) n
    → take n (drop i xs) ≡ filter (λ x. is_eq (R x)) xs
take-drop-level R xs zero n le within low high = take-level R xs n within low.1 high
take-drop-level R [] (suc i) n le within low high = absurd (omega arith)
take-drop-level R (x ∷ xs) (suc i) n le within low high =
    let here : is_eq (R x) ≡ false = below (R x) (low.0 0 x (omega arith) (omega arith)) in
    let rest : take n (drop i xs) ≡ filter (λ y. is_eq (R y)) xs =
    take-drop-level R xs i n (omega arith) within (
      λ k d lo hi. low.0 (suc k) d (omega arith) (omega arith),
      λ k d lo hi. low.1 (suc k) d (omega arith) (omega arith),
    ) high in
    rw here rest
  where
    below : (r : Ordering) → is_lt r ≡ true → is_eq r ≡ false
    below Less h = refl
    below Equal h = absurd (cc)
    below Greater h = absurd (cc)

-- how a part of an item compares to a key
abbrev part_cmp : {X K : Type 0} → (X → K) → (K → K → Ordering) → K → X → Ordering
part_cmp part cmp key x = cmp (part x) key

less_from_is_lt : (r : Ordering) → is_lt r ≡ true → r ≡ Less
less_from_is_lt Less h = refl
less_from_is_lt Equal h = absurd (cc)
less_from_is_lt Greater h = absurd (cc)

below_key : {X K : Type 0} (part : X → K) (cmp : K → K → Ordering) (o : IsTotalOrder cmp) (others : X → X → Ordering)
    (key : K) (x y : X) → then_cmp (on part cmp) others x y ≡ Less → is_lt (part_cmp part cmp key y) ≡ true
    → is_lt (part_cmp part cmp key x) ≡ true
below_key part cmp o others key x y h l =
    let P : Ordering → Type 0 = λ r. cmp (part x) (part y) ≡ r → ordering_then r (others x y) ≡ Less
    → is_lt (cmp (part x) key) ≡ true in
    (elim (cmp (part x) (part y)) as P [
      | Less ↦ λ e g. ap is_lt (o.trans (part x) (part y) key e (less_from_is_lt (cmp (part y) key) l))
      | Equal ↦ λ e g. ap is_lt (o.congr (part x) (part y) key e) ∙ l
      | Greater ↦ λ e g. absurd (cc)
    ]) refl h

not_above_key : {X K : Type 0} (part : X → K) (cmp : K → K → Ordering) (o : IsTotalOrder cmp)
    (others : X → X → Ordering) (key : K) (x y : X) → then_cmp (on part cmp) others x y ≡ Less
    → is_le (part_cmp part cmp key y) ≡ true → is_le (part_cmp part cmp key x) ≡ true
not_above_key part cmp o others key x y h l =
    to_le (cmp (part x) key)
    (upto o (part x) (part y) key (first (cmp (part x) (part y)) (others x y) h) (from_le (cmp (part y) key) l))
  where
    first : (r s : Ordering) → ordering_then r s ≡ Less → is_gt r ≡ false
    first Less s e = refl
    first Equal s e = refl
    first Greater s e = absurd (cc)

    from_le : (r : Ordering) → is_le r ≡ true → is_gt r ≡ false
    from_le Less e = refl
    from_le Equal e = refl
    from_le Greater e = absurd (cc)

    to_le : (r : Ordering) → is_gt r ≡ false → is_le r ≡ true
    to_le Less e = refl
    to_le Equal e = refl
    to_le Greater e = absurd (cc)

IsStrictlySortedBy-drop : {X : Type 0} (cmp : X → X → Ordering) (xs : List X) (i : ℕ) → IsStrictlySortedBy cmp xs
    → IsStrictlySortedBy cmp (drop i xs)
unfolding IsStrictlySortedBy
IsStrictlySortedBy-drop cmp xs zero up = up
IsStrictlySortedBy-drop cmp [] (suc i) up = up
IsStrictlySortedBy-drop cmp (x ∷ xs) (suc i) up = IsStrictlySortedBy-drop cmp xs i up.1

-- the index is the one where the items that pass end, if those come first
abbrev DividesAt : {X : Type 0} → (X → Bool) → List X → ℕ → Type 0
DividesAt p xs i = IsPartitionedBy p xs → IsPartitionPoint (λ x. p x ≡ true) (λ x. p x ≡ false) xs i

-- In a list that ascends by a part first, two divisions give the items whose part is level with the key.
level_with_key : {X K : Type 0} (part : X → K) (cmp : K → K → Ordering) (o : IsTotalOrder cmp)
    (others : X → X → Ordering) (key : K) (xs rest : List X) (i n : ℕ)
    → IsStrictlySortedBy (then_cmp (on part cmp) others) xs → rest ≡ drop i xs → i ≤ length xs → n ≤ length rest
    → DividesAt (λ x. is_lt (part_cmp part cmp key x)) xs i → DividesAt (λ x. is_le (part_cmp part cmp key x)) rest n
    → take n rest ≡ filter (λ x. is_eq (part_cmp part cmp key x)) xs
level_with_key {X} {K} part cmp o others key xs rest i n up is le within low high =
    let Q : List X → Type 0 = λ l. n ≤ length l → DividesAt (λ x. is_le (part_cmp part cmp key x)) l n
    → take n l ≡ filter (λ x. is_eq (part_cmp part cmp key x)) xs in
    subst Q (sym is) (λ bound divides.
    take-drop-level (part_cmp part cmp key) xs i n le bound
    (low (IsPartitionedBy-sorted (then_cmp (on part cmp) others) (λ x. is_lt (part_cmp part cmp key x))
    (below_key part cmp o others key) xs up))
    (divides (IsPartitionedBy-sorted (then_cmp (on part cmp) others) (λ x. is_le (part_cmp part cmp key x))
    (not_above_key part cmp o others key) (drop i xs) (IsStrictlySortedBy-drop (then_cmp (on part cmp) others) xs i up))))
    within high

-- What passes the filter ascends by the other order, if that follows from the first one for two items that pass.
IsStrictlySortedBy-filter : {X : Type 0} (cmp others : X → X → Ordering) (p : X → Bool)
    → ((x y : X) → p x ≡ true → p y ≡ true → cmp x y ≡ Less → others x y ≡ Less) → (xs : List X)
    → IsStrictlySortedBy cmp xs → IsStrictlySortedBy others (filter p xs)
unfolding IsStrictlySortedBy
IsStrictlySortedBy-filter cmp others p step [] up = tt
IsStrictlySortedBy-filter {X} cmp others p step (x ∷ xs) up =
    let P : Bool → Type 0 = λ b. p x ≡ b → IsStrictlySortedBy others (cond b (x ∷ filter p xs) (filter p xs)) in
    let rest : IsStrictlySortedBy others (filter p xs) = IsStrictlySortedBy-filter cmp others p step xs up.1 in
    (elim (p x) as P [ true ↦ λ e. (above e xs up.0, rest) | false ↦ λ e. rest ]) refl
  where
    above : p x ≡ true → (ys : List X) → AllByRecursion (λ y. cmp x y ≡ Less) ys
        → AllByRecursion (λ y. others x y ≡ Less) (filter p ys)
    above e [] h = tt
    above e (y ∷ ys) h =
        let P : Bool → Type 0 = λ b. p y ≡ b
        → AllByRecursion (λ z. others x z ≡ Less) (cond b (y ∷ filter p ys) (filter p ys)) in
        (elim (p y) as P [ true ↦ λ f. (step x y e f h.0, above e ys h.1) | false ↦ λ f. above e ys h.1 ]) refl

-- triples of one subject, by predicate, then object
abbrev rest_cmp : Triple → Triple → Ordering
rest_cmp = then_cmp (on (λ t. t.predicate) text_cmp) (on (λ t. t.object) term_cmp)

-- The triples of a subject in a graph.
pub triples_of_subject : (s : Term) (g rest : List Triple) (i n : ℕ)
    → IsStrictlySortedBy triple_cmp g → rest ≡ drop i g → i ≤ length g → n ≤ length rest
    → DividesAt (λ t. is_lt (term_cmp t.subject s)) g i → DividesAt (λ t. is_le (term_cmp t.subject s)) rest n
    → take n rest ≡ filter (has_subject s) g
unfolding triple_cmp
triples_of_subject s g rest i n =
    level_with_key (λ t. t.subject) term_cmp term_cmp_total rest_cmp s g rest i n

-- A subject's triples ascend by predicate first.
IsStrictlySortedBy-subject : (s : Term) (g : List Triple) → IsStrictlySortedBy triple_cmp g
    → IsStrictlySortedBy rest_cmp (filter (has_subject s) g)
unfolding triple_cmp
IsStrictlySortedBy-subject s =
    IsStrictlySortedBy-filter triple_cmp rest_cmp (has_subject s) (λ t u has also h.
    sym (ap (λ r. ordering_then r (rest_cmp t u)) (alike t u has also)) ∙ h)
  where
    alike : (t u : Triple) → has_subject s t ≡ true → has_subject s u ≡ true → term_cmp t.subject u.subject ≡ Equal
    alike t u has also =
        term_cmp_total.congr t.subject s u.subject (equal_from_is_eq (term_cmp t.subject s) has)
        ∙ term_cmp_total.antisymm s u.subject
        ∙ ap ordering_reverse (equal_from_is_eq (term_cmp u.subject s) also)

-- The triples about a subject and a predicate, of the subject's own.
pub triples_about : (s : Term) (p : List ℕ) (g triples rest : List Triple) (i n : ℕ)
    → IsStrictlySortedBy triple_cmp g → triples ≡ filter (has_subject s) g → rest ≡ drop i triples
    → i ≤ length triples → n ≤ length rest → DividesAt (λ t. is_lt (text_cmp t.predicate p)) triples i
    → DividesAt (λ t. is_le (text_cmp t.predicate p)) rest n → take n rest ≡ about g s p
unfolding is_about
triples_about s p g triples rest i n up are is le within low high =
    let sorted : IsStrictlySortedBy rest_cmp triples =
    subst (IsStrictlySortedBy rest_cmp) (sym are) (IsStrictlySortedBy-subject s g up) in
    level_with_key (λ t. t.predicate) text_cmp nat_list_cmp_total (on (λ t. t.object) term_cmp) p triples rest i n
    sorted is le within low high
    ∙ ap (filter (λ t. is_eq (text_cmp t.predicate p))) are
    ∙ filter-filter (λ t. is_eq (text_cmp t.predicate p)) (has_subject s) (is_about s p)
    (λ t. ap (λ b. has_subject s t && b) (is_eq-slice_cmp t.predicate p)) g
