-- Rows of a store by their kinds.
use Rattle.std.proofs.Common.{◌≡◌, ℕ, ◌<◌, ◌≤◌, Bool, true, false, List, [], ◌∷◌, ◌++◌, map, ◌⊎◌, inl, inr, refl, sym}
use Rattle.std.proofs.Common.{ap}
use Rattle.std.proofs.Common.{◌∙◌, ◌+◌, ◌↔◌, arith, drop, get_or, length, subst, take}
use Rattle.std.proofs.Common.{true≢false}
use Rattle.std.specs.Cmp.Lexicographic.{slice_cmp}
use Rattle.std.specs.Ordering.{is_eq, is_lt, nat_cmp, ordering_then}
use Rattle.std.specs.declared.cmp.Ordering.{Ordering}
use Rattle.std.specs.declared.cmp.Ordering.TheVariants.{Less, Equal, Greater}
use Rattle.std.specs.Prelude.{All, IsTrue, nat_le}
use Rattle.std.specs.List.{AllWithin, IsAllAdjacentAnswer}
use Rattle.std.specs.List.Sorted.{IsPartitionedBy}
use Rattle.std.proofs.lemmas.Bool.{cases_lt}
use Rattle.std.proofs.lemmas.Cmp.{ranked}
use Rattle.std.proofs.lemmas.List.{get_or-drop, get_or-take, length-drop, length-take}
use Rattle.std.proofs.lemmas.Bool.Decides.{nat_tests}
use Rattle.portal_base.proofs.Filtered.{find-list_any}
use Rattle.portal_base.proofs.Halved.{IsAscending-adjacent, ascending_at}
use Rattle.portal_base.proofs.Inserted.{AreApart}
use Rattle.portal_base.proofs.Removed.{AreApart-are_apart, is_eq_true}
use Rattle.portal_base.proofs.Unique.{IsIn}
use Rattle.portal_base.proofs.Upserted.{are_apart-IsAscending}
use Rattle.packages.proofs.FindLemmas.{find-none, map-IsIn, none-list_any}
use Rattle.portal_keeper.specs.Rows.{AreInOrder, kind_number, row_cmp, row_cmp_total}
use Rattle.portal_keeper.specs.declared.row.KeptRow.{KeptRow}
use Rattle.portal_keeper.proofs.RowLemmas.{same_key}
use Rattle.portal_rows.proofs.MemberLemmas.{AreBelow, IsAscending-append, in_either}

-- ---- kinds that are before others

-- The rows are of kinds up to this number.
abbrev pub AreUpTo : ℕ → List KeptRow → Type 0
AreUpTo k rows = (r : KeptRow) → IsIn r rows → kind_number r.kind ≤ k

-- The rows are of kinds after this number.
abbrev pub AreAfter : ℕ → List KeptRow → Type 0
AreAfter k rows = (r : KeptRow) → IsIn r rows → k < kind_number r.kind

pub kinds-less : (r q : KeptRow) → kind_number r.kind < kind_number q.kind → row_cmp r q ≡ Less
kinds-less r q less =
    let below : nat_cmp (kind_number r.kind) (kind_number q.kind) ≡ Less = grind (arith, nat_tests) in
    ap (λ s. ordering_then s (slice_cmp nat_cmp r.key q.key)) below

pub kinds_below : (k : ℕ) (rows others : List KeptRow) → AreUpTo k rows → AreAfter k others
    → AreBelow row_cmp rows others
kinds_below k rows others up after = λ r q m n.
    let first = up r m in let second = after q n in kinds-less r q (omega (arith, first, second))

pub after_both : (k : ℕ) (rows others : List KeptRow) → AreAfter k rows → AreAfter k others
    → AreAfter k (rows ++ others)
after_both k rows others first second = λ r m. by r (in_either r rows others m)
  where
    by : (r : KeptRow) → IsIn r rows ⊎ IsIn r others → k < kind_number r.kind
    by r (inl n) = first r n
    by r (inr n) = second r n

pub up_to-kind : (k n : ℕ) (rows : List KeptRow) → ((r : KeptRow) → IsIn r rows → kind_number r.kind ≡ n) → n ≤ k
    → AreUpTo k rows
up_to-kind k n rows kinds le = λ r m. let is = kinds r m in omega (arith, is, le)

pub after-kind : (k n : ℕ) (rows : List KeptRow) → ((r : KeptRow) → IsIn r rows → kind_number r.kind ≡ n) → k < n
    → AreAfter k rows
after-kind k n rows kinds lt = λ r m. let is = kinds r m in omega (arith, is, lt)

pub map-kind : {X : Type 0} (f : X → KeptRow) (k : ℕ) → ((x : X) → kind_number (f x).kind ≡ k) → (xs : List X)
    (r : KeptRow) → IsIn r (map f xs) → kind_number r.kind ≡ k
map-kind f k is xs r m = let w = map-IsIn f r xs m in ap (λ (q : KeptRow). kind_number q.kind) w.2 ∙ is w.0

-- Rows are split at a kind in only one way.
pub one_split : (k : ℕ) (xs ys us vs : List KeptRow) → AreUpTo k xs → AreAfter k ys → AreUpTo k us → AreAfter k vs
    → xs ++ ys ≡ us ++ vs → (xs ≡ us) × (ys ≡ vs)
one_split k [] ys [] vs fx by fu bv e = (refl, e)
one_split k [] ys (u ∷ us) vs fx by fu bv e =
    let low = fu u (inl refl) in
    let high = by u (subst (IsIn u) (sym e) (inl refl)) in
    absurd (omega (arith, low, high))
one_split k (x ∷ xs) ys [] vs fx by fu bv e =
    let low = fx x (inl refl) in let high = bv x (subst (IsIn x) e (inl refl)) in absurd (omega (arith, low, high))
one_split k (x ∷ xs) ys (u ∷ us) vs fx by fu bv e =
    let first : x ≡ u = cc in
    let rest : xs ++ ys ≡ us ++ vs = cc in
    let parts = one_split k xs ys us vs (λ r m. fx r (inr m)) by (λ r m. fu r (inr m)) bv rest in
    let fronts : xs ≡ us = parts.0 in
    (cc, parts.1)

-- ---- rows in order, and a split by kind

-- What a walk over adjacent rows finds.
pub in_order-answer : (rows : List KeptRow) (r : Bool)
    → IsAllAdjacentAnswer (λ row next b. b ≡ is_lt (row_cmp row next)) rows r → IsTrue r ↔ AreInOrder rows
in_order-answer rows true steps = (λ t. IsAscending-adjacent row_cmp row_cmp_total rows steps, λ up. refl)
in_order-answer [] false step = absurd (omega (arith, step.1))
in_order-answer (row ∷ rows) false step =
    (λ t. absurd (cc), λ up. absurd (true≢false (sym (less up) ∙ sym (step.2 row))))
  where
    less : AreInOrder (row ∷ rows)
        → is_lt (row_cmp (get_or (row ∷ rows) step.0 row) (get_or (row ∷ rows) (step.0 + 1) row)) ≡ true
    less up =
        ap is_lt (ascending_at row_cmp row (row ∷ rows) up step.0 (step.0 + 1) (omega arith) step.1)

kinds_rise : (r q : KeptRow) → row_cmp r q ≡ Less → kind_number r.kind ≤ kind_number q.kind
kinds_rise r q less = by (nat_cmp (kind_number r.kind) (kind_number q.kind)) refl
  where
    by : (o : Ordering) → nat_cmp (kind_number r.kind) (kind_number q.kind) ≡ o
        → kind_number r.kind ≤ kind_number q.kind
    by Less is =
        let below = ranked (kind_number r.kind) (kind_number q.kind) Less (sym is) in omega (arith, below)
    by Equal is =
        let same = ranked (kind_number r.kind) (kind_number q.kind) Equal (sym is) in omega (arith, same)
    by Greater is =
        let greater : row_cmp r q ≡ Greater = ap (λ s. ordering_then s (slice_cmp nat_cmp r.key q.key)) is in
        absurd (cc)

-- the row is of a kind up to this number
abbrev pub is_up_to : ℕ → KeptRow → Bool
is_up_to k row = nat_le (kind_number row.kind) k

pub kinds-partitioned : (k : ℕ) (rows : List KeptRow) → AreInOrder rows → IsPartitionedBy (is_up_to k) rows
kinds-partitioned k rows up i j d le lt h = by (cases_lt i j)
  where
    by : (i < j) ⊎ (j ≤ i) → is_up_to k (get_or rows i d) ≡ true
    by (inl less) =
        let rise = kinds_rise (get_or rows i d) (get_or rows j d) (ascending_at row_cmp d rows up i j less lt) in
        let up_to : kind_number (get_or rows j d).kind ≤ k = grind (arith, nat_tests) in
        grind (arith, nat_tests)
    by (inr least) = let same : i ≡ j = omega (arith, le, least) in rw same h

pub front_up_to : (k : ℕ) (rows : List KeptRow) (i : ℕ) → AllWithin (λ y. is_up_to k y ≡ true) rows 0 i
    → All (λ row. kind_number row.kind ≤ k) (take i rows)
front_up_to k rows i passes n d lt =
    let before : n < i = omega (arith, lt, length-take i rows) in
    let passed = passes n d (omega arith) before in
    let same : get_or (take i rows) n d ≡ get_or rows n d = get_or-take i rows n d before in
    let up_to : kind_number (get_or rows n d).kind ≤ k = grind (arith, nat_tests) in
    subst (λ (r : KeptRow). kind_number r.kind ≤ k) (sym same) up_to

pub back_after : (k : ℕ) (rows : List KeptRow) (i : ℕ) → AllWithin (λ y. is_up_to k y ≡ false) rows i (length rows)
    → All (λ row. k < kind_number row.kind) (drop i rows)
back_after k rows i fails n d lt =
    let failed = fails (i + n) d (omega arith) (omega (arith, lt, length-drop i rows)) in
    let same : get_or (drop i rows) n d ≡ get_or rows (i + n) d = get_or-drop i rows n d in
    let after : k < kind_number (get_or rows (i + n) d).kind = grind (arith, nat_tests) in
    subst (λ (r : KeptRow). k < kind_number r.kind) (sym same) after

-- the parts of rows in order, after the row of the version: up to organizations, to datasets, to tables, and the rest
pub record AreParts (orgs datasets heads rest : List KeptRow) : Type 0 where
  pub orgs_up : AreUpTo 2 orgs
  pub orgs_after : AreAfter 2 (datasets ++ (heads ++ rest))
  pub datasets_up : AreUpTo 3 datasets
  pub datasets_after : AreAfter 3 (heads ++ rest)
  pub heads_up : AreUpTo 4 heads
  pub heads_after : AreAfter 4 rest

pub same_rows-same_parts : (orgs datasets heads rest also_orgs also_datasets also_heads also_rest : List KeptRow)
    → AreParts orgs datasets heads rest → AreParts also_orgs also_datasets also_heads also_rest
    → orgs ++ (datasets ++ (heads ++ rest)) ≡ also_orgs ++ (also_datasets ++ (also_heads ++ also_rest))
    → (orgs ≡ also_orgs) × (datasets ≡ also_datasets) × (heads ≡ also_heads) × (rest ≡ also_rest)
same_rows-same_parts orgs datasets heads rest also_orgs also_datasets also_heads also_rest parts also e =
    let first = one_split 2 orgs (datasets ++ (heads ++ rest)) also_orgs (also_datasets ++ (also_heads ++ also_rest))
    parts.orgs_up parts.orgs_after also.orgs_up also.orgs_after e in
    let second = one_split 3 datasets (heads ++ rest) also_datasets (also_heads ++ also_rest) parts.datasets_up
    parts.datasets_after also.datasets_up also.datasets_after first.1 in
    let third = one_split 4 heads rest also_heads also_rest parts.heads_up parts.heads_after also.heads_up
    also.heads_after second.1 in
    (first.0, second.0, third.0, third.1)

pub parts-in_order : (orgs datasets heads rest : List KeptRow) → AreParts orgs datasets heads rest → AreInOrder orgs
    → AreInOrder datasets → AreInOrder heads → AreInOrder rest
    → AreInOrder (orgs ++ (datasets ++ (heads ++ rest)))
parts-in_order orgs datasets heads rest parts first second third last =
    IsAscending-append row_cmp orgs (datasets ++ (heads ++ rest)) first
    (IsAscending-append row_cmp datasets (heads ++ rest) second
    (IsAscending-append row_cmp heads rest third last (kinds_below 4 heads rest parts.heads_up parts.heads_after))
    (kinds_below 3 datasets (heads ++ rest) parts.datasets_up parts.datasets_after))
    (kinds_below 2 orgs (datasets ++ (heads ++ rest)) parts.orgs_up parts.orgs_after)

-- ---- rows that are apart

pub in_order-apart : (rows : List KeptRow) → AreInOrder rows → AreApart row_cmp rows
in_order-apart rows up = AreApart-are_apart row_cmp rows (are_apart-IsAscending row_cmp row_cmp_total rows up)

-- Two lists in one, of which no row of the first has the kind and key of one of the second.
pub apart-append : (rows others : List KeptRow) → AreApart row_cmp rows → AreApart row_cmp others
    → ((r q : KeptRow) → IsIn r rows → IsIn q others → is_eq (row_cmp q r) ≡ false)
    → AreApart row_cmp (rows ++ others)
apart-append [] others apart also between = also
apart-append (r ∷ rows) others apart also between = (
  none-list_any (λ (q : KeptRow). is_eq (row_cmp q r)) (rows ++ others) (λ q m. by q (in_either q rows others m)),
  apart-append rows others apart.1 also (λ p q m n. between p q (inr m) n),
)
  where
    by : (q : KeptRow) → IsIn q rows ⊎ IsIn q others → is_eq (row_cmp q r) ≡ false
    by q (inl m) =
        let test : KeptRow → Bool = λ p. is_eq (row_cmp p r) in
        find-none test q rows (find-list_any test rows apart.0) m
    by q (inr m) = between r q (inl refl) m

-- Rows that do not have both the same kind and the same key are apart.
pub keys-apart : (q r : KeptRow) → ((q.kind ≡ r.kind) × (q.key ≡ r.key) → ⊥) → is_eq (row_cmp q r) ≡ false
keys-apart q r differ = by (is_eq (row_cmp q r)) refl
  where
    by : (b : Bool) → is_eq (row_cmp q r) ≡ b → b ≡ false
    by true is = absurd (differ (same_key q.kind q.key r.kind r.key (is_eq_true (row_cmp q r) is)))
    by false is = refl
