-- Rows of a store by their kinds.
use Rattle.std.proofs.Common.{◌≡◌, ℕ, ◌+◌, ◌<◌, ◌≤◌, ◌↔◌, Bool, true, false, List, [], ◌∷◌, ◌++◌, map, ◌⊎◌, inl, inr}
use Rattle.std.proofs.Common.{refl, sym, ap, ◌∙◌, arith, drop, get_or, length, subst, take, true≢false}
use Rattle.std.specs.Cmp.Lexicographic.{slice_cmp}
use Rattle.std.specs.Ordering.{is_lt, nat_cmp, ordering_then}
use Rattle.std.specs.declared.cmp.Ordering.{Ordering}
use Rattle.std.specs.declared.cmp.Ordering.TheVariants.{Less, Equal, Greater}
use Rattle.std.specs.Prelude.{All, IsTrue, nat_le}
use Rattle.std.specs.List.{AllWithin, IsAllAdjacentAnswer}
use Rattle.std.specs.List.Sorted.{IsPartitionedBy}
use Rattle.std.proofs.lemmas.Bool.{cases_lt}
use Rattle.std.proofs.lemmas.Bool.Decides.{nat_tests}
use Rattle.std.proofs.lemmas.Cmp.{ranked}
use Rattle.std.proofs.lemmas.List.{get_or-drop, get_or-take, length-drop, length-take}
use Rattle.portal_base.proofs.Halved.{IsAscending-adjacent, ascending_at}
use Rattle.portal_base.proofs.Unique.{IsIn}
use Rattle.portal_keeper.specs.Rows.{AreInOrder, kind_number, row_cmp, row_cmp_total}
use Rattle.portal_keeper.specs.declared.row.KeptRow.{KeptRow}

-- ---- kinds that are before others

-- The rows are of kinds up to this number.
abbrev pub AreUpTo : ℕ → List KeptRow → Type 0
AreUpTo k rows = (r : KeptRow) → IsIn r rows → kind_number r.kind ≤ k

-- The rows are of kinds after this number.
abbrev pub AreAfter : ℕ → List KeptRow → Type 0
AreAfter k rows = (r : KeptRow) → IsIn r rows → k < kind_number r.kind

pub kinds-less : (r q : KeptRow) → kind_number r.kind < kind_number q.kind → row_cmp r q ≡ Less
kinds-less r q less =
    let below : nat_cmp (kind_number r.kind) (kind_number q.kind) ≡ Less = grind (arith, nat_tests) in
    ap (λ s. ordering_then s (slice_cmp nat_cmp r.key q.key)) below

-- Each row of the kinds up to a number is below each of the kinds after it.
pub kinds_below : (k : ℕ) (rows others : List KeptRow) → AreUpTo k rows → AreAfter k others → (r q : KeptRow)
    → IsIn r rows → IsIn q others → row_cmp r q ≡ Less
kinds_below k rows others up after r q m n =
    let first = up r m in let second = after q n in kinds-less r q (omega (arith, first, second))

-- the kind of rows that are made of values
pub made-kind : {X : Type 0} (f : X → KeptRow) (k : ℕ) → ((x : X) → kind_number (f x).kind ≡ k) → (xs : List X)
    (r : KeptRow) → IsIn r (map f xs) → kind_number r.kind ≡ k
made-kind f k is [] r m = absurd m
made-kind f k is (x ∷ xs) r (inl same) = ap (λ (q : KeptRow). kind_number q.kind) same ∙ is x
made-kind f k is (x ∷ xs) r (inr m) = made-kind f k is xs r m

-- Rows are split at a kind in only one way.
pub one_split : (k : ℕ) (xs ys us vs : List KeptRow) → AreUpTo k xs → AreAfter k ys → AreUpTo k us → AreAfter k vs
    → xs ++ ys ≡ us ++ vs → (xs ≡ us) × (ys ≡ vs)
one_split k [] ys [] vs fx by fu bv e = (refl, e)
one_split k [] ys (u ∷ us) vs fx by fu bv e =
    let low = fu u (inl refl) in
    let high = by u (subst (IsIn u) (sym e) (inl refl)) in
    absurd (omega (arith, low, high))
one_split k (x ∷ xs) ys [] vs fx by fu bv e =
    let low = fx x (inl refl) in let high = bv x (subst (IsIn x) e (inl refl)) in absurd (omega (arith, low, high))
one_split k (x ∷ xs) ys (u ∷ us) vs fx by fu bv e =
    let first : x ≡ u = cc in
    let rest : xs ++ ys ≡ us ++ vs = cc in
    let parts = one_split k xs ys us vs (λ r m. fx r (inr m)) by (λ r m. fu r (inr m)) bv rest in
    let fronts : xs ≡ us = parts.0 in
    (cc, parts.1)

-- ---- rows in order, and a split by kind

-- What a walk over adjacent rows finds.
pub in_order-answer : (rows : List KeptRow) (r : Bool)
    → IsAllAdjacentAnswer (λ row next b. b ≡ is_lt (row_cmp row next)) rows r → IsTrue r ↔ AreInOrder rows
in_order-answer rows true steps = (λ t. IsAscending-adjacent row_cmp row_cmp_total rows steps, λ up. refl)
in_order-answer [] false step = absurd (omega (arith, step.1))
in_order-answer (row ∷ rows) false step =
    (λ t. absurd (cc), λ up. absurd (true≢false (sym (less up) ∙ sym (step.2 row))))
  where
    less : AreInOrder (row ∷ rows)
        → is_lt (row_cmp (get_or (row ∷ rows) step.0 row) (get_or (row ∷ rows) (step.0 + 1) row)) ≡ true
    less up =
        ap is_lt (ascending_at row_cmp row (row ∷ rows) up step.0 (step.0 + 1) (omega arith) step.1)

kinds_rise : (r q : KeptRow) → row_cmp r q ≡ Less → kind_number r.kind ≤ kind_number q.kind
kinds_rise r q less = by (nat_cmp (kind_number r.kind) (kind_number q.kind)) refl
  where
    by : (o : Ordering) → nat_cmp (kind_number r.kind) (kind_number q.kind) ≡ o
        → kind_number r.kind ≤ kind_number q.kind
    by Less is =
        let below = ranked (kind_number r.kind) (kind_number q.kind) Less (sym is) in omega (arith, below)
    by Equal is =
        let same = ranked (kind_number r.kind) (kind_number q.kind) Equal (sym is) in omega (arith, same)
    by Greater is =
        let greater : row_cmp r q ≡ Greater = ap (λ s. ordering_then s (slice_cmp nat_cmp r.key q.key)) is in
        absurd (cc)

-- the row is of a kind up to this number
abbrev pub is_up_to : ℕ → KeptRow → Bool
is_up_to k row = nat_le (kind_number row.kind) k

pub kinds-partitioned : (k : ℕ) (rows : List KeptRow) → AreInOrder rows → IsPartitionedBy (is_up_to k) rows
kinds-partitioned k rows up i j d le lt h = by (cases_lt i j)
  where
    by : (i < j) ⊎ (j ≤ i) → is_up_to k (get_or rows i d) ≡ true
    by (inl less) =
        let rise = kinds_rise (get_or rows i d) (get_or rows j d) (ascending_at row_cmp d rows up i j less lt) in
        let up_to : kind_number (get_or rows j d).kind ≤ k = grind (arith, nat_tests) in
        grind (arith, nat_tests)
    by (inr least) = let same : i ≡ j = omega (arith, le, least) in rw same h

pub front_up_to : (k : ℕ) (rows : List KeptRow) (i : ℕ) → AllWithin (λ y. is_up_to k y ≡ true) rows 0 i
    → All (λ row. kind_number row.kind ≤ k) (take i rows)
front_up_to k rows i passes n d lt =
    let before : n < i = omega (arith, lt, length-take i rows) in
    let passed = passes n d (omega arith) before in
    let same : get_or (take i rows) n d ≡ get_or rows n d = get_or-take i rows n d before in
    let up_to : kind_number (get_or rows n d).kind ≤ k = grind (arith, nat_tests) in
    subst (λ (r : KeptRow). kind_number r.kind ≤ k) (sym same) up_to

pub back_after : (k : ℕ) (rows : List KeptRow) (i : ℕ) → AllWithin (λ y. is_up_to k y ≡ false) rows i (length rows)
    → All (λ row. k < kind_number row.kind) (drop i rows)
back_after k rows i fails n d lt =
    let failed = fails (i + n) d (omega arith) (omega (arith, lt, length-drop i rows)) in
    let same : get_or (drop i rows) n d ≡ get_or rows (i + n) d = get_or-drop i rows n d in
    let after : k < kind_number (get_or rows (i + n) d).kind = grind (arith, nat_tests) in
    subst (λ (r : KeptRow). k < kind_number r.kind) (sym same) after
