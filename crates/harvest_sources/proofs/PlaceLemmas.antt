-- Lists in which the item at an index is replaced: what is first in them, and when the item is an upserted one.
use Rattle.std.proofs.Common.{◌≡◌, ℕ, zero, suc, ◌+◌, ◌<◌, ◌≤◌, Bool, true, false, not, cond, List, [], ◌∷◌, length}
use Rattle.std.proofs.Common.{get_or, set, Some, None, refl, sym, ap, subst, ◌∙◌, arith, ltb-true, ltb-false}
use Rattle.std.proofs.Common.{get_or-set_same, get_or-set_other, length-set}
use Rattle.std.specs.Prelude.{Option, count_by, find, position, slice_get, nat_lt}
use Rattle.std.specs.List.{cons_option, filter_map, position_or_len}
use Rattle.std.specs.Prelude.{option_to_list}
use Rattle.std.proofs.Common.{take, ◌++◌, length-append}
use Rattle.std.proofs.lemmas.List.{take_more}
use Rattle.std.proofs.lemmas.List.Elements.{filter_map-append}
use Rattle.std.specs.Cmp.{IsTotalOrder}
use Rattle.std.specs.Ordering.{is_lt}
use Rattle.std.specs.declared.cmp.Ordering.{Ordering}
use Rattle.std.specs.declared.cmp.Ordering.TheVariants.{Less, Equal}
use Rattle.std.proofs.lemmas.Cmp.{alike_right}
use Rattle.std.proofs.lemmas.List.Folds.{find_at}
use Rattle.std.proofs.lemmas.List.Sums.{fails_before_first, passes_at_first, position_or_len_is, sum_by-cons, sum_by-set}
use Rattle.std.proofs.lemmas.Option.{slice_get_past}
use Rattle.portal_base.specs.Ordered.{IsAscending, upserted}
use Rattle.portal_base.proofs.Halved.{ascending_at}
use Rattle.portal_base.proofs.Upserted.{below_count, upserted-like}

-- ---- upserts

-- As many items are below one as stand before the item that is like it.
below_is : {X : Type 0} (cmp : X → X → Ordering) (o : IsTotalOrder cmp) (xs : List X) (i : ℕ) (d y : X)
    → IsAscending cmp xs → i < length xs → cmp (get_or xs i d) y ≡ Equal → below_count cmp y xs ≡ i
below_is cmp o [] i d y up lt like = absurd (omega arith)
below_is cmp o (z ∷ zs) zero d y up lt like = ap (λ r. cond (is_lt r) (1 + below_count cmp y zs) 0) like
below_is cmp o (z ∷ zs) (suc i) d y up lt like =
    let less : cmp z y ≡ Less =
    sym (alike_right o (get_or zs i d) y z like) ∙ ascending_at cmp d (z ∷ zs) up 0 (suc i) (omega arith) lt in
    let rest = below_is cmp o zs i d y up.1 (omega arith) like in
    ap (λ r. cond (is_lt r) (1 + below_count cmp y zs) 0) less ∙ omega (arith, rest)

-- An item in place of the one that is like it is an upserted one.
pub set-upserted : {X : Type 0} (cmp : X → X → Ordering) (o : IsTotalOrder cmp) (xs : List X) (i : ℕ) (d y : X)
    → IsAscending cmp xs → i < length xs → cmp (get_or xs i d) y ≡ Equal → set xs i y ≡ upserted cmp y xs
set-upserted cmp o xs i d y up lt like =
    let is : below_count cmp y xs ≡ i = below_is cmp o xs i d y up lt like in
    sym ((upserted-like cmp o y d xs up (subst (λ n. n < length xs) (sym is) lt)
    (ap (λ n. cmp (get_or xs n d) y) is ∙ like)).0 ∙ ap (λ n. set xs n y) is)

-- ---- the first item that passes a test

module _ {X : Type 0} (p : X → Bool) where
  pub position-some : (xs : List X) (i : ℕ) → position p xs ≡ Some i → (position_or_len p xs ≡ i) × (i < length xs)
  position-some xs i e =
      let m : ℕ = position_or_len p xs in
      let P : Bool → Type 0 = λ b. nat_lt m (length xs) ≡ b → cond b (Some m) None ≡ Some i → (m ≡ i) × (i < length xs) in
      (elim (nat_lt m (length xs)) as P [
        | true ↦ λ t h. let same : m ≡ i = cc in (same, subst (λ n. n < length xs) same (ltb-true m (length xs) t))
        | false ↦ λ t h. absurd (cc)
      ]) refl e

  pub position-none : (xs : List X) → position p xs ≡ None → length xs ≤ position_or_len p xs
  position-none xs e =
      let m : ℕ = position_or_len p xs in
      let P : Bool → Type 0 = λ b. nat_lt m (length xs) ≡ b → cond {A = Option ℕ} b (Some m) None ≡ None → length xs ≤ m in
      (elim (nat_lt m (length xs)) as P [
        | true ↦ λ t h. absurd (cc)
        | false ↦ λ t h. ltb-false m (length xs) t
      ]) refl e

  pub some-position : (xs : List X) (i : ℕ) → position_or_len p xs ≡ i → i < length xs → position p xs ≡ Some i
  some-position xs i e lt =
      let m : ℕ = position_or_len p xs in
      let P : Bool → Type 0 = λ b. nat_lt m (length xs) ≡ b → cond b (Some m) None ≡ Some i in
      (elim (nat_lt m (length xs)) as P [
        | true ↦ λ t. ap Some e
        | false ↦ λ t. let past : length xs ≤ m = ltb-false m (length xs) t in absurd (omega (arith, past, e, lt))
      ]) refl

  pub none-position : (xs : List X) → length xs ≤ position_or_len p xs → position p xs ≡ None
  none-position xs past =
      let m : ℕ = position_or_len p xs in
      let P : Bool → Type 0 = λ b. nat_lt m (length xs) ≡ b → cond {A = Option ℕ} b (Some m) None ≡ None in
      (elim (nat_lt m (length xs)) as P [
        | true ↦ λ t. let below : m < length xs = ltb-true m (length xs) t in absurd (omega (arith, past, below))
        | false ↦ λ t. refl
      ]) refl

  -- What is found is at the position,
  pub find-position : (xs : List X) (i : ℕ) → position p xs ≡ Some i → find p xs ≡ slice_get xs i
  find-position xs i e = find_at p xs ∙ ap (slice_get xs) (position-some xs i e).0

  -- and nothing is found if there is none.
  pub find-no_position : (xs : List X) → position p xs ≡ None → find p xs ≡ None
  find-no_position xs e = find_at p xs ∙ slice_get_past xs (position_or_len p xs) (position-none xs e)

  pub passes-position : (xs : List X) (i : ℕ) (d : X) → position p xs ≡ Some i → p (get_or xs i d) ≡ true
  passes-position xs i d e =
      let at = position-some xs i e in
      subst (λ n. p (get_or xs n d) ≡ true) at.0
      (passes_at_first p xs d (subst (λ n. n < length xs) (sym at.0) at.1))

  -- The position is the index before which none passes, and at which one passes.
  pub position_is : (xs : List X) (i : ℕ) (d : X) → i < length xs
      → ((k : ℕ) (e : X) → k < i → p (get_or xs k e) ≡ false) → p (get_or xs i d) ≡ true → position p xs ≡ Some i
  position_is xs i d lt before here =
      some-position xs i (position_or_len_is p xs i d (omega arith) (λ k. before k d) (λ _. here)) lt

  all_before : (xs : List X) → ((k : ℕ) (e : X) → k < length xs → p (get_or xs k e) ≡ false)
      → position_or_len p xs ≡ length xs
  all_before [] before = refl
  all_before (x ∷ xs) before =
      position_or_len_is p (x ∷ xs) (length (x ∷ xs)) x (omega arith) (λ k lt. before k x lt)
      (λ lt. absurd (omega (arith, lt)))

  pub position_is_none : (xs : List X) (i : ℕ) → length xs ≤ i
      → ((k : ℕ) (e : X) → k < i → p (get_or xs k e) ≡ false) → position p xs ≡ None
  position_is_none xs i past before =
      let all : position_or_len p xs ≡ length xs = all_before xs (λ k e lt. before k e (omega (arith, past, lt))) in
      none-position xs (omega (arith, all))

  -- An item that fails, in place of the first that passes: none passes up to it.
  pub none-through : (xs : List X) (i : ℕ) (y : X) → position p xs ≡ Some i → p y ≡ false
      → (k : ℕ) (d : X) → k < i + 1 → p (get_or (set xs i y) k d) ≡ false
  none-through xs i y e fails k d lt =
      let at = position-some xs i e in
      let P : Bool → Type 0 = λ b. nat_lt k i ≡ b → p (get_or (set xs i y) k d) ≡ false in
      (elim (nat_lt k i) as P [
        | true ↦ λ t.
            let below : k < i = ltb-true k i t in
            ap p (get_or-set_other xs i k y d (λ same. absurd (omega (arith, same, below))))
            ∙ fails_before_first p xs k d (omega (arith, below, at.0))
        | false ↦ λ t.
            let same : k ≡ i = omega (arith, ltb-false k i t, lt) in
            ap (λ n. p (get_or (set xs i y) n d)) same ∙ ap p (get_or-set_same xs i y d at.1) ∙ fails
      ]) refl

  -- An item that fails, in place of another than the first that passes, leaves that one first.
  past : (xs : List X) (j : ℕ) (y : X) → j < length xs → p y ≡ false → (position_or_len p xs ≡ j → ⊥)
      → position_or_len p (set xs j y) ≡ position_or_len p xs
  past [] j y lt fails other = absurd (omega arith)
  past (z ∷ zs) zero y lt fails other =
      by (p z) other
    where
      by : (b : Bool) → (cond (not b) (1 + position_or_len p zs) 0 ≡ 0 → ⊥)
          → cond (not (p y)) (1 + position_or_len p zs) 0 ≡ cond (not b) (1 + position_or_len p zs) 0
      by true not_first = absurd (not_first refl)
      by false not_first = ap (λ t. cond (not t) (1 + position_or_len p zs) 0) fails
  past (z ∷ zs) (suc j) y lt fails other =
      by (p z) other (λ h. past zs j y (omega arith) fails h)
    where
      by : (b : Bool) → (cond (not b) (1 + position_or_len p zs) 0 ≡ suc j → ⊥)
          → ((position_or_len p zs ≡ j → ⊥) → position_or_len p (set zs j y) ≡ position_or_len p zs)
          → cond (not b) (1 + position_or_len p (set zs j y)) 0 ≡ cond (not b) (1 + position_or_len p zs) 0
      by true not_first rest = refl
      by false not_first rest = ap (λ n. 1 + n) (rest (λ e. not_first (omega (arith, e))))

  pub position-past : (xs : List X) (j : ℕ) (y : X) → j < length xs → p y ≡ false → (position p xs ≡ Some j → ⊥)
      → position p (set xs j y) ≡ position p xs
  position-past xs j y lt fails other =
      let same : position_or_len p (set xs j y) ≡ position_or_len p xs =
      past xs j y lt fails (λ e. other (some-position xs j e lt)) in
      let long : length (set xs j y) ≡ length xs = length-set xs j y in
      ap (λ n. cond (nat_lt n (length (set xs j y))) (Some n) None) same
      ∙ ap (λ n. cond (nat_lt (position_or_len p xs) n) (Some (position_or_len p xs)) None) long

  -- ---- how many pass

  -- An item in place of one that passes: no more pass,
  pub count-set : (xs : List X) (i : ℕ) (d y : X) → i < length xs → p (get_or xs i d) ≡ true
      → count_by p (set xs i y) ≤ count_by p xs
  count-set xs i d y lt passes =
      let whole = sum_by-set (λ x. cond (p x) 1 0) xs i y d lt in
      by (p y) (subst (λ b. count_by p (set xs i y) + cond b 1 0 ≡ count_by p xs + cond (p y) 1 0) passes whole)
    where
      by : (b : Bool) → count_by p (set xs i y) + 1 ≡ count_by p xs + cond b 1 0
          → count_by p (set xs i y) ≤ count_by p xs
      by true h = omega (arith, h)
      by false h = omega (arith, h)

  -- and one fewer if the new one fails.
  pub count-set_failing : (xs : List X) (i : ℕ) (d y : X) → i < length xs → p (get_or xs i d) ≡ true → p y ≡ false
      → count_by p (set xs i y) + 1 ≡ count_by p xs
  count-set_failing xs i d y lt passes fails =
      let whole = sum_by-set (λ x. cond (p x) 1 0) xs i y d lt in
      let left : count_by p (set xs i y) + 1 ≡ count_by p xs + cond (p y) 1 0 =
      subst (λ b. count_by p (set xs i y) + cond b 1 0 ≡ count_by p xs + cond (p y) 1 0) passes whole in
      let right : count_by p xs + cond (p y) 1 0 ≡ count_by p xs + 0 = ap (λ b. count_by p xs + cond b 1 0) fails in
      omega (arith, left, right)

  none_first : (xs : List X) → count_by p xs ≡ 0 → position_or_len p xs ≡ length xs
  none_first [] none = refl
  none_first (x ∷ xs) none =
      by (p x) (sym (sum_by-cons (λ y. cond (p y) 1 0) x xs) ∙ none) (none_first xs)
    where
      by : (b : Bool) → cond b 1 0 + count_by p xs ≡ 0 → (count_by p xs ≡ 0 → position_or_len p xs ≡ length xs)
          → cond (not b) (1 + position_or_len p xs) 0 ≡ length (x ∷ xs)
      by true h rest = absurd (omega (arith, h))
      by false h rest = let all = rest (omega (arith, h)) in omega (arith, all)

  -- If none passes, there is no position.
  pub position-none_counted : (xs : List X) → count_by p xs ≡ 0 → position p xs ≡ None
  position-none_counted xs none = none-position xs (omega (arith, none_first xs none))

module _ {X : Type 0} (p : X → Bool) where
  -- If none is found, none passes,
  pub none_found-count : (xs : List X) → find p xs ≡ None → count_by p xs ≡ 0
  none_found-count [] none = refl
  none_found-count (x ∷ xs) none =
      sum_by-cons (λ y. cond (p y) 1 0) x xs ∙ by (p x) none (none_found-count xs)
    where
      by : (b : Bool) → cond b (Some x) (find p xs) ≡ None → (find p xs ≡ None → count_by p xs ≡ 0)
          → cond b 1 0 + count_by p xs ≡ 0
      by true none rest = absurd (cc)
      by false none rest = omega (arith, rest none)

  -- and one that is added at the end is the first to pass.
  pub position-pushed : (xs : List X) (y : X) → find p xs ≡ None → p y ≡ true
      → position p (xs ++ y ∷ []) ≡ Some (length xs)
  position-pushed xs y none passes =
      some-position p (xs ++ y ∷ []) (length xs) (pushed xs none)
      (subst (λ n. length xs < n) (sym (length-append xs (y ∷ []))) (omega arith))
    where
      pushed : (zs : List X) → find p zs ≡ None → position_or_len p (zs ++ y ∷ []) ≡ length zs
      pushed [] none = ap (λ b. cond (not b) (1 + 0) 0) passes
      pushed (z ∷ zs) none = by (p z) none (pushed zs)
        where
          by : (b : Bool) → cond b (Some z) (find p zs) ≡ None
              → (find p zs ≡ None → position_or_len p (zs ++ y ∷ []) ≡ length zs)
              → cond (not b) (1 + position_or_len p (zs ++ y ∷ [])) 0 ≡ length (z ∷ zs)
          by true none rest = absurd (cc)
          by false none rest = let all = rest none in omega (arith, all)

-- ---- what is made of the items

-- What is made of one more item.
pub filter_map_more : {X Y : Type 0} (h : X → Option Y) (xs : List X) (i : ℕ) (d : X) → i < length xs
    → filter_map h (take (i + 1) xs) ≡ filter_map h (take i xs) ++ option_to_list (h (get_or xs i d))
filter_map_more {Y = Y} h xs i d lt =
    ap (filter_map h) (take_more xs i d lt) ∙ filter_map-append h (take i xs) (get_or xs i d ∷ [])
    ∙ ap (λ l. filter_map h (take i xs) ++ l) (one (h (get_or xs i d)))
  where
    one : (o : Option Y) → cons_option o [] ≡ option_to_list o
    one None = refl
    one (Some y) = refl
