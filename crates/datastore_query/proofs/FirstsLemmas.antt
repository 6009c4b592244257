-- The first of each group of equal items, and the part of a list that a page is.
use Rattle.std.proofs.Common.{◌≡◌, ◌∙◌, ◌↔◌, Bool, true, false, ◌||◌, not, cond, List, [], ◌∷◌, ◌++◌}
use Rattle.std.proofs.Common.{ap, append-nil, filter, fold, inl, inr, refl, subst}
use Rattle.std.proofs.Common.{sym}
use Rattle.std.specs.Prelude.{AllPairs, Contains}
use Rattle.std.specs.List.{list_any}
use Rattle.std.proofs.lemmas.List.Elements.{filter-append}
use Rattle.portal_base.proofs.Filtered.{IsIn-filter, filter-IsIn}
use Rattle.portal_base.proofs.Unique.{Contains-IsIn, IsIn, IsIn-Contains}
use Rattle.datastore_table.proofs.PairLemmas.{AllPairs-cons, AllPairs-filter, AllPairs-head, AllPairs-nil, AllPairs-tail}
use Rattle.datastore_table.proofs.PairLemmas.{AllPairs-within}
use Rattle.datastore_table.proofs.KeyLemmas.{not_true, true_false}
use Rattle.datastore_query.specs.Listing.{AreFirsts, Precedes}
use Rattle.datastore_query.specs.Query.{firsts, with_first}

-- ---- the first items, from the first of the list

-- a test that passes what a later test passes doesn't lose it to a filter
any-kept : {X : Type 0} (p keeps : X → Bool) → ((y : X) → p y ≡ true → keeps y ≡ true) → (ys : List X)
    → list_any p (filter keeps ys) ≡ list_any p ys
any-kept p keeps kept [] = refl
any-kept {X} p keeps kept (y ∷ ys) = by (keeps y) refl (p y) refl (any-kept p keeps kept ys)
  where
    by : (b : Bool) → keeps y ≡ b → (a : Bool) → p y ≡ a → list_any p (filter keeps ys) ≡ list_any p ys
        → list_any p (cond b (y ∷ filter keeps ys) (filter keeps ys)) ≡ (p y || list_any p ys)
    by true e a f more = ap (λ c. p y || c) more
    by false e true f more = true_false (keeps y) (kept y f) e
    by false e false f more = more ∙ ap (λ c. c || list_any p ys) (sym f)

-- Where the list has x already, what is equal to x is not kept again.
firsts-after : {X : Type 0} (like : X → X → Bool) → ((a b : X) → like a b ≡ true → a ≡ b) → (x : X) (kept xs : List X)
    → fold (with_first like) (x ∷ filter (λ y. not (like y x)) kept) xs
    ≡ x ∷ filter (λ y. not (like y x)) (fold (with_first like) kept xs)
firsts-after like exact x kept [] = refl
firsts-after {X} like exact x kept (z ∷ zs) =
    by (like z x) refl (list_any (like z) kept) refl (firsts-after like exact x kept zs)
    (firsts-after like exact x (kept ++ z ∷ []) zs)
  where
    keeps : X → Bool
    keeps = λ y. not (like y x)

    State : List X → Type 0
    State ys = fold (with_first like) ys zs ≡ x ∷ filter keeps (fold (with_first like) kept zs)

    Pushed : List X → Type 0
    Pushed ys = fold (with_first like) ys zs ≡ x ∷ filter keeps (fold (with_first like) (kept ++ z ∷ []) zs)

    pushed : (b : Bool) → like z x ≡ b → filter keeps (kept ++ z ∷ []) ≡ filter keeps kept ++ cond (not b) (z ∷ []) []
    pushed b e =
        filter-append keeps kept (z ∷ []) ∙ ap (λ a. filter keeps kept ++ cond (not a) (z ∷ []) []) e

    among : like z x ≡ false → list_any (like z) (filter keeps kept) ≡ list_any (like z) kept
    among e = any-kept (like z) keeps (λ y f. ap not (subst (λ w. like w x ≡ false) (exact z y f) e)) kept

    by : (b : Bool) → like z x ≡ b → (a : Bool) → list_any (like z) kept ≡ a → State (x ∷ filter keeps kept)
        → Pushed (x ∷ filter keeps (kept ++ z ∷ []))
        → fold (with_first like)
        (cond (like z x || list_any (like z) (filter keeps kept)) (x ∷ filter keeps kept)
        ((x ∷ filter keeps kept) ++ z ∷ [])) zs
        ≡ x ∷ filter keeps (fold (with_first like) (cond (list_any (like z) kept) kept (kept ++ z ∷ [])) zs)
    by true e true f same more =
        ap (λ b. fold (with_first like) (cond (b || list_any (like z) (filter keeps kept)) (x ∷ filter keeps kept)
        ((x ∷ filter keeps kept) ++ z ∷ [])) zs) e
        ∙ same
        ∙ ap (λ a. x ∷ filter keeps (fold (with_first like) (cond a kept (kept ++ z ∷ [])) zs)) (sym f)
    by true e false f same more =
        let here : filter keeps kept ≡ filter keeps (kept ++ z ∷ []) =
        sym (append-nil (filter keeps kept)) ∙ sym (pushed true e) in
        ap (λ b. fold (with_first like) (cond (b || list_any (like z) (filter keeps kept)) (x ∷ filter keeps kept)
        ((x ∷ filter keeps kept) ++ z ∷ [])) zs) e
        ∙ ap (λ ys. fold (with_first like) (x ∷ ys) zs) here
        ∙ more
        ∙ ap (λ a. x ∷ filter keeps (fold (with_first like) (cond a kept (kept ++ z ∷ [])) zs)) (sym f)
    by false e true f same more =
        ap (λ b. fold (with_first like) (cond (b || list_any (like z) (filter keeps kept)) (x ∷ filter keeps kept)
        ((x ∷ filter keeps kept) ++ z ∷ [])) zs) e
        ∙ ap (λ b. fold (with_first like) (cond b (x ∷ filter keeps kept) ((x ∷ filter keeps kept) ++ z ∷ [])) zs)
        (among e ∙ f)
        ∙ same
        ∙ ap (λ a. x ∷ filter keeps (fold (with_first like) (cond a kept (kept ++ z ∷ [])) zs)) (sym f)
    by false e false f same more =
        ap (λ b. fold (with_first like) (cond (b || list_any (like z) (filter keeps kept)) (x ∷ filter keeps kept)
        ((x ∷ filter keeps kept) ++ z ∷ [])) zs) e
        ∙ ap (λ b. fold (with_first like) (cond b (x ∷ filter keeps kept) ((x ∷ filter keeps kept) ++ z ∷ [])) zs)
        (among e ∙ f)
        ∙ ap (λ ys. fold (with_first like) (x ∷ ys) zs) (sym (pushed false e))
        ∙ more
        ∙ ap (λ a. x ∷ filter keeps (fold (with_first like) (cond a kept (kept ++ z ∷ [])) zs)) (sym f)

firsts-cons : {X : Type 0} (like : X → X → Bool) → ((a b : X) → like a b ≡ true → a ≡ b) → (x : X) (xs : List X)
    → firsts like (x ∷ xs) ≡ x ∷ filter (λ y. not (like y x)) (firsts like xs)
firsts-cons like exact x xs = firsts-after like exact x [] xs

-- ---- they are the first of each group

-- the same, in the words of members
record AreFirst {X : Type 0} (items firsts : List X) : Type 0 where
  kept : (x : X) → IsIn x firsts → IsIn x items
  all : (x : X) → IsIn x items → IsIn x firsts
  apart : AllPairs (λ (a b : X). a ≡ b → ⊥) firsts
  sorted : AllPairs (Precedes items) firsts

first-added : {X : Type 0} (like : X → X → Bool) → ((a b : X) → like a b ≡ true → a ≡ b)
    → ((a : X) → like a a ≡ true) → (x : X) (xs ys : List X) → AreFirst xs ys
    → AreFirst (x ∷ xs) (x ∷ filter (λ y. not (like y x)) ys)
first-added {X} like exact itself x xs ys first = record {
  kept = kept;
  all = all;
  apart = AllPairs-cons (λ (a b : X). a ≡ b → ⊥) x others (λ y m e. differs y m (sym e))
      (AllPairs-filter (λ (a b : X). a ≡ b → ⊥) keeps ys first.apart);
  sorted = AllPairs-cons (Precedes (x ∷ xs)) x others before_first
      (AllPairs-within (Precedes xs) (Precedes (x ∷ xs)) others before_later
      (AllPairs-filter (Precedes xs) keeps ys first.sorted));
}
  where
    keeps : X → Bool
    keeps = λ y. not (like y x)

    others : List X
    others = filter keeps ys

    differs : (y : X) → IsIn y others → y ≡ x → ⊥
    differs y m e =
        true_false (like y x) (subst (λ z. like z x ≡ true) (sym e) (itself x))
        (not_true (like y x) (IsIn-filter keeps y ys m).1)

    kept : (y : X) → IsIn y (x ∷ others) → IsIn y (x ∷ xs)
    kept y (inl e) = inl e
    kept y (inr m) = inr (first.kept y (IsIn-filter keeps y ys m).0)

    all : (y : X) → IsIn y (x ∷ xs) → IsIn y (x ∷ others)
    all y (inl e) = inl e
    all y (inr m) = by (like y x) refl
      where
        by : (b : Bool) → like y x ≡ b → IsIn y (x ∷ others)
        by true e = inl (exact y x e)
        by false e = inr (filter-IsIn keeps y ys (first.all y m) (ap not e))

    before_first : (y : X) → IsIn y others → Precedes (x ∷ xs) x y
    before_first y m [] after e = absurd (differs y m (sym cc))
    before_first y m (z ∷ before) after e =
        let same : x ≡ z = cc in
        Contains-IsIn x (z ∷ before) (inl same)

    before_later : (a b : X) → IsIn a others → IsIn b others → Precedes xs a b → Precedes (x ∷ xs) a b
    before_later a b m n precedes [] after e = absurd (differs b n (sym cc))
    before_later a b m n precedes (z ∷ before) after e =
        let rest : xs ≡ before ++ b ∷ after = cc in
        Contains-IsIn a (z ∷ before) (inr (IsIn-Contains a before (precedes before after rest)))

are-first : {X : Type 0} (like : X → X → Bool) → ((a b : X) → like a b ≡ true → a ≡ b)
    → ((a : X) → like a a ≡ true) → (xs : List X) → AreFirst xs (firsts like xs)
are-first {X} like exact itself [] = record {
  kept = λ x m. m;
  all = λ x m. m;
  apart = AllPairs-nil (λ (a b : X). a ≡ b → ⊥);
  sorted = AllPairs-nil (Precedes []);
}
are-first like exact itself (x ∷ xs) =
    subst (λ ys. AreFirst (x ∷ xs) ys) (sym (firsts-cons like exact x xs))
    (first-added like exact itself x xs (firsts like xs) (are-first like exact itself xs))

-- ---- no other list is

-- No two items precede each other.
no-cycle : {X : Type 0} (xs : List X) (a b : X) → Precedes xs a b → Precedes xs b a → IsIn b xs → ⊥
no-cycle [] a b up down m = m
no-cycle {X} (x ∷ xs) a b up down (inl e) =
    let at : Contains [] a = up [] xs (ap (λ z. z ∷ xs) (sym e)) in
    IsIn-Contains a [] at
no-cycle {X} (x ∷ xs) a b up down (inr m) =
    no-cycle xs a b (shorter a b up other_a) (shorter b a down other_b) m
  where
    other_a : a ≡ x → ⊥
    other_a e = IsIn-Contains b [] (down [] xs (ap (λ z. z ∷ xs) (sym e)))

    other_b : b ≡ x → ⊥
    other_b e = IsIn-Contains a [] (up [] xs (ap (λ z. z ∷ xs) (sym e)))

    shorter : (c d : X) → Precedes (x ∷ xs) c d → (c ≡ x → ⊥) → Precedes xs c d
    shorter c d precedes other before after e =
        by (IsIn-Contains c (x ∷ before) (precedes (x ∷ before) after (ap (λ zs. x ∷ zs) e)))
      where
        by : IsIn c (x ∷ before) → Contains before c
        by (inl s) = absurd (other s)
        by (inr n) = Contains-IsIn c before n

-- Two lists with the same items in the same order are one, if no two of the items come before each other.
same-order : {X : Type 0} (R : X → X → Type 0) (ys zs : List X) → ((a b : X) → IsIn b ys → R a b → R b a → ⊥)
    → ((x : X) → IsIn x ys → IsIn x zs) → ((x : X) → IsIn x zs → IsIn x ys) → AllPairs R ys → AllPairs R zs → ys ≡ zs
same-order R [] [] asym to from up down = refl
same-order R [] (z ∷ zs) asym to from up down = absurd (from z (inl refl))
same-order R (y ∷ ys) [] asym to from up down = absurd (to y (inl refl))
same-order {X} R (y ∷ ys) (z ∷ zs) asym to from up down =
    let tails : ys ≡ zs = same-order R ys zs (λ a b m. asym a b (inr m))
    (λ x m. in_tail x (above y ys up x m) (subst (λ w. IsIn x (w ∷ zs)) (sym heads) (to x (inr m))))
    (λ x m. out_tail x (above z zs down x m) (subst (λ w. IsIn x (w ∷ ys)) heads (from x (inr m))))
    (AllPairs-tail R y ys up) (AllPairs-tail R z zs down) in
    ap (λ w. w ∷ ys) heads ∙ ap (λ ws. z ∷ ws) tails
  where
    above : (x : X) (xs : List X) → AllPairs R (x ∷ xs) → (w : X) → IsIn w xs → R x w
    above x xs all w m = AllPairs-head R x xs all w m

    first : IsIn y (z ∷ zs) → IsIn z (y ∷ ys) → y ≡ z
    first (inl e) n = e
    first (inr m) (inl e) = sym e
    first (inr m) (inr n) = absurd (asym z y (inl refl) (above z zs down y m) (above y ys up z n))

    heads : y ≡ z
    heads = first (to y (inl refl)) (from z (inl refl))

    in_tail : (x : X) → R y x → IsIn x (y ∷ zs) → IsIn x zs
    in_tail x r (inl e) = absurd (asym y y (inl refl) (subst (λ w. R y w) e r) (subst (λ w. R y w) e r))
    in_tail x r (inr m) = m

    out_tail : (x : X) → R z x → IsIn x (z ∷ ys) → IsIn x ys
    out_tail x r (inl e) =
        let again : R y y = subst (λ w. R w w) (sym heads) (subst (λ w. R z w) e r) in
        absurd (asym y y (inl refl) again again)
    out_tail x r (inr m) = m

pub firsts_are : {X : Type 0} (like : X → X → Bool) → ((a b : X) → like a b ≡ true → a ≡ b)
    → ((a : X) → like a a ≡ true) → (items found : List X) → (firsts like items ≡ found) ↔ AreFirsts items found
firsts_are {X} like exact itself items found = (to, from)
  where
    own : AreFirst items (firsts like items)
    own = are-first like exact itself items

    stated : AreFirsts items (firsts like items)
    stated = record {
      same = λ x. (
        λ m. Contains-IsIn x items (own.kept x (IsIn-Contains x (firsts like items) m)),
        λ m. Contains-IsIn x (firsts like items) (own.all x (IsIn-Contains x items m)),
      );
      apart = own.apart;
      sorted = own.sorted;
    }

    to : firsts like items ≡ found → AreFirsts items found
    to e = subst (λ ys. AreFirsts items ys) e stated

    from : AreFirsts items found → firsts like items ≡ found
    from are =
        same-order (Precedes items) (firsts like items) found
        (λ a b m up down. no-cycle items a b up down (own.kept b m))
        (λ x m. IsIn-Contains x found ((are.same x).1 (Contains-IsIn x items (own.kept x m))))
        (λ x m. own.all x (IsIn-Contains x items ((are.same x).0 (Contains-IsIn x found m)))) own.sorted are.sorted
