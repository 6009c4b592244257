-- The page of a list is a part of it, and is found in its first items.
use Rattle.std.proofs.Common.{◌≡◌, ◌∙◌, ◌↔◌, ◌⊎◌, ◌≤◌, ℕ, ◌+◌, List, [], ◌∷◌, ◌++◌, ap, arith, append-nil, drop, inl, inr}
use Rattle.std.proofs.Common.{length, min, subst, sym, take}
use Rattle.std.proofs.lemmas.List.{drop-take, drop_all, drop_at, drop_min, length-take, take-append-drop, take-take}
use Rattle.std.proofs.lemmas.List.{take_all, take_at, take_min}
use Rattle.sorted_pages.specs.Page.{IsPart}

part-of : {X : Type 0} (offset limit : ℕ) (items : List X) → IsPart offset limit items (take limit (drop offset items))
part-of offset limit items = record {
  before = take offset items;
  after = drop limit (drop offset items);
  whole = sym (ap (λ ys. take offset items ++ ys) (take-append-drop limit (drop offset items))
      ∙ take-append-drop offset items);
  start = length-take offset items;
  most = most;
  full = full;
}
  where
    long : length (take limit (drop offset items)) ≡ min limit (length (drop offset items))
    long = length-take limit (drop offset items)

    most : length (take limit (drop offset items)) ≤ limit
    most = omega (arith, long)

    by : (limit ≤ length (drop offset items)) ⊎ (length (drop offset items) ≤ limit)
        → (drop limit (drop offset items) ≡ [] → ⊥) → length (take limit (drop offset items)) ≡ limit
    by (inl le) some = omega (arith, long, le)
    by (inr le) some = absurd (some (drop_all limit (drop offset items) le))

    full : (drop limit (drop offset items) ≡ [] → ⊥) → length (take limit (drop offset items)) ≡ limit
    full some = by (grind arith) some

part-is : {X : Type 0} (offset limit : ℕ) (items part : List X) → IsPart offset limit items part
    → take limit (drop offset items) ≡ part
part-is {X} offset limit items part p =
    ap (take limit) (sym (drop_min offset items) ∙ ap (drop (min offset (length items))) p.whole
    ∙ drop_at p.before (part ++ p.after) (min offset (length items)) p.start)
    ∙ by p.after p.full
  where
    by : (after : List X) → ((after ≡ [] → ⊥) → length part ≡ limit) → take limit (part ++ after) ≡ part
    by [] full = ap (take limit) (append-nil part) ∙ take_all limit part p.most
    by (x ∷ after) full = take_at part (x ∷ after) limit (full (λ e. cc))

pub parts_are : {X : Type 0} (offset limit : ℕ) (items part : List X)
    → (take limit (drop offset items) ≡ part) ↔ IsPart offset limit items part
parts_are offset limit items part =
    (λ e. subst (λ ys. IsPart offset limit items ys) e (part-of offset limit items), part-is offset limit items part)

-- The page of the first items is the page of all items, where these end with the page.
pub page_of_first : {X : Type 0} (limit offset end : ℕ) (items first : List X) → end ≡ min (offset + limit) (length items)
    → first ≡ take end items → take limit (drop offset first) ≡ take limit (drop offset items)
page_of_first {X} limit offset end items first at is =
    let up_to : first ≡ take (offset + limit) items =
    is ∙ ap (λ n. take n items) at ∙ take_min (offset + limit) items in
    ap (λ (xs : List X). take limit (drop offset xs)) up_to
    ∙ ap (take limit) (drop-take offset limit items)
    ∙ take-take limit limit (drop offset items) (omega arith)
