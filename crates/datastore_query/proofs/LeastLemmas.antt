-- The least key of some entries.
use Rattle.std.proofs.Common.{◌≡◌, ◌∙◌, ◌↔◌, ℕ, ◌+◌, ◌<◌, Bool, true, false, cond, List, [], ◌∷◌, ◌++◌, Option, Some, None}
use Rattle.std.proofs.Common.{refl, sym, ap, arith, length, get_or, take, map, fold, suc, zero, subst, inl, inr, ◌⊎◌}
use Rattle.std.specs.Prelude.{All, Contains, filter}
use Rattle.std.specs.Cmp.{IsStrictWeakOrder}
use Rattle.std.specs.declared.cmp.Ordering.{Ordering}
use Rattle.std.specs.declared.cmp.Ordering.TheVariants.{Less, Equal, Greater}
use Rattle.std.specs.Ordering.{is_lt, is_eq, nat_cmp, ord_min, ordering_reverse}
use Rattle.std.specs.Cmp.Lexicographic.{slice_cmp, texts_ties}
use Rattle.std.proofs.lemmas.Cmp.{nat_list_cmp_total, tied_itself}
use Rattle.std.proofs.lemmas.List.Elements.{All-cons, All-head, All-nil, All-tail}
use Rattle.std.proofs.lemmas.List.MinMax.{ranks_by}
use Rattle.std.proofs.lemmas.Slice.Eq.{bytes_eq-Decides}
use Rattle.std.proofs.lemmas.List.{take_more}
use Rattle.datastore_query.specs.Filter.{Entry, keys_where, least, IsLeast}

-- ---- one more entry

-- the lesser of the least of some keys and one more key
abbrev pub lesser : Option (List ℕ) → List ℕ → Option (List ℕ)
lesser None key = Some key
lesser (Some least) key = Some (ord_min (slice_cmp nat_cmp) least key)

fold-append : {A B : Type 0} (f : B → A → B) (b : B) (xs ys : List A) → fold f b (xs ++ ys) ≡ fold f (fold f b xs) ys
fold-append f b [] ys = refl
fold-append f b (x ∷ xs) ys = fold-append f (f b x) xs ys

least_push : (keys : List (List ℕ)) (key : List ℕ) → least (keys ++ key ∷ []) ≡ lesser (least keys) key
least_push [] key = refl
least_push (k ∷ keys) key = ap Some (fold-append (ord_min (slice_cmp nat_cmp)) k keys (key ∷ []))

more_keys : (test : Entry → Bool) (entries : List Entry) (entry : Entry)
    → keys_where test (entries ++ entry ∷ [])
    ≡ keys_where test entries ++ cond (test entry) (entry.0 ∷ []) []
more_keys test [] entry =
    elim (test entry) as (λ b. map (λ (e : Entry). e.0) (cond b (entry ∷ []) []) ≡ cond b (entry.0 ∷ []) []) [ true ↦ refl | false ↦ refl ]
more_keys test (e ∷ entries) entry =
    let P : Bool → Type 0 = λ b. map (λ (e : Entry). e.0) (cond b (e ∷ filter test (entries ++ entry ∷ [])) (filter test (entries ++ entry ∷ [])))
    ≡ map (λ (e : Entry). e.0) (cond b (e ∷ filter test entries) (filter test entries)) ++ cond (test entry) (entry.0 ∷ []) [] in
    elim (test e) as P [ true ↦ ap (λ ks. e.0 ∷ ks) (more_keys test entries entry) | false ↦ more_keys test entries entry ]

append-none : {A : Type 0} (xs : List A) → xs ++ [] ≡ xs
append-none [] = refl
append-none (x ∷ xs) = ap (λ ys. x ∷ ys) (append-none xs)

-- the least key of one more entry
pub least_more : (test : Entry → Bool) (entries : List Entry) (i : ℕ) (entry : Entry) → i < length entries
    → entry ≡ get_or entries i entry
    → least (keys_where test (take (i + 1) entries))
    ≡ cond (test entry) (lesser (least (keys_where test (take i entries))) entry.0)
    (least (keys_where test (take i entries)))
least_more test entries i entry lt is =
    let front : List Entry = take i entries in
    let P : Bool → Type 0 =
    λ b. least (keys_where test front ++ cond b (entry.0 ∷ []) [])
    ≡ cond b (lesser (least (keys_where test front)) entry.0) (least (keys_where test front)) in
    ap (λ es. least (keys_where test es)) (take_more entries i entry lt ∙ ap (λ e. front ++ e ∷ []) (sym is))
    ∙ ap least (more_keys test front entry)
    ∙ elim (test entry) as P [
      | true ↦ least_push (keys_where test front) entry.0
      | false ↦ ap least (append-none (keys_where test front))
    ]

-- ---- what the least is

abbrev is_less : List ℕ → List ℕ → Bool
is_less x y = is_lt (slice_cmp nat_cmp x y)

by_bytes : IsStrictWeakOrder is_less
by_bytes = ranks_by nat_list_cmp_total (λ (key : List ℕ). key)

not_less_itself : (x : List ℕ) → is_less x x ≡ false
not_less_itself x = ap is_lt (tied_itself nat_list_cmp_total x)

abbrev NoneLess : List (List ℕ) → List ℕ → Type 0
NoneLess keys key = All (λ other. is_less other key ≡ false) keys

-- The lesser of two is one of them, and neither is less.
lesser_is : (k x : List ℕ)
    → ((ord_min (slice_cmp nat_cmp) k x ≡ k) ⊎ (ord_min (slice_cmp nat_cmp) k x ≡ x))
    × (is_less k (ord_min (slice_cmp nat_cmp) k x) ≡ false) × (is_less x (ord_min (slice_cmp nat_cmp) k x) ≡ false)
lesser_is k x =
    let P : Bool → Type 0 =
    λ b. is_less x k ≡ b
    → ((cond b x k ≡ k) ⊎ (cond b x k ≡ x)) × (is_less k (cond b x k) ≡ false) × (is_less x (cond b x k) ≡ false) in
    (elim (is_less x k) as P [
      | true ↦ λ e. (inr refl, by_bytes.one_way x k e, not_less_itself x)
      | false ↦ λ e. (inl refl, not_less_itself k, e)
    ]) refl

fold_least : (k : List ℕ) (keys : List (List ℕ)) → IsLeast (k ∷ keys) (fold (ord_min (slice_cmp nat_cmp)) k keys)
fold_least k [] = record {
  among = (0, omega arith, refl);
  none_less = All-cons (λ other. is_less other k ≡ false) k [] (not_less_itself k) (All-nil _);
}
fold_least k (x ∷ keys) =
    let m : List ℕ = ord_min (slice_cmp nat_cmp) k x in
    let r : List ℕ = fold (ord_min (slice_cmp nat_cmp)) m keys in
    let h : IsLeast (m ∷ keys) r = fold_least m keys in
    let parts = lesser_is k x in
    let P : List ℕ → Type 0 = λ other. is_less other r ≡ false in
    let here : is_less m r ≡ false = All-head P m keys h.none_less in
    record {
      among = found m r parts.0 h.among;
      none_less =
          All-cons P k (x ∷ keys) (by_bytes.chain k m r parts.1 here)
          (All-cons P x keys (by_bytes.chain x m r parts.2 here) (All-tail P m keys h.none_less));
    }
  where
    found : (m r : List ℕ) → (m ≡ k) ⊎ (m ≡ x) → Contains (m ∷ keys) r → Contains (k ∷ x ∷ keys) r
    found m r (inl e) (zero, lt, is) = (0, omega arith, sym e ∙ is)
    found m r (inr e) (zero, lt, is) = (1, omega arith, sym e ∙ is)
    found m r which (suc i, lt, is) = (suc (suc i), omega arith, is)

at : (P : List ℕ → Type 0) (keys : List (List ℕ)) (key : List ℕ) → All P keys → Contains keys key → P key
at P keys key all c = subst P c.2 (all c.0 key c.1)

equal_by : (r s : Ordering) → r ≡ ordering_reverse s → is_lt r ≡ false → is_lt s ≡ false → is_eq r ≡ true
equal_by r Less e h k = absurd (cc)
equal_by r Equal e h k = ap is_eq e
equal_by r Greater e h k = absurd (cc)

same_least : (keys : List (List ℕ)) (a b : List ℕ) → IsLeast keys a → IsLeast keys b → a ≡ b
same_least keys a b h k =
    let first : is_less a b ≡ false = at (λ other. is_less other b ≡ false) keys a k.none_less h.among in
    let second : is_less b a ≡ false = at (λ other. is_less other a ≡ false) keys b h.none_less k.among in
    let tied : is_eq (slice_cmp nat_cmp a b) ≡ true =
    equal_by (slice_cmp nat_cmp a b) (slice_cmp nat_cmp b a) (nat_list_cmp_total.antisymm a b) first second in
    (bytes_eq-Decides a b).0 (texts_ties a b ∙ tied)

pub least_where_none_is_less : (keys : List (List ℕ)) (key : List ℕ) → (least keys ≡ Some key) ↔ IsLeast keys key
least_where_none_is_less [] key = (λ e. absurd (cc), λ h. let c = h.among in absurd (omega arith))
least_where_none_is_less (k ∷ keys) key =
    let first : List ℕ = fold (ord_min (slice_cmp nat_cmp)) k keys in (
      λ e. let same : first ≡ key = cc in subst (IsLeast (k ∷ keys)) same (fold_least k keys),
      λ h. ap Some (same_least (k ∷ keys) first key (fold_least k keys) h),
    )

pub none_where_no_key : (keys : List (List ℕ)) → (least keys ≡ None) ↔ (keys ≡ [])
none_where_no_key [] = (λ e. refl, λ e. refl)
none_where_no_key (k ∷ keys) = (λ e. absurd (cc), λ e. absurd (cc))
