-- The range of the memberships in one organization, in memberships that ascend by organization and user.
use Rattle.std.proofs.Common.{◌≡◌, ◌∙◌, ◌<◌, ◌≤◌, ℕ, zero, suc, ◌+◌, Bool, true, false, cond, List, []}
use Rattle.std.proofs.Common.{◌∷◌, ◌++◌, ◌⊎◌, inl, inr, refl, sym, ap, length, get_or, take, drop, arith, ◌-◌}
use Rattle.std.specs.Prelude.{filter, slice_range}
use Rattle.std.specs.Cmp.Lexicographic.{slice_cmp}
use Rattle.std.specs.List.{Contains, prefix_len}
use Rattle.std.specs.List.Sorted.{IsPartitionedBy}
use Rattle.std.specs.Ordering.{is_eq, is_le, is_lt, nat_cmp, ordering_then}
use Rattle.std.specs.Str.{bytes_eq}
use Rattle.std.specs.declared.cmp.Ordering.{Ordering}
use Rattle.std.specs.declared.cmp.Ordering.TheVariants.{Less, Equal, Greater}
use Rattle.std.proofs.lemmas.Cmp.{alike_right, nat_list_cmp_total}
use Rattle.std.proofs.lemmas.List.{append-nil, get_or-drop, get_or-take, length-drop, length-take, take-append-drop}
use Rattle.std.proofs.lemmas.List.Elements.{Contains-get_or, filter-append}
use Rattle.std.proofs.lemmas.List.Sums.{prefix_len_passes, prefix_len_stops}
use Rattle.std.proofs.lemmas.Map.Text.{is_eq-slice_cmp}
use Rattle.portal_base.specs.Ordered.{IsAscending}
use Rattle.portal_base.proofs.Filtered.{filter-all}
use Rattle.portal_base.proofs.Unique.{Contains-IsIn, IsIn, IsIn-Contains, below_in}
use Rattle.datastore_table.proofs.KeyLemmas.{true_false}
use Rattle.org_roles.specs.Order.{membership_cmp}
use Rattle.org_roles.specs.declared.entry.Membership.{Membership}
use Rattle.portal_rows.specs.OrgRows.{memberships_in}

-- ---- memberships by their organizations alone

-- compares the membership's organization with this name
abbrev pub to_org : List ℕ → Membership → Ordering
to_org name t = slice_cmp nat_cmp t.org name

le_of_then : (r s : Ordering) → ordering_then r s ≡ Less → is_le r ≡ true
le_of_then Less s h = refl
le_of_then Equal s h = refl
le_of_then Greater s h = absurd (cc)

-- A membership before another is in the same organization, or in one whose name is below each name above the other's.
nearer : (a b d : List ℕ) (e : Ordering) → slice_cmp nat_cmp a b ≡ e → is_le e ≡ true
    → (slice_cmp nat_cmp a d ≡ slice_cmp nat_cmp b d)
    ⊎ (is_le (slice_cmp nat_cmp b d) ≡ true → slice_cmp nat_cmp a d ≡ Less)
nearer a b d Less e h = inr (by (slice_cmp nat_cmp b d) refl)
  where
    by : (r : Ordering) → slice_cmp nat_cmp b d ≡ r → is_le r ≡ true → slice_cmp nat_cmp a d ≡ Less
    by Less is le = nat_list_cmp_total.trans a b d e is
    by Equal is le = sym (alike_right nat_list_cmp_total b d a is) ∙ e
    by Greater is le = absurd (cc)
nearer a b d Equal e h = inl (nat_list_cmp_total.congr a b d e)
nearer a b d Greater e h = absurd (cc)

-- A test that passes every membership below a name, and otherwise at most those in the organization of that name,
-- passes a prefix of the memberships.
pub partitioned : (p : Ordering → Bool) → p Less ≡ true → ((r : Ordering) → p r ≡ true → is_le r ≡ true)
    → (name : List ℕ) (ts : List Membership) → IsAscending membership_cmp ts
    → IsPartitionedBy (λ t. p (to_org name t)) ts
partitioned p least most name [] up i j d le lt h = absurd (omega (arith, lt))
partitioned p least most name (t ∷ ts) up zero zero d le lt h = h
partitioned p least most name (t ∷ ts) up zero (suc j) d le lt h =
    by (nearer t.org u.org name (slice_cmp nat_cmp t.org u.org) refl
    (le_of_then (slice_cmp nat_cmp t.org u.org) (slice_cmp nat_cmp t.user u.user)
    below))
  where
    u : Membership
    u = get_or ts j d

    below : membership_cmp t u ≡ Less
    below = below_in membership_cmp t u ts up.0
        (IsIn-Contains u ts (Contains-get_or ts j d (omega (arith, lt))))

    by : (to_org name t ≡ to_org name u)
        ⊎ (is_le (to_org name u) ≡ true → to_org name t ≡ Less) → p (to_org name t) ≡ true
    by (inl same) = ap p same ∙ h
    by (inr less) = ap p (less (most (to_org name u) h)) ∙ least
partitioned p least most name (t ∷ ts) up (suc i) zero d le lt h = absurd (omega (arith, le))
partitioned p least most name (t ∷ ts) up (suc i) (suc j) d le lt h =
    partitioned p least most name ts up.1 i j d (omega (arith, le)) (omega (arith, lt)) h

lt_le : (r : Ordering) → is_lt r ≡ true → is_le r ≡ true
lt_le Less h = refl
lt_le Equal h = absurd (cc)
lt_le Greater h = absurd (cc)

pub below_before : (name : List ℕ) (ts : List Membership) → IsAscending membership_cmp ts
    → IsPartitionedBy (λ t. is_lt (to_org name t)) ts
below_before = partitioned is_lt refl lt_le

pub to_before : (name : List ℕ) (ts : List Membership) → IsAscending membership_cmp ts
    → IsPartitionedBy (λ t. is_le (to_org name t)) ts
to_before = partitioned is_le refl (λ r h. h)

-- After the first item that fails the test, each item fails it.
fails_after : (p : Membership → Bool) (ts : List Membership) → IsPartitionedBy p ts → (k : ℕ)
    (d : Membership) → prefix_len p ts ≤ k → k < length ts → p (get_or ts k d) ≡ false
fails_after p ts parted k d beyond within = by (p (get_or ts k d)) refl
  where
    first : p (get_or ts (prefix_len p ts) d) ≡ false
    first = prefix_len_stops p ts d (omega arith)

    by : (b : Bool) → p (get_or ts k d) ≡ b → b ≡ false
    by false is = refl
    by true is = true_false (p (get_or ts (prefix_len p ts) d)) (parted (prefix_len p ts) k d beyond within is) first

-- ---- the organization's memberships in order

abbrev pub from_index : List ℕ → List Membership → ℕ
from_index name ts = prefix_len (λ t. is_lt (to_org name t)) ts

abbrev pub to_index : List ℕ → List Membership → ℕ
to_index name ts = prefix_len (λ t. is_le (to_org name t)) ts

passes_longer : (p q : Membership → Bool) → ((t : Membership) → p t ≡ true → q t ≡ true)
    → (ts : List Membership) → prefix_len p ts ≤ prefix_len q ts
passes_longer p q more [] = omega arith
passes_longer p q more (t ∷ ts) = by (p t) refl (q t) refl (passes_longer p q more ts)
  where
    by : (a : Bool) → p t ≡ a → (b : Bool) → q t ≡ b → prefix_len p ts ≤ prefix_len q ts
        → cond a (1 + prefix_len p ts) 0 ≤ cond b (1 + prefix_len q ts) 0
    by true is true also rest = omega arith
    by true is false isnt rest = true_false (q t) (more t is) isnt
    by false is b also rest = omega arith

pub places_ordered : (name : List ℕ) (ts : List Membership) → from_index name ts ≤ to_index name ts
places_ordered name ts =
    passes_longer (λ t. is_lt (to_org name t)) (λ t. is_le (to_org name t))
    (λ t h. lt_le (to_org name t) h) ts

own_is : (name : List ℕ) (t : Membership) (b : Bool) → is_eq (to_org name t) ≡ b
    → bytes_eq t.org name ≡ b
own_is name t b is = sym (is_eq-slice_cmp t.org name) ∙ is

lt_apart : (r : Ordering) → is_lt r ≡ true → is_eq r ≡ false
lt_apart Less h = refl
lt_apart Equal h = absurd (cc)
lt_apart Greater h = absurd (cc)

above_apart : (r : Ordering) → is_le r ≡ false → is_eq r ≡ false
above_apart Less h = absurd (cc)
above_apart Equal h = absurd (cc)
above_apart Greater h = refl

between_eq : (r : Ordering) → is_lt r ≡ false → is_le r ≡ true → is_eq r ≡ true
between_eq Less f h = absurd (cc)
between_eq Equal f h = refl
between_eq Greater f h = absurd (cc)

-- No membership before the range is in the organization,
other_before : (name : List ℕ) (ts : List Membership) (k : ℕ) (d : Membership) → k < from_index name ts
    → bytes_eq (get_or ts k d).org name ≡ false
other_before name ts k d lt =
    own_is name (get_or ts k d) false
    (lt_apart (to_org name (get_or ts k d))
    (prefix_len_passes (λ t. is_lt (to_org name t)) ts k d lt))

-- and none after it.
other_after : (name : List ℕ) (ts : List Membership) → IsAscending membership_cmp ts → (k : ℕ) (d : Membership)
    → to_index name ts ≤ k → k < length ts → bytes_eq (get_or ts k d).org name ≡ false
other_after name ts up k d le lt =
    own_is name (get_or ts k d) false
    (above_apart (to_org name (get_or ts k d))
    (fails_after (λ t. is_le (to_org name t)) ts (to_before name ts up) k d le lt))

-- All memberships in the range are.
pub own_between : (name : List ℕ) (ts : List Membership) → IsAscending membership_cmp ts → (k : ℕ)
    (d : Membership) → from_index name ts ≤ k → k < to_index name ts → k < length ts
    → bytes_eq (get_or ts k d).org name ≡ true
own_between name ts up k d le lt within =
    own_is name (get_or ts k d) true
    (between_eq (to_org name (get_or ts k d))
    (fails_after (λ t. is_lt (to_org name t)) ts (below_before name ts up) k d le within)
    (prefix_len_passes (λ t. is_le (to_org name t)) ts k d lt))

-- If no item passes, none is left.
filter-none : {X : Type 0} (p : X → Bool) (xs : List X) → ((x : X) → IsIn x xs → p x ≡ false) → filter p xs ≡ []
filter-none p [] fails = refl
filter-none p (x ∷ xs) fails =
    ap (λ b. cond b (x ∷ filter p xs) (filter p xs)) (fails x (inl refl)) ∙ filter-none p xs (λ y m. fails y (inr m))

-- An item of the rest of a list stands in the list from that index on.
IsIn-drop : {X : Type 0} (ts : List X) (n : ℕ) (x : X) → IsIn x (drop n ts)
    → (k : ℕ) × (n ≤ k) × (k < length ts) × (get_or ts k x ≡ x)
IsIn-drop ts n x m =
    let at : Contains (drop n ts) x = Contains-IsIn x (drop n ts) m in
    (n + at.0, omega arith, omega (arith, at.1, length-drop n ts), sym (get_or-drop n ts at.0 x) ∙ at.2)

-- One of the first items stands before that index.
IsIn-take : {X : Type 0} (ts : List X) (n : ℕ) (x : X) → IsIn x (take n ts)
    → (k : ℕ) × (k < n) × (k < length ts) × (get_or ts k x ≡ x)
IsIn-take ts n x m =
    let at : Contains (take n ts) x = Contains-IsIn x (take n ts) m in
    let lt : at.0 < n = omega (arith, at.1, length-take n ts) in
    (at.0, lt, omega (arith, at.1, length-take n ts), sym (get_or-take n ts at.0 x lt) ∙ at.2)

-- The memberships in the range are those in the organization.
pub range_has_memberships : (name : List ℕ) (ts : List Membership) → IsAscending membership_cmp ts
    → slice_range ts (from_index name ts) (to_index name ts) ≡ memberships_in name ts
range_has_memberships name ts up =
    sym (ap (filter own) (sym (take-append-drop from ts))
    ∙ filter-append own (take from ts) (drop from ts)
    ∙ ap (λ l. l ++ filter own (drop from ts)) (filter-none own (take from ts) before)
    ∙ ap (filter own) (sym (take-append-drop count (drop from ts)))
    ∙ filter-append own (take count (drop from ts)) (drop count (drop from ts))
    ∙ ap (λ l. l ++ filter own (drop count (drop from ts))) (filter-all own (take count (drop from ts)) within)
    ∙ ap (λ l. take count (drop from ts) ++ l) (filter-none own (drop count (drop from ts)) after)
    ∙ append-nil (take count (drop from ts)))
  where
    from : ℕ
    from = from_index name ts

    to : ℕ
    to = to_index name ts

    count : ℕ
    count = to - from

    own : Membership → Bool
    own t = bytes_eq t.org name

    before : (x : Membership) → IsIn x (take from ts) → own x ≡ false
    before x m =
        let at = IsIn-take ts from x m in
        ap own (sym at.3) ∙ other_before name ts at.0 x at.1

    within : (x : Membership) → IsIn x (take count (drop from ts)) → own x ≡ true
    within x m =
        let at = IsIn-take (drop from ts) count x m in
        ap own (sym at.3 ∙ get_or-drop from ts at.0 x)
        ∙ own_between name ts up (from + at.0) x (omega arith) (omega (arith, at.1))
        (omega (arith, at.2, length-drop from ts))

    after : (x : Membership) → IsIn x (drop count (drop from ts)) → own x ≡ false
    after x m =
        let at = IsIn-drop (drop from ts) count x m in
        ap own (sym at.3 ∙ get_or-drop from ts at.0 x)
        ∙ other_after name ts up (from + at.0) x (omega (arith, at.1, places_ordered name ts))
        (omega (arith, at.2, length-drop from ts))
