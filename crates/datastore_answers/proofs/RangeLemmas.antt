-- The range of one dataset's tables, and the tables that are left if those of some of its resources are removed.
use Rattle.std.proofs.Common.{◌≡◌, ◌∙◌, ◌<◌, ◌≤◌, ℕ, zero, suc, ◌+◌, Bool, true, false, not, ◌||◌, cond, List, []}
use Rattle.std.proofs.Common.{◌∷◌, ◌++◌, ◌⊎◌, inl, inr, refl, sym, ap, subst, map, length, get_or, take, drop, arith}
use Rattle.std.proofs.Common.{append_assoc, add-one, ◌-◌}
use Rattle.std.specs.Prelude.{filter, slice_range}
use Rattle.std.specs.Cmp.Lexicographic.{slice_cmp}
use Rattle.std.specs.List.{Contains, prefix_len}
use Rattle.std.specs.List.Sorted.{IsPartitionedBy}
use Rattle.std.specs.Ordering.{is_eq, is_le, is_lt, nat_cmp, ordering_then}
use Rattle.std.specs.Str.{bytes_eq}
use Rattle.std.specs.declared.cmp.Ordering.{Ordering}
use Rattle.std.specs.declared.cmp.Ordering.TheVariants.{Less, Equal, Greater}
use Rattle.std.proofs.lemmas.Cmp.{alike_right, nat_list_cmp_total}
use Rattle.std.proofs.lemmas.List.{drop_more, get_or-drop, get_or-take, length-drop, length-take, take-append-drop}
use Rattle.std.proofs.lemmas.List.{append-nil, take_more}
use Rattle.std.proofs.lemmas.List.Elements.{Contains-get_or, filter-append}
use Rattle.std.proofs.lemmas.List.Sums.{prefix_len_passes, prefix_len_stops}
use Rattle.std.proofs.lemmas.Map.Text.{is_eq-slice_cmp}
use Rattle.packages.specs.declared.package.Resource.{Resource}
use Rattle.visibility.specs.TableSummary.{is_among}
use Rattle.portal_base.specs.Ordered.{IsAscending}
use Rattle.portal_base.proofs.Filtered.{filter-all}
use Rattle.portal_base.proofs.Unique.{Contains-IsIn, IsIn, IsIn-Contains, below_in}
use Rattle.datastore_table.proofs.KeyLemmas.{true_false}
use Rattle.datastore_answers.specs.Order.{table_cmp}
use Rattle.datastore_answers.specs.Tables.{without_room, tables_in, tables_kept}
use Rattle.datastore_answers.specs.declared.resource_table.ResourceTable.{ResourceTable}
use Rattle.datastore_answers.proofs.DropLemmas.{stays}

-- ---- tables by their datasets alone

-- compares the table's dataset with this one
abbrev pub to_dataset : List ℕ → ResourceTable → Ordering
to_dataset dataset t = slice_cmp nat_cmp t.address.dataset dataset

le_of_then : (r s : Ordering) → ordering_then r s ≡ Less → is_le r ≡ true
le_of_then Less s h = refl
le_of_then Equal s h = refl
le_of_then Greater s h = absurd (cc)

-- A table before another is of the same dataset, or of one below each dataset that is above that table's.
nearer : (a b d : List ℕ) (e : Ordering) → slice_cmp nat_cmp a b ≡ e → is_le e ≡ true
    → (slice_cmp nat_cmp a d ≡ slice_cmp nat_cmp b d)
    ⊎ (is_le (slice_cmp nat_cmp b d) ≡ true → slice_cmp nat_cmp a d ≡ Less)
nearer a b d Less e h = inr (by (slice_cmp nat_cmp b d) refl)
  where
    by : (r : Ordering) → slice_cmp nat_cmp b d ≡ r → is_le r ≡ true → slice_cmp nat_cmp a d ≡ Less
    by Less is le = nat_list_cmp_total.trans a b d e is
    by Equal is le = sym (alike_right nat_list_cmp_total b d a is) ∙ e
    by Greater is le = absurd (cc)
nearer a b d Equal e h = inl (nat_list_cmp_total.congr a b d e)
nearer a b d Greater e h = absurd (cc)

-- A test that passes every table below a dataset, and otherwise at most the dataset's own, passes a prefix of the
-- tables.
pub partitioned : (p : Ordering → Bool) → p Less ≡ true → ((r : Ordering) → p r ≡ true → is_le r ≡ true)
    → (dataset : List ℕ) (ts : List ResourceTable) → IsAscending table_cmp ts
    → IsPartitionedBy (λ t. p (to_dataset dataset t)) ts
partitioned p least most dataset [] up i j d le lt h = absurd (omega (arith, lt))
partitioned p least most dataset (t ∷ ts) up zero zero d le lt h = h
partitioned p least most dataset (t ∷ ts) up zero (suc j) d le lt h =
    by (nearer t.address.dataset u.address.dataset dataset (slice_cmp nat_cmp t.address.dataset u.address.dataset) refl
    (le_of_then (slice_cmp nat_cmp t.address.dataset u.address.dataset) (nat_cmp t.address.number u.address.number)
    below))
  where
    u : ResourceTable
    u = get_or ts j d

    below : table_cmp t u ≡ Less
    below = below_in table_cmp t u ts up.0
        (IsIn-Contains u ts (Contains-get_or ts j d (omega (arith, lt))))

    by : (to_dataset dataset t ≡ to_dataset dataset u)
        ⊎ (is_le (to_dataset dataset u) ≡ true → to_dataset dataset t ≡ Less) → p (to_dataset dataset t) ≡ true
    by (inl same) = ap p same ∙ h
    by (inr less) = ap p (less (most (to_dataset dataset u) h)) ∙ least
partitioned p least most dataset (t ∷ ts) up (suc i) zero d le lt h = absurd (omega (arith, le))
partitioned p least most dataset (t ∷ ts) up (suc i) (suc j) d le lt h =
    partitioned p least most dataset ts up.1 i j d (omega (arith, le)) (omega (arith, lt)) h

lt_le : (r : Ordering) → is_lt r ≡ true → is_le r ≡ true
lt_le Less h = refl
lt_le Equal h = absurd (cc)
lt_le Greater h = absurd (cc)

pub below_before : (dataset : List ℕ) (ts : List ResourceTable) → IsAscending table_cmp ts
    → IsPartitionedBy (λ t. is_lt (to_dataset dataset t)) ts
below_before = partitioned is_lt refl lt_le

pub to_before : (dataset : List ℕ) (ts : List ResourceTable) → IsAscending table_cmp ts
    → IsPartitionedBy (λ t. is_le (to_dataset dataset t)) ts
to_before = partitioned is_le refl (λ r h. h)

-- After the first item that fails the test, each item fails it.
fails_after : (p : ResourceTable → Bool) (ts : List ResourceTable) → IsPartitionedBy p ts → (k : ℕ)
    (d : ResourceTable) → prefix_len p ts ≤ k → k < length ts → p (get_or ts k d) ≡ false
fails_after p ts parted k d beyond within = by (p (get_or ts k d)) refl
  where
    first : p (get_or ts (prefix_len p ts) d) ≡ false
    first = prefix_len_stops p ts d (omega arith)

    by : (b : Bool) → p (get_or ts k d) ≡ b → b ≡ false
    by false is = refl
    by true is = true_false (p (get_or ts (prefix_len p ts) d)) (parted (prefix_len p ts) k d beyond within is) first

-- ---- the dataset's tables in order

abbrev pub from_index : List ℕ → List ResourceTable → ℕ
from_index dataset ts = prefix_len (λ t. is_lt (to_dataset dataset t)) ts

abbrev pub to_index : List ℕ → List ResourceTable → ℕ
to_index dataset ts = prefix_len (λ t. is_le (to_dataset dataset t)) ts

passes_longer : (p q : ResourceTable → Bool) → ((t : ResourceTable) → p t ≡ true → q t ≡ true)
    → (ts : List ResourceTable) → prefix_len p ts ≤ prefix_len q ts
passes_longer p q more [] = omega arith
passes_longer p q more (t ∷ ts) = by (p t) refl (q t) refl (passes_longer p q more ts)
  where
    by : (a : Bool) → p t ≡ a → (b : Bool) → q t ≡ b → prefix_len p ts ≤ prefix_len q ts
        → cond a (1 + prefix_len p ts) 0 ≤ cond b (1 + prefix_len q ts) 0
    by true is true also rest = omega arith
    by true is false isnt rest = true_false (q t) (more t is) isnt
    by false is b also rest = omega arith

pub places_ordered : (dataset : List ℕ) (ts : List ResourceTable) → from_index dataset ts ≤ to_index dataset ts
places_ordered dataset ts =
    passes_longer (λ t. is_lt (to_dataset dataset t)) (λ t. is_le (to_dataset dataset t))
    (λ t h. lt_le (to_dataset dataset t) h) ts

own_is : (dataset : List ℕ) (t : ResourceTable) (b : Bool) → is_eq (to_dataset dataset t) ≡ b
    → bytes_eq t.address.dataset dataset ≡ b
own_is dataset t b is = sym (is_eq-slice_cmp t.address.dataset dataset) ∙ is

lt_apart : (r : Ordering) → is_lt r ≡ true → is_eq r ≡ false
lt_apart Less h = refl
lt_apart Equal h = absurd (cc)
lt_apart Greater h = absurd (cc)

above_apart : (r : Ordering) → is_le r ≡ false → is_eq r ≡ false
above_apart Less h = absurd (cc)
above_apart Equal h = absurd (cc)
above_apart Greater h = refl

between_eq : (r : Ordering) → is_lt r ≡ false → is_le r ≡ true → is_eq r ≡ true
between_eq Less f h = absurd (cc)
between_eq Equal f h = refl
between_eq Greater f h = absurd (cc)

-- No table before the range is the dataset's,
other_before : (dataset : List ℕ) (ts : List ResourceTable) (k : ℕ) (d : ResourceTable) → k < from_index dataset ts
    → bytes_eq (get_or ts k d).address.dataset dataset ≡ false
other_before dataset ts k d lt =
    own_is dataset (get_or ts k d) false
    (lt_apart (to_dataset dataset (get_or ts k d))
    (prefix_len_passes (λ t. is_lt (to_dataset dataset t)) ts k d lt))

-- and none after it.
other_after : (dataset : List ℕ) (ts : List ResourceTable) → IsAscending table_cmp ts → (k : ℕ) (d : ResourceTable)
    → to_index dataset ts ≤ k → k < length ts → bytes_eq (get_or ts k d).address.dataset dataset ≡ false
other_after dataset ts up k d le lt =
    own_is dataset (get_or ts k d) false
    (above_apart (to_dataset dataset (get_or ts k d))
    (fails_after (λ t. is_le (to_dataset dataset t)) ts (to_before dataset ts up) k d le lt))

-- All tables in the range are.
pub own_between : (dataset : List ℕ) (ts : List ResourceTable) → IsAscending table_cmp ts → (k : ℕ)
    (d : ResourceTable) → from_index dataset ts ≤ k → k < to_index dataset ts → k < length ts
    → bytes_eq (get_or ts k d).address.dataset dataset ≡ true
own_between dataset ts up k d le lt within =
    own_is dataset (get_or ts k d) true
    (between_eq (to_dataset dataset (get_or ts k d))
    (fails_after (λ t. is_lt (to_dataset dataset t)) ts (below_before dataset ts up) k d le within)
    (prefix_len_passes (λ t. is_le (to_dataset dataset t)) ts k d lt))

-- If no item passes, none is left.
filter-none : {X : Type 0} (p : X → Bool) (xs : List X) → ((x : X) → IsIn x xs → p x ≡ false) → filter p xs ≡ []
filter-none p [] fails = refl
filter-none p (x ∷ xs) fails =
    ap (λ b. cond b (x ∷ filter p xs) (filter p xs)) (fails x (inl refl)) ∙ filter-none p xs (λ y m. fails y (inr m))

-- An item of the rest of a list stands in the list from that index on.
IsIn-drop : {X : Type 0} (ts : List X) (n : ℕ) (x : X) → IsIn x (drop n ts)
    → (k : ℕ) × (n ≤ k) × (k < length ts) × (get_or ts k x ≡ x)
IsIn-drop ts n x m =
    let at : Contains (drop n ts) x = Contains-IsIn x (drop n ts) m in
    (n + at.0, omega arith, omega (arith, at.1, length-drop n ts), sym (get_or-drop n ts at.0 x) ∙ at.2)

-- One of the first items stands before that index.
IsIn-take : {X : Type 0} (ts : List X) (n : ℕ) (x : X) → IsIn x (take n ts)
    → (k : ℕ) × (k < n) × (k < length ts) × (get_or ts k x ≡ x)
IsIn-take ts n x m =
    let at : Contains (take n ts) x = Contains-IsIn x (take n ts) m in
    let lt : at.0 < n = omega (arith, at.1, length-take n ts) in
    (at.0, lt, omega (arith, at.1, length-take n ts), sym (get_or-take n ts at.0 x lt) ∙ at.2)

-- The tables in the range are the dataset's, and no others are.
pub range_has_tables : (dataset : List ℕ) (ts : List ResourceTable) → IsAscending table_cmp ts
    → slice_range ts (from_index dataset ts) (to_index dataset ts) ≡ tables_in dataset ts
range_has_tables dataset ts up =
    sym (ap (filter own) (sym (take-append-drop from ts))
    ∙ filter-append own (take from ts) (drop from ts)
    ∙ ap (λ l. l ++ filter own (drop from ts)) (filter-none own (take from ts) before)
    ∙ ap (filter own) (sym (take-append-drop count (drop from ts)))
    ∙ filter-append own (take count (drop from ts)) (drop count (drop from ts))
    ∙ ap (λ l. l ++ filter own (drop count (drop from ts))) (filter-all own (take count (drop from ts)) within)
    ∙ ap (λ l. take count (drop from ts) ++ l) (filter-none own (drop count (drop from ts)) after)
    ∙ append-nil (take count (drop from ts)))
  where
    from : ℕ
    from = from_index dataset ts

    to : ℕ
    to = to_index dataset ts

    count : ℕ
    count = to - from

    own : ResourceTable → Bool
    own t = bytes_eq t.address.dataset dataset

    before : (x : ResourceTable) → IsIn x (take from ts) → own x ≡ false
    before x m =
        let at = IsIn-take ts from x m in
        ap own (sym at.3) ∙ other_before dataset ts at.0 x at.1

    within : (x : ResourceTable) → IsIn x (take count (drop from ts)) → own x ≡ true
    within x m =
        let at = IsIn-take (drop from ts) count x m in
        ap own (sym at.3 ∙ get_or-drop from ts at.0 x)
        ∙ own_between dataset ts up (from + at.0) x (omega arith) (omega (arith, at.1))
        (omega (arith, at.2, length-drop from ts))

    after : (x : ResourceTable) → IsIn x (drop count (drop from ts)) → own x ≡ false
    after x m =
        let at = IsIn-drop (drop from ts) count x m in
        ap own (sym at.3 ∙ get_or-drop from ts at.0 x)
        ∙ other_after dataset ts up (from + at.0) x (omega (arith, at.1, places_ordered dataset ts))
        (omega (arith, at.2, length-drop from ts))

-- ---- lists that are walked backwards

get_front : {X : Type 0} (ts rest : List X) (k : ℕ) (d : X) → k < length ts
    → get_or (take (suc k) ts ++ rest) k d ≡ get_or ts k d
get_front [] rest k d lt = absurd (omega (arith, lt))
get_front (t ∷ ts) rest zero d lt = refl
get_front (t ∷ ts) rest (suc k) d lt = get_front ts rest k d (omega (arith, lt))

take_front : {X : Type 0} (ts rest : List X) (k : ℕ) → k < length ts → take k (take (suc k) ts ++ rest) ≡ take k ts
take_front [] rest k lt = absurd (omega (arith, lt))
take_front (t ∷ ts) rest zero lt = refl
take_front (t ∷ ts) rest (suc k) lt = ap (λ l. t ∷ l) (take_front ts rest k (omega (arith, lt)))

drop_front : {X : Type 0} (ts rest : List X) (k : ℕ) → k < length ts → drop (suc k) (take (suc k) ts ++ rest) ≡ rest
drop_front [] rest k lt = absurd (omega (arith, lt))
drop_front (t ∷ ts) rest zero lt = refl
drop_front (t ∷ ts) rest (suc k) lt = drop_front ts rest k (omega (arith, lt))

-- all items before this index, and those after it that pass the test
abbrev pub kept_from : {X : Type 0} → (X → Bool) → ℕ → List X → List X
kept_from p k ts = take k ts ++ filter p (drop k ts)

-- The item before the index is unchanged.
pub item_before : {X : Type 0} (p : X → Bool) (ts : List X) (k : ℕ) (d : X) → k < length ts
    → get_or (kept_from p (k + 1) ts) k d ≡ get_or ts k d
item_before p ts k d lt = rw add-one (get_front ts (filter p (drop (suc k) ts)) k d lt)

-- It stays if it passes the test.
pub kept_before : {X : Type 0} (p : X → Bool) (ts : List X) (k : ℕ) (d : X) → k < length ts
    → p (get_or ts k d) ≡ true → kept_from p (k + 1) ts ≡ kept_from p k ts
kept_before {X} p ts k d lt passes =
    ap (λ l. l ++ filter p (drop (k + 1) ts)) (take_more ts k d lt)
    ∙ append_assoc (take k ts) (get_or ts k d ∷ []) (filter p (drop (k + 1) ts))
    ∙ ap (λ l. take k ts ++ l)
    (sym (ap (λ b. cond b (get_or ts k d ∷ filter p (drop (k + 1) ts)) (filter p (drop (k + 1) ts))) passes))
    ∙ ap (λ l. take k ts ++ filter p l) (sym (drop_more ts k d lt))

-- It is removed if it fails the test.
pub removed_before : {X : Type 0} (p : X → Bool) (ts : List X) (k : ℕ) (d : X) → k < length ts
    → p (get_or ts k d) ≡ false
    → take k (kept_from p (k + 1) ts) ++ drop (k + 1) (kept_from p (k + 1) ts) ≡ kept_from p k ts
removed_before {X} p ts k d lt fails = rw add-one (
    ap (λ l. l ++ drop (suc k) (kept_from p (suc k) ts)) (take_front ts (filter p (drop (suc k) ts)) k lt)
    ∙ ap (λ l. take k ts ++ l) (drop_front ts (filter p (drop (suc k) ts)) k lt)
    ∙ ap (λ l. take k ts ++ l)
    (sym (ap (λ b. cond b (get_or ts k d ∷ filter p (drop (suc k) ts)) (filter p (drop (suc k) ts))) fails))
    ∙ ap (λ l. take k ts ++ filter p l) (sym (drop_more_suc))
    )
  where
    drop_more_suc : drop k ts ≡ get_or ts k d ∷ drop (suc k) ts
    drop_more_suc = rw add-one at (drop_more ts k d lt)

-- ---- the tables that are kept

other_stays : (dataset : List ℕ) (resources : List Resource) (t : ResourceTable)
    → bytes_eq t.address.dataset dataset ≡ false → stays dataset resources t ≡ true
other_stays dataset resources t other = rw other refl

-- Before any removal, all tables after the range are kept.
pub keep-begin : (dataset : List ℕ) (resources : List Resource) (ts : List ResourceTable) → IsAscending table_cmp ts
    → ts ≡ kept_from (stays dataset resources) (to_index dataset ts) ts
keep-begin dataset resources ts up =
    sym (take-append-drop to ts)
    ∙ ap (λ l. take to ts ++ l)
    (sym (filter-all (stays dataset resources) (drop to ts)
    (λ x m.
    let at = IsIn-drop ts to x m in
    other_stays dataset resources x
    (subst (λ (t : ResourceTable). bytes_eq t.address.dataset dataset ≡ false) at.3
    (other_after dataset ts up at.0 x at.1 at.2)))))
  where
    to : ℕ
    to = to_index dataset ts

-- In the end, all tables before the range are kept too.
pub keep-end : (dataset : List ℕ) (resources : List Resource) (ts : List ResourceTable)
    → kept_from (stays dataset resources) (from_index dataset ts) ts ≡ tables_kept dataset resources ts
keep-end dataset resources ts =
    ap (λ l. l ++ filter (stays dataset resources) (drop from ts))
    (sym (filter-all (stays dataset resources) (take from ts) (λ x m. front x m)))
    ∙ sym (filter-append (stays dataset resources) (take from ts) (drop from ts))
    ∙ ap (filter (stays dataset resources)) (take-append-drop from ts)
  where
    from : ℕ
    from = from_index dataset ts

    front : (x : ResourceTable) → IsIn x (take from ts) → stays dataset resources x ≡ true
    front x m =
        let at = IsIn-take ts from x m in
        other_stays dataset resources x
        (subst (λ (t : ResourceTable). bytes_eq t.address.dataset dataset ≡ false) at.3
        (other_before dataset ts at.0 x at.1))

-- ---- one table after another, backwards

-- These are the tables after the dataset's tables from this index on were visited.
pub record IsKeptFrom (dataset : List ℕ) (resources : List Resource) (ts us : List ResourceTable) (k : ℕ)
    : Type 0 where
  pub up : IsAscending table_cmp ts
  pub from : from_index dataset ts ≤ k
  pub to : k < to_index dataset ts
  pub within : k < length ts
  pub kept : us ≡ kept_from (stays dataset resources) (k + 1) ts

-- The table before the index is the dataset's, and is kept just if its resource is.
item_stays : (dataset : List ℕ) (resources : List Resource) (ts us : List ResourceTable) (k : ℕ) (t : ResourceTable)
    → IsKeptFrom dataset resources ts us k → t ≡ get_or us k t
    → stays dataset resources (get_or ts k t) ≡ is_among resources t.address.number
item_stays dataset resources ts us k t at read =
    ap (λ b. not b || is_among resources (get_or ts k t).address.number)
    (own_between dataset ts at.up k t at.from at.to at.within)
    ∙ ap (λ (u : ResourceTable). is_among resources u.address.number)
    (sym (read ∙ ap (λ l. get_or l k t) at.kept ∙ item_before (stays dataset resources) ts k t at.within))

pub kept_one : (dataset : List ℕ) (resources : List Resource) (ts us : List ResourceTable) (k : ℕ) (t : ResourceTable)
    → IsKeptFrom dataset resources ts us k → t ≡ get_or us k t → is_among resources t.address.number ≡ true
    → us ≡ kept_from (stays dataset resources) k ts
kept_one dataset resources ts us k t at read among =
    at.kept
    ∙ kept_before (stays dataset resources) ts k t at.within
    (item_stays dataset resources ts us k t at read ∙ among)

pub removed_one : (dataset : List ℕ) (resources : List Resource) (ts us : List ResourceTable) (k : ℕ)
    (t : ResourceTable) → IsKeptFrom dataset resources ts us k → t ≡ get_or us k t
    → is_among resources t.address.number ≡ false
    → take k us ++ drop (k + 1) us ≡ kept_from (stays dataset resources) k ts
removed_one dataset resources ts us k t at read among =
    ap (λ l. take k l ++ drop (k + 1) l) at.kept
    ∙ removed_before (stays dataset resources) ts k t at.within
    (item_stays dataset resources ts us k t at read ∙ among)

-- The memory that tables have ready changes nothing.
pub kept_without_room : (dataset : List ℕ) (resources : List Resource) (ts : List ResourceTable)
    → map without_room (tables_kept dataset resources ts) ≡ tables_kept dataset resources (map without_room ts)
kept_without_room dataset resources [] = refl
kept_without_room dataset resources (t ∷ ts) = by (stays dataset resources t) (kept_without_room dataset resources ts)
  where
    by : (b : Bool) → map without_room (tables_kept dataset resources ts)
        ≡ tables_kept dataset resources (map without_room ts)
        → map without_room (cond b (t ∷ tables_kept dataset resources ts) (tables_kept dataset resources ts))
        ≡ cond b (without_room t ∷ tables_kept dataset resources (map without_room ts))
        (tables_kept dataset resources (map without_room ts))
    by true rest = ap (λ l. without_room t ∷ l) rest
    by false rest = rest
