-- The targets of foreign keys, which a row has in place of a table's: 0 stands for the table's own number.
use Rattle.std.proofs.Common.{◌≡◌, ◌≢◌, ◌∙◌, ℕ, zero, suc, ◌<◌, ◌≤◌, ◌^◌, ◌==◌, Bool, true, false, ◌||◌, cond, not}
use Rattle.std.proofs.Common.{List}
use Rattle.std.proofs.Common.{[], ◌∷◌, ◌++◌, ◌+◌, All, map, Some, inl, inr, refl, sym, ap, ap₂, subst, arith}
use Rattle.std.proofs.Common.{add-one, drop, get_or, length, set, take}
use Rattle.std.specs.Prelude.{slice_get}
use Rattle.std.specs.Str.{bytes_eq}
use Rattle.std.proofs.lemmas.Bool.Decides.{nat_tests}
use Rattle.std.proofs.lemmas.Option.{same_Some}
use Rattle.portal_base.proofs.Filtered.{IsIn-filter}
use Rattle.portal_base.proofs.Unique.{IsIn, IsIn-Contains}
use Rattle.portal_base.proofs.Upserted.{All-IsIn, All-each}
use Rattle.datastore_answers.specs.Consistent.{AreConsistent, own_resolved}
use Rattle.datastore_answers.specs.Tables.{tables_in}
use Rattle.datastore_answers.specs.declared.resource_table.ResourceTable.{ResourceTable}
use Rattle.datastore_answers.proofs.KeepLemmas.{number_is, number_itself}
use Rattle.datastore_answers.proofs.ReferenceLemmas.{HoldsAt, IsKept, kept-each}
use Rattle.datastore_table.specs.References.{is_self}
use Rattle.datastore_table.proofs.ReferenceLemmas.{any-found}
use Rattle.datastore_table.proofs.RowLemmas.{both_hold}
use Rattle.packages.specs.Numbered.{AreNumbered}
use Rattle.packages.specs.declared.package.Package.{Package}
use Rattle.packages.specs.declared.package.Resource.{Resource}
use Rattle.packages.proofs.FindLemmas.{IsIn-find, map-IsIn}
use Rattle.table_schema.specs.declared.foreign.Foreign.{Foreign}
use Rattle.portal_state.specs.KeptRows.{row_target}
use Rattle.portal_core.specs.Restored.{target_of}
use Rattle.portal_state.specs.Valid.{HasHome}

-- ---- one target

unequal : (m n : ℕ) → (m ≡ n → ⊥) → (m == n) ≡ false
unequal m n other = grind (arith, nat_tests, other)

-- what a row has in place of a number is read as this number
target-back : (own kept : ℕ) → (kept ≡ own → ⊥) → row_target own (target_of own kept) ≡ kept
target-back own kept other = by (kept == 0) refl
  where
    by : (b : Bool) → (kept == 0) ≡ b → row_target own (cond b own kept) ≡ kept
    by true is = ap (λ b. cond b 0 own) (number_itself own) ∙ sym (number_is kept 0 is)
    by false is = ap (λ b. cond b 0 kept) (unequal kept own other)

target-range : (own kept : ℕ) → 1 ≤ own → own < 2 ^ 32 → kept < 2 ^ 32
    → (1 ≤ target_of own kept) × (target_of own kept < 2 ^ 32)
target-range own kept least small also = by (kept == 0) refl
  where
    by : (b : Bool) → (kept == 0) ≡ b → (1 ≤ cond b own kept) × (cond b own kept < 2 ^ 32)
    by true is = (least, small)
    by false is = (grind (arith, nat_tests, is), also)

-- no row has the table's own number
never-own : (own n : ℕ) → 1 ≤ own → row_target own n ≡ own → ⊥
never-own own n least = by (n == own) refl
  where
    by : (b : Bool) → (n == own) ≡ b → cond b 0 n ≡ own → ⊥
    by true is e = omega (arith, least, e)
    by false is e = let same : (n == own) ≡ true = ap (λ m. m == own) e ∙ number_itself own in absurd (cc)

-- two numbers of resources are read of different ones
one-target : (own m n : ℕ) → 1 ≤ m → 1 ≤ n → row_target own m ≡ row_target own n → m ≡ n
one-target own m n first second = by (m == own) refl (n == own) refl
  where
    by : (b : Bool) → (m == own) ≡ b → (c : Bool) → (n == own) ≡ c → cond b 0 m ≡ cond c 0 n → m ≡ n
    by true is true also e = number_is m own is ∙ sym (number_is n own also)
    by true is false also e = omega (arith, second, e)
    by false is true also e = omega (arith, first, e)
    by false is false also e = e

-- ---- all targets of a table

pub targets-back : (own : ℕ) (kept : List ℕ) → All (λ n. n ≢ own) kept
    → map (row_target own) (map (target_of own) kept) ≡ kept
targets-back own kept other = each kept (All-IsIn (λ n. n ≢ own) kept other)
  where
    each : (ns : List ℕ) → ((n : ℕ) → IsIn n ns → n ≢ own) → map (row_target own) (map (target_of own) ns) ≡ ns
    each [] differ = refl
    each (n ∷ ns) differ =
        ap₂ (λ (m : ℕ) (ms : List ℕ). m ∷ ms) (target-back own n (differ n (inl refl)))
        (each ns (λ m among. differ m (inr among)))

pub targets-range : (own : ℕ) (kept : List ℕ) → 1 ≤ own → own < 2 ^ 32 → All (λ n. n < 2 ^ 32) kept
    → All (λ n. (1 ≤ n) × (n < 2 ^ 32)) (map (target_of own) kept)
targets-range own kept least small all =
    All-each (λ n. (1 ≤ n) × (n < 2 ^ 32)) (map (target_of own) kept)
    (λ n among.
    let w = map-IsIn (target_of own) n kept among in
    subst (λ (m : ℕ). (1 ≤ m) × (m < 2 ^ 32)) (sym w.2)
    (target-range own w.0 least small (All-IsIn (λ m. m < 2 ^ 32) kept all w.0 w.1)))

pub targets-other : (own : ℕ) (targets kept : List ℕ) → 1 ≤ own → map (row_target own) targets ≡ kept
    → All (λ n. n ≢ own) kept
targets-other own targets kept least same =
    subst (All (λ n. n ≢ own)) same
    (All-each (λ n. n ≢ own) (map (row_target own) targets)
    (λ n among.
    let w = map-IsIn (row_target own) n targets among in
    λ is. never-own own w.0 least (sym w.2 ∙ is)))

pub same-targets : (own : ℕ) (xs ys : List ℕ) → All (λ n. (1 ≤ n) × (n < 2 ^ 32)) xs
    → All (λ n. (1 ≤ n) × (n < 2 ^ 32)) ys → map (row_target own) xs ≡ map (row_target own) ys → xs ≡ ys
same-targets own xs ys first second =
    each xs ys (λ n m. (All-IsIn (λ k. (1 ≤ k) × (k < 2 ^ 32)) xs first n m).0)
    (λ n m. (All-IsIn (λ k. (1 ≤ k) × (k < 2 ^ 32)) ys second n m).0)
  where
    each : (ms ns : List ℕ) → ((n : ℕ) → IsIn n ms → 1 ≤ n) → ((n : ℕ) → IsIn n ns → 1 ≤ n)
        → map (row_target own) ms ≡ map (row_target own) ns → ms ≡ ns
    each [] [] one other e = refl
    each [] (n ∷ ns) one other e = absurd (cc)
    each (m ∷ ms) [] one other e = absurd (cc)
    each (m ∷ ms) (n ∷ ns) one other e =
        let head : m ≡ n = one-target own m n (one m (inl refl)) (other n (inl refl)) (cc) in
        let tail : ms ≡ ns = each ms ns (λ k j. one k (inr j)) (λ k j. other k (inr j)) (cc) in
        cc

-- ---- targets that are read in place, one after another

-- the list whose items before this index are replaced
abbrev pub half : (ℕ → ℕ) → List ℕ → ℕ → List ℕ
half f kept at = map f (take at kept) ++ drop at kept

pub half-length : (f : ℕ → ℕ) (kept : List ℕ) (at : ℕ) → length (half f kept at) ≡ length kept
half-length f [] zero = refl
half-length f [] (suc at) = refl
half-length f (k ∷ kept) zero = refl
half-length f (k ∷ kept) (suc at) = ap suc (half-length f kept at)

pub half-read : (f : ℕ → ℕ) (kept : List ℕ) (at d : ℕ) → get_or (half f kept at) at d ≡ get_or kept at d
half-read f [] zero d = refl
half-read f [] (suc at) d = refl
half-read f (k ∷ kept) zero d = refl
half-read f (k ∷ kept) (suc at) d = half-read f kept at d

half-set : (f : ℕ → ℕ) (kept : List ℕ) (at d : ℕ) → at < length kept
    → set (half f kept at) at (f (get_or kept at d)) ≡ half f kept (suc at)
half-set f [] at d lt = absurd (omega (arith, lt))
half-set f (k ∷ kept) zero d lt = refl
half-set f (k ∷ kept) (suc at) d lt = ap (λ (l : List ℕ). f k ∷ l) (half-set f kept at d (omega (arith, lt)))

pub half-next : (f : ℕ → ℕ) (kept : List ℕ) (at d : ℕ) → at < length kept
    → set (half f kept at) at (f (get_or kept at d)) ≡ half f kept (at + 1)
half-next f kept at d lt = half-set f kept at d lt ∙ ap (half f kept) (sym (add-one at))

pub half-all : (f : ℕ → ℕ) (kept : List ℕ) (at : ℕ) → length kept ≤ at → half f kept at ≡ map f kept
half-all f [] zero le = refl
half-all f [] (suc at) le = refl
half-all f (k ∷ kept) zero le = absurd (omega (arith, le))
half-all f (k ∷ kept) (suc at) le = ap (λ (l : List ℕ). f k ∷ l) (half-all f kept at (omega (arith, le)))

-- an item that is read from a list at the index where its items begin that aren't replaced
pub half-item : (f : ℕ → ℕ) (kept items : List ℕ) (at n : ℕ) → items ≡ half f kept at → n ≡ get_or items at n
    → n ≡ get_or kept at n
half-item f kept items at n is read =
    read ∙ ap (λ (l : List ℕ). get_or l at n) is ∙ half-read f kept at n

pub half-step : (f : ℕ → ℕ) (kept items : List ℕ) (at n made : ℕ) → items ≡ half f kept at → at < length kept
    → n ≡ get_or items at n → made ≡ f n → set items at made ≡ half f kept (at + 1)
half-step f kept items at n made is lt read now =
    ap₂ (λ (l : List ℕ) (m : ℕ). set l at m) is (now ∙ ap f (half-item f kept items at n is read))
    ∙ half-next f kept at n lt

-- ---- targets of consistent tables

-- The number of an existing resource is at least 1.
pub home-numbered : (datasets : List Package) (t : ResourceTable) → All AreNumbered datasets → HasHome datasets t
    → 1 ≤ t.address.number
home-numbered datasets t numbered home =
    let r = any-found (λ (x : Resource). x.number == t.address.number) home.dataset.resources home.resource in
    let within =
    All-IsIn (λ (x : Resource). (1 ≤ x.number) × (x.number < home.dataset.next_resource)) home.dataset.resources
    (All-IsIn AreNumbered datasets numbered home.dataset (IsIn-Contains home.dataset datasets home.is_present)).within
    r.0 r.1 in
    subst (λ (n : ℕ). 1 ≤ n) (number_is r.0.number t.address.number r.2) within.0

-- What holds of the table's own number and of each target of a foreign key to another table holds of each target.
resolved-each : (P : ℕ → Type 0) (own : ℕ) (foreigns : List Foreign) (numbers : List ℕ) → P own
    → own_resolved own foreigns numbers ≡ true
    → ((index : ℕ) (foreign : Foreign) (n : ℕ) → slice_get foreigns index ≡ Some foreign → is_self foreign ≡ false
    → slice_get numbers index ≡ Some n → P n)
    → (n : ℕ) → IsIn n numbers → P n
resolved-each P own [] [] itself resolved other n among = absurd among
resolved-each P own [] (m ∷ ms) itself resolved other n among = absurd (cc)
resolved-each P own (f ∷ fs) [] itself resolved other n among = absurd among
resolved-each P own (f ∷ fs) (m ∷ ms) itself resolved other n (inl same) =
    let parts = both_hold (not (is_self f) || m == own) (own_resolved own fs ms) resolved in
    subst P (sym same) (by (is_self f) refl parts.0)
  where
    by : (self : Bool) → is_self f ≡ self → (not self || m == own) ≡ true → P m
    by true is h = subst P (sym (number_is m own h)) itself
    by false is h = other zero f m refl is refl
resolved-each P own (f ∷ fs) (m ∷ ms) itself resolved other n (inr among) =
    let parts = both_hold (not (is_self f) || m == own) (own_resolved own fs ms) resolved in
    resolved-each P own fs ms itself parts.1 (λ index. other (suc index)) n among

-- Each table of consistent tables refers to numbers of existing resources.
pub targets-numbered : (datasets : List Package) (tables : List ResourceTable) → All AreNumbered datasets
    → AreConsistent tables → All (HasHome datasets) tables → (t : ResourceTable) → IsIn t tables → (n : ℕ)
    → IsIn n t.targets → 1 ≤ n
targets-numbered datasets tables numbered consistent homes t within =
    resolved-each (λ n. 1 ≤ n) t.address.number t.table.schema.foreign t.targets (each t within) kept.resolved
    (λ index foreign n there other is. referred n (kept.holds index foreign there other) is)
  where
    kept : IsKept tables t
    kept = kept-each tables consistent t within

    each : (u : ResourceTable) → IsIn u tables → 1 ≤ u.address.number
    each u m = home-numbered datasets u numbered (All-IsIn (HasHome datasets) tables homes u m)

    referred : {index : ℕ} {foreign : Foreign} (n : ℕ) → HoldsAt (tables_in t.address.dataset tables) t index foreign
        → slice_get t.targets index ≡ Some n → 1 ≤ n
    referred n holds is =
        let there = IsIn-find (λ (u : ResourceTable). u.address.number == holds.number) holds.target
        (tables_in t.address.dataset tables) holds.there in
        let found = each holds.target
        (IsIn-filter (λ (u : ResourceTable). bytes_eq u.address.dataset t.address.dataset) holds.target tables
        there.0).0 in
        subst (λ (k : ℕ). 1 ≤ k)
        (number_is holds.target.address.number holds.number there.1
        ∙ same_Some holds.number n (sym holds.resolved ∙ is))
        found
