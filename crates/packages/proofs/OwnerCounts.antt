-- Counts by owner: one more for an owner, and the counts of all entries of a shelf.
use Rattle.std.proofs.Common.{◌≡◌, ◌≤◌, ◌∙◌, ◌+◌, ◌&&◌, ℕ, suc, Bool, true, false, cond, List, ◌∷◌, Some, refl}
use Rattle.std.proofs.Common.{ap, arith, length}
use Rattle.std.specs.Prelude.{filter, if◌then◌else◌, unwrap_or}
use Rattle.std.specs.BTreeMap.{BTreeMap, UpdatesBy, get}
use Rattle.std.specs.Cmp.Lexicographic.{slice_cmp}
use Rattle.std.specs.Ordering.{nat_cmp}
use Rattle.std.specs.Str.{bytes_eq}
use Rattle.std.proofs.lemmas.Bool.{and_from}
use Rattle.std.proofs.lemmas.Map.Text.{is_eq-slice_cmp}
use Rattle.std.proofs.lemmas.Slice.Eq.{bytes_eq-Decides}
use Rattle.packages.specs.Owners.{count_at}
use Rattle.packages.specs.declared.package.Package.{Package}
use Rattle.packages.proofs.FindLemmas.{count-both}

-- The owner's count is one more, and no other changes.
pub one_more : (owner : List ℕ) (counts more : BTreeMap (List ℕ) ℕ) (count : ℕ) → count ≡ count_at owner counts + 1
    → UpdatesBy (slice_cmp nat_cmp) (slice_cmp nat_cmp owner) counts more (Some count)
    → (other : List ℕ) → count_at other more ≡ (if bytes_eq owner other then 1 else 0) + count_at other counts
one_more owner counts more count is updates other = by (bytes_eq owner other) refl
  where
    by : (b : Bool) → bytes_eq owner other ≡ b
        → count_at other more ≡ (if b then 1 else 0) + count_at other counts
    by true same =
        let there : get (slice_cmp nat_cmp) more other ≡ Some count = updates.0 other
        ∙ ap (λ b. cond b (Some count) (get (slice_cmp nat_cmp) counts other)) (is_eq-slice_cmp owner other ∙ same) in
        let now : count_at other more ≡ count = ap (λ o. unwrap_or o 0) there in
        let before : count_at owner counts ≡ count_at other counts =
        ap (λ o. count_at o counts) ((bytes_eq-Decides owner other).0 same) in
        omega (arith, now, before)
    by false apart =
        let now : count_at other more ≡ count_at other counts =
        ap (λ o. unwrap_or o 0) (updates.2 other (is_eq-slice_cmp owner other ∙ apart)) in
        omega (arith, now)

-- the entry's dataset belongs to the owner and passes
abbrev is_counted : (Package → Bool) → List ℕ → ℕ × Package → Bool
is_counted test owner e = bytes_eq e.1.owner_org owner && test e.1

-- Before an entry that passes, its owner's count is below that of all entries.
pub below_all : (test : Package → Bool) (counts : BTreeMap (List ℕ) ℕ) (all left rest : List (ℕ × Package))
    (entry : ℕ × Package)
    → ((owner : List ℕ) → count_at owner counts + length (filter (is_counted test owner) left)
    ≡ length (filter (is_counted test owner) all))
    → left ≡ entry ∷ rest → test entry.1 ≡ true → count_at entry.1.owner_org counts + 1 ≤ length all
below_all test counts all left rest entry counted is passes =
    let own : ℕ × Package → Bool = is_counted test entry.1.owner_org in
    let here : own entry ≡ true =
    and_from (bytes_eq entry.1.owner_org entry.1.owner_org) (test entry.1)
    ((bytes_eq-Decides entry.1.owner_org entry.1.owner_org).1 refl) passes in
    let more : length (filter own left) ≡ suc (length (filter own rest)) =
    ap (λ es. length (filter own es)) is
    ∙ ap (λ b. length (cond b (entry ∷ filter own rest) (filter own rest))) here in
    let total : count_at entry.1.owner_org counts + length (filter own left) ≡ length (filter own all) =
    counted entry.1.owner_org in
    omega (arith, more, total, count-both own all)
