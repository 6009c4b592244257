-- What the tests of a stored dataset show: of its id, of texts that ascend, and of its resources' numbers.
use Rattle.std.proofs.Common.{◌≡◌, ◌≢◌, ◌↔◌, ◌+◌, ◌/◌, ◌%◌, ◌^◌, ℕ, zero, suc, Bool, true, false, ◌||◌}
use Rattle.std.proofs.Common.{List, [], ◌∷◌, map, Some, refl, sym, ap, ◌∙◌, arith, IsTrue, true≢false}
use Rattle.std.specs.declared.cmp.Ordering.{Ordering}
use Rattle.std.specs.declared.cmp.Ordering.TheVariants.{Equal}
use Rattle.std.specs.Cmp.{IsTotalOrder}
use Rattle.std.specs.Int.{from_be_bytes, to_be_bytes, w128}
use Rattle.std.specs.List.{All, AllPairs, IsAllAdjacentAnswer, list_any}
use Rattle.std.specs.List.Sorted.{IsPermutation, IsSorted}
use Rattle.std.specs.Ordering.{is_eq, is_lt, nat_cmp}
use Rattle.std.proofs.lemmas.Cmp.{nat_cmp_total, ranked, tied_itself}
use Rattle.std.proofs.lemmas.List.Elements.{All-cons, All-head, All-nil, All-tail}
use Rattle.std.proofs.lemmas.List.Kept.{AllPairs-cons}
use Rattle.std.proofs.lemmas.List.Sorted.{IsPermutation-sym}
use Rattle.std.proofs.lemmas.Nat.{field_of, mod-pow-add, mod_low}
use Rattle.uuid.specs.Text.{hyphenated_text, lower, parsed}
use Rattle.uuid.proofs.OrderLemmas.{from_be_bytes-to_be_bytes_16}
use Rattle.portal_base.specs.Id.{id_text}
use Rattle.portal_base.specs.Ordered.{IsAscending}
use Rattle.portal_base.proofs.Halved.{IsAscending-adjacent, are_apart-ascending, ascending_at}
use Rattle.portal_base.proofs.IdLemmas.{parsed-id_text}
use Rattle.portal_base.proofs.Inserted.{AreApart, both_false}
use Rattle.portal_base.proofs.Removed.{AreApart-are_apart, is_eq_true}
use Rattle.portal_base.proofs.Sorted.{AreApart-permutation, IsAscending-sort}
use Rattle.packages.specs.declared.package.Resource.{Resource}
use Rattle.dataset_answers.specs.Sound.{IsId}

-- ---- ids

low_bits : (n high : ℕ) → n % 2 ^ (high + 8) % 256 ≡ n % 256
low_bits n high = ap (λ m. m % 256) (mod-pow-add n high 8) ∙ mod_low (n / 2 ^ 8 % 2 ^ high) 8 (n % 2 ^ 8) (omega arith)

low_byte : (n high shift : ℕ) → n % 2 ^ (high + 8 + shift) / 2 ^ shift % 256 ≡ n / 2 ^ shift % 256
low_byte n high shift = ap (λ m. m % 256) (field_of n (high + 8) shift) ∙ low_bits (n / 2 ^ shift) high

-- The bytes of a number are those of its low 128 bits.
low_bytes : (n : ℕ) → to_be_bytes w128 (n % 2 ^ 128) ≡ to_be_bytes w128 n
low_bytes n =
    λ i. low_byte n 0 120 i ∷ low_byte n 8 112 i ∷ low_byte n 16 104 i ∷ low_byte n 24 96 i ∷ low_byte n 32 88 i
    ∷ low_byte n 40 80 i ∷ low_byte n 48 72 i ∷ low_byte n 56 64 i ∷ low_byte n 64 56 i ∷ low_byte n 72 48 i
    ∷ low_byte n 80 40 i ∷ low_byte n 88 32 i ∷ low_byte n 96 24 i ∷ low_byte n 104 16 i ∷ low_byte n 112 8 i
    ∷ low_bits n 120 i ∷ []

-- An id can be parsed.
pub parsed-id : (text : List ℕ) → IsId text → (bytes : List ℕ) × (parsed text ≡ Some bytes)
parsed-id text is = (to_be_bytes w128 is.0, ap parsed is.1 ∙ parsed-id_text is.0)

-- It is the id of the number that it is parsed to.
pub id_of_parsed : (text bytes : List ℕ) → Some bytes ≡ parsed text → IsId text → text ≡ id_text (from_be_bytes w128 bytes)
id_of_parsed text bytes read is =
    let low : ℕ = is.0 % 2 ^ 128 in
    let both : Some bytes ≡ Some (to_be_bytes w128 is.0) = read ∙ ap parsed is.1 ∙ parsed-id_text is.0 in
    let same : bytes ≡ to_be_bytes w128 is.0 = cc in
    let number : from_be_bytes w128 bytes ≡ low =
    ap (from_be_bytes w128) (same ∙ sym (low_bytes is.0)) ∙ from_be_bytes-to_be_bytes_16 low (omega arith) in
    is.1 ∙ ap (hyphenated_text lower) (sym (low_bytes is.0)) ∙ ap id_text (sym number)

-- ---- lists that ascend

-- A list ascends exactly if each item is below the next one.
pub ascends-adjacent : {X : Type 0} (cmp : X → X → Ordering) (o : IsTotalOrder cmp) (xs : List X) (r : Bool)
    → IsAllAdjacentAnswer (λ x y b. b ≡ is_lt (cmp x y)) xs r → (IsTrue r ↔ IsAscending cmp xs)
ascends-adjacent cmp o xs true steps = (λ holds. IsAscending-adjacent cmp o xs steps, λ up. refl)
ascends-adjacent cmp o [] false broken = absurd (omega (arith, broken.1))
ascends-adjacent cmp o (x ∷ xs) false broken = (
  λ holds. absurd (cc),
  λ up.
      let less = ascending_at cmp x (x ∷ xs) up broken.0 (broken.0 + 1) (omega arith) broken.1 in
      broken.2 x ∙ ap is_lt less,
)

-- ---- distinct numbers

abbrev number_of : Resource → ℕ
number_of r = r.number

-- The two resources have different numbers.
abbrev Differ : Resource → Resource → Type 0
Differ r s = r.number ≢ s.number

equal : (m n : ℕ) → is_eq (nat_cmp m n) ≡ true → m ≡ n
equal m n same = ranked m n Equal (sym (is_eq_true (nat_cmp m n) same))

unequal : (m n : ℕ) → m ≢ n → is_eq (nat_cmp m n) ≡ false
unequal m n differ = by (is_eq (nat_cmp m n)) (equal m n)
  where
    by : (b : Bool) → (b ≡ true → m ≡ n) → b ≡ false
    by true same = absurd (differ (same refl))
    by false same = refl

none_equal : (n : ℕ) (rs : List Resource) → All (λ s. n ≢ s.number) rs
    → list_any (λ m. is_eq (nat_cmp m n)) (map number_of rs) ≡ false
none_equal n [] differ = refl
none_equal n (r ∷ rs) differ =
    ap (λ b. b || list_any (λ m. is_eq (nat_cmp m n)) (map number_of rs))
    (unequal r.number n (λ same. All-head (λ (s : Resource). n ≢ s.number) r rs differ (sym same)))
    ∙ none_equal n rs (All-tail (λ (s : Resource). n ≢ s.number) r rs differ)

all_differ : (n : ℕ) (rs : List Resource) → list_any (λ m. is_eq (nat_cmp m n)) (map number_of rs) ≡ false
    → All (λ s. n ≢ s.number) rs
all_differ n [] none = All-nil (λ (s : Resource). n ≢ s.number)
all_differ n (r ∷ rs) none =
    let parts = both_false (is_eq (nat_cmp r.number n)) (list_any (λ m. is_eq (nat_cmp m n)) (map number_of rs)) none in
    All-cons (λ (s : Resource). n ≢ s.number) r rs
    (λ same. true≢false (sym (ap is_eq (ap (nat_cmp r.number) same ∙ tied_itself nat_cmp_total r.number)) ∙ parts.0))
    (all_differ n rs parts.1)

apart : (rs : List Resource) → AllPairs Differ rs → AreApart nat_cmp (map number_of rs)
apart [] distinct = tt
apart (r ∷ rs) distinct = (
  none_equal r.number rs (λ k d lt. distinct zero (suc k) d (omega arith) (omega arith)),
  apart rs (λ i j d lt within. distinct (suc i) (suc j) d (omega arith) (omega arith)),
)

distinct : (rs : List Resource) → AreApart nat_cmp (map number_of rs) → AllPairs Differ rs
distinct [] apart = λ i j d lt within. absurd (omega arith)
distinct (r ∷ rs) apart = AllPairs-cons Differ r rs (all_differ r.number rs apart.0) (distinct rs apart.1)

-- The resources' numbers are distinct exactly if the sorted numbers ascend.
pub ascending-distinct : (rs : List Resource) (sorted : List ℕ) → IsPermutation (map number_of rs) sorted
    → IsSorted nat_cmp sorted → (IsAscending nat_cmp sorted ↔ AllPairs Differ rs)
ascending-distinct rs sorted moved up = (
  λ ascends.
      distinct rs (AreApart-permutation nat_cmp nat_cmp_total sorted (map number_of rs)
      (IsPermutation-sym (map number_of rs) sorted moved)
      (AreApart-are_apart nat_cmp sorted (are_apart-ascending nat_cmp nat_cmp_total sorted ascends))),
  λ differ. IsAscending-sort nat_cmp nat_cmp_total (map number_of rs) sorted (apart rs differ) moved up,
)
