-- Numbers in twenty digits are in the order of their texts.
use Rattle.std.proofs.Common.{◌≡◌, ℕ, zero, suc, ◌+◌, ◌-◌, ◌/◌, ◌%◌, ◌^◌, ◌<◌, ◌≤◌, ◌⊎◌, inl, inr, lit<, false, List, []}
use Rattle.std.proofs.Common.{◌∷◌, ◌++◌, refl, sym, ap, ◌∙◌, arith, length, append_assoc, add-one, length-append, codes, subst}
use Rattle.std.proofs.Common.{◌*◌, drop, take, true}
use Rattle.std.specs.Prelude.{Option, Some, None, decimal, nat_le, nat_lt, option_and_then, replicate}
use Rattle.std.specs.Fmt.{char_count, format_spec, padded_integral}
use Rattle.std.specs.Cmp.Lexicographic.{slice_cmp}
use Rattle.std.specs.Ordering.{nat_cmp, ordering_then}
use Rattle.std.specs.declared.cmp.Ordering.{Ordering}
use Rattle.std.specs.declared.cmp.Ordering.TheVariants.{Less, Equal, Greater}
use Rattle.std.proofs.lemmas.Bool.{cases_lt}
use Rattle.std.proofs.lemmas.Bool.Decides.{nat_tests}
use Rattle.std.proofs.lemmas.Cmp.{nat_cmp_total, nat_list_cmp_total, tied_itself}
use Rattle.std.proofs.lemmas.Fmt.{decimal_digit, decimal_nonempty, decimal_step, length-decimal-le}
use Rattle.std.proofs.lemmas.List.{append-nil, append_cancel_left, append_cancel_right, replicate_more, take_at}
use Rattle.std.proofs.lemmas.Option.{same_Some}
use Rattle.portal_rows.specs.Readings.{digits_from, with_digit}
use Rattle.portal_rows.specs.TableRows.{resource_of_key, row_key, twenty_digits}

-- ---- the last digits of a number

-- so many digits of a number, its last ones
abbrev last_digits : ℕ → ℕ → List ℕ
last_digits zero n = []
last_digits (suc k) n = last_digits k (n / 10) ++ (48 + n % 10) ∷ []

-- the number has no more digits than these
abbrev Fits : ℕ → ℕ → Type 0
Fits zero n = n ≡ 0
Fits (suc k) n = Fits k (n / 10)

length-last_digits : (k n : ℕ) → length (last_digits k n) ≡ k
length-last_digits zero n = refl
length-last_digits (suc k) n =
    length-append (last_digits k (n / 10)) ((48 + n % 10) ∷ [])
    ∙ ap (λ l. l + 1) (length-last_digits k (n / 10)) ∙ add-one k

zeros : (k : ℕ) → last_digits k 0 ≡ replicate k 48
zeros zero = refl
zeros (suc k) = ap (λ l. l ++ 48 ∷ []) (zeros k) ∙ replicate_more k 48 ∙ ap (λ n. replicate n 48) (add-one k)

Fits-zero : (k : ℕ) → Fits k 0
Fits-zero zero = refl
Fits-zero (suc k) = Fits-zero k

-- ---- zeros in front of a number

abbrev padded_to : ℕ → ℕ → List ℕ
padded_to k n = replicate (k - length (decimal n)) 48 ++ decimal n

length-decimal_step : (n : ℕ) → 10 ≤ n → n < 2 ^ 64 → length (decimal n) ≡ length (decimal (n / 10)) + 1
length-decimal_step n large small =
    ap length (decimal_step n large small) ∙ length-append (decimal (n / 10)) ((48 + n % 10) ∷ [])

fits : (k n : ℕ) → length (decimal n) ≤ k → n < 2 ^ 64 → Fits k n
fits zero n short small = absurd (omega (arith, decimal_nonempty n small))
fits (suc k) n short small = by (cases_lt n 10) (λ fewer. fits k (n / 10) fewer (omega arith))
  where
    by : (n < 10) ⊎ (10 ≤ n) → (length (decimal (n / 10)) ≤ k → Fits k (n / 10)) → Fits k (n / 10)
    by (inl one) rest = let none : n / 10 ≡ 0 = omega arith in subst (Fits k) (sym none) (Fits-zero k)
    by (inr large) rest = rest (omega (arith, length-decimal_step n large small))

padded-last_digits : (k n : ℕ) → length (decimal n) ≤ k → n < 2 ^ 64 → padded_to k n ≡ last_digits k n
padded-last_digits zero n short small = absurd (omega (arith, decimal_nonempty n small))
padded-last_digits (suc k) n short small =
    by (cases_lt n 10) (λ fewer. padded-last_digits k (n / 10) fewer (omega arith))
  where
    by : (n < 10) ⊎ (10 ≤ n)
        → (length (decimal (n / 10)) ≤ k → padded_to k (n / 10) ≡ last_digits k (n / 10))
        → padded_to (suc k) n ≡ last_digits (suc k) n
    by (inl one) rest =
        let front : n / 10 ≡ 0 = omega arith in
        let last : n % 10 ≡ n = omega arith in
        let length_one : length (decimal n) ≡ 1 = ap length (decimal_digit n one) in
        let missing : suc k - length (decimal n) ≡ k = omega (arith, length_one) in
        ap (λ j. replicate j 48 ++ decimal n) missing
        ∙ ap (λ l. replicate k 48 ++ l) (decimal_digit n one)
        ∙ ap (λ l. l ++ (48 + n) ∷ []) (sym (zeros k))
        ∙ ap (λ m. last_digits k m ++ (48 + n) ∷ []) (sym front)
        ∙ ap (λ m. last_digits k (n / 10) ++ (48 + m) ∷ []) (sym last)
    by (inr large) rest =
        let longer = length-decimal_step n large small in
        let missing : suc k - length (decimal n) ≡ k - length (decimal (n / 10)) = omega (arith, longer) in
        ap (λ j. replicate j 48 ++ decimal n) missing
        ∙ ap (λ l. replicate (k - length (decimal (n / 10))) 48 ++ l) (decimal_step n large small)
        ∙ sym (append_assoc (replicate (k - length (decimal (n / 10))) 48) (decimal (n / 10)) ((48 + n % 10) ∷ []))
        ∙ ap (λ l. l ++ (48 + n % 10) ∷ []) (rest (omega (arith, longer)))

-- What `{:020}` writes of a number.
pub padded_integral-twenty : (n : ℕ)
    → padded_integral (format_spec 32 0 4 20 (2 ^ 64 - 1)) false [] (decimal n) ≡ twenty_digits n
unfolding padded_integral twenty_digits char_count
padded_integral-twenty n =
    let missing : 20 - length (decimal n) - 0 - 0 ≡ 20 - length (decimal n) = omega arith in
    rw append-nil (rw missing refl)

-- ---- the order of numbers is that of their digits

then-Equal : (r : Ordering) → ordering_then r Equal ≡ r
then-Equal Less = refl
then-Equal Equal = refl
then-Equal Greater = refl

then-then : (r s t : Ordering) → ordering_then r (ordering_then s t) ≡ ordering_then (ordering_then r s) t
then-then Less s t = refl
then-then Equal s t = refl
then-then Greater s t = refl

-- Lists of one length with one more item each.
slice_cmp-last : (xs ys : List ℕ) (x y : ℕ) → length xs ≡ length ys
    → slice_cmp nat_cmp (xs ++ x ∷ []) (ys ++ y ∷ []) ≡ ordering_then (slice_cmp nat_cmp xs ys) (nat_cmp x y)
slice_cmp-last [] [] x y e = then-Equal (nat_cmp x y)
slice_cmp-last [] (b ∷ ys) x y e = absurd (cc)
slice_cmp-last (a ∷ xs) [] x y e = absurd (cc)
slice_cmp-last (a ∷ xs) (b ∷ ys) x y e =
    ap (ordering_then (nat_cmp a b)) (slice_cmp-last xs ys x y (cc))
    ∙ then-then (nat_cmp a b) (slice_cmp nat_cmp xs ys) (nat_cmp x y)

-- A common beginning decides nothing.
slice_cmp-front : (front xs ys : List ℕ) → slice_cmp nat_cmp (front ++ xs) (front ++ ys) ≡ slice_cmp nat_cmp xs ys
slice_cmp-front [] xs ys = refl
slice_cmp-front (a ∷ front) xs ys =
    ap (λ r. ordering_then r (slice_cmp nat_cmp (front ++ xs) (front ++ ys))) (tied_itself nat_cmp_total a)
    ∙ slice_cmp-front front xs ys

less : (m n : ℕ) → m < n → nat_cmp m n ≡ Less
less m n lt = grind (arith, nat_tests)

last_digits-less : (k m n : ℕ) → Fits k n → m < n → slice_cmp nat_cmp (last_digits k m) (last_digits k n) ≡ Less
last_digits-less zero m n none lt = absurd (omega arith)
last_digits-less (suc k) m n fit lt =
    slice_cmp-last (last_digits k (m / 10)) (last_digits k (n / 10)) (48 + m % 10) (48 + n % 10)
    (length-last_digits k (m / 10) ∙ sym (length-last_digits k (n / 10)))
    ∙ by (cases_lt (m / 10) (n / 10)) (λ front. last_digits-less k (m / 10) (n / 10) fit front)
  where
    by : (m / 10 < n / 10) ⊎ (n / 10 ≤ m / 10)
        → (m / 10 < n / 10 → slice_cmp nat_cmp (last_digits k (m / 10)) (last_digits k (n / 10)) ≡ Less)
        → ordering_then (slice_cmp nat_cmp (last_digits k (m / 10)) (last_digits k (n / 10)))
        (nat_cmp (48 + m % 10) (48 + n % 10)) ≡ Less
    by (inl front) rest = ap (λ r. ordering_then r (nat_cmp (48 + m % 10) (48 + n % 10))) (rest front)
    by (inr equal) rest =
        let same : m / 10 ≡ n / 10 = omega arith in
        let last : 48 + m % 10 < 48 + n % 10 = omega arith in
        ap (λ q. ordering_then (slice_cmp nat_cmp (last_digits k q) (last_digits k (n / 10)))
        (nat_cmp (48 + m % 10) (48 + n % 10))) same
        ∙ ap (λ r. ordering_then r (nat_cmp (48 + m % 10) (48 + n % 10)))
        (tied_itself nat_list_cmp_total (last_digits k (n / 10)))
        ∙ less (48 + m % 10) (48 + n % 10) last

short : (n : ℕ) → n < 2 ^ 64 → length (decimal n) ≤ 20
short n small =
    let room : 2 ^ 64 < 10 ^ 20 = lit< tt in
    length-decimal-le 20 n (lit< tt) (omega arith) small

twenty_digits-less : (m n : ℕ) → m < n → n < 2 ^ 64 → slice_cmp nat_cmp (twenty_digits m) (twenty_digits n) ≡ Less
unfolding twenty_digits
twenty_digits-less m n lt small =
    let smaller : m < 2 ^ 64 = omega arith in
    ap (λ l. slice_cmp nat_cmp l (twenty_digits n)) (padded-last_digits 20 m (short m smaller) smaller)
    ∙ ap (slice_cmp nat_cmp (last_digits 20 m)) (padded-last_digits 20 n (short n small) small)
    ∙ last_digits-less 20 m n (fits 20 n (short n small) small) lt

-- The keys of a table's rows ascend as the `_id`s do.
pub row_key-less : (resource : List ℕ) (m n : ℕ) → m < n → n < 2 ^ 64
    → slice_cmp nat_cmp (row_key resource m) (row_key resource n) ≡ Less
row_key-less resource m n lt small =
    slice_cmp-front (resource ++ codes "/") (twenty_digits m) (twenty_digits n) ∙ twenty_digits-less m n lt small

-- ---- the digits are read back

then-some : (o : Option ℕ) → option_and_then (λ m. Some m) o ≡ o
then-some None = refl
then-some (Some m) = refl

digits_from-last : (n : ℕ) (cs : List ℕ) (c : ℕ)
    → digits_from n (cs ++ c ∷ []) ≡ option_and_then (λ m. with_digit m c) (digits_from n cs)
digits_from-last n [] c = then-some (with_digit n c)
digits_from-last n (x ∷ cs) c = by (with_digit n x) (λ m. digits_from-last m cs c)
  where
    by : (o : Option ℕ)
        → ((m : ℕ) → digits_from m (cs ++ c ∷ []) ≡ option_and_then (λ k. with_digit k c) (digits_from m cs))
        → option_and_then (λ m. digits_from m (cs ++ c ∷ [])) o
        ≡ option_and_then (λ k. with_digit k c) (option_and_then (λ m. digits_from m cs) o)
    by None rest = refl
    by (Some m) rest = rest m

with_digit-last : (n : ℕ) → n < 2 ^ 64 → with_digit (n / 10) (48 + n % 10) ≡ Some n
with_digit-last n small =
    let low : nat_le 48 (48 + n % 10) ≡ true = grind (arith, nat_tests) in
    let high : nat_le (48 + n % 10) 57 ≡ true = (let below : 48 + n % 10 ≤ 57 = omega arith in grind (arith, nat_tests)) in
    let same : n / 10 * 10 + (48 + n % 10 - 48) ≡ n = omega arith in
    let fits : nat_lt n (2 ^ 64) ≡ true = grind (arith, nat_tests) in
    rw (low, high, same, fits) refl

last_digits-read : (k n : ℕ) → Fits k n → n < 2 ^ 64 → digits_from 0 (last_digits k n) ≡ Some n
last_digits-read zero n fit small = ap Some (sym fit)
last_digits-read (suc k) n fit small =
    digits_from-last 0 (last_digits k (n / 10)) (48 + n % 10)
    ∙ ap (option_and_then (λ m. with_digit m (48 + n % 10))) (last_digits-read k (n / 10) fit (omega arith))
    ∙ with_digit-last n small

twenty_digits-read : (n : ℕ) → n < 2 ^ 64 → digits_from 0 (twenty_digits n) ≡ Some n
unfolding twenty_digits
twenty_digits-read n small =
    ap (digits_from 0) (padded-last_digits 20 n (short n small) small)
    ∙ last_digits-read 20 n (fits 20 n (short n small) small) small

pub length-twenty_digits : (n : ℕ) → n < 2 ^ 64 → length (twenty_digits n) ≡ 20
unfolding twenty_digits
length-twenty_digits n small =
    ap length (padded-last_digits 20 n (short n small) small) ∙ length-last_digits 20 n

drop-front : (front back : List ℕ) → drop (length front) (front ++ back) ≡ back
drop-front [] back = refl
drop-front (c ∷ front) back = drop-front front back

-- The number at the end of a key is read back.
pub last_number-read : (bytes front : List ℕ) (id start : ℕ) → id < 2 ^ 64 → bytes ≡ front ++ twenty_digits id
    → start ≡ length bytes - 20 → digits_from 0 (drop start bytes) ≡ Some id
last_number-read bytes front id start small is at =
    let long : length bytes ≡ length front + 20 =
    ap length is ∙ length-append front (twenty_digits id) ∙ ap (λ n. length front + n) (length-twenty_digits id small) in
    let where_front : start ≡ length front = omega (arith, long, at) in
    ap (λ n. digits_from 0 (drop n bytes)) where_front ∙ ap (λ l. digits_from 0 (drop (length front) l)) is
    ∙ ap (digits_from 0) (drop-front front (twenty_digits id)) ∙ twenty_digits-read id small

-- ---- a key is of one resource and one `_id`

-- Two parts of a list are known if it is known how long the second one is.
same_parts : (xs ys us vs : List ℕ) → length ys ≡ length vs → xs ++ ys ≡ us ++ vs → (xs ≡ us) × (ys ≡ vs)
same_parts xs ys us vs same e =
    let whole : length xs + length ys ≡ length us + length vs =
    sym (length-append xs ys) ∙ ap length e ∙ length-append us vs in
    let fronts : length xs ≡ length us = omega (arith, whole, same) in
    let front : xs ≡ us =
    sym (take_at xs ys (length us) fronts) ∙ ap (take (length us)) e ∙ take_at us vs (length us) refl in
    (front, append_cancel_left us ys vs (ap (λ l. l ++ ys) (sym front) ∙ e))

pub same_row_key : (one other : List ℕ) (m n : ℕ) → m < 2 ^ 64 → n < 2 ^ 64 → row_key one m ≡ row_key other n
    → (one ≡ other) × (m ≡ n)
same_row_key one other m n small also e =
    let parts = same_parts (one ++ codes "/") (twenty_digits m) (other ++ codes "/") (twenty_digits n)
    (length-twenty_digits m small ∙ sym (length-twenty_digits n also)) e in (
      append_cancel_right one other (codes "/") parts.0,
      same_Some m n (sym (twenty_digits-read m small) ∙ ap (digits_from 0) parts.1 ∙ twenty_digits-read n also),
    )

-- The resource is what is left without the last 21 bytes.
pub resource_of_key-row_key : (resource : List ℕ) (id : ℕ) → id < 2 ^ 64
    → resource_of_key (row_key resource id) ≡ resource
resource_of_key-row_key resource id small =
    let whole : length (row_key resource id) ≡ length (resource ++ codes "/") + length (twenty_digits id) =
    length-append (resource ++ codes "/") (twenty_digits id) in
    let front : length (resource ++ codes "/") ≡ length resource + 1 = length-append resource (codes "/") in
    let digits : length (twenty_digits id) ≡ 20 = length-twenty_digits id small in
    let left : length (row_key resource id) - 21 ≡ length resource = omega (arith, whole, front, digits) in
    ap (λ n. take n (row_key resource id)) left
    ∙ ap (take (length resource)) (append_assoc resource (codes "/") (twenty_digits id))
    ∙ take_at resource (codes "/" ++ twenty_digits id) (length resource) refl
