-- Keys of rows: no two resources have the same id, no two tables have a row of the same key, and no two jobs the same id.
use Rattle.std.proofs.Common.{◌≡◌, ℕ, ◌+◌, ◌-◌, ◌%◌, ◌^◌, ◌<◌, ◌≤◌, List, [], ◌∷◌, ◌++◌, ◌⊎◌, inl, inr, refl}
use Rattle.std.proofs.Common.{sym, ap, ap₂, subst, ◌∙◌, arith, length, append_assoc, codes, zero, suc}
use Rattle.std.specs.Prelude.{decimal, replicate}
use Rattle.std.specs.Cmp.{IsTotalOrder, nat_cmp_total}
use Rattle.std.proofs.lemmas.Cmp.{on_total}
use Rattle.std.proofs.lemmas.Fmt.{decimal_by_steps, decimal_injective}
use Rattle.std.proofs.lemmas.List.{append_cancel_left}
use Rattle.std.proofs.lemmas.Option.{same_Some}
use Rattle.portal_base.proofs.Unique.{IsIn}
use Rattle.datastore_answers.specs.declared.address.Address.{Address}
use Rattle.datastore_query.proofs.SelectLemmas.{IsIn-either}
use Rattle.harvest_sources.specs.Jobs.{job_cmp, job_id, split_job_id}
use Rattle.harvest_sources.specs.declared.job.Job.{Job}
use Rattle.harvest_sources.proofs.JobIds.{split_of_job_id}
use Rattle.portal_rows.specs.TableRows.{row_key, twenty_digits}
use Rattle.portal_state.specs.KeptRows.{resource_id}

-- ---- a text that ends with digits

first_same : (x y : ℕ) (xs ys : List ℕ) → (x ∷ xs) ≡ (y ∷ ys) → x ≡ y
first_same x y xs ys same = cc

rest_same : (x y : ℕ) (xs ys : List ℕ) → (x ∷ xs) ≡ (y ∷ ys) → xs ≡ ys
rest_same x y xs ys same = cc

IsIn-middle : (c : ℕ) (xs ys : List ℕ) → IsIn c (xs ++ c ∷ ys)
IsIn-middle c [] ys = inl refl
IsIn-middle c (x ∷ xs) ys = inr (IsIn-middle c xs ys)

-- A text can be split at its last `c` in only one way.
before_last : (c : ℕ) (xs ys us vs : List ℕ) → (IsIn c ys → ⊥) → (IsIn c vs → ⊥) → xs ++ c ∷ ys ≡ us ++ c ∷ vs
    → xs ≡ us
before_last c [] ys [] vs none also same = refl
before_last c [] ys (u ∷ us) vs none also same =
    absurd (none (subst (IsIn c) (sym (rest_same c u ys (us ++ c ∷ vs) same)) (IsIn-middle c us vs)))
before_last c (x ∷ xs) ys [] vs none also same =
    absurd (also (subst (IsIn c) (rest_same x c (xs ++ c ∷ ys) vs same) (IsIn-middle c xs ys)))
before_last c (x ∷ xs) ys (u ∷ us) vs none also same =
    ap₂ (λ (b : ℕ) (l : List ℕ). b ∷ l) (first_same x u (xs ++ c ∷ ys) (us ++ c ∷ vs) same)
    (before_last c xs ys us vs none also (rest_same x u (xs ++ c ∷ ys) (us ++ c ∷ vs) same))

after_last : (c : ℕ) (xs ys us vs : List ℕ) → xs ≡ us → xs ++ c ∷ ys ≡ us ++ c ∷ vs → ys ≡ vs
after_last c xs ys us vs front same =
    rest_same c c ys vs
    (append_cancel_left us (c ∷ ys) (c ∷ vs) (sym (ap (λ (l : List ℕ). l ++ c ∷ ys) front) ∙ same))

-- A byte below those of the digits is in no number.
not_in_number : (c n : ℕ) → c < 48 → n < 2 ^ 64 → IsIn c (decimal n) → ⊥
not_in_number c n low small = decimal_by_steps (λ (m : ℕ) (ds : List ℕ). IsIn c ds → ⊥) one more n small
  where
    is_digit : (d : ℕ) → IsIn c ((48 + d) ∷ []) → ⊥
    is_digit d (inl same) = omega (arith, low, same)
    is_digit d (inr none) = none

    one : (m : ℕ) → m < 10 → IsIn c ((48 + m) ∷ []) → ⊥
    one m less = is_digit m

    more : (m : ℕ) (ds : List ℕ) → 10 ≤ m → (IsIn c ds → ⊥) → IsIn c (ds ++ (48 + m % 10) ∷ []) → ⊥
    more m ds large none among = by (IsIn-either c ds ((48 + m % 10) ∷ []) among)
      where
        by : IsIn c ds ⊎ IsIn c ((48 + m % 10) ∷ []) → ⊥
        by (inl there) = none there
        by (inr last) = is_digit (m % 10) last

not_in_zeros : (c k : ℕ) → c < 48 → IsIn c (replicate k 48) → ⊥
not_in_zeros c zero low none = none
not_in_zeros c (suc k) low (inl same) = omega (arith, low, same)
not_in_zeros c (suc k) low (inr among) = not_in_zeros c k low among

not_in_twenty : (c n : ℕ) → c < 48 → n < 2 ^ 64 → IsIn c (twenty_digits n) → ⊥
unfolding twenty_digits
not_in_twenty c n low small among =
    by (IsIn-either c (replicate (20 - length (decimal n)) 48) (decimal n) among)
  where
    by : IsIn c (replicate (20 - length (decimal n)) 48) ⊎ IsIn c (decimal n) → ⊥
    by (inl there) = not_in_zeros c (20 - length (decimal n)) low there
    by (inr there) = not_in_number c n low small there

-- ---- resources

-- An id is of one resource.
pub same_address : (a b : Address) → a.number < 2 ^ 32 → b.number < 2 ^ 32 → resource_id a ≡ resource_id b → a ≡ b
same_address a b small also same =
    let fits : a.number < 2 ^ 64 = omega (arith, small) in
    let also_fits : b.number < 2 ^ 64 = omega (arith, also) in
    let dataset : a.dataset ≡ b.dataset =
    before_last 46 a.dataset (decimal a.number) b.dataset (decimal b.number)
    (not_in_number 46 a.number (omega arith) fits)
    (not_in_number 46 b.number (omega arith) also_fits) same in
    let number : a.number ≡ b.number =
    decimal_injective a.number b.number fits also_fits
    (after_last 46 a.dataset (decimal a.number) b.dataset (decimal b.number) dataset same) in
    ap₂ (λ (d : List ℕ) (n : ℕ). record { dataset = d; number = n }) dataset number

-- The key of a row is that of a row of one table.
pub same_resource : (one other : List ℕ) (m n : ℕ) → m < 2 ^ 64 → n < 2 ^ 64 → row_key one m ≡ row_key other n
    → one ≡ other
same_resource one other m n small also same =
    before_last 47 one (twenty_digits m) other (twenty_digits n) (not_in_twenty 47 m (omega arith) small)
    (not_in_twenty 47 n (omega arith) also)
    (sym (append_assoc one (codes "/") (twenty_digits m)) ∙ same ∙ append_assoc other (codes "/") (twenty_digits n))

-- ---- jobs

-- The order of jobs is total.
pub job_cmp_total : IsTotalOrder job_cmp
job_cmp_total = on_total (λ (job : Job). job.number) nat_cmp_total

-- the parts of two equal ids
same_parts : (one other : List ℕ) (m n : ℕ) → job_id one m ≡ job_id other n
    → ◌≡◌ {A = List ℕ × List ℕ} (one, decimal m) (other, decimal n)
same_parts one other m n same =
    same_Some (one, decimal m) (other, decimal n)
    (sym (split_of_job_id one m) ∙ ap split_job_id same ∙ split_of_job_id other n)

-- An id is of a job of one source.
pub same_source : (one other : List ℕ) (m n : ℕ) → job_id one m ≡ job_id other n → one ≡ other
same_source one other m n same = ap (λ (parts : List ℕ × List ℕ). parts.0) (same_parts one other m n same)

-- Of the jobs of a source, it is of one.
pub same_number : (one other : List ℕ) (m n : ℕ) → m < 2 ^ 64 → n < 2 ^ 64 → job_id one m ≡ job_id other n → m ≡ n
same_number one other m n small also same =
    decimal_injective m n small also (ap (λ (parts : List ℕ × List ℕ). parts.1) (same_parts one other m n same))
