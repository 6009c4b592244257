-- The line of all organizations counts each dataset once, where exactly one organization owns it.
use Rattle.std.proofs.Common.{◌≡◌, ◌+◌, ◌&&◌, ℕ, Bool, true, false, List, [], ◌∷◌, arith, cond, filter, length}
use Rattle.std.proofs.Common.{refl, sum_by}
use Rattle.std.specs.List.{AllByRecursion}
use Rattle.std.specs.Str.{bytes_eq}
use Rattle.std.proofs.lemmas.List.Sums.{sum_by-cons}
use Rattle.org_roles.specs.declared.entry.Org.{Org}
use Rattle.packages.specs.declared.package.Package.{Package}
use Rattle.portal_reports.specs.Datasets.{count_in, is_in}
use Rattle.portal_reports.specs.declared.datasets.Column.{Column}

abbrev one_if : Bool → ℕ
one_if b = cond b 1 0

-- one more item
counted_more : {X : Type 0} (p : X → Bool) (x : X) (xs : List X)
    → length (filter p (x ∷ xs)) ≡ one_if (p x) + length (filter p xs)
counted_more p x xs = by (p x) refl
  where
    by : (b : Bool) → p x ≡ b → length (filter p (x ∷ xs)) ≡ one_if (p x) + length (filter p xs)
    by true e = rw e (omega arith)
    by false e = rw e (omega arith)

sum_two : {X : Type 0} (f g h : X → ℕ) → ((x : X) → h x ≡ f x + g x) → (xs : List X)
    → sum_by h xs ≡ sum_by f xs + sum_by g xs
sum_two f g h same [] = refl
sum_two f g h same (x ∷ xs) =
    omega (arith, sum_by-cons h x xs, sum_by-cons f x xs, sum_by-cons g x xs, same x, sum_two f g h same xs)

sum_none : {X : Type 0} (f : X → ℕ) → ((x : X) → f x ≡ 0) → (xs : List X) → sum_by f xs ≡ 0
sum_none f none [] = refl
sum_none f none (x ∷ xs) = omega (arith, sum_by-cons f x xs, none x, sum_none f none xs)

-- the organizations that own the dataset, where it is counted
owners : (d : Package) (counted : Bool) (orgs : List Org)
    → sum_by (λ (o : Org). one_if (bytes_eq d.owner_org o.name && counted)) orgs
    ≡ cond counted (length (filter (λ (o : Org). bytes_eq d.owner_org o.name) orgs)) 0
owners d true [] = refl
owners d true (o ∷ os) =
    let owned : Org → Bool = λ o. bytes_eq d.owner_org o.name in
    let plain = by (owned o) in
    omega (
      arith,
      sum_by-cons (λ (o : Org). one_if (owned o && true)) o os,
      owners d true os,
      plain,
      counted_more owned o os,
    )
  where
    by : (b : Bool) → one_if (b && true) ≡ one_if b
    by true = refl
    by false = refl
owners d false orgs = sum_none (λ (o : Org). one_if (bytes_eq d.owner_org o.name && false))
    (λ o. by (bytes_eq d.owner_org o.name)) orgs
  where
    by : (b : Bool) → one_if (b && false) ≡ 0
    by true = refl
    by false = refl

pub total_counts : (orgs : List Org) (datasets : List Package) (column : Column)
    → AllByRecursion (λ (d : Package). length (filter (λ (o : Org). bytes_eq d.owner_org o.name) orgs) ≡ 1) datasets
    → sum_by (λ (o : Org). count_in datasets o.name column) orgs ≡ length (filter (is_in column) datasets)
total_counts orgs [] column one = sum_none (λ (o : Org). count_in [] o.name column) (λ _. refl) orgs
total_counts orgs (d ∷ ds) column one =
    let own : Org → ℕ = λ o. one_if (bytes_eq d.owner_org o.name && is_in column d) in
    let split = sum_two own (λ (o : Org). count_in ds o.name column) (λ (o : Org). count_in (d ∷ ds) o.name column)
    (λ o. counted_more (λ e. bytes_eq e.owner_org o.name && is_in column e) d ds) orgs in
    let first = owners d (is_in column d) orgs in
    let rest = total_counts orgs ds column one.1 in
    let here = by (is_in column d) (length (filter (λ (o : Org). bytes_eq d.owner_org o.name) orgs)) one.0 in
    omega (arith, split, first, here, rest, counted_more (is_in column) d ds)
  where
    by : (b : Bool) (n : ℕ) → n ≡ 1 → cond b n 0 ≡ one_if b
    by true n is = is
    by false n is = refl
