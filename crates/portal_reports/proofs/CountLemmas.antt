-- The lines of the counts at hand are those of the datasets that were counted.
use Rattle.std.proofs.Common.{◌≡◌, ◌∙◌, ◌+◌, ◌++◌, ℕ, List, [], ◌∷◌, ap, append_assoc, decimal, flat_map, map, refl, sum_by}
use Rattle.std.specs.Prelude.{codes, fold}
use Rattle.org_roles.specs.declared.entry.Org.{Org}
use Rattle.packages.specs.declared.package.Package.{Package}
use Rattle.portal_reports.specs.Columns.{line}
use Rattle.portal_reports.specs.Counts.{AreCounts, counted, counted_line}
use Rattle.portal_reports.specs.Datasets.{count_in, counts_line, datasets_header, datasets_text, numbers_of, org_line}
use Rattle.portal_reports.specs.Datasets.{total_line}
use Rattle.portal_reports.specs.declared.datasets.Column.{Column}
use Rattle.portal_reports.specs.declared.datasets.Column.TheVariants.{Datasets, Private, Drafts, Harvested}
use Rattle.portal_reports.specs.declared.datasets.Counts.{Counts}

-- equal counts make the same line
line_same : (name : List ℕ) (f g : Column → ℕ) → ((column : Column) → f column ≡ g column)
    → counts_line name f ≡ counts_line name g
line_same name f g same =
    let numbers : numbers_of f ≡ numbers_of g =
    rw (same Datasets, same Private, same Drafts, same Harvested) refl in
    ap (λ ns. line 40 name (map decimal ns)) numbers

-- numbers that are equal one by one have the same sum
sum_same : {X : Type 0} (f g : X → ℕ) → ((x : X) → f x ≡ g x) → (sum : ℕ) (xs : List X)
    → fold (λ a x. a + f x) sum xs ≡ fold (λ a x. a + g x) sum xs
sum_same f g same sum [] = refl
sum_same f g same sum (x ∷ xs) = rw (same x) (sum_same f g same (sum + g x) xs)

org_lines : (datasets : List Package) (counts : Counts) → AreCounts datasets counts → (orgs : List Org)
    → flat_map (counted_line counts) orgs ≡ flat_map (org_line datasets) orgs
org_lines datasets counts are [] = refl
org_lines datasets counts are (org ∷ orgs) =
    ap (λ first. first ++ flat_map (counted_line counts) orgs)
    (line_same org.name (counted counts org.name) (count_in datasets org.name) (are org.name))
    ∙ ap (λ more. org_line datasets org ++ more) (org_lines datasets counts are orgs)

total_same : (datasets : List Package) (counts : Counts) → AreCounts datasets counts → (orgs : List Org)
    → counts_line (codes "total") (λ column. sum_by (λ (org : Org). counted counts org.name column) orgs)
    ≡ total_line datasets orgs
total_same datasets counts are orgs =
    line_same (codes "total") (λ column. sum_by (λ (org : Org). counted counts org.name column) orgs)
    (λ column. sum_by (λ (org : Org). count_in datasets org.name column) orgs)
    (λ column. sum_same (λ (org : Org). counted counts org.name column)
    (λ (org : Org). count_in datasets org.name column) (λ org. are org.name column) 0 orgs)

-- The report on the counts at hand is that on the datasets.
pub text_same : (datasets : List Package) (counts : Counts) → AreCounts datasets counts → (orgs : List Org)
    → datasets_header ++ flat_map (counted_line counts) orgs
    ++ counts_line (codes "total") (λ column. sum_by (λ (org : Org). counted counts org.name column) orgs)
    ≡ datasets_text orgs datasets
text_same datasets counts are orgs =
    rw (org_lines datasets counts are orgs, total_same datasets counts are orgs) refl

-- The report is made by adding its lines to the header.
pub text_made : (datasets : List Package) (counts : Counts) → AreCounts datasets counts → (orgs : List Org)
    → (first second third : List ℕ) → first ≡ datasets_header
    → second ≡ first ++ flat_map (counted_line counts) orgs
    → third ≡ second
    ++ counts_line (codes "total") (λ column. sum_by (λ (org : Org). counted counts org.name column) orgs)
    → third ≡ datasets_text orgs datasets
text_made datasets counts are orgs first second third is_first is_second is_third =
    let total = counts_line (codes "total") (λ column. sum_by (λ (org : Org). counted counts org.name column) orgs) in
    is_third
    ∙ ap (λ text. text ++ total) (is_second ∙ ap (λ text. text ++ flat_map (counted_line counts) orgs) is_first)
    ∙ append_assoc datasets_header (flat_map (counted_line counts) orgs) total
    ∙ text_same datasets counts are orgs
