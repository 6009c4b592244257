-- Tables that are removed with their resources break no reference of the tables that stay, if the removal is allowed.
use Rattle.std.proofs.Common.{◌≡◌, ◌∙◌, ℕ, ◌==◌, Bool, true, false, not, ◌&&◌, ◌||◌, List, [], ◌∷◌, Some, None, cond}
use Rattle.std.proofs.Common.{refl, sym, ap, subst}
use Rattle.std.specs.Prelude.{option_and_then}
use Rattle.std.specs.List.{list_any}
use Rattle.std.specs.Str.{bytes_eq}
use Rattle.packages.specs.declared.package.Resource.{Resource}
use Rattle.packages.proofs.FindLemmas.{IsIn-find, list_any-map}
use Rattle.portal_base.specs.Ordered.{found}
use Rattle.portal_base.proofs.Filtered.{found-filter, IsAscending-filter, IsIn-filter, kept_item}
use Rattle.portal_base.proofs.Unique.{IsIn}
use Rattle.visibility.specs.TableSummary.{TableSummary, is_among, breaks_references, refers_outside}
use Rattle.datastore_table.proofs.KeyLemmas.{true_false}
use Rattle.datastore_answers.specs.Summaries.{summary_of, summaries_of}
use Rattle.datastore_answers.specs.Consistent.{AreConsistent}
use Rattle.datastore_answers.specs.Order.{IsKey-at_address, at_address, is_at, table_cmp, table_cmp_total}
use Rattle.datastore_answers.specs.Tables.{table_at, tables_in, tables_kept}
use Rattle.datastore_answers.specs.declared.address.Address.{Address}
use Rattle.datastore_answers.specs.declared.resource_table.ResourceTable.{ResourceTable}
use Rattle.datastore_answers.proofs.ReferenceLemmas.{IsKept, address, beside-found, each-kept, kept-each}
use Rattle.datastore_answers.proofs.KeepLemmas.{at-is, holds-among, none-passes, number_is}

-- the table stays
abbrev pub stays : List ℕ → List Resource → ResourceTable → Bool
stays dataset resources t = not (bytes_eq t.address.dataset dataset) || is_among resources t.address.number

-- if no number is outside of the resources, each number is among them
resolved-among : (resources : List Resource) (targets : List ℕ) (number : ℕ) → refers_outside resources targets ≡ false
    → list_any (λ n. n == number) targets ≡ true → is_among resources number ≡ true
resolved-among resources [] number none listed = absurd (cc)
resolved-among resources (n ∷ ns) number none listed =
    by (is_among resources n) refl (n == number) refl none listed (resolved-among resources ns number)
  where
    by : (a : Bool) → is_among resources n ≡ a → (b : Bool) → (n == number) ≡ b
        → (not a || refers_outside resources ns) ≡ false → (b || list_any (λ m. m == number) ns) ≡ true
        → (refers_outside resources ns ≡ false → list_any (λ m. m == number) ns ≡ true
        → is_among resources number ≡ true) → is_among resources number ≡ true
    by true here true is h l rest = subst (λ m. is_among resources m ≡ true) (number_is n number is) here
    by true here false is h l rest = rest h l
    by false here b is h l rest = absurd (cc)

-- if no table that stays references a removed resource, the targets of a table that stays are kept
targets_kept : (dataset : List ℕ) (resources : List Resource) (ts : List ResourceTable) (u : ResourceTable) → IsIn u ts
    → breaks_references (summaries_of ts) dataset resources ≡ false → bytes_eq u.address.dataset dataset ≡ true
    → stays dataset resources u ≡ true → refers_outside resources u.targets ≡ false
targets_kept dataset resources ts u within none own stay =
    by (is_among resources u.address.number) refl (refers_outside resources u.targets) refl
  where
    tests : ResourceTable → Bool
    tests t = bytes_eq t.address.dataset dataset
        && (is_among resources t.address.number && refers_outside resources t.targets)

    fails : tests u ≡ false
    fails = none-passes tests ts (sym (list_any-map summary_of (λ (h : TableSummary). bytes_eq h.dataset dataset
        && (is_among resources h.number && refers_outside resources h.targets)) ts) ∙ none) u within

    by : (a : Bool) → is_among resources u.address.number ≡ a → (b : Bool) → refers_outside resources u.targets ≡ b
        → b ≡ false
    by a is false targets = refl
    by true is true targets = let passes : tests u
        ≡ true = rw (own, is, targets) refl in true_false (tests u) passes fails
    by false is true targets =
        let goes : stays dataset resources u ≡ false = rw (own, is) refl in
        true_false (stays dataset resources u) stay goes

-- If no table that stays references a removed resource, the tables that stay are consistent.
pub drops-kept : (ts : List ResourceTable) (dataset : List ℕ) (resources : List Resource) → AreConsistent ts
    → breaks_references (summaries_of ts) dataset resources ≡ false → AreConsistent (tables_kept dataset resources ts)
drops-kept ts dataset resources kept none =
    each-kept (tables_kept dataset resources ts)
    (IsAscending-filter table_cmp (stays dataset resources) ts kept.ascending)
    (λ u m. by u (IsIn-filter (stays dataset resources) u ts m))
  where
    -- a referenced table of the same dataset stays
    target-stays : (u target : ResourceTable) (number : ℕ) → IsIn u ts → stays dataset resources u ≡ true
        → list_any (λ n. n == number) u.targets ≡ true → target.address ≡ address u.address.dataset number
        → stays dataset resources target ≡ true
    target-stays u target number within stay among there =
        subst (λ (a : Address). (not (bytes_eq a.dataset dataset) || is_among resources a.number) ≡ true) (sym there)
        (here (bytes_eq u.address.dataset dataset) refl)
      where
        here : (b : Bool) → bytes_eq u.address.dataset dataset ≡ b
            → (not (bytes_eq u.address.dataset dataset) || is_among resources number) ≡ true
        here false is = ap (λ b. not b || is_among resources number) is
        here true is =
            ap (λ b. not b || is_among resources number) is
            ∙ resolved-among resources u.targets number (targets_kept dataset resources ts u within none is stay) among

    still : (u : ResourceTable) → IsIn u ts → stays dataset resources u ≡ true → (number : ℕ) (target : ResourceTable)
        → list_any (λ n. n == number) u.targets ≡ true → table_at number (tables_in u.address.dataset ts) ≡ Some target
        → table_at number (tables_in u.address.dataset (tables_kept dataset resources ts)) ≡ Some target
    still u within stay number target among there =
        let at = at_address (address u.address.dataset number) in
        let first : found at ts ≡ Some target = sym (beside-found u.address.dataset number ts) ∙ there in
        let is = at-is (address u.address.dataset number) target
        (IsIn-find (is_at (address u.address.dataset number)) target ts first).1 in
        beside-found u.address.dataset number (tables_kept dataset resources ts)
        ∙ found-filter table_cmp table_cmp_total at (IsKey-at_address (address u.address.dataset number))
        (stays dataset resources) ts kept.ascending
        ∙ ap (option_and_then (kept_item (stays dataset resources))) first
        ∙ ap (λ b. cond b (Some target) None) (target-stays u target number within stay among is)

    by : (u : ResourceTable) → IsIn u ts × (stays dataset resources u ≡ true)
        → IsKept (tables_kept dataset resources ts) u
    by u was =
        let before = kept-each ts kept u was.0 in record {
          described = before.described;
          unready = before.unready;
          valid = before.valid;
          resolved = before.resolved;
          holds = holds-among (tables_in u.address.dataset ts)
              (tables_in u.address.dataset (tables_kept dataset resources ts)) u
              (λ number target among there. still u was.0 was.1 number target among there) before.holds;
        }

-- if no resource is kept, no reference breaks
pub none-breaks_reference : (ts : List ResourceTable) (dataset : List ℕ)
    → breaks_references (summaries_of ts) dataset [] ≡ false
none-breaks_reference [] dataset = refl
none-breaks_reference (t ∷ ts) dataset = by (bytes_eq t.address.dataset dataset) (none-breaks_reference ts dataset)
  where
    by : (b : Bool) → breaks_references (summaries_of ts) dataset [] ≡ false
        → ((b && false) || breaks_references (summaries_of ts) dataset []) ≡ false
    by true rest = rest
    by false rest = rest
