-- The tables' summaries say the same as the tables.
use Rattle.std.proofs.Common.{◌≡◌, ◌∙◌, ℕ, ◌==◌, ◌&&◌, List, Option, Some, None, map, refl, sym, ap}
use Rattle.std.specs.Borrow.{Bor}
use Rattle.std.specs.Prelude.{is_some, option_copied, option_map}
use Rattle.std.specs.List.{list_any}
use Rattle.std.specs.Str.{bytes_eq}
use Rattle.packages.specs.declared.package.Resource.{Resource}
use Rattle.packages.proofs.FindLemmas.{list_any-map}
use Rattle.portal_base.proofs.Filtered.{is_some-find_any}
use Rattle.visibility.specs.TableSummary.{TableSummary, has_table, is_among, breaks_references, refers_outside}
use Rattle.datastore_table.proofs.DeleteLemmas.{any-filter}
use Rattle.datastore_answers.specs.Summaries.{summary_of, summaries_of}
use Rattle.datastore_answers.specs.Tables.{without_room, table_at, tables_in}
use Rattle.datastore_answers.specs.declared.resource_table.ResourceTable.{ResourceTable}

-- A table is found among its dataset's tables just if the summaries have one for its resource.
found-summary : (dataset : List ℕ) (number : ℕ) (ts : List ResourceTable)
    → is_some (table_at number (tables_in dataset ts)) ≡ has_table (summaries_of ts) dataset number
found-summary dataset number ts =
    is_some-find_any (λ (t : ResourceTable). t.address.number == number) (tables_in dataset ts)
    ∙ any-filter (λ (t : ResourceTable). t.address.number == number)
    (λ (t : ResourceTable). bytes_eq t.address.dataset dataset) ts
    ∙ sym (list_any-map summary_of (λ (h : TableSummary). bytes_eq h.dataset dataset && h.number == number) ts)

pub some-summary : (found : Option (Bor ResourceTable)) (dataset : List ℕ) (number : ℕ) (ts : List ResourceTable)
    → option_map without_room (option_copied found) ≡ table_at number (tables_in dataset ts)
    → is_some found ≡ has_table (summaries_of ts) dataset number
some-summary found dataset number ts is = there found ∙ ap is_some is ∙ found-summary dataset number ts
  where
    there : (o : Option (Bor ResourceTable)) → is_some o ≡ is_some (option_map without_room (option_copied o))
    there None = refl
    there (Some t) = refl

-- The summaries break a reference just if the dataset's tables do.
pub any-breaks_reference : (dataset : List ℕ) (resources : List Resource) (ts : List ResourceTable)
    → list_any (λ (t : ResourceTable). is_among resources t.address.number && refers_outside resources t.targets)
    (tables_in dataset ts)
    ≡ breaks_references (summaries_of (map without_room ts)) dataset resources
any-breaks_reference dataset resources ts =
    any-filter (λ (t : ResourceTable). is_among resources t.address.number && refers_outside resources t.targets)
    (λ (t : ResourceTable). bytes_eq t.address.dataset dataset) ts
    ∙ sym (list_any-map without_room (λ (t : ResourceTable). bytes_eq t.address.dataset dataset
    && (is_among resources t.address.number && refers_outside resources t.targets)) ts)
    ∙ sym (list_any-map summary_of (λ (h : TableSummary). bytes_eq h.dataset dataset
    && (is_among resources h.number && refers_outside resources h.targets)) (map without_room ts))
