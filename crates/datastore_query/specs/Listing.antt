-- What a query lists of a table: which rows, in which order, which of equal ones, and which part of them is its page.
use Rattle.std.specs.Prelude.{◌≡◌, ◌⊎◌, ◌↔◌, ◌<◌, ℕ, Bool, true, false, List, ◌∷◌, ◌++◌, AllPairs, Contains}
use Rattle.std.specs.Prelude.{length, map}
use Rattle.std.specs.declared.cmp.Ordering.TheVariants.{Less, Equal}
use Rattle.sorted_pages.specs.Page.{IsPart}
use Rattle.table_schema.specs.declared.cell.Cell.{Cell}
use Rattle.datastore_table.specs.declared.row.Row.{Row}
use Rattle.datastore_query.specs.declared.sort.Sort.{Sort}
use Rattle.datastore_query.specs.Column.{projected}
use Rattle.datastore_query.specs.Passing.{HasWords, PassesFilters}
use Rattle.datastore_query.specs.Query.{QueryValue}
use Rattle.datastore_query.specs.Sort.{sort_cmp}

-- ---- the rows and their order

-- The row passes the query's filters and has its words.
pub record IsSelected (query : QueryValue) (row : Row) : Type 0 where
  pub passes : PassesFilters query.filters row
  pub has : HasWords query.words row

-- None of the sorts tells the two rows apart.
abbrev pub AreTied : List Sort → Row → Row → Type 0
AreTied sorts a b = (sort : Sort) → Contains sorts sort → sort_cmp sort a b ≡ Equal

-- The first of the sorts that tells the two rows apart puts the one before the other.
pub record PutBefore (sorts : List Sort) (a b : Row) : Type 0 where
  pub earlier : List Sort
  pub deciding : Sort
  pub later : List Sort
  pub whole : sorts ≡ earlier ++ deciding ∷ later
  pub tied : AreTied earlier a b
  pub less : sort_cmp deciding a b ≡ Less

-- The order of a listing. Rows that no sort tells apart are in the table's order, which is that of their `_id`s.
abbrev pub ComesBefore : List Sort → Row → Row → Type 0
ComesBefore sorts a b = PutBefore sorts a b ⊎ (AreTied sorts a b × (a.id < b.id))

-- The rows of the table that the query selects, and no others, each once and in that order.
pub record AreSelectedInOrder (query : QueryValue) (rows selected : List Row) : Type 0 where
  pub same : (row : Row) → Contains selected row ↔ (Contains rows row × IsSelected query row)
  pub sorted : AllPairs (ComesBefore query.sorts) selected

-- ---- the first of equal items

-- Before each b among the items there is an a.
abbrev pub Precedes : {X : Type 0} → List X → X → X → Type 0
Precedes {X} items a b = (before after : List X) → items ≡ before ++ b ∷ after → Contains before a

-- Each of the items once, in the order in which they first stand there.
pub record AreFirsts {X : Type 0} (items firsts : List X) : Type 0 where
  pub same : (x : X) → Contains firsts x ↔ Contains items x
  pub apart : AllPairs (λ (a b : X). a ≡ b → ⊥) firsts
  pub sorted : AllPairs (Precedes items) firsts

-- The rows of a listing: all rows, or if the query is distinct, only the first of rows with the same cells.
pub data AreListed (rows : List (List Cell)) : Bool → List (List Cell) → Type 0 where
  all_rows : AreListed rows false rows
  distinct_rows : (firsts : List (List Cell)) → AreFirsts rows firsts → AreListed rows true firsts

-- ---- the page

-- A query's page of a table with these rows, and the count of all rows that it lists.
pub record IsPage (query : QueryValue) (rows : List Row) (page : List (List Cell)) (total : ℕ) : Type 0 where
  pub selected : List Row
  pub selects : AreSelectedInOrder query rows selected
  pub listed : List (List Cell)
  pub lists : AreListed (map (projected query.columns) selected) query.distinct listed
  pub part : IsPart query.offset query.limit listed page
  pub count : total ≡ length listed
