-- Rows of organizations and rows of tables are in the order of a store.
use Rattle.std.proofs.Common.{◌≡◌, ℕ, ◌^◌, ◌<◌, List, [], ◌∷◌, map, refl, sym, arith}
use Rattle.std.specs.Str.{bytes_eq}
use Rattle.std.specs.declared.cmp.Ordering.TheVariants.{Less}
use Rattle.std.proofs.lemmas.Cmp.{ranked}
use Rattle.std.proofs.lemmas.Slice.Eq.{bytes_eq-Decides}
use Rattle.datastore_table.specs.Rows.{row_cmp as id_cmp}
use Rattle.datastore_table.specs.Table.{AreWithin, IsNumbered, TableValue}
use Rattle.datastore_table.specs.declared.row.Row.{Row}
use Rattle.org_roles.specs.Order.{membership_cmp, org_cmp}
use Rattle.org_roles.specs.PeopleLists.{AreSorted, PeopleLists}
use Rattle.org_roles.specs.declared.entry.Membership.{Membership}
use Rattle.org_roles.specs.declared.entry.Org.{Org}
use Rattle.portal_base.specs.Ordered.{IsAscending, IsBelowAll}
use Rattle.portal_base.proofs.Filtered.{IsAscending-filter, IsIn-filter}
use Rattle.portal_base.proofs.Upserted.{All-each}
use Rattle.portal_keeper.specs.Rows.{AreInOrder, row_cmp}
use Rattle.portal_rows.specs.OrgRows.{AreRolesIn, memberships_in, org_row, org_rows}
use Rattle.portal_rows.specs.TableRows.{cells_row, head_of, rows_of_table, table_row}
use Rattle.portal_rows.specs.declared.tables.TableHead.{TableHead}
use Rattle.portal_rows.proofs.KeyLemmas.{row_key-less}

-- ---- organizations

below_orgs : (roles : Org → List Membership) (org : Org) (orgs : List Org) → IsBelowAll org_cmp org orgs
    → IsBelowAll row_cmp (org_row org (roles org)) (map (λ o. org_row o (roles o)) orgs)
below_orgs roles org [] below = tt
below_orgs roles org (other ∷ orgs) below = (below.0, below_orgs roles org orgs below.1)

orgs_in_order : (roles : Org → List Membership) (orgs : List Org) → IsAscending org_cmp orgs
    → AreInOrder (map (λ o. org_row o (roles o)) orgs)
orgs_in_order roles [] up = tt
orgs_in_order roles (org ∷ orgs) up = (below_orgs roles org orgs up.0, orgs_in_order roles orgs up.1)

pub org_rows-in_order : (people : PeopleLists) → AreSorted people → AreInOrder (org_rows people)
org_rows-in_order people sorted =
    orgs_in_order (λ org. memberships_in org.name people.roles) people.orgs sorted.orgs

pub memberships_in-own : (people : PeopleLists) (name : List ℕ) → AreSorted people
    → AreRolesIn name (memberships_in name people.roles)
memberships_in-own people name sorted = record {
  own = All-each (λ (m : Membership). m.org ≡ name) (memberships_in name people.roles)
      (λ m is_in. (bytes_eq-Decides m.org name).0 (IsIn-filter (λ n. bytes_eq n.org name) m people.roles is_in).1);
  ascending = IsAscending-filter membership_cmp (λ m. bytes_eq m.org name) people.roles sorted.roles;
}

-- ---- tables

below_cells : (resource : List ℕ) (row : Row) (rows : List Row) (next_id : ℕ) → next_id < 2 ^ 64
    → AreWithin next_id rows → IsBelowAll id_cmp row rows
    → IsBelowAll row_cmp (cells_row resource row) (map (cells_row resource) rows)
below_cells resource row [] next_id small within below = tt
below_cells resource row (other ∷ rows) next_id small within below =
    let lower : row.id < other.id = ranked row.id other.id Less (sym below.0) in (
      row_key-less resource row.id other.id lower (omega (arith, within.1)),
      below_cells resource row rows next_id small within.2 below.1,
    )

cells_in_order : (resource : List ℕ) (rows : List Row) (next_id : ℕ) → next_id < 2 ^ 64 → AreWithin next_id rows
    → IsAscending id_cmp rows → AreInOrder (map (cells_row resource) rows)
cells_in_order resource [] next_id small within up = tt
cells_in_order resource (row ∷ rows) next_id small within up = (
  below_cells resource row rows next_id small within.2 up.0,
  cells_in_order resource rows next_id small within.2 up.1,
)

below_head : (resource : List ℕ) (head : TableHead) (rows : List Row)
    → IsBelowAll row_cmp (table_row resource head) (map (cells_row resource) rows)
below_head resource head [] = tt
below_head resource head (row ∷ rows) = (refl, below_head resource head rows)

pub rows_of_table-in_order : (resource targets : List ℕ) (table : TableValue) → IsNumbered table.rows table.next_id
    → table.next_id < 2 ^ 64 → AreInOrder (rows_of_table resource table targets)
rows_of_table-in_order resource targets table numbered small = (
  below_head resource (head_of table targets) table.rows,
  cells_in_order resource table.rows table.next_id small numbered.within numbered.ascending,
)
