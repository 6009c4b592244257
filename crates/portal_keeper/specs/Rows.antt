-- The rows of a store: a map from a kind and a key to a body, as the list of its rows in order.
use Rattle.std.specs.Prelude.{ℕ, List, [], Option, Bool, option_map}
use Rattle.std.specs.declared.cmp.Ordering.{Ordering}
use Rattle.std.specs.Ordering.{nat_cmp, ordering_then}
use Rattle.std.specs.Cmp.{IsTotalOrder, nat_cmp_total}
use Rattle.std.specs.Cmp.Lexicographic.{slice_cmp}
use Rattle.std.proofs.lemmas.Cmp.{on_total, then_total, nat_list_cmp_total}
use Rattle.portal_base.specs.Ordered.{IsAscending, are_apart, found, IsKey, IsKey-field, IsMonotone, IsMonotone-field}
use Rattle.portal_keeper.specs.declared.row.KeptRow.{KeptRow}
use Rattle.portal_keeper.specs.declared.row.RowKind.{RowKind}
use Rattle.portal_keeper.specs.declared.row.RowKind.TheVariants.{Version, Org, Set, Table, Row, Source, Job}

-- the number of a kind
abbrev pub kind_number : RowKind → ℕ
kind_number Version = 1
kind_number Org = 2
kind_number Set = 3
kind_number Table = 4
kind_number Row = 5
kind_number Source = 6
kind_number Job = 7

-- the order of kinds and keys: by the number of the kind, then by the bytes of the key
abbrev pub key_cmp : RowKind → List ℕ → RowKind → List ℕ → Ordering
key_cmp kind key other_kind other_key =
    ordering_then (nat_cmp (kind_number kind) (kind_number other_kind)) (slice_cmp nat_cmp key other_key)

-- the order of rows: by kind and key
abbrev pub row_cmp : KeptRow → KeptRow → Ordering
row_cmp row other = key_cmp row.kind row.key other.kind other.key

-- the order of a row relative to a kind and a key
abbrev pub row_at : RowKind → List ℕ → KeptRow → Ordering
row_at kind key row = key_cmp row.kind row.key kind key

-- Rows in order: each is below all later ones, so that no pair of kind and key repeats.
abbrev pub AreInOrder : List KeptRow → Type 0
AreInOrder rows = IsAscending row_cmp rows

-- no row has the kind and the key of a later row
abbrev pub are_distinct : List KeptRow → Bool
are_distinct rows = are_apart row_cmp rows

-- the body at a kind and a key
abbrev pub body_at : List KeptRow → RowKind → List ℕ → Option (List ℕ)
body_at rows kind key = option_map (λ row. row.body) (found (row_at kind key) rows)

-- The order is total, and rows are looked up by kind and key.
pub row_cmp_total : IsTotalOrder row_cmp
row_cmp_total =
    then_total (on_total (λ row. kind_number row.kind) nat_cmp_total) (on_total (λ row. row.key) nat_list_cmp_total)

-- a row at a kind and a key
abbrev row_of_key : RowKind → List ℕ → KeptRow
row_of_key kind key = record { kind = kind; key = key; body = [] }

pub IsKey-row_at : (kind : RowKind) (key : List ℕ) → IsKey row_cmp (row_at kind key)
IsKey-row_at kind key = IsKey-field (λ row. row) row_cmp_total (row_of_key kind key)

pub IsMonotone-row_at : (kind : RowKind) (key : List ℕ) → IsMonotone row_cmp (row_at kind key)
IsMonotone-row_at kind key = IsMonotone-field (λ row. row) row_cmp_total (row_of_key kind key)
