-- The changes of a store's rows.
use Rattle.std.specs.Prelude.{ℕ, List, [], ◌∷◌, Option, Some, None, if◌then◌else◌}
use Rattle.std.specs.Ordering.{is_eq}
use Rattle.std.specs.Option.{option_or}
use Rattle.portal_base.specs.Ordered.{upserted, dropped}
use Rattle.portal_keeper.specs.declared.change.Change.{Change}
use Rattle.portal_keeper.specs.declared.change.Change.TheVariants.{Put, Remove}
use Rattle.portal_keeper.specs.declared.row.KeptRow.{KeptRow}
use Rattle.portal_keeper.specs.declared.row.RowKind.{RowKind}
use Rattle.portal_keeper.specs.Rows.{key_cmp, row_cmp, row_at}

-- The rows after a change. A row that is put replaces the one of its kind and key, if there is one. A removal drops the
-- row of that kind and key, if there is one.
abbrev pub changed_rows : Change → List KeptRow → List KeptRow
changed_rows (Put row) rows = upserted row_cmp row rows
changed_rows (Remove kind key) rows = dropped (row_at kind key) rows

-- the rows after these changes, one after the other
abbrev pub rows_after : List Change → List KeptRow → List KeptRow
rows_after [] rows = rows
rows_after (change ∷ changes) rows = rows_after changes (changed_rows change rows)

-- What a change says of a kind and a key: nothing if it names others, and else the body that it puts there, or that it
-- leaves none there.
abbrev pub said_by : Change → RowKind → List ℕ → Option (Option (List ℕ))
said_by (Put row) kind key = if is_eq (key_cmp row.kind row.key kind key) then Some (Some row.body) else None
said_by (Remove its_kind its_key) kind key = if is_eq (key_cmp its_kind its_key kind key) then Some None else None

-- what the last of the changes that names a kind and a key says of them
abbrev pub said_last : List Change → RowKind → List ℕ → Option (Option (List ℕ))
said_last [] kind key = None
said_last (change ∷ changes) kind key = option_or (said_last changes kind key) (said_by change kind key)
