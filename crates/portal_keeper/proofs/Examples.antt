-- Worked examples: the order of rows, and changes of three rows.
use Rattle.std.proofs.Common.{◌≡◌, ℕ, true, false, List, [], ◌∷◌, Some, None, refl}
use Rattle.std.specs.Prelude.{codes}
use Rattle.portal_keeper.specs.declared.change.Change.TheVariants.{Put, Remove}
use Rattle.portal_keeper.specs.declared.row.KeptRow.{KeptRow}
use Rattle.portal_keeper.specs.declared.row.RowKind.{RowKind}
use Rattle.portal_keeper.specs.declared.row.RowKind.TheVariants.{Version, Org, Set, Row}
use Rattle.portal_keeper.specs.Rows.{are_distinct, body_at}
use Rattle.portal_keeper.specs.Changed.{rows_after, said_last}
use Rattle.portal_keeper.specs.Memory.{rows_in_order}

abbrev row : RowKind → List ℕ → List ℕ → KeptRow
row kind key body = record { kind = kind; key = key; body = body }

abbrev version : KeptRow
version = row Version (codes "portal") (codes "1")

abbrev city : KeptRow
city = row Org (codes "city") (codes "{}")

abbrev dataset : KeptRow
dataset = row Set (codes "s.10") (codes "{}")

abbrev kept : List KeptRow
kept = version ∷ city ∷ dataset ∷ []

-- Rows are in order by kind, whatever their keys.
by_kind : rows_in_order (dataset ∷ city ∷ version ∷ []) ≡ kept
by_kind = refl

-- Keys are in order by their bytes: `.10` comes before `.2`.
by_bytes : rows_in_order (row Set (codes "s.2") [] ∷ dataset ∷ []) ≡ dataset ∷ row Set (codes "s.2") [] ∷ []
by_bytes = refl

-- Two kinds may have the same key.
same_key_of_two_kinds : are_distinct (row Org (codes "a") [] ∷ row Set (codes "a") [] ∷ []) ≡ true
same_key_of_two_kinds = refl

same_key_of_one_kind : are_distinct (city ∷ version ∷ row Org (codes "city") [] ∷ []) ≡ false
same_key_of_one_kind = refl

-- A new row is put where it belongs.
put_between : rows_after (Put (row Org (codes "lake") (codes "{}")) ∷ []) kept
    ≡ version ∷ city ∷ row Org (codes "lake") (codes "{}") ∷ dataset ∷ []
put_between = refl

-- A row that is put replaces the one of its kind and key.
put_again : rows_after (Put (row Org (codes "city") (codes "[]")) ∷ []) kept
    ≡ version ∷ row Org (codes "city") (codes "[]") ∷ dataset ∷ []
put_again = refl

-- A removal takes the kind into account, and does nothing where there is no such row.
removed : rows_after (Remove Org (codes "city") ∷ Remove Row (codes "s.10") ∷ []) kept ≡ version ∷ dataset ∷ []
removed = refl

-- A row that is put and then removed leaves no row of its key.
put_and_removed : rows_after (Put city ∷ Remove Org (codes "city") ∷ []) [] ≡ []
put_and_removed = refl

removed_and_put : rows_after (Remove Org (codes "city") ∷ Put city ∷ []) kept ≡ kept
removed_and_put = refl

-- The last of the changes that names the key counts.
last_counts : said_last (Put city ∷ Remove Org (codes "city") ∷ Put dataset ∷ []) Org (codes "city") ≡ Some None
last_counts = refl

body_of_city : body_at kept Org (codes "city") ≡ Some (codes "{}")
body_of_city = refl
