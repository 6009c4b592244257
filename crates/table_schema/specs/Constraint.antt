-- The constraints of a field (Table Schema v1, "Constraints"), and the first that a cell breaks.
use Rattle.std.specs.Prelude.{ℕ, Bool, true, ◌&&◌, ◌||◌, not, if◌then◌else◌, length, Option, Some, None, option_map}
use Rattle.std.specs.Prelude.{ℤ, pos, int_le}
use Rattle.std.specs.List.{list_any}
use Rattle.std.specs.Str.{chars}
use Rattle.table_schema.specs.declared.cell.Cell.{Cell}
use Rattle.table_schema.specs.declared.cell.Cell.TheVariants as cell
use Rattle.table_schema.specs.declared.cell.CellFault.{CellFault}
use Rattle.table_schema.specs.declared.cell.CellFault.TheVariants.{Length, Range, NotInEnum}
use Rattle.table_schema.specs.declared.constraint.Constraints.{Constraints}
use Rattle.lexical_forms.specs.Digits.{is_empty}
use Rattle.table_schema.specs.Order.{rank_of, same_cell}

-- the length of a text in characters, and 0 for other cells
abbrev pub length_of : Cell → ℕ
length_of (cell.Text text) = length (chars text)
length_of other = 0

abbrev pub is_at_least : Option ℤ → ℤ → Bool
is_at_least None z = true
is_at_least (Some low) z = int_le low z

abbrev pub is_at_most : Option ℤ → ℤ → Bool
is_at_most None z = true
is_at_most (Some high) z = int_le z high

-- `minLength` and `maxLength`
abbrev pub keeps_length : Constraints → Cell → Bool
keeps_length constraints c =
    is_at_least constraints.min_length (pos (length_of c)) && is_at_most constraints.max_length (pos (length_of c))

-- `minimum` and `maximum`
abbrev pub keeps_range : Constraints → Cell → Bool
keeps_range constraints c =
    is_at_least (option_map rank_of constraints.minimum) (rank_of c)
    && is_at_most (option_map rank_of constraints.maximum) (rank_of c)

-- `enum`; without one every cell is allowed
abbrev pub keeps_enum : Constraints → Cell → Bool
keeps_enum constraints c = is_empty constraints.allowed || list_any (λ a. same_cell a c) constraints.allowed

-- The first constraint that a cell other than Null breaks.
unfoldable pub constraint_fault : Constraints → Cell → Option CellFault
constraint_fault constraints c =
    if not (keeps_length constraints c) then Some Length
    else if not (keeps_range constraints c) then Some Range
    else if not (keeps_enum constraints c) then Some NotInEnum
    else None
