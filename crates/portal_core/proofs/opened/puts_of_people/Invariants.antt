use Rattle.std.proofs.Common.{◌≡◌, ◌∷◌, ◌++◌, map}
use Rattle.portal_keeper.specs.declared.change.Change.TheVariants.{Put}
use Rattle.portal_rows.specs.OrgRows.{org_rows}
use Rattle.portal_rows.specs.VersionRow.{version_row}
use Rattle.portal_core.proofs.opened.puts_of_people.Given as goal

-- the puts so far, and those of the rows that are left
abbrev pub invariant-loop-row : goal.invariant-loop-row
invariant-loop-row l =
    map Put (version_row ∷ org_rows l.people.people) ≡ l.puts.items ++ map Put l.row-iterator.rest.items
