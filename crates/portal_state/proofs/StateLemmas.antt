-- The state after entries.
use Rattle.std.proofs.Common.{◌≡◌, List, [], ◌∷◌, ◌++◌, refl}
use Rattle.datastore_answers.specs.declared.resource_table.ResourceTable.{ResourceTable}
use Rattle.portal_state.specs.State.{State}
use Rattle.portal_state.specs.Entries.{Entry, changed_by, state_after}

-- the state with these tables
abbrev pub with_tables : List ResourceTable → State → State
with_tables tables state = record state { tables = tables }

-- Entries in two lists, made one after the other, are those of both lists in one.
pub state_after-++ : (entries more : List Entry) (state : State)
    → state_after (entries ++ more) state ≡ state_after more (state_after entries state)
state_after-++ [] more state = refl
state_after-++ (entry ∷ entries) more state = state_after-++ entries more (changed_by entry state)
