-- Worked examples: the statements of changes, faults and their count, and tables of the keeper's form.
use Rattle.std.proofs.Common.{◌≡◌, ◌-◌, ◌^◌, pos, false, ℕ, [], ◌∷◌, Err, refl}
use Rattle.std.specs.Prelude.{codes}
use Rattle.sqlite.specs.declared.error.Error.TheVariants.{SqliteFailure, QueryReturnedNoRows}
use Rattle.sqlite.specs.declared.error.ErrorCode.TheVariants.{OutOfMemory, DiskFull}
use Rattle.sqlite.specs.declared.types.Value.TheVariants.{Int, Text}
use Rattle.sqlite_tied.specs.Compute.{everything}
use Rattle.portal_keeper.specs.declared.change.Change.TheVariants.{Put, Remove}
use Rattle.portal_keeper.specs.declared.change.KeepFault.TheVariants as fault
use Rattle.portal_keeper.specs.declared.row.RowKind.TheVariants.{Org, Job}
use Rattle.keeper_sqlite.specs.Faults.{fault_of, faults_after}
use Rattle.keeper_sqlite.specs.Form.{defines_form}
use Rattle.keeper_sqlite.specs.Statements.{make_table, put_text, remove_text, statements_of}

-- An empty list of changes makes the table alone.
no_changes : statements_of [] ≡ make_table ∷ []
no_changes = refl

-- A put binds the number of the kind, the key and the body, and a removal the first two.
put_and_removed : statements_of (Put (record { kind = Org; key = codes "city"; body = codes "{}" }) ∷ Remove Job (codes "3") ∷ [])
    ≡ make_table
    ∷ record { text = put_text; params = Int (pos 2) ∷ Text (codes "city") ∷ Text (codes "{}") ∷ [] }
    ∷ record { text = remove_text; params = Int (pos 7) ∷ Text (codes "3") ∷ [] } ∷ []
put_and_removed = refl

want_of_memory : fault_of (SqliteFailure OutOfMemory) ≡ fault.OutOfMemory
want_of_memory = refl

full_disk : fault_of (SqliteFailure DiskFull) ≡ fault.Failed
full_disk = refl

no_rows : fault_of QueryReturnedNoRows ≡ fault.Failed
no_rows = refl

-- A failure counts up to the maximum of a `u64`.
one_more : faults_after {T = ℕ} 4 (Err fault.Failed) ≡ 5
one_more = refl

at_most : faults_after {T = ℕ} (2 ^ 64 - 1) (Err fault.Failed) ≡ 2 ^ 64 - 1
at_most = refl

-- Without a key, a table has another form; so it has if its names compare without case.
without_key : defines_form (codes "CREATE TABLE kept (kind INTEGER NOT NULL, name TEXT NOT NULL, body TEXT NOT NULL) STRICT")
    ≡ false
unfolding everything
without_key = refl

without_case : defines_form (codes "CREATE TABLE kept (kind INTEGER NOT NULL, name TEXT NOT NULL COLLATE NOCASE, body TEXT NOT NULL, PRIMARY KEY (kind, name)) STRICT")
    ≡ false
unfolding everything
without_case = refl
