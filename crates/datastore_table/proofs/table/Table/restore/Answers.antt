use Rattle.std.proofs.Common.{subst, sym}
use Rattle.table_schema.specs.Field.{SchemaValue}
use Rattle.datastore_table.specs.Index.{IsStoreOf}
use Rattle.datastore_table.proofs.table.Table.restore.Goals as goal

pub invariant_of-result : goal.invariant_of-result
invariant_of-result c =
    let store : IsStoreOf c.args.schema c.in-Some.store c.args.next_id =
    rw c.in-Some.is at c.in_ok-made.ensures.store in
    subst (λ (s : SchemaValue). IsStoreOf s c.in-Some.store c.args.next_id) (sym c.in-Ok.ensures.ok) store
