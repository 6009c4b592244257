use Rattle.std.proofs.Common.{◌≡◌, ◌∙◌, ap, subst}
use Rattle.digest_index.specs.Index.{IsUnder}
use Rattle.datastore_table.specs.Cells.{cells_at}
use Rattle.datastore_table.specs.Index.{digest_of}
use Rattle.datastore_table.proofs.StoreLemmas.{entered_kept, entered_one}
use Rattle.datastore_table.proofs.store.enter_at.Goals as goal

pub returns-then-not-has_null_at : goal.returns-then-not-has_null_at
returns-then-not-has_null_at c =
    let columns = c.args.columns.now in
    let row = c.args.row.now in
    let old = c.args.index.now in
    let new = c.enter.new.self in
    let digest : c.digest_at.result ≡ digest_of columns (cells_at columns row.cells) =
    c.digest_at.ensures ∙ ap (λ cells. digest_of columns (cells_at columns cells)) c.as_slice-cells.ensures in
    record {
      led = λ full. subst (λ d. IsUnder new d row.id) digest
          (entered_one old new c.digest_at.result row.id c.enter.ensures);
      kept = entered_kept old new c.digest_at.result row.id c.enter.ensures;
      room = c.enter.ensures.room;
    }
