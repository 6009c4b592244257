use Rattle.std.proofs.Common.{◌≡◌, ◌∙◌, [], ap, subst}
use Rattle.digest_index.specs.Index.{IsUnder}
use Rattle.datastore_table.specs.Index.{digest_of}
use Rattle.datastore_table.proofs.StoreLemmas.{entered_kept, entered_one}
use Rattle.datastore_table.proofs.keys.enter_key.Goals as goal

pub returns-then-not-is_empty : goal.returns-then-not-is_empty
returns-then-not-is_empty c =
    let key = c.args.key.now in
    let old = c.args.index.now in
    let new = c.enter.new.self in
    let digest : c.cells_digest.result ≡ digest_of [] key.cells =
    c.cells_digest.ensures ∙ ap (digest_of []) c.as_slice-cells.ensures in
    record {
      led = λ some. subst (λ d. IsUnder new d key.id) digest
          (entered_one old new c.cells_digest.result key.id c.enter.ensures);
      kept = entered_kept old new c.cells_digest.result key.id c.enter.ensures;
      room = c.enter.ensures.room;
    }
