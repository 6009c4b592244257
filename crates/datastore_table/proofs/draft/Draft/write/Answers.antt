use Rattle.std.proofs.Common.{◌≡◌, ◌∙◌, ◌++◌, ◌∷◌, [], ap, subst, subst₂, sym}
use Rattle.std.specs.Prelude.{if◌then◌else◌}
use Rattle.portal_base.specs.Ordered.{IsAscending, upserted}
use Rattle.portal_base.proofs.Upserted.{IsAscending-upserted}
use Rattle.datastore_table.specs.Batch.{AreThoseOf, Written}
use Rattle.datastore_table.specs.Draft.{drafted}
use Rattle.datastore_table.specs.Put.{row_id, written_row}
use Rattle.datastore_table.specs.Rows.{row_cmp, row_cmp_total}
use Rattle.datastore_table.proofs.WorkLemmas.{AreThoseOf-placed, worked-with_cells}
use Rattle.datastore_table.proofs.draft.Draft.write.Goals as goal

pub returns-clause-ok : goal.returns-clause-ok
returns-clause-ok c = λ rows up.
    let old = c.args.self.now in
    let id = c.args.id in
    let cells = c.args.cells in
    let w : Written = drafted old in
    let v : Written = record {
      changed = c.put.new.self.rows;
      next_id = c.in_ok-next_id.next_id;
      written = c.put.new.self.written.items;
    } in
    let changed : v.changed ≡ upserted row_cmp (written_row (row_id id old.next_id) cells) old.rows =
    c.in_ok-put.ensures.rows ∙ ap (λ i. upserted row_cmp (written_row i cells) old.rows) c.row_id-id.ensures in
    let written : v.written ≡ w.written ++ row_id id old.next_id ∷ [] =
    c.in_ok-put.ensures.written ∙ c.push.ensures.items
    ∙ ap (λ b. if b then w.written ++ c.row_id-id.result ∷ [] else w.written) c.if-is_err.ensures.negation
    ∙ ap (λ i. w.written ++ i ∷ []) c.row_id-id.ensures in
    worked-with_cells rows up w v c.requires.ascending id cells changed c.in_ok-next_id.ensures written

pub returns-clause-draft : goal.returns-clause-draft
returns-clause-draft c =
    let old = c.args.self.now in
    let id = c.row_id-id.result in
    let row = written_row id c.args.cells in
    let ids = old.written.items in
    let changed : c.put.new.self.rows ≡ upserted row_cmp row old.rows = c.in_ok-put.ensures.rows in
    let written : c.put.new.self.written.items ≡ ids ++ id ∷ [] =
    c.in_ok-put.ensures.written ∙ c.push.ensures.items
    ∙ ap (λ b. if b then ids ++ id ∷ [] else ids) c.if-is_err.ensures.negation in
    record {
      ascending = subst (IsAscending row_cmp) (sym changed)
          (IsAscending-upserted row_cmp row_cmp_total row old.rows c.requires.ascending);
      those = subst₂ AreThoseOf (sym written) (sym changed) (AreThoseOf-placed row ids old.rows c.requires.ascending
          c.requires.those);
      indexed = c.in_ok-put.ensures.indexed;
    }
