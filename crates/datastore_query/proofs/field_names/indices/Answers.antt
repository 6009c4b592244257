use Rattle.std.proofs.Common.{◌∙◌, ◌-◌, Some, arith}
use Rattle.std.proofs.lemmas.Map.Text.{btree_map_updates_str}
use Rattle.datastore_query.proofs.FieldNameLemmas.{index_all, index_step}
use Rattle.datastore_query.proofs.field_names.indices.Goals as goal

pub loop-index-preserved : goal.loop-index-preserved
loop-index-preserved c = record {
  within = omega arith;
  found = λ name.
      index_step c.args.fields.now c.loop-index.index (c.loop-index.index - 1) c.index-fields-index.result
      c.as_str.result.now name _ _ (omega arith) (omega arith) c.index-fields-index.is (c.as_str.ensures ∙ c.name.ensures)
      (c.loop-index.invariant.found name)
      (btree_map_updates_str c.as_str.result.now c.loop-index.by_name c.insert.new.self
      (Some (c.loop-index.index - 1)) c.in_ok-insert.ensures.updates name);
}

pub returns : goal.returns
returns c = λ name.
    index_all c.args.fields.now c.loop-index.index name _ (omega arith) (c.loop-index.invariant.found name)
