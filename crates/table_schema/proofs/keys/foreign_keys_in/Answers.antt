use Rattle.std.proofs.Common.{◌≡◌, ◌<◌, ◌++◌, ◌∷◌, [], ◌∙◌, length, arith}
use Rattle.std.specs.Prelude.{Some}
use Rattle.table_schema.specs.Keys.{foreign_key_in}
use Rattle.table_schema.proofs.ValueLemmas.{read_on-some}
use Rattle.table_schema.proofs.keys.foreign_keys_in.Goals as goal

pub loop-item-preserved : goal.loop-item-preserved
loop-item-preserved c =
    let read : foreign_key_in c.args.columns.now c.args.key.now c.item-item.result ≡ Some c.in-Some.foreign =
    cc (c.in_ok-foreign.ensures) in
    let lt : c.loop-item.item-index < length c.args.items.now = omega arith in
    let next =
    read_on-some (foreign_key_in c.args.columns.now c.args.key.now) c.loop-item.foreign_keys.items c.args.items.now
    c.loop-item.item-index c.item-item.result c.in-Some.foreign lt c.item-item.is read in
    let pushed : c.push.new.self.items ≡ c.loop-item.foreign_keys.items ++ c.in-Some.foreign ∷ [] =
    c.in_ok-push.ensures.items in
    rw pushed (c.loop-item.invariant ∙ next)
