use Rattle.std.proofs.Common.{◌≡◌, ◌==◌, ◌<◌, ◌++◌, ◌∷◌, [], true, false, length, sym, ◌∙◌, arith}
use Rattle.std.specs.Prelude.{Some}
use Rattle.std.specs.List.{list_any}
use Rattle.table_schema.specs.Keys.{index_of}
use Rattle.table_schema.proofs.KeyLemmas.{indices_on-next, indices_on-again}
use Rattle.table_schema.proofs.keys.indices_of.Goals as goal

pub returns-then-has_index : goal.returns-then-has_index
returns-then-has_index c =
    let found : index_of c.args.columns.now c.name-item.result ≡ Some c.in-Some.index = cc (c.in-Some.ensures) in
    let old : list_any (λ p. p == c.in-Some.index) c.loop-name.indices.items ≡ true = cc in
    let lt : c.loop-name.name-index < length c.args.names.now = omega arith in
    sym (c.loop-name.invariant ∙ indices_on-again _ _ _ _ c.name-item.result c.in-Some.index lt c.name-item.is found
    old)

pub loop-name-preserved : goal.loop-name-preserved
loop-name-preserved c =
    let found : index_of c.args.columns.now c.name-item.result ≡ Some c.in-Some.index = cc (c.in-Some.ensures) in
    let new : list_any (λ p. p == c.in-Some.index) c.loop-name.indices.items ≡ false = cc in
    let lt : c.loop-name.name-index < length c.args.names.now = omega arith in
    let next = indices_on-next c.args.columns.now c.loop-name.indices.items c.args.names.now c.loop-name.name-index
    c.name-item.result c.in-Some.index lt c.name-item.is found new in
    let pushed : c.push.new.self.items ≡ c.loop-name.indices.items ++ c.in-Some.index ∷ [] =
    c.in_ok-push.ensures.items in
    rw pushed (c.loop-name.invariant ∙ next)
