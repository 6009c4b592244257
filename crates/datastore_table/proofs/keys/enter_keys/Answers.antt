use Rattle.std.proofs.Common.{arith, ap, inl, length}
use Rattle.datastore_table.specs.declared.row.Row.{Row}
use Rattle.datastore_table.specs.Keys.{IsLedToKey}
use Rattle.datastore_table.proofs.FirstLemmas.{key_entered, key_room}
use Rattle.datastore_table.proofs.StoreLemmas.{all_but_end, rest_of}
use Rattle.datastore_table.proofs.keys.enter_keys.Goals as goal

pub loop-key-init : goal.loop-key-init
loop-key-init c = record { led = λ key m. inl m; room = c.requires }

pub enter_key-requires : goal.enter_key-requires
enter_key-requires c =
    omega (
      arith,
      c.loop-key.invariant.room,
      ap length (rest_of c.args.keys.now c.loop-key.key-index c.key-item.result c.loop-key-test.true c.key-item.is),
    )

pub loop-key-preserved : goal.loop-key-preserved
loop-key-preserved c =
    let keys = c.args.keys.now in
    let k = c.loop-key.key-index in
    let key = c.key-item.result in
    record {
      led = key_entered keys k key c.loop-key.index c.enter_key.new.index c.loop-key-test.true c.key-item.is
          c.loop-key.invariant.led c.enter_key.ensures;
      room = key_room keys k key c.loop-key.index.room c.enter_key.new.index.room c.loop-key-test.true c.key-item.is
          c.loop-key.invariant.room c.enter_key.ensures.room;
    }

pub returns : goal.returns
returns c =
    all_but_end (λ (key : Row). IsLedToKey c.loop-key.index key) c.args.keys.now c.loop-key.key-index
    c.loop-key-test.false c.loop-key.invariant.led
