-- The inserts are those of the source's bytes, as far as they were begun.
use Rattle.portal_load.proofs.Inserting.{ends_start}
use Rattle.portal_load.proofs.Loading.{rows_done, rows_received}
use Rattle.portal_load.proofs.load.play_rows.Goals as goal

pub returns-in-Ok-clause-done : goal.returns-in-Ok-clause-done
returns-in-Ok-clause-done g c =
    rows_done c.play_inserts.result c.args.task.now c.args.schema.fields _ c.in-Ok.inserts.remaining _ _ _ _
    c.in-Ok.ensures.begins c.play_inserts.ensures.done

pub returns-in-Ok-clause-received : goal.returns-in-Ok-clause-received
returns-in-Ok-clause-received g c =
    rw c.into_source.ensures
    (rows_received _ _ _ _ _ _ c.in-Ok.ensures.received c.play_inserts.ensures.received
    c.play_inserts.ensures.too_long)

pub returns-in-Err-clause-ended : goal.returns-in-Err-clause-ended
returns-in-Err-clause-ended g c =
    λ whole is. ends_start c.args.task.now c.args.task.now.resource.now c.args.schema.fields c.args.portal.now.state
    c.in-Err.fault whole _ _ c.stop_of_csv.result is c.in-Err.ensures.refused
    (record {
      read_fault = c.stop_of_csv.ensures.read_fault;
      too_long = c.stop_of_csv.ensures.too_long;
      reported = c.stop_of_csv.ensures.reported;
      memory = c.stop_of_csv.ensures.memory;
    })
