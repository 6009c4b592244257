-- The insert is that of the first piece. A fault ends the inserts before its piece.
use Rattle.std.proofs.Common.{◌≡◌, ◌≢◌, true, Err, ap, refl}
use Rattle.std.proofs.lemmas.Result.{err_from_is_err_and}
use Rattle.portal_load.proofs.Inserting.{ends_answer, ends_at_insert, fault_is_no_refusal, goes_on_insert, refuses_insert}
use Rattle.typed_csv.specs.declared.fault.LoadFault.{LoadFault}
use Rattle.typed_csv.specs.declared.fault.LoadFault.TheVariants.{Spent}
use Rattle.portal_load.proofs.load.play_insert.Goals as goal

pub returns-in_err-play_call-in-Ok-Some-clause-ended :
    goal.returns-in_err-play_call-in-Ok-Some-clause-ended
returns-in_err-play_call-in-Ok-Some-clause-ended g c =
    let given = rw c.in-Ok-Some.field-0-is at c.in-Ok-Some.ensures.answers in
    ends_at_insert c.from_residual.result _ c.args.task.now c.args.inserts.now.resource c.args.portal.now.state
    c.play_call.new.portal.state c.in-Ok-Some.field-0-0 c.in-Ok-Some.field-0-0.body c.args.inserts.now.remaining
    c.next.new.self.remaining _ _
    (err_from_is_err_and c.from_residual.result c.from_residual.ensures.1) c.requires.resource
    refl given c.in_err-play_call-in-Ok-Some.ensures.ended

pub returns-in_err-play_call-in-Ok-Some-clause-refused :
    goal.returns-in_err-play_call-in-Ok-Some-clause-refused
returns-in_err-play_call-in-Ok-Some-clause-refused g c =
    let given = rw c.in-Ok-Some.field-0-is at c.in-Ok-Some.ensures.answers in
    refuses_insert c.from_residual.result _ c.args.task.now c.args.inserts.now.resource c.args.portal.now.state
    c.play_call.new.portal.state c.in-Ok-Some.field-0-0 c.in-Ok-Some.field-0-0.body c.args.inserts.now.remaining
    c.next.new.self.remaining _ _
    (err_from_is_err_and c.from_residual.result c.from_residual.ensures.1) c.requires.resource
    refl given c.in_err-play_call-in-Ok-Some.ensures.ended

pub returns-in_ok-play_call-in-Ok-Some-clause-more :
    goal.returns-in_ok-play_call-in-Ok-Some-clause-more
returns-in_ok-play_call-in-Ok-Some-clause-more g c =
    let given = rw c.in-Ok-Some.field-0-is at c.in-Ok-Some.ensures.answers in
    λ more. goes_on_insert c.args.task.now c.args.inserts.now.resource c.args.portal.now.state c.play_call.new.portal.state
    c.in-Ok-Some.field-0-0 c.in-Ok-Some.field-0-0.body c.args.inserts.now.remaining c.next.new.self.remaining _ _
    c.requires.resource
    refl given c.in_ok-play_call-in-Ok-Some.ensures.made

pub returns-in-Err-clause-ended : goal.returns-in-Err-clause-ended
returns-in-Err-clause-ended g c =
    let unspent : c.in-Err.fault ≢ Spent = λ e.
    let spent : c.args.inserts.now.is_spent ≡ true = c.in-Err.ensures.spent.0 (ap (λ (f : LoadFault). Err f) e) in
    absurd (cc) in
    λ pieces observed. ends_answer c.args.task.now c.args.inserts.now.resource c.args.portal.now.state c.in-Err.fault pieces
    c.args.inserts.now.remaining c.next.new.self.remaining _ c.stop_of_csv.result unspent observed c.in-Err.ensures.answers
    (record {
      read_fault = c.stop_of_csv.ensures.read_fault;
      too_long = c.stop_of_csv.ensures.too_long;
      reported = c.stop_of_csv.ensures.reported;
      memory = c.stop_of_csv.ensures.memory;
    })

pub returns-in-Err-clause-refused : goal.returns-in-Err-clause-refused
returns-in-Err-clause-refused g c =
    λ is. absurd (fault_is_no_refusal c.in-Err.fault c.stop_of_csv.result (record {
      read_fault = c.stop_of_csv.ensures.read_fault;
      too_long = c.stop_of_csv.ensures.too_long;
      reported = c.stop_of_csv.ensures.reported;
      memory = c.stop_of_csv.ensures.memory;
    }) (cc))
