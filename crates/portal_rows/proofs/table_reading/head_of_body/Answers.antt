use Rattle.portal_rows.specs.Readings.{head_reading}
use Rattle.portal_rows.specs.TableRows.{IsHead, IsHeadBody, head_value}
use Rattle.portal_rows.specs.declared.tables.TableHead.{TableHead}
use Rattle.portal_rows.proofs.ReadLemmas.{complete_reading, sound_reading}
use Rattle.portal_rows.proofs.TableLemmas.{head-back, head_read, head_value-readable}
use Rattle.portal_rows.proofs.table_reading.head_of_body.Goals as goal

pub returns-in-Some-clause-sound : goal.returns-in-Some-clause-sound
returns-in-Some-clause-sound c =
    sound_reading c.head_in.result (head_reading c.in-Some.value) IsHead (head_read c.in-Some.value) c.head_in.ensures

pub returns-in-Some-clause-complete : goal.returns-in-Some-clause-complete
returns-in-Some-clause-complete c =
    complete_reading c.head_in.result head_reading head_value c.in_ok-value.field-0 c.in-Some.value
    (λ (head : TableHead). IsHeadBody head c.args.body.now) c.in-Some.is
    (λ head is. c.in_ok-value.ensures.back (head_value head) (head_value-readable head is.0) is.1)
    (λ head is. head-back head is.0) c.head_in.ensures

pub returns-in-None-clause-complete : goal.returns-in-None-clause-complete
returns-in-None-clause-complete c = λ head is.
    let found = c.in_ok-value.ensures.back (head_value head) (head_value-readable head is.0) is.1 in
    let none = c.in-None.is in
    absurd (cc)
