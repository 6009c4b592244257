use Rattle.typed_csv.proofs.ReceivedLemmas.{received}
use Rattle.typed_csv.proofs.record_reader.RecordReader.advance.Goals as goal

pub returns-then-self-gt-MAX_BYTES-clause-received : goal.returns-then-self-gt-MAX_BYTES-clause-received
returns-then-self-gt-MAX_BYTES-clause-received g c =
    received g.S.Source.to_come _ c.args.self.now c.read.new.self c.in_ok-count.count c.read.new.into c.self.view_is
    c.in_ok-count.ensures.within c.in_ok-count.ensures.bytes

pub returns-in_err-add-clause-received : goal.returns-in_err-add-clause-received
returns-in_err-add-clause-received g c =
    received g.S.Source.to_come _ c.args.self.now c.read.new.self c.in_ok-count.count c.read.new.into c.self.view_is
    c.in_ok-count.ensures.within c.in_ok-count.ensures.bytes
