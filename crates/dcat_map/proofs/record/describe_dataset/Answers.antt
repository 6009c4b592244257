use Rattle.std.proofs.Common.{inr}
use Rattle.dcat_map.specs.Records.{description_in}
use Rattle.dcat_map.proofs.RecordLemmas.{not_described, described, described_ok, described_err}
use Rattle.dcat_map.proofs.record.describe_dataset.Goals as goal

pub returns-in_ok-record_of-clause-record_is : goal.returns-in_ok-record_of-clause-record_is
returns-in_ok-record_of-clause-record_is c = λ iri e.
    described_ok (description_in c.args.dataset.now.0 iri) c.titled.result
    (described c.args.dataset.now.0 iri c.args.dataset.now.1 c.is_dataset.result c.in_ok-record_of.field-0 c.titled.result e
    c.is_dataset.ensures c.if-is_dataset.true c.in_ok-record_of.ensures c.titled.ensures)

pub returns-in_ok-record_of-clause-fault : goal.returns-in_ok-record_of-clause-fault
returns-in_ok-record_of-clause-fault c = λ iri e.
    described_err (description_in c.args.dataset.now.0 iri) c.titled.result
    (described c.args.dataset.now.0 iri c.args.dataset.now.1 c.is_dataset.result c.in_ok-record_of.field-0 c.titled.result e
    c.is_dataset.ensures c.if-is_dataset.true c.in_ok-record_of.ensures c.titled.ensures)

pub returns-else-is_dataset-clause-fault : goal.returns-else-is_dataset-clause-fault
returns-else-is_dataset-clause-fault c = λ iri e.
    inr (not_described c.args.dataset.now.0 iri c.args.dataset.now.1 c.is_dataset.result e c.is_dataset.ensures
    c.if-is_dataset.false)
