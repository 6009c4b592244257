use Rattle.std.proofs.Common.{◌≡◌, ◌⊎◌, Ok, Err, ap, subst, ◌∙◌}
use Rattle.std.specs.Prelude.{IfOk, IfErr}
use Rattle.ntriples.specs.declared.term.Term.TheVariants.{Iri}
use Rattle.dcat_map.specs.declared.record.RecordFault.TheVariants.{OutOfMemory}
use Rattle.dcat_map.specs.Records.{description_in}
use Rattle.dcat_map.proofs.record.describe_in.Goals as goal

pub returns-clause-record_is : goal.returns-clause-record_is
returns-clause-record_is c =
    let iri = c.args.iri.now in
    subst (λ g. IfOk c.describe_dataset.result (λ r. description_in g iri ≡ Ok r)) (ap (λ s. s.0) c.of.ensures)
    (c.describe_dataset.ensures.record_is iri (ap (λ s. s.1) c.of.ensures ∙ ap Iri c.in_ok-try_clone.ensures))

pub returns-clause-fault : goal.returns-clause-fault
returns-clause-fault c =
    let iri = c.args.iri.now in
    subst
    (λ g. IfErr c.describe_dataset.result (λ fault. (fault ≡ OutOfMemory) ⊎ (description_in g iri ≡ Err fault)))
    (ap (λ s. s.0) c.of.ensures)
    (c.describe_dataset.ensures.fault iri (ap (λ s. s.1) c.of.ensures ∙ ap Iri c.in_ok-try_clone.ensures))
