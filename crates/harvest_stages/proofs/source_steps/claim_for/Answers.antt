use Rattle.std.proofs.Common.{◌≡◌, Some}
use Rattle.harvest_sources.specs.Steps.{waiting_of}
use Rattle.harvest_sources.specs.declared.step.Item.{Item}
use Rattle.harvest_stages.proofs.PreparedLemmas.{claim_made}
use Rattle.harvest_stages.proofs.source_steps.claim_for.Goals as goal

pub returns-in_ok-reply-in-Some : goal.returns-in_ok-reply-in-Some
returns-in_ok-reply-in-Some c =
    let item : Item = record { iri = c.in-Some.iri.now; found = c.in-Some.found.now } in
    let waits : Some item ≡ waiting_of c.args.source.now.state = rw c.in-Some.is at c.first_waiting.ensures in
    claim_made c.args.place c.args.source.now.state c.args.job.now item c.in_ok-reply-in-Some.reply c.step_at.result
    c.requires waits c.in_ok-reply-in-Some.ensures c.step_at.ensures
