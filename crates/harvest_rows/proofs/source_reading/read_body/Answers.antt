use Rattle.std.proofs.Common.{◌≡◌, ◌∙◌, sym}
use Rattle.portal_base.specs.Json.{json_text}
use Rattle.harvest_sources.specs.declared.source.HarvestSource.{HarvestSource}
use Rattle.harvest_rows.specs.Rows.{IsSourceBody, source_value}
use Rattle.harvest_rows.proofs.ReadLemmas.{exactly}
use Rattle.harvest_rows.proofs.SourceLemmas.{source_read-back, source_read-body, source_read-only}
use Rattle.harvest_rows.proofs.source_reading.read_body.Goals as goal

pub returns-in-Some : goal.returns-in-Some
returns-in-Some c =
    let name = c.args.name.now in
    let body = c.args.body.now in
    let read = sym c.in_ok-source.ensures ∙ c.in-Some.is in
    exactly c.source_if_written.result c.in-Some.source (λ (s : HarvestSource). IsSourceBody s name body)
    (body ≡ json_text (source_value c.in-Some.source)) c.source_if_written.ensures
    (λ written. source_read-body name body c.in-Some.source read written)
    (λ s is. source_read-only name body c.in-Some.source s read is)

pub returns-in-None : goal.returns-in-None
returns-in-None c = λ s. (
  λ e. absurd (cc),
  λ is.
      let none = sym c.in_ok-source.ensures ∙ c.in-None.is in
      let some = source_read-back s c.args.name.now c.args.body.now is in
      absurd (cc),
)
