use Rattle.std.proofs.Common.{◌≡◌, ◌∙◌, Some, None, sym}
use Rattle.std.specs.Prelude.{position}
use Rattle.std.specs.Ordering.{is_eq}
use Rattle.harvest_stages.specs.Groups.{group_at}
use Rattle.harvest_stages.proofs.GroupLemmas.{fits_nowhere, fits_there, own_there}
use Rattle.harvest_stages.proofs.groups.place_for.Goals as goal

pub returns-in_err-place : goal.returns-in_err-place
returns-in_err-place c =
    let none : position (λ g. is_eq (group_at c.args.job.now.source g)) c.args.groups.now ≡ None =
    sym c.place_of.ensures.place ∙ c.in_err-place.was in
    rw c.from_residual.ensures (fits_nowhere c.args.groups.now c.args.job.now c.requires none)

pub returns-then-fits : goal.returns-then-fits
returns-then-fits c =
    let there : position (λ g. is_eq (group_at c.args.job.now.source g)) c.args.groups.now ≡ Some c.in_ok-place.place =
    sym c.place_of.ensures.place ∙ c.in_ok-place.was in (
      fits_there c.args.groups.now c.args.job.now c.in_ok-place.place c.index-groups-place.result c.requires there
          ∙ sym c.fits.ensures ∙ c.if-fits.true,
      c.in_ok-place.ensures.within,
      own_there c.args.groups.now c.args.job.now c.in_ok-place.place there,
    )

pub returns-else-fits : goal.returns-else-fits
returns-else-fits c =
    let there : position (λ g. is_eq (group_at c.args.job.now.source g)) c.args.groups.now ≡ Some c.in_ok-place.place =
    sym c.place_of.ensures.place ∙ c.in_ok-place.was in
    fits_there c.args.groups.now c.args.job.now c.in_ok-place.place c.index-groups-place.result c.requires there
    ∙ sym c.fits.ensures ∙ c.if-fits.false
