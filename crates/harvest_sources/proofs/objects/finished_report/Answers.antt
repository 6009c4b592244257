use Rattle.std.proofs.Common.{◌≡◌, ap, ◌∙◌, sym}
use Rattle.std.specs.Prelude.{count_by}
use Rattle.std.specs.List.{filter_map}
use Rattle.harvest_sources.specs.Listings.{bad_object, came_to, is_added, is_unchanged, is_updated, outcomes}
use Rattle.harvest_sources.specs.declared.job.JobState.TheVariants.{Finished}
use Rattle.harvest_sources.proofs.ObjectLemmas.{outcomes_counted}
use Rattle.harvest_sources.proofs.objects.finished_report.Goals as goal

pub returns : goal.returns
returns c =
    let source : c.in_ok-source.source ≡ c.args.source.now = c.in_ok-source.ensures in
    let added : c.count_added.result ≡ count_by is_added (outcomes c.args.listing.now) =
    c.count_added.ensures ∙ ap (count_by (came_to is_added)) c.as_slice-objects.ensures
    ∙ sym (outcomes_counted is_added c.args.listing.now.objects) in
    let updated : c.count_updated.result ≡ count_by is_updated (outcomes c.args.listing.now) =
    c.count_updated.ensures ∙ ap (count_by (came_to is_updated)) c.as_slice-objects.ensures
    ∙ sym (outcomes_counted is_updated c.args.listing.now.objects) in
    let unchanged : c.count_unchanged.result ≡ count_by is_unchanged (outcomes c.args.listing.now) =
    c.count_unchanged.ensures ∙ ap (count_by (came_to is_unchanged)) c.as_slice-objects.ensures
    ∙ sym (outcomes_counted is_unchanged c.args.listing.now.objects) in
    let bad : c.from.result ≡ filter_map bad_object c.args.listing.now.objects =
    c.from.ensures ∙ c.in_ok-bad.ensures ∙ ap (filter_map bad_object) c.as_slice-objects.ensures in
    λ j. record {
      source = source j;
      state = Finished;
      added = added j;
      updated = updated j;
      unchanged = unchanged j;
      deleted = c.args.deleted;
      unnamed = c.args.listing.now.unnamed;
      bad = bad j;
    }
