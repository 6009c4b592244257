use Rattle.std.proofs.Common.{◌≡◌, ap, sym, ◌∙◌, get_or, set}
use Rattle.std.proofs.lemmas.List.Edits.{map_over_more}
use Rattle.harvest_sources.specs.Listings.{released, released_object}
use Rattle.harvest_sources.specs.declared.listing.ListedObject.{ListedObject}
use Rattle.harvest_sources.specs.declared.listing.Progress.{Progress}
use Rattle.harvest_sources.proofs.objects.release_all.Goals as goal

pub loop-object-preserved : goal.loop-object-preserved
loop-object-preserved c =
    let x : ListedObject = c.object-item.result in
    let there : ListedObject = get_or c.loop-object.objects c.loop-object.object-index x in
    let with_it : Progress → ListedObject = λ p. record { iri = there.iri; progress = p } in
    let element : with_it c.released.result ≡ released_object x =
    ap with_it (c.released.ensures ∙ ap released c.replace-progress.ensures.value)
    ∙ ap released_object (sym c.object-item.is) in
    ap (set c.loop-object.objects c.loop-object.object-index) element
    ∙ map_over_more released_object c.args.objects.now c.loop-object.objects c.loop-object.object-index x
    c.loop-object-test.true c.loop-object.invariant c.object-item.is
