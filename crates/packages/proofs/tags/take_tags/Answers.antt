-- A list with an error leaves the tags.
use Rattle.packages.specs.Tags.{tags_error}
use Rattle.packages.proofs.Reading.{kept-if-faulty}
use Rattle.packages.proofs.tags.take_tags.Goals as goal

pub returns-in-Err-clause-tags : goal.returns-in-Err-clause-tags
returns-in-Err-clause-tags c =
    let error = tags_error c.args.items.now in
    kept-if-faulty c.add_fault.result error _ _ (c.add_fault.ensures.rule error c.in-Err.ensures.error)
