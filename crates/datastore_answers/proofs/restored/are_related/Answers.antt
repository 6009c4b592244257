use Rattle.std.proofs.Common.{◌≡◌, ◌∙◌, false, map, refl, sym, true}
use Rattle.datastore_answers.specs.Consistent.{are_resolved}
use Rattle.datastore_answers.specs.Tables.{without_room}
use Rattle.datastore_answers.proofs.RestoredLemmas.{resolved-related, unresolved-unrelated, valid_without_room}
use Rattle.datastore_answers.proofs.restored.are_related.Goals as goal

pub returns-then-are_resolved-clause-related : goal.returns-then-are_resolved-clause-related
returns-then-are_resolved-clause-related c =
    let ts = c.args.all.now in
    c.keep_references.ensures.kept
    ∙ resolved-related ts (map without_room ts) refl (sym c.are_resolved.ensures ∙ c.if-are_resolved.true)

pub returns-then-are_resolved-clause-valid : goal.returns-then-are_resolved-clause-valid
returns-then-are_resolved-clause-valid c = λ related.
    valid_without_room c.args.all.now (c.keep_references.ensures.valid related)

pub returns-else-are_resolved-clause-related : goal.returns-else-are_resolved-clause-related
returns-else-are_resolved-clause-related c =
    let ts = c.args.all.now in
    c.if-are_resolved.false
    ∙ unresolved-unrelated ts (map without_room ts) refl (sym c.are_resolved.ensures ∙ c.if-are_resolved.false)
