-- The error of a lost table is that of the dataset that the body describes, if the list of resources has no other error.
use Rattle.std.proofs.Common.{◌∙◌, ap, sym}
use Rattle.std.specs.Prelude.{codes}
use Rattle.portal_base.specs.KeyErrors.{error_if}
use Rattle.portal_calls.proofs.Answering.{error_if-none}
use Rattle.dataset_answers.specs.Bodies.{changed_dataset, lost_table_error}
use Rattle.dataset_answers.proofs.BodyLemmas.{lost-errors}
use Rattle.dataset_answers.proofs.bodies.read_change.Goals as goal

pub returns-clause-errors : goal.returns-clause-errors
returns-clause-errors g c =
    let summaries = g.H.TableLookup.summaries c.args.tables.now in
    let changed = changed_dataset c.args.context.now.call.now c.args.whole c.args.dataset.now in
    let read = c.in_ok-read.read in
    c.in_ok-errors.ensures
    ∙ ap (λ error. error_if (codes "resources") error read.errors) c.lost_table_error-error.ensures
    ∙ lost-errors summaries read.dataset changed read.errors c.in_ok-read.ensures.id c.in_ok-read.ensures.resources
    ∙ ap (error_if (codes "resources") (lost_table_error summaries changed)) c.in_ok-read.ensures.errors

pub returns-clause-built : goal.returns-clause-built
returns-clause-built g c =
    λ none.
    c.in_ok-read.ensures.built
    (error_if-none (codes "resources") c.lost_table_error-error.result c.in_ok-read.read.errors
    (sym c.in_ok-errors.ensures ∙ none)).0
