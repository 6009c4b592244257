use Rattle.std.proofs.Common.{◌≡◌, ◌∙◌, sym, None}
use Rattle.datastore_answers.specs.Errors.{non_dictionary_error}
use Rattle.datastore_answers.proofs.ErrorLemmas.{non_dictionary_error-none}
use Rattle.datastore_answers.proofs.errors.read_records.Goals as goal

pub returns-in-None-clause-maps : goal.returns-in-None-clause-maps
returns-in-None-clause-maps c =
    let none : non_dictionary_error 1 c.in-Ok-Some.items.now ≡ None =
    rw c.as_slice.ensures at (sym c.in_ok-non_dictionary_error-in-Ok-Some.ensures.error ∙ c.in-None.is) in
    non_dictionary_error-none 1 c.in-Ok-Some.items.now none
