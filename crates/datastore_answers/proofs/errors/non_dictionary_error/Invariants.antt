use Rattle.std.proofs.Common.{◌≡◌, ◌+◌, drop}
use Rattle.datastore_answers.specs.Errors.{non_dictionary_error}
use Rattle.datastore_answers.proofs.errors.non_dictionary_error.Given as goal

abbrev pub invariant-loop-index : goal.invariant-loop-index
invariant-loop-index l = non_dictionary_error 1 l.items ≡ non_dictionary_error (l.index + 1) (drop l.index l.items)
