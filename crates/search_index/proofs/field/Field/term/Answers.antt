use Rattle.std.proofs.Common.{rules}
use Rattle.search_index.specs.Terms.{term}
use Rattle.search_index.proofs.field.Field.term.Goals as goal

pub returns : goal.returns
unfolding term
returns c = search rules
