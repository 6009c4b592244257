use Rattle.std.proofs.Common.{[]}
use Rattle.packages.specs.Body.{body_checks}
use Rattle.packages.specs.Resources.{resource_checks}
use Rattle.packages.proofs.NoErrors.{with_rule_errors-ascending}
use Rattle.packages.proofs.laws.faulty_keys_ascend.Goals as goal

pub returns-clause-dataset : goal.returns-clause-dataset
returns-clause-dataset c = λ body old. with_rule_errors-ascending (body_checks body old) [] tt

pub returns-clause-resource : goal.returns-clause-resource
returns-clause-resource c = λ body. with_rule_errors-ascending (resource_checks body) [] tt
