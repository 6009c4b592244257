-- The thing that a key of a call's body names, in its caller's view.
use Rattle.std.specs.Prelude.{ℕ, List, Result}
use Rattle.packages.specs.Named.{Located, resource_named}
use Rattle.portal_calls.specs.Answer.{thing_at}
use Rattle.portal_calls.specs.declared.answer.Denial.{Denial}
use Rattle.portal_calls.specs.declared.answer.Kind.TheVariants.{Resource}
use Rattle.visibility.specs.CallView.{CallView}

-- the resource
abbrev pub resource_at : List ℕ → CallView → Result Located Denial
resource_at key view = thing_at key view.call.request.body Resource (resource_named view.datasets)
