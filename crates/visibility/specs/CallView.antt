-- A call with its caller's view of the people and of the datasets. The answer is a function of these, and, if it reads
-- tables, of the caller's view of the tables.
use Rattle.std.specs.Prelude.{List}
use Rattle.portal_base.specs.declared.caller.Caller.{Caller}
use Rattle.org_roles.specs.PeopleLists.{PeopleLists}
use Rattle.packages.specs.declared.package.Package.{Package}
use Rattle.portal_calls.specs.declared.answer.Quota.{Quota}
use Rattle.portal_calls.specs.declared.call.Call.{Call}
use Rattle.visibility.specs.View.{people_seen, datasets_seen}
use Rattle.visibility.specs.Viewer.{people_for, datasets_for}
use Rattle.visibility.specs.declared.context.CallContext.{CallContext}

-- the caller, the call, whether its quota is used up, and the people and the datasets as the caller sees them
pub record CallView : Type 0 where
  pub caller : Caller
  pub call : Call
  pub quota : Quota
  pub people : PeopleLists
  pub datasets : List Package

-- the view that a call's caller has of these people and datasets
abbrev pub call_view : Call → Quota → PeopleLists → List Package → CallView
call_view call quota people datasets = record {
  caller = call.caller;
  call = call;
  quota = quota;
  people = people_seen call.caller people;
  datasets = datasets_seen call.caller people datasets;
}

-- the view that the viewer of a call's context has
abbrev pub context_view : CallContext → CallView
context_view context = record {
  caller = context.viewer.caller;
  call = context.call.now;
  quota = context.quota;
  people = people_for context.viewer;
  datasets = datasets_for context.viewer;
}
