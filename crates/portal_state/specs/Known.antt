-- Callers as a portal knows them. A caller whom no user of the portal has is nobody.
use Rattle.std.specs.Prelude.{Bool, true, if◌then◌else◌}
use Rattle.portal_base.specs.declared.caller.Caller.{Caller}
use Rattle.portal_base.specs.declared.caller.Caller.TheVariants.{Anonymous, Named}
use Rattle.org_roles.specs.PeopleLists.{PeopleLists, is_user_in}
use Rattle.portal_calls.specs.declared.call.Call.{Call}

-- the caller is nobody, or a user
abbrev pub is_known : PeopleLists → Caller → Bool
is_known people Anonymous = true
is_known people (Named user) = is_user_in people user

-- the caller, if it is a user of the portal, else the anonymous caller
abbrev pub known_caller : PeopleLists → Caller → Caller
known_caller people caller = if is_known people caller then caller else Anonymous

-- the call, by its caller as the portal knows it
abbrev pub known_call : PeopleLists → Call → Call
known_call people call = record call { caller = known_caller people call.caller }
