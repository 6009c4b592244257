-- The values of types that borrow.
use Rattle.portal_serve.specs.Script as script
use Rattle.portal_serve.specs.declared.script.ScriptCall.{ScriptCall}
use Rattle.portal_serve.specs.declared.script.ScriptLine.{ScriptLine}
use Rattle.portal_serve.specs.declared.script.ScriptLine.TheVariants.{Call, Round}

-- the call that a line asks for
abbrev pub script_call : ScriptCall → script.ScriptCall
script_call c = record { caller = c.caller; action = c.action; body = c.body }

-- what a line asks for
abbrev pub script_line : ScriptLine → script.ScriptLine
script_line (Call call) = script.Call (script_call call)
script_line (Round workers) = script.Round workers
