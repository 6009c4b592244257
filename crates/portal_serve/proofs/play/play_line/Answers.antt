-- An empty line is no line of the script. A line that asks for nothing writes its fault's line. Whatever stops this,
-- output took some prefix of it.
use Rattle.std.proofs.Common.{◌≡◌, Ok, Err, ap, sym, ◌∙◌, arith}
use Rattle.std.proofs.lemmas.Result.{on_ok_weaker, on_err_weaker}
use Rattle.portal_serve.proofs.Making.{processes_made, stops_begun}
use Rattle.portal_serve.proofs.Working.{processes_standing, stops_standing}
use Rattle.portal_serve.proofs.Working.{processes_early_line, processes_lines, stops_in_writing, stops_before}
use Rattle.portal_links.proofs.Passing.{DrawsAll-same}
use Rattle.portal_serve.proofs.Working.{unless_empty-nil, processes_no_line}
use Rattle.portal_serve.specs.Script.{Call, parsed_line}
use Rattle.portal_serve.specs.Values.{script_call}
use Rattle.portal_serve.proofs.play.play_line.Goals as goal

pub returns-then-is_empty-clause-ok : goal.returns-then-is_empty-clause-ok
returns-then-is_empty-clause-ok g c =
    processes_no_line _ _ _ _ (unless_empty-nil c.args.line.now (sym c.is_empty.ensures ∙ c.if-is_empty.true))

pub returns-in-Err-OutOfMemory-clause-cut : goal.returns-in-Err-OutOfMemory-clause-cut
returns-in-Err-OutOfMemory-clause-cut g c = stops_before _ _ _ _

pub returns-in-Err-clause-ok : goal.returns-in-Err-clause-ok
returns-in-Err-clause-ok g c =
    let is : parsed_line c.args.line.now ≡ Err c.in-Err.early
    = grind (arith, c.in-Err.ensures.fault, c.in-Err.early-is) in
    on_ok_weaker c.write_early.result
    (processes_lines _ _ _ _ _ _ _ _ _
    (processes_early_line _ _ c.args.line.now _ (sym c.is_empty.ensures ∙ c.if-is_empty.false) is)
    (DrawsAll-same _ _ (ap g.C.Clock.given c.write_early.ensures.clock))
    (DrawsAll-same _ _ (ap g.N.Nonces.given c.write_early.ensures.nonces)))
    c.write_early.ensures.ok

pub returns-in-Err-clause-cut : goal.returns-in-Err-clause-cut
returns-in-Err-clause-cut g c =
    let is : parsed_line c.args.line.now ≡ Err c.in-Err.early
    = grind (arith, c.in-Err.ensures.fault, c.in-Err.early-is) in
    on_err_weaker c.write_early.result
    (stops_in_writing _ _ _ _ _ _ _ _ _
    (processes_early_line _ _ c.args.line.now _ (sym c.is_empty.ensures ∙ c.if-is_empty.false) is)
    (DrawsAll-same _ _ (ap g.C.Clock.given c.write_early.ensures.clock))
    (DrawsAll-same _ _ (ap g.N.Nonces.given c.write_early.ensures.nonces)))
    c.write_early.ensures.failed

pub returns-in-Ok-clause-ok : goal.returns-in-Ok-clause-ok
returns-in-Ok-clause-ok g c =
    let is : parsed_line c.args.line.now ≡ Ok (Call (script_call c.in-Ok-Call.call))
    = grind (arith, c.in-Ok-Call.ensures.value, c.in-Ok-Call.field-0-is, c.in-Ok-Call.call-is) in
    processes_standing _ _ c.args.line.now _ _ _ _ (sym c.is_empty.ensures ∙ c.if-is_empty.false)
    (processes_made _ _ c.args.line.now (script_call c.in-Ok-Call.call) _ _ _ _ is c.in-Ok.ensures.made)

pub returns-in-Err-make_call-clause-cut : goal.returns-in-Err-make_call-clause-cut
returns-in-Err-make_call-clause-cut g c =
    let is : parsed_line c.args.line.now ≡ Ok (Call (script_call c.in-Ok-Call.call))
    = grind (arith, c.in-Ok-Call.ensures.value, c.in-Ok-Call.field-0-is, c.in-Ok-Call.call-is) in
    stops_standing _ _ c.args.line.now _ _ _ _ (sym c.is_empty.ensures ∙ c.if-is_empty.false)
    (stops_begun _ _ c.args.line.now (script_call c.in-Ok-Call.call) _ _ _ is c.in-Err-make_call.ensures.begun)
