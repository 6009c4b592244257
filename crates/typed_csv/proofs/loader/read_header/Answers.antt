use Rattle.std.proofs.Common.{ap, Ok}
use Rattle.csv.specs.Records.{fields_of}
use Rattle.typed_csv.proofs.LoaderLemmas.{layout_given, layout_refused, no_text_header}
use Rattle.typed_csv.proofs.loader.read_header.Goals as goal

pub returns-in-Record-clause-header : goal.returns-in-Record-clause-header
returns-in-Record-clause-header g c =
    layout_given c.args.fields.now (fields_of c.next.new.row) c.layout_of.result
    (c.in_ok-next.ensures.text (ap Ok c.in-Record.is)) c.layout_of.ensures.layout

pub returns-in-Record-clause-cause : goal.returns-in-Record-clause-cause
returns-in-Record-clause-cause g c =
    layout_refused c.args.fields.now (fields_of c.next.new.row) c.layout_of.result
    (c.in_ok-next.ensures.text (ap Ok c.in-Record.is)) c.layout_of.ensures.layout

pub returns-in-NotText-clause-cause : goal.returns-in-NotText-clause-cause
returns-in-NotText-clause-cause g c = no_text_header c.args.fields.now
