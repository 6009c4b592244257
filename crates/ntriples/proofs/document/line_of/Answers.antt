use Rattle.std.proofs.Common.{ap, sym, ◌∙◌, subst}
use Rattle.std.specs.Str.{chars}
use Rattle.ntriples.specs.Reading.{Gives}
use Rattle.ntriples.specs.Parsing.{line}
use Rattle.ntriples.proofs.DocumentLemmas.{line_of_text, line_of_none}
use Rattle.ntriples.proofs.document.line_of.Goals as goal

pub returns-in-Ok : goal.returns-in-Ok
returns-in-Ok c =
    subst (λ read. Gives (λ t. t) c.line.result read)
    (ap (λ v. line (chars v)) c.in-Ok.ensures.cases.0
    ∙ sym (line_of_text c.args.bytes.now c.in-Ok.ensures.cases.1)) c.line.ensures

pub returns-in-Err : goal.returns-in-Err
returns-in-Err c = line_of_none c.args.bytes.now c.in-Err.ensures.cases.0
