use Rattle.std.proofs.Common.{ap, sym, ◌∙◌, take, ◌∷◌}
use Rattle.ntriples.specs.ParsedLines.{lines_after, after_end}
use Rattle.ntriples.proofs.DocumentLemmas.{lines_cut}
use Rattle.ntriples.proofs.document.split_line.Goals as goal

pub returns-clause-cut : goal.returns-clause-cut
returns-clause-cut c =
    rw (c.split_at.ensures.front, c.after_end.ensures)
    (lines_cut c.args.bytes.now c.line_len.result c.line_len.ensures.within c.line_len.ensures.before
    c.line_len.ensures.found
    ∙ ap (λ rest. take c.line_len.result c.args.bytes.now ∷ lines_after (after_end rest)) (sym c.split_at.ensures.back))
