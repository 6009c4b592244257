use Rattle.std.proofs.Common.{◌∙◌, map, string_bytes, sym}
use Rattle.clap.specs.Words.{app_of}
use Rattle.portal_words.proofs.ReadLemmas.{answers-have, are-words, dashes-say-others, errors-refuse}
use Rattle.portal_words.proofs.options.options_in.Goals as goal

pub returns-then-has_dashes-clause-bad : goal.returns-then-has_dashes-clause-bad
returns-then-has_dashes-clause-bad c = λ _.
    dashes-say-others (map (λ n. n.now) c.args.names.now) (map string_bytes c.args.words.now) c.requires
    (sym c.has_dashes.ensures ∙ c.if-has_dashes.true)

pub returns-in_err-try_get_matches_from-clause-bad :
    goal.returns-in_err-try_get_matches_from-clause-bad
returns-in_err-try_get_matches_from-clause-bad c =
    let parser = c.in_ok-parser.parser in
    errors-refuse (map (λ n. n.now) c.args.names.now) (map string_bytes c.args.words.now) (app_of parser)
    c.in_err-try_get_matches_from.field-0.0 c.from_residual-in_err-try_get_matches_from.result
    (are-words c.args.words.now (sym c.has_dashes.ensures ∙ c.if-has_dashes.false)) c.in_ok-parser.ensures
    c.in_err-try_get_matches_from.ensures.kinds
    c.from_residual-in_err-try_get_matches_from.ensures.1

pub returns-clause-ok : goal.returns-clause-ok
returns-clause-ok c =
    answers-have (map (λ n. n.now) c.args.names.now) (map string_bytes c.args.words.now) (app_of c.in_ok-parser.parser)
    c.in_ok-try_get_matches_from.field-0
    (are-words c.args.words.now (sym c.has_dashes.ensures ∙ c.if-has_dashes.false)) c.in_ok-parser.ensures
    c.in_ok-try_get_matches_from.ensures.kinds c.in_ok-try_get_matches_from.ensures.matches
