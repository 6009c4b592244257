use Rattle.std.proofs.Common.{◌≡◌, map, drop}
use Rattle.std.specs.Prelude.{fold}
use Rattle.clap.specs.Words.{app_of}
use Rattle.portal_words.specs.Options.{app_with, with_option}
use Rattle.portal_words.proofs.options.parser_with.Given as goal

-- The options so far and those to come are all of them.
abbrev pub invariant-loop-name : goal.invariant-loop-name
invariant-loop-name l =
    fold with_option (app_of l.parser) (map (λ n. n.now) (drop l.name-index l.names))
    ≡ app_with (map (λ n. n.now) l.names)
