-- No command has the first word as its name.
use Rattle.std.proofs.Common.{◌≡◌, ◌∙◌, ◌∷◌, ap, map, string_bytes, rules}
use Rattle.portal_words.specs.Commands.{command_of}
use Rattle.portal_words.proofs.NameLemmas.{no_command}
use Rattle.portal_words.proofs.command.Command.read.Goals as goal

pub returns-in_default-as_str-clause-bad : goal.returns-in_default-as_str-clause-bad
returns-in_default-as_str-clause-bad c = λ bad.
    let is : map string_bytes c.args.words.now ≡ c.as_str.result.now ∷ map string_bytes c.in-Some.words.now = search rules in
    ap command_of is ∙ no_command c.as_str.result.now (map string_bytes c.in-Some.words.now)
    c.in_default-as_str.not-play c.in_default-as_str.not-load c.in_default-as_str.not-harvest
    c.in_default-as_str.not-serve c.in_default-as_str.not-report
