use Rattle.std.proofs.Common.{rules}
use Rattle.std.specs.Prelude.{string_bytes}
use Rattle.std.specs.Str.{chars}
use Rattle.ntriples.specs.Reading.{onto}
use Rattle.ntriples.specs.Parsing.{run}
use Rattle.ntriples.proofs.NameLemmas.{run_more, run_done}
use Rattle.ntriples.proofs.names.Class.push.Goals as goal

pub loop-character-preserved : goal.loop-character-preserved
loop-character-preserved c = (
  search rules,
  rw c.in_ok-push.ensures.bytes
      (run_more c.args.self (string_bytes c.loop-character.value) (chars c.loop-character.rest.now)
      c.in-Some.character (chars c.in-Some.following.now)
      (onto (string_bytes c.args.value.now) (run c.args.self (chars c.args.text.now))) c.in-Some.ensures.some
      c.in-Some.ensures.parts c.loop-character.invariant.1),
)

pub returns : goal.returns
returns c = run_done c.args.self (string_bytes c.loop-character.value) (chars c.loop-character.rest.now)
    (onto (string_bytes c.args.value.now) (run c.args.self (chars c.args.text.now))) c.in_default.ensures.none
    c.loop-character.invariant.1
