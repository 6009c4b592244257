use Rattle.std.proofs.Common.{rules}
use Rattle.std.proofs.lemmas.Result.{err_from_is_err_and}
use Rattle.std.specs.Prelude.{string_bytes}
use Rattle.std.specs.Str.{chars}
use Rattle.ntriples.specs.Reading.{prepended}
use Rattle.ntriples.specs.Parsing.{subtags_from}
use Rattle.ntriples.proofs.NameLemmas.{loop_more, loop_shorter, loop_fails, subtags_done}
use Rattle.ntriples.proofs.names.push_subtags.Goals as goal

pub returns-in_err-rest : goal.returns-in_err-rest
returns-in_err-rest c =
    let p = err_from_is_err_and c.from_residual-in_err-rest.result c.from_residual-in_err-rest.ensures.1 in
    rw (p.1, p.2)
    (loop_fails (string_bytes c.loop-following.value) (string_bytes c.push.new.self) (chars c.loop-following.rest.now)
    (chars c.in-Some.following.now) c.in-Some.ensures.some c.in_ok-push.ensures.bytes
    c.in_err-rest.field-0.0 (prepended (string_bytes c.args.value.now) (subtags_from 0 (chars c.args.text.now)))
    c.in_err-rest.ensures c.loop-following.invariant.1)

pub loop-following-smaller : goal.loop-following-smaller
loop-following-smaller c =
    loop_shorter (string_bytes c.loop-following.value) (string_bytes c.push.new.self) (chars c.loop-following.rest.now)
    (chars c.in-Some.following.now) c.in-Some.ensures.some c.in_ok-push.ensures.bytes
    (string_bytes c.push_part.new.value) (chars c.in_ok-rest.rest.now) c.in_ok-rest.ensures

pub loop-following-preserved : goal.loop-following-preserved
loop-following-preserved c = (
  search rules,
  loop_more (string_bytes c.loop-following.value) (string_bytes c.push.new.self) (chars c.loop-following.rest.now)
      (chars c.in-Some.following.now) c.in-Some.ensures.some c.in_ok-push.ensures.bytes
      (string_bytes c.push_part.new.value) (chars c.in_ok-rest.rest.now)
      (prepended (string_bytes c.args.value.now) (subtags_from 0 (chars c.args.text.now))) c.in_ok-rest.ensures
      c.loop-following.invariant.1,
)

pub returns : goal.returns
returns c = subtags_done (string_bytes c.loop-following.value) (chars c.loop-following.rest.now)
    (prepended (string_bytes c.args.value.now) (subtags_from 0 (chars c.args.text.now))) c.in_default.ensures.none
    c.loop-following.invariant.1
