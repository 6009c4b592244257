use Rattle.std.proofs.Common.{rules}
use Rattle.std.proofs.lemmas.Result.{err_from_is_err_and}
use Rattle.std.specs.Prelude.{string_bytes}
use Rattle.std.specs.Str.{chars}
use Rattle.ntriples.specs.Parsing.{quoted}
use Rattle.ntriples.proofs.QuotedLemmas.{quoted_more, quoted_done, quoted_fails, quoted_character_shorter}
use Rattle.ntriples.proofs.quoted.quoted.Goals as goal

pub returns-in_err-next : goal.returns-in_err-next
returns-in_err-next c =
    let p = err_from_is_err_and c.from_residual.result c.from_residual.ensures.1 in
    rw (p.1, p.2)
    (quoted_fails c.args.kind c.in_err-next.field-0.0 (string_bytes c.loop-value.value)
    (chars c.loop-value.rest.now) (quoted c.args.kind (chars c.args.text.now)) c.in_err-next.ensures
    c.loop-value.invariant.1)

pub returns-in-None : goal.returns-in-None
returns-in-None c =
    let e = rw c.in-None.is at c.in_ok-next.ensures in
    rw c.from.ensures
    (quoted_done c.args.kind (string_bytes c.loop-value.value) (chars c.loop-value.rest.now)
    (chars c.in_ok-next.following.now) (quoted c.args.kind (chars c.args.text.now)) e c.loop-value.invariant.1)

pub loop-value-smaller : goal.loop-value-smaller
loop-value-smaller c = quoted_character_shorter c.args.kind (chars c.loop-value.rest.now)
    (c.in_ok-next.next, chars c.in_ok-next.following.now) c.in_ok-next.ensures

pub loop-value-preserved : goal.loop-value-preserved
loop-value-preserved c =
    let e = rw c.in-Some.is at c.in_ok-next.ensures in (
      search rules,
      rw c.in_ok-push-in-Some.ensures.bytes
          (quoted_more c.args.kind (string_bytes c.loop-value.value) (chars c.loop-value.rest.now) c.in-Some.character
          (chars c.in_ok-next.following.now) (quoted c.args.kind (chars c.args.text.now)) e c.loop-value.invariant.1),
    )
