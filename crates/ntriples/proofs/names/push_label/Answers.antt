use Rattle.std.proofs.Common.{rules, ap, sym, ◌∙◌}
use Rattle.std.specs.Prelude.{string_bytes}
use Rattle.std.specs.Str.{chars}
use Rattle.ntriples.specs.Reading.{onto}
use Rattle.ntriples.specs.Parsing.{label_rest, begins_in}
use Rattle.ntriples.specs.declared.names.Class.TheVariants.{Label}
use Rattle.ntriples.proofs.NameLemmas.{label_more, label_done, label_shorter}
use Rattle.ntriples.proofs.names.push_label.Goals as goal

pub loop-character-smaller : goal.loop-character-smaller
loop-character-smaller c = label_shorter (chars c.loop-character.rest.now) c.in-Some.character
    (chars c.in-Some.following.now) (sym c.skip.ensures ∙ c.in-Some.ensures.parts)

pub loop-character-preserved : goal.loop-character-preserved
loop-character-preserved c = (
  search rules,
  rw c.in_ok-push-2.ensures.bytes
      (label_more (string_bytes c.loop-character.value) (chars c.loop-character.rest.now)
      (string_bytes c.push.new.value) (chars c.in_ok-push.field-0.now) c.in-Some.character
      (chars c.in-Some.following.now) (onto (string_bytes c.args.value.now) (label_rest (chars c.args.text.now)))
      (sym c.skip.ensures ∙ c.in-Some.ensures.parts) c.in-Some.ensures.some c.in_ok-push.ensures
      c.loop-character.invariant.1),
)

pub returns : goal.returns
returns c = label_done (string_bytes c.loop-character.value) (chars c.loop-character.rest.now)
    (onto (string_bytes c.args.value.now) (label_rest (chars c.args.text.now)))
    (ap (begins_in Label) (sym c.skip.ensures) ∙ c.in_default.ensures.none) c.loop-character.invariant.1
