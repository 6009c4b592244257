use Rattle.std.proofs.Common.{◌≡◌, arith, IfOk, List, ℕ, drop, ap, subst, ◌∙◌, pos}
use Rattle.std.proofs.lemmas.Int.{ints}
use Rattle.table_schema.proofs.PrintLemmas.{time-cut, moment-boundary}
use Rattle.table_schema.proofs.print.time_text.Goals as goal

pub split_at-requires : goal.split_at-requires
split_at-requires c =
    rw c.as_str.ensures (moment-boundary c.in_ok-text.text _ 11 c.in_ok-text.ensures.back (omega arith))

pub returns : goal.returns
returns c =
    let made = rw c.unwrap-moment.ensures at c.from_seconds.ensures.same in
    let same : c.unwrap-moment.result ≡ pos c.args.second = omega (arith, ints) in
    let cut = c.split_at.ensures.back ∙ ap (drop 11) c.as_str.ensures ∙ time-cut c.args.second c.unwrap-moment.result
    c.in_ok-text.text c.requires same c.in_ok-text.ensures.text in
    subst (λ (xs : List ℕ). IfOk c.from_str.result (λ t. t ≡ xs)) cut c.from_str.ensures
