use Rattle.std.proofs.Common.{◌≡◌, arith, IfOk, List, ℕ, take, ap, subst, ◌∙◌, pos, ◌*ℤ◌}
use Rattle.std.proofs.lemmas.Int.{ints}
use Rattle.table_schema.proofs.PrintLemmas.{date-cut, moment-boundary}
use Rattle.table_schema.proofs.print.date_text.Goals as goal

pub split_at-requires : goal.split_at-requires
split_at-requires c =
    rw c.as_str.ensures (moment-boundary c.in_ok-text.text _ 10 c.in_ok-text.ensures.back (omega arith))

pub returns : goal.returns
returns c =
    let made = rw c.unwrap-moment.ensures at c.from_seconds.ensures.same in
    let same : c.unwrap-moment.result ≡ c.args.day *ℤ pos 86400 = omega (arith, ints) in
    let cut = c.split_at.ensures.front ∙ ap (take 10) c.as_str.ensures ∙ date-cut c.args.day c.unwrap-moment.result
    c.in_ok-text.text c.requires same c.in_ok-text.ensures.text in
    subst (λ (xs : List ℕ). IfOk c.from_str.result (λ t. t ≡ xs)) cut c.from_str.ensures
