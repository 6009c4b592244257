-- The item after the lesser ones is the only one that can compare equal.
use Rattle.std.proofs.Common.{◌≡◌, ◌<◌, true, false, ◌&&◌, nat_lt, length, get_or, subst, sym, ◌∙◌, arith}
use Rattle.std.specs.Ordering.{is_eq}
use Rattle.std.proofs.lemmas.Bool.Decides.{nat_tests}
use Rattle.std.proofs.lemmas.List.{get_or_default}
use Rattle.portal_base.proofs.Upserted.{upserted_at, inserted_at, below_count, IsAscending-upserted}
use Rattle.portal_base.specs.Ordered.{IsAscending}
use Rattle.datastore_table.proofs.RowLemmas.{both_hold, not_both}
use Rattle.datastore_table.proofs.rows.put_sorted.Goals as goal

pub returns-then-is_like_at-clause-items : goal.returns-then-is_like_at-clause-items
returns-then-is_like_at-clause-items g c =
    let cmp = g.T.Ordered.order in
    let xs = c.args.items.now.items in
    let x = c.args.item in
    let there = c.index_in-index.result in
    let point : there ≡ below_count cmp x xs = rw c.as_slice.ensures.value at c.index_in-index.ensures.index in
    let both : (nat_lt there (length xs) && is_eq (cmp (get_or xs there x) x)) ≡ true =
    rw c.as_slice-2.ensures.value at (sym c.is_like_at.ensures ∙ c.if-is_like_at.true) in
    let held = both_hold (nat_lt there (length xs)) (is_eq (cmp (get_or xs there x) x)) both in
    let inside : nat_lt there (length xs) ≡ true = held.0 in
    let within : there < length xs = grind (arith, nat_tests) in
    rw c.replace.ensures.after
    (sym (upserted_at cmp g.met.T.Ordered.total x xs c.requires.ascending there point within (get_or xs there x)
    (get_or_default xs there x (get_or xs there x) within) held.1).1)

pub returns-else-is_like_at-clause-items : goal.returns-else-is_like_at-clause-items
returns-else-is_like_at-clause-items g c =
    let cmp = g.T.Ordered.order in
    let xs = c.args.items.now.items in
    let x = c.args.item in
    let there = c.index_in-index.result in
    let point : there ≡ below_count cmp x xs = rw c.as_slice.ensures.value at c.index_in-index.ensures.index in
    let both : (nat_lt there (length xs) && is_eq (cmp (get_or xs there x) x)) ≡ false =
    rw c.as_slice-2.ensures.value at (sym c.is_like_at.ensures ∙ c.if-is_like_at.false) in
    let unlike : there < length xs → is_eq (cmp (get_or xs there x) x) ≡ false =
    λ within. not_both (nat_lt there (length xs)) (is_eq (cmp (get_or xs there x) x)) both
    (grind (arith, nat_tests)) in
    rw (c.insert.ensures.items, c.unwrap.ensures)
    (sym (inserted_at cmp g.met.T.Ordered.total x xs c.requires.ascending there point unlike).1)

pub returns-then-is_like_at-clause-ascending : goal.returns-then-is_like_at-clause-ascending
returns-then-is_like_at-clause-ascending g c =
    subst (IsAscending g.T.Ordered.order) (sym (returns-then-is_like_at-clause-items g c))
    (IsAscending-upserted g.T.Ordered.order g.met.T.Ordered.total c.args.item c.args.items.now.items c.requires.ascending)

pub returns-else-is_like_at-clause-ascending : goal.returns-else-is_like_at-clause-ascending
returns-else-is_like_at-clause-ascending g c =
    subst (IsAscending g.T.Ordered.order) (sym (returns-else-is_like_at-clause-items g c))
    (IsAscending-upserted g.T.Ordered.order g.met.T.Ordered.total c.args.item c.args.items.now.items c.requires.ascending)
