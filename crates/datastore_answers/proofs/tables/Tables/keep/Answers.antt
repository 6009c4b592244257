use Rattle.std.proofs.Common.{◌≡◌, ◌∙◌, ◌+◌, ◌-◌, map, ap, sym, subst, arith}
use Rattle.portal_base.specs.Ordered.{IsAscending}
use Rattle.portal_base.proofs.Filtered.{IsAscending-filter}
use Rattle.datastore_answers.specs.Linked.{AreLinked}
use Rattle.datastore_answers.specs.Order.{table_cmp}
use Rattle.datastore_answers.specs.Tables.{Stored, without_room, tables_kept, tables_of}
use Rattle.datastore_answers.proofs.DropLemmas.{stays}
use Rattle.datastore_answers.proofs.RangeLemmas.{IsKeptFrom, from_index, keep-begin, keep-end, kept_without_room}
use Rattle.datastore_answers.proofs.RangeLemmas.{kept_from}
use Rattle.datastore_answers.proofs.RangeLemmas.{kept_one, removed_one}
use Rattle.datastore_answers.proofs.tables.Tables.keep.Goals as goal
use Rattle.datastore_answers.proofs.tables.Tables.keep.Goals.{In-loop-at}

-- The tables after the visit of those from this index on.
kept_so_far : (c : In-loop-at) → IsKeptFrom c.args.dataset.now c.args.resources.now c.self.inside.tables.items
    c.loop-at.self-inside.tables.items (c.loop-at.at - 1)
kept_so_far c =
    let ts = c.self.inside.tables.items in
    let us = c.loop-at.self-inside.tables.items in
    let from_is = rw c.as_slice.ensures.value at c.find_range-from.ensures.from in
    let to_is = rw c.as_slice.ensures.value at c.find_range-from.ensures.to in
    let within = rw c.as_slice.ensures.value at c.find_range-from.ensures.within in
    let step : c.loop-at.at ≡ c.loop-at.at - 1 + 1 = omega arith in
    record {
      up = c.self.invariant.0;
      from = omega (arith, from_is);
      to = omega (arith, to_is);
      within = omega (arith, within);
      kept = subst (λ n. us ≡ kept_from (stays c.args.dataset.now c.args.resources.now) n ts) step
          c.loop-at.invariant.1;
    }

pub loop-at-init : goal.loop-at-init
loop-at-init c =
    let ts = c.self.inside.tables.items in (
      c.find_range-from.ensures.ordered,
      subst (λ n. ts ≡ kept_from (stays c.args.dataset.now c.args.resources.now) n ts)
          (sym (rw c.as_slice.ensures.value at c.find_range-from.ensures.to))
          (keep-begin c.args.dataset.now c.args.resources.now ts c.self.invariant.0),
    )

pub loop-at-preserved-then-not-is_among : goal.loop-at-preserved-then-not-is_among
loop-at-preserved-then-not-is_among c = (
  omega arith,
  c.remove.ensures.by_index.2
      ∙ removed_one c.args.dataset.now c.args.resources.now c.self.inside.tables.items
      c.loop-at.self-inside.tables.items (c.loop-at.at - 1) c.index.result.now
      (kept_so_far (goal.at.loop-at-preserved-then-not-is_among c).In-loop-at) c.index.ensures
      (sym c.is_among.ensures ∙ c.if-not-is_among.true),
)

pub loop-at-preserved : goal.loop-at-preserved
loop-at-preserved c = (
  omega arith,
  kept_one c.args.dataset.now c.args.resources.now c.self.inside.tables.items
      c.loop-at.self-inside.tables.items (c.loop-at.at - 1) c.index.result.now
      (kept_so_far (goal.at.loop-at-preserved c).In-loop-at) c.index.ensures
      (sym c.is_among.ensures ∙ c.if-not-is_among.false),
)

pub invariant_of-self : goal.invariant_of-self
invariant_of-self c =
    let left = c.loop-at.self-inside.tables.items in
    let ts = c.self.inside.tables.items in
    let ds = c.args.dataset.now in
    let rs = c.args.resources.now in
    let done : c.loop-at.at ≡ from_index ds ts =
    let is = rw c.as_slice.ensures.value at c.find_range-from.ensures.from in
    omega (arith, is) in
    let kept : left ≡ tables_kept ds rs ts =
    c.loop-at.invariant.1 ∙ ap (λ n. kept_from (stays ds rs) n ts) done ∙ keep-end ds rs ts in (
      subst (IsAscending table_cmp) (sym kept) (IsAscending-filter table_cmp (stays ds rs) ts c.self.invariant.0),
      subst AreLinked
          (sym (ap (map without_room) kept ∙ kept_without_room ds rs ts
          ∙ ap (λ (s : Stored). tables_kept ds rs (tables_of s)) c.self.view_is))
          c.requires.linked,
    )

pub returns : goal.returns
returns c =
    let ts = c.self.inside.tables.items in
    let ds = c.args.dataset.now in
    let rs = c.args.resources.now in
    let done : c.loop-at.at ≡ from_index ds ts =
    let is = rw c.as_slice.ensures.value at c.find_range-from.ensures.from in
    omega (arith, is) in
    ap (map without_room) (c.loop-at.invariant.1 ∙ ap (λ n. kept_from (stays ds rs) n ts) done ∙ keep-end ds rs ts)
    ∙ kept_without_room ds rs ts
    ∙ ap (λ (s : Stored). tables_kept ds rs (tables_of s)) c.self.view_is
