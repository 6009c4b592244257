use Rattle.std.proofs.Common.{◌+◌, ◌++◌, ◌∷◌, [], arith, length}
use Rattle.portal_base.specs.Json.{json_text}
use Rattle.row_inserts.specs.Inserts.{insert_size}
use Rattle.row_inserts.proofs.PieceLemmas.{part_large, size_first, size_next, sum_is, sum_large}
use Rattle.row_inserts.proofs.piece.Piece.size_with.Goals as goal

pub returns-then-is_empty-clause-size : goal.returns-then-is_empty-clause-size
returns-then-is_empty-clause-size c =
    let p = c.self.inside in
    let total = insert_size c.args.self.now.resource (c.args.self.now.records ++ c.args.added.now ∷ []) in
    let is = size_first c.args.self.now p.resource p.records c.args.added.now p.size c.is_empty.result c.self.view_is
    c.self.invariant.with_records c.is_empty.ensures c.if-is_empty.true in
    sum_is c.checked_add.result (p.size + c.size.result) total c.checked_add.ensures (omega (arith, c.size.ensures))

pub returns-then-is_empty-clause-large : goal.returns-then-is_empty-clause-large
returns-then-is_empty-clause-large c = λ none.
    let p = c.self.inside in
    let total = insert_size c.args.self.now.resource (c.args.self.now.records ++ c.args.added.now ∷ []) in
    let is = size_first c.args.self.now p.resource p.records c.args.added.now p.size c.is_empty.result c.self.view_is
    c.self.invariant.with_records c.is_empty.ensures c.if-is_empty.true in
    sum_large c.checked_add.result (p.size + c.size.result) total c.checked_add.ensures (omega (arith, c.size.ensures))
    none

pub returns-in_err-checked_add-clause-large : goal.returns-in_err-checked_add-clause-large
returns-in_err-checked_add-clause-large c = λ none.
    let p = c.self.inside in
    let total = insert_size c.args.self.now.resource (c.args.self.now.records ++ c.args.added.now ∷ []) in
    part_large p.size (length (json_text c.args.added.now)) total c.in_err-checked_add.ensures
    (size_next c.args.self.now p.resource p.records c.args.added.now p.size c.is_empty.result c.self.view_is
    c.self.invariant.with_records c.is_empty.ensures c.if-is_empty.false)

pub returns-in_ok-checked_add-clause-size : goal.returns-in_ok-checked_add-clause-size
returns-in_ok-checked_add-clause-size c =
    let p = c.self.inside in
    let total = insert_size c.args.self.now.resource (c.args.self.now.records ++ c.args.added.now ∷ []) in
    let is = size_next c.args.self.now p.resource p.records c.args.added.now p.size c.is_empty.result c.self.view_is
    c.self.invariant.with_records c.is_empty.ensures c.if-is_empty.false in
    sum_is c.checked_add-else-is_empty-2.result (c.in_ok-checked_add.field-0 + c.size-else-is_empty.result) total
    c.checked_add-else-is_empty-2.ensures (omega (arith, c.in_ok-checked_add.ensures.1, c.size-else-is_empty.ensures))

pub returns-in_ok-checked_add-clause-large : goal.returns-in_ok-checked_add-clause-large
returns-in_ok-checked_add-clause-large c = λ none.
    let p = c.self.inside in
    let total = insert_size c.args.self.now.resource (c.args.self.now.records ++ c.args.added.now ∷ []) in
    let is = size_next c.args.self.now p.resource p.records c.args.added.now p.size c.is_empty.result c.self.view_is
    c.self.invariant.with_records c.is_empty.ensures c.if-is_empty.false in
    sum_large c.checked_add-else-is_empty-2.result (c.in_ok-checked_add.field-0 + c.size-else-is_empty.result) total
    c.checked_add-else-is_empty-2.ensures (omega (arith, c.in_ok-checked_add.ensures.1, c.size-else-is_empty.ensures))
    none
