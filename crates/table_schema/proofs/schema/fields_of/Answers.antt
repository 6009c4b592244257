use Rattle.std.proofs.Common.{◌≡◌, ◌==◌, ◌∷◌, [], ◌++◌, ◌∙◌, refl, length, length-append, ap, arith, rules}
use Rattle.std.specs.Arc.{arc_value}
use Rattle.std.specs.List.{list_any}
use Rattle.table_schema.specs.Keys.{field_of}
use Rattle.table_schema.proofs.KeyLemmas.{fields_from-next}
use Rattle.table_schema.proofs.schema.fields_of.Goals as goal

pub loop-column-preserved : goal.loop-column-preserved
loop-column-preserved c =
    let missing = arc_value c.args.missing.now in
    let key = c.args.key.now in
    let before = c.loop-column.fields.items in
    let steps = c.in-Some.ensures.steps in
    let pushed : c.push.new.self.items ≡ before ++ c.of_column.result ∷ [] = c.in_ok-push.ensures.items in
    let len : c.len-in-loop-column.result ≡ length before = search rules in
    let in_key : c.has_index-in_key.result ≡ list_any (λ k. k == length before) key =
    rw (← len) c.has_index-in_key.ensures in
    let shared : arc_value c.in_ok-missing.missing ≡ missing = c.in_ok-missing.ensures in
    let made : c.of_column.result ≡ field_of missing key (length before) c.in-Some.column =
    c.of_column.ensures ∙ (rw shared (rw in_key refl)) in
    record {
      fields_so_far =
          rw pushed
          (rw made (c.loop-column.invariant.fields_so_far
          ∙ (rw steps.0 (fields_from-next missing key before c.in-Some.column c.next.new.self.rest.items))));
      indices = omega (arith, ap length steps.0, simp length-append at (ap length pushed));
    }
