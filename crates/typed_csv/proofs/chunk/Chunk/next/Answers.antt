use Rattle.std.proofs.Common.{◌≡◌, true, Some, ◌∙◌, sym, refl}
use Rattle.std.specs.Io.Cursor.{cursor_remaining}
use Rattle.csv.specs.Reading.{has_failed, pending_of, reader_state}
use Rattle.csv.specs.Records.{fields_of}
use Rattle.typed_csv.specs.Chunk.{records_left}
use Rattle.typed_csv.proofs.ChunkLemmas.{going, is_text-from_AllText, no_text, nothing-left, record-took}
use Rattle.typed_csv.proofs.ChunkLemmas.{source-checked}
use Rattle.typed_csv.proofs.chunk.Chunk.next.Goals as goal

pub returns-in-Ok-true-clause-took : goal.returns-in-Ok-true-clause-took
returns-in-Ok-true-clause-took c = λ same.
    let h = c.in-Ok-true.ensures in
    let goes : has_failed c.self.inside.reader ≡ true
    → ⊥ = λ f. let e = h.failed f in let d = c.in-Ok-true.field-0-test in cc in
    let g = going c.self.inside.reader c.self.invariant goes in
    let read = rw c.in-Ok-true.field-0-test at (h.reads g.0 g.1) in
    sym c.self.view_is
    ∙ record-took (cursor_remaining (λ v. Some v.items)) c.self.inside.reader c.read_record.new.self _
    (fields_of c.read_record.new.row) goes g.3 refl read.0
    ∙ rw (source-checked (cursor_remaining (λ v. Some v.items)) c.read_record.new.self read.1) refl

pub returns-in-Ok-true-clause-text : goal.returns-in-Ok-true-clause-text
returns-in-Ok-true-clause-text c = λ same.
    let h = c.in-Ok-true.ensures in
    let goes : has_failed c.self.inside.reader ≡ true
    → ⊥ = λ f. let e = h.failed f in let d = c.in-Ok-true.field-0-test in cc in
    let g = going c.self.inside.reader c.self.invariant goes in
    is_text-from_AllText (fields_of c.read_record.new.row) (h.text g.0)

pub returns-in-Ok-false-clause-end : goal.returns-in-Ok-false-clause-end
returns-in-Ok-false-clause-end c = λ same.
    let h = c.in-Ok-false.ensures in
    sym c.self.view_is
    ∙ nothing-left (cursor_remaining (λ v. Some v.items)) c.self.inside.reader c.read_record.new.self _
    (fields_of c.read_record.new.row) c.self.invariant refl
    (λ t r. (rw c.in-Ok-false.field-0-test at (h.reads t r)).0)

pub returns-in-Utf8-clause-bytes : goal.returns-in-Utf8-clause-bytes
returns-in-Utf8-clause-bytes c = λ same.
    let h = c.in-Err.ensures in
    let goes : has_failed c.self.inside.reader ≡ true → ⊥ = λ f. let e = h.failed f in cc in
    let g = going c.self.inside.reader c.self.invariant goes in
    let why = rw (sym c.kind.ensures ∙ c.in-Utf8.is) at (h.why g.0 g.1) in (
      why.1,
      records_left (reader_state c.read_record.new.self)
          (pending_of (cursor_remaining (λ v. Some v.items) c.read_record.new.self.rdr) c.read_record.new.self),
      sym c.self.view_is
          ∙ record-took (cursor_remaining (λ v. Some v.items)) c.self.inside.reader c.read_record.new.self _ why.1
          goes g.3 refl why.2,
      no_text why.1 why.3,
    )
