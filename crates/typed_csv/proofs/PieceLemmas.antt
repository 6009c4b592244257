-- The kept part of the bytes has the records of all of them.
use Rattle.std.proofs.Common.{◌≡◌, ◌≤◌, ◌+◌, ◌-◌, ℕ, Bool, true, false, List, [], ◌++◌, length, take, drop, refl, sym}
use Rattle.std.proofs.Common.{ap, subst, ◌∙◌, arith, append_assoc, true≢false}
use Rattle.std.specs.Prelude.{Option, Some, None, Result, Ok, Err, OnOk}
use Rattle.std.proofs.Math.Seq.{take-add, take-length}
use Rattle.std.proofs.lemmas.List.{drop-drop, take_rest, take-append-drop}
use Rattle.csv.specs.Reading.{default_config, records, strip_bom}
use Rattle.typed_csv.specs.Pieces.{Kept, IsScanned, records_with}
use Rattle.typed_csv.specs.Positions.{IsIncomplete, IsLastStart, has_start, position_after}
use Rattle.typed_csv.specs.declared.scan.Position.{Position}
use Rattle.typed_csv.specs.declared.scan.Position.TheVariants.{RecordStart}
use Rattle.typed_csv.proofs.PositionLemmas.{has_start-append, position_after-append, records-cut, strip_bom-append}

-- ---- the scanned part of the held bytes

-- the position after some of the bytes that follow a position
pub position_after-part : (held : List ℕ) (n count : ℕ) (at : Position) → at ≡ position_after RecordStart (take n held)
    → position_after at (take count (drop n held)) ≡ position_after RecordStart (take (n + count) held)
position_after-part held n count at e =
    ap (λ p. position_after p (take count (drop n held))) e
    ∙ sym (position_after-append RecordStart (take n held) (take count (drop n held)))
    ∙ sym (ap (position_after RecordStart) (take-add n count held))

-- the position after all of them
pub position_after-rest : (held : List ℕ) (n : ℕ) (at : Position) → at ≡ position_after RecordStart (take n held)
    → position_after at (drop n held) ≡ position_after RecordStart held
position_after-rest held n at e =
    ap (λ p. position_after p (drop n held)) e ∙ sym (position_after-append RecordStart (take n held) (drop n held))
    ∙ ap (position_after RecordStart) (take-append-drop n held)

pub IsScanned-all : (held : List ℕ) (n : ℕ) (at : Position) (is_fresh : Bool) → n ≡ length held → is_fresh ≡ false
    → at ≡ position_after RecordStart held → has_start RecordStart held ≡ false → IsScanned held n at is_fresh
IsScanned-all held n at is_fresh e f p none = record {
  within = omega arith;
  at_position = p ∙ ap (position_after RecordStart) (sym (take-length held) ∙ ap (λ m. take m held) (sym e));
  none = ap (has_start RecordStart) (ap (λ m. take m held) e ∙ take-length held) ∙ none;
  fresh = λ fresh. absurd (true≢false (sym fresh ∙ f));
}

-- the position after the remaining bytes, if a record starts with them
pub position_after-left : (held : List ℕ) (end : ℕ) → position_after RecordStart (take end held) ≡ RecordStart
    → position_after RecordStart held ≡ position_after RecordStart (drop end held)
position_after-left held end e = sym (position_after-rest held end RecordStart (sym e))

-- ---- the records of the kept part

-- The bytes before the start of a record were read as complete records.
pub records_with-split : (old new : Kept) (end : ℕ) → old.ready ≡ [] → old.is_fresh ≡ false → new.is_fresh ≡ false
    → position_after RecordStart (take end old.held) ≡ RecordStart
    → new.ready ≡ records default_config (take end old.held)
    → new.held ≡ drop end old.held → (rest : List ℕ) → records_with new rest ≡ records_with old rest
records_with-split old new end none stale still e ready held rest =
    let whole : take end old.held ++ (drop end old.held ++ rest) ≡ old.held ++ rest =
    sym (append_assoc (take end old.held) (drop end old.held) rest)
    ∙ ap (λ v. v ++ rest) (take-append-drop end old.held) in
    rw (none, stale, still, ready, held)
    (sym (records-cut (take end old.held) (drop end old.held ++ rest) e) ∙ ap (records default_config) whole)

-- A piece was appended to the held bytes.
pub records_with-extend : (old new : Kept) (piece : List ℕ) → new.ready ≡ old.ready → new.is_fresh ≡ old.is_fresh
    → new.held ≡ old.held ++ piece → (rest : List ℕ) → records_with new rest ≡ records_with old (piece ++ rest)
records_with-extend old new piece ready fresh held rest = rw (ready, fresh, held, append_assoc) refl

-- A byte order mark was dropped.
pub records_with-strip : (old new : Kept) → 3 ≤ length old.held → new.ready ≡ old.ready → old.is_fresh ≡ true
    → new.is_fresh ≡ false → new.held ≡ strip_bom old.held → (rest : List ℕ)
    → records_with new rest ≡ records_with old rest
records_with-strip old new enough ready fresh stale held rest =
    rw (ready, fresh, stale, held)
    (ap (λ v. old.ready ++ records default_config v) (sym (strip_bom-append old.held rest enough)))

pub OnOk-map : {T E : Type 0} (r : Result T E) {P Q : Type 0} → (P → Q) → OnOk r P → OnOk r Q
OnOk-map (Ok x) f p = f p
OnOk-map (Err e) f p = p

-- ---- the result of a scan of the bytes that weren't scanned yet

pub scanned_position : (held bytes : List ℕ) (n : ℕ) (at next : Position) → bytes ≡ held
    → at ≡ position_after RecordStart (take n held)
    → next ≡ position_after at (take (length bytes - n) (drop n bytes)) → next ≡ position_after RecordStart held
scanned_position held bytes n at next e at_position p =
    p ∙ ap (position_after at) (take_rest bytes n ∙ ap (drop n) e) ∙ position_after-rest held n at at_position

-- The bytes of this scan are those after the bytes that were scanned before.
last-rest : (held bytes : List ℕ) (n : ℕ) (at : Position) (records_end now : Option ℕ) → bytes ≡ held
    → records_end ≡ now
    → IsLastStart at (take (length bytes - n) (drop n bytes)) records_end → IsLastStart at (drop n held) now
last-rest held bytes n at records_end now e is last =
    subst (IsLastStart at (drop n held)) is
    (subst (λ (rest : List ℕ). IsLastStart at rest records_end) (take_rest bytes n ∙ ap (drop n) e) last)

pub scanned_records_end : (held bytes : List ℕ) (n count : ℕ) (at : Position) (records_end : Option ℕ) → bytes ≡ held
    → at ≡ position_after RecordStart (take n held)
    → IsLastStart at (take (length bytes - n) (drop n bytes)) records_end → records_end ≡ Some count
    → position_after RecordStart (take (n + count) held) ≡ RecordStart
scanned_records_end held bytes n count at records_end e at_position last is =
    sym (position_after-part held n count at at_position)
    ∙ (last-rest held bytes n at records_end (Some count) e is last).1

-- No position between two records comes after the last one.
pub scanned_last : (held bytes : List ℕ) (n count : ℕ) (at : Position) (records_end : Option ℕ) → bytes ≡ held
    → IsLastStart at (take (length bytes - n) (drop n bytes)) records_end → records_end ≡ Some count
    → has_start RecordStart (drop (n + count) held) ≡ false
scanned_last held bytes n count at records_end e last is =
    ap (has_start RecordStart) (sym (drop-drop count n held))
    ∙ (last-rest held bytes n at records_end (Some count) e is last).2

pub is_incomplete : (is_fresh : Bool) (held : List ℕ) → is_fresh ≡ false → has_start RecordStart held ≡ false
    → IsIncomplete is_fresh held
is_incomplete true held stale none = cc
is_incomplete false held stale none = none

-- If no end was found, all bytes belong to one record.
pub scanned_none : (held bytes : List ℕ) (n : ℕ) (at : Position) (records_end : Option ℕ) → bytes ≡ held
    → at ≡ position_after RecordStart (take n held) → has_start RecordStart (take n held) ≡ false
    → IsLastStart at (take (length bytes - n) (drop n bytes)) records_end → records_end ≡ None
    → has_start RecordStart held ≡ false
scanned_none held bytes n at records_end e at_position none last is =
    ap (has_start RecordStart) (sym (take-append-drop n held))
    ∙ has_start-append RecordStart (take n held) (drop n held) none
    ∙ ap (λ p. has_start p (drop n held)) (sym at_position) ∙ last-rest held bytes n at records_end None e is last
