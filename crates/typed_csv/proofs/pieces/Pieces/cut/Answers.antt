use Rattle.std.proofs.Common.{◌∙◌, ap, sym, take, length}
use Rattle.typed_csv.specs.Pieces.{Kept}
use Rattle.typed_csv.specs.Positions.{position_after}
use Rattle.typed_csv.specs.declared.scan.Position.TheVariants.{RecordStart}
use Rattle.typed_csv.proofs.PieceLemmas.{IsScanned-all, is_incomplete, scanned_last, scanned_none, scanned_position}
use Rattle.typed_csv.proofs.PieceLemmas.{scanned_records_end}
use Rattle.typed_csv.proofs.pieces.Pieces.cut.Goals as goal

pub invariant_of-self : goal.invariant_of-self
invariant_of-self c =
    IsScanned-all c.self.inside.held.items c.len-self-inside.result c.scan-scanned.result.position
    c.self.inside.is_fresh
    (c.len-self-inside.ensures ∙ sym c.deref.ensures.len ∙ ap length c.deref.ensures.value)
    (ap (λ (k : Kept). k.is_fresh) c.self.view_is ∙ c.requires.fresh)
    (scanned_position c.self.inside.held.items c.deref.result.now c.self.inside.scanned c.self.inside.position
    c.scan-scanned.result.position
    c.deref.ensures.value c.self.invariant.at_position c.scan-scanned.ensures.position)
    (scanned_none c.self.inside.held.items c.deref.result.now c.self.inside.scanned c.self.inside.position
    c.scan-scanned.result.records_end
    c.deref.ensures.value c.self.invariant.at_position c.self.invariant.none c.scan-scanned.ensures.records_end
    c.in-None.is)

pub split-requires-clause-last : goal.split-requires-clause-last
split-requires-clause-last c =
    scanned_last c.args.self.now.held c.deref.result.now c.self.inside.scanned c.in-Some.count c.self.inside.position
    c.scan-scanned.result.records_end
    (c.deref.ensures.value ∙ ap (λ (k : Kept). k.held) c.self.view_is) c.scan-scanned.ensures.records_end c.in-Some.is

pub split-requires-clause-ends : goal.split-requires-clause-ends
split-requires-clause-ends c =
    scanned_records_end c.args.self.now.held c.deref.result.now c.self.inside.scanned c.in-Some.count
    c.self.inside.position
    c.scan-scanned.result.records_end
    (c.deref.ensures.value ∙ ap (λ (k : Kept). k.held) c.self.view_is)
    (c.self.invariant.at_position ∙ ap (λ (k : Kept). position_after RecordStart (take c.self.inside.scanned k.held))
    c.self.view_is)
    c.scan-scanned.ensures.records_end c.in-Some.is

pub split-requires-clause-position : goal.split-requires-clause-position
split-requires-clause-position c =
    scanned_position c.args.self.now.held c.deref.result.now c.self.inside.scanned c.self.inside.position
    c.scan-scanned.result.position
    (c.deref.ensures.value ∙ ap (λ (k : Kept). k.held) c.self.view_is)
    (c.self.invariant.at_position ∙ ap (λ (k : Kept). position_after RecordStart (take c.self.inside.scanned k.held))
    c.self.view_is)
    c.scan-scanned.ensures.position

pub returns-in-None-clause-held : goal.returns-in-None-clause-held
returns-in-None-clause-held c =
    is_incomplete c.self.inside.is_fresh c.self.inside.held.items
    (ap (λ (k : Kept). k.is_fresh) c.self.view_is ∙ c.requires.fresh)
    (scanned_none c.self.inside.held.items c.deref.result.now c.self.inside.scanned c.self.inside.position
    c.scan-scanned.result.records_end
    c.deref.ensures.value c.self.invariant.at_position c.self.invariant.none c.scan-scanned.ensures.records_end
    c.in-None.is)
