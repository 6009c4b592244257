use Rattle.std.proofs.Common.{◌≡◌, ◌∙◌, ap, sym, take, drop, length}
use Rattle.csv.specs.Reading.{default_config, records}
use Rattle.typed_csv.specs.Pieces.{Kept}
use Rattle.typed_csv.specs.Positions.{has_start, position_after}
use Rattle.typed_csv.specs.declared.scan.Position.TheVariants.{RecordStart}
use Rattle.typed_csv.proofs.PieceLemmas.{IsScanned-all, position_after-left, records_with-split}
use Rattle.typed_csv.proofs.pieces.Pieces.split.Goals as goal

held : (c : goal.After-self-3-1) → c.deref.result.now ≡ c.args.self.now.held
held c = c.deref.ensures.value ∙ ap (λ (k : Kept). k.held) c.self.view_is

rest : (c : goal.After-self-3-1) → c.in_ok-rest.rest.items ≡ drop c.args.end c.args.self.now.held
rest c = c.in_ok-rest.ensures.items ∙ c.split_at.ensures.back ∙ ap (drop c.args.end) (held c)

pub invariant_of-self : goal.invariant_of-self
invariant_of-self c =
    IsScanned-all c.in_ok-rest.rest.items c.len-self-inside.result c.args.position c.self.inside.is_fresh
    (c.len-self-inside.ensures ∙ c.in_ok-rest.ensures.len ∙ ap length (sym c.in_ok-rest.ensures.items))
    (ap (λ (k : Kept). k.is_fresh) c.self.view_is ∙ c.requires.fresh)
    (c.requires.position ∙ position_after-left c.args.self.now.held c.args.end c.requires.ends
    ∙ ap (position_after RecordStart) (sym (rest c)))
    (ap (has_start RecordStart) (rest c) ∙ c.requires.last)

pub returns-clause-records : goal.returns-clause-records
returns-clause-records c =
    records_with-split c.args.self.now _ c.args.end c.requires.ready c.requires.fresh
    (ap (λ (k : Kept). k.is_fresh) c.self.view_is ∙ c.requires.fresh) c.requires.ends
    (c.in_ok-new.ensures ∙ ap (records default_config) (c.split_at.ensures.front ∙ ap (take c.args.end) (held c)))
    (rest c)
