use Rattle.std.proofs.Common.{List, [], ◌∷◌, ◌++◌, ◌||◌, ◌≡◌, ap, append_assoc, append-nil, map, sym, ◌∙◌}
use Rattle.std.specs.List.{list_any}
use Rattle.std.proofs.lemmas.List.{nil_from_length}
use Rattle.std.specs.Ordering.{is_eq, nat_cmp}
use Rattle.std.specs.Cmp.Lexicographic.{slice_cmp}
use Rattle.std.specs.Str.{bytes_eq}
use Rattle.harvest_records.specs.Names.{harvested_name}
use Rattle.harvest_sources.specs.Listings.{object_of}
use Rattle.harvest_sources.specs.declared.step.Item.{Item}
use Rattle.harvest_sources.proofs.ListLemmas.{names_next, objects_next}
use Rattle.harvest_sources.proofs.list.objects_of.Goals as goal

pub loop-item-init : goal.loop-item-init
loop-item-init c = (
  [],
  sym c.into_iter-item-iterator.ensures.into_iter_gives.0,
  c.in_ok-objects.ensures.items,
  λ name. ap (list_any (λ k. is_eq (slice_cmp nat_cmp name k))) c.new-names.ensures.empty,
)

pub loop-item-preserved : goal.loop-item-preserved
loop-item-preserved c =
    let source = c.args.source.now in
    let all = c.args.items.items in
    let done : List Item = c.loop-item.invariant.0 in
    let item = c.in-Some.item in
    let rest = c.next.new.self.rest.items in
    let whole : all ≡ done ++ item ∷ rest =
    c.loop-item.invariant.1 ∙ ap (λ (l : List Item). done ++ l) c.in-Some.ensures.steps.0 in (
      done ++ item ∷ [],
      whole ∙ sym (append_assoc done (item ∷ []) rest),
      objects_next source all done rest item c.in_ok-is_repeated.is_repeated c.object_of.result
          c.loop-item.objects.items c.push.new.self.items c.requires whole
          (c.in_ok-is_repeated.ensures.repeated ∙ c.loop-item.invariant.3 (harvested_name source item.iri))
          c.object_of.ensures c.loop-item.invariant.2 c.in_ok-push.ensures.items,
      λ name.
          c.in_ok-is_repeated.ensures.names name
          ∙ ap (λ b. b || bytes_eq (harvested_name source item.iri) name) (c.loop-item.invariant.3 name)
          ∙ sym (names_next source name done item),
    )

pub returns : goal.returns
returns c =
    let all = c.args.items.items in
    let done : List Item = c.loop-item.invariant.0 in
    let left = c.loop-item.item-iterator.rest in
    let none : left.items ≡ [] = nil_from_length left.items (sym left.ok.0 ∙ c.in-None.ensures.steps.0) in
    let whole : all ≡ done = c.loop-item.invariant.1 ∙ ap (λ (l : List Item). done ++ l) none ∙ append-nil done in
    c.from.ensures ∙ c.loop-item.invariant.2 ∙ ap (map (object_of c.args.source.now all)) (sym whole)
