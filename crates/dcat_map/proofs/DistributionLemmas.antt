-- Distributions are joined as the triples that lead to them, and their order makes no two equal.
use Rattle.std.proofs.Common.{◌≡◌, ℕ, List, [], ◌++◌, refl, ap, ◌∙◌, map, filter}
use Rattle.std.specs.Cmp.{IsTotalOrder, on_total, then_total}
use Rattle.std.specs.Cmp.Lexicographic.{nat_list_cmp_total}
use Rattle.std.proofs.lemmas.List.{map-append}
use Rattle.std.proofs.lemmas.List.Elements.{filter-append}
use Rattle.ntriples.specs.declared.term.Term.{Term}
use Rattle.ntriples.specs.declared.term.Triple.{Triple}
use Rattle.harvest_records.specs.declared.record.Distribution.{Distribution}
use Rattle.dcat_map.specs.Terms.{text_cmp}
use Rattle.dcat_map.specs.Distributions.{distribution_in, distribution_cmp, distributions_in, is_iri_or_blank}
use Rattle.dcat_map.proofs.Orders.{then_equal, same_text}
use Rattle.dcat_map.proofs.SetLemmas.{TellsApart}

pub distributions_in-append : (g xs ys : List Triple)
    → distributions_in g (xs ++ ys) ≡ distributions_in g xs ++ distributions_in g ys
unfolding distributions_in
distributions_in-append g xs ys =
    let objects : List Triple → List Term = map (λ (t : Triple). t.object) in
    ap (λ l. map (distribution_in g) (filter is_iri_or_blank l)) (map-append (λ (t : Triple). t.object) xs ys)
    ∙ ap (map (distribution_in g)) (filter-append is_iri_or_blank (objects xs) (objects ys))
    ∙ map-append (distribution_in g) (filter is_iri_or_blank (objects xs)) (filter is_iri_or_blank (objects ys))

pub distributions_in-nil : (g : List Triple) → distributions_in g [] ≡ []
unfolding distributions_in
distributions_in-nil g = refl

pub distribution_cmp_total : IsTotalOrder distribution_cmp
unfolding distribution_cmp
distribution_cmp_total =
    then_total (on_total (λ d. d.url) nat_list_cmp_total)
    (then_total (on_total (λ d. d.name) nat_list_cmp_total)
    (then_total (on_total (λ d. d.format) nat_list_cmp_total)
    (then_total (on_total (λ d. d.mimetype) nat_list_cmp_total) (on_total (λ d. d.description) nat_list_cmp_total))))

pub same_distribution : TellsApart distribution_cmp
unfolding distribution_cmp
same_distribution d e h =
    let first = then_equal (text_cmp d.url e.url) _ h in
    let second = then_equal (text_cmp d.name e.name) _ first.1 in
    let third = then_equal (text_cmp d.format e.format) _ second.1 in
    let fourth = then_equal (text_cmp d.mimetype e.mimetype) _ third.1 in
    let make : List ℕ → List ℕ → List ℕ → List ℕ → List ℕ
    → Distribution = λ u n f m t. record { url = u; name = n; format = f; mimetype = m; description = t } in
    ap (λ u. make u d.name d.format d.mimetype d.description) (same_text d.url e.url first.0)
    ∙ ap (λ n. make e.url n d.format d.mimetype d.description) (same_text d.name e.name second.0)
    ∙ ap (λ f. make e.url e.name f d.mimetype d.description) (same_text d.format e.format third.0)
    ∙ ap (λ m. make e.url e.name e.format m d.description) (same_text d.mimetype e.mimetype fourth.0)
    ∙ ap (λ t. make e.url e.name e.format e.mimetype t) (same_text d.description e.description fourth.1)
