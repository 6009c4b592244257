use Rattle.std.proofs.Common.{◌≡◌, ℕ, pos, List, [], ◌∷◌, refl, sym, ap, ◌∙◌, subst}
use Rattle.std.specs.Prelude.{IfOk, codes}
use Rattle.portal_base.specs.declared.json_value.Json.{Json}
use Rattle.portal_base.specs.declared.json_value.Json as json
use Rattle.portal_state.specs.Page.{page_members, total_member}
use Rattle.portal_state.specs.declared.search_body.Search.{Search}
use Rattle.portal_core.proofs.page.dictionary_of.Goals as goal

-- a dictionary of values that were made before
abbrev made_of : List Json → Json → Json → List Json → List ℕ → List (List ℕ × Json) → Json
made_of columns limit offset records id rest = json.Map (
    (codes "fields", json.List columns)
    ∷ (codes "limit", limit)
    ∷ (codes "offset", offset)
    ∷ (codes "records", json.List records)
    ∷ (codes "resource_id", json.Text id)
    ∷ rest)

-- Where they are the page's, it is the page's dictionary.
made_is : (search : Search) (id : List ℕ) (columns : List Json) (limit offset : Json) (records : List Json)
    (rest : List (List ℕ × Json)) (total : ℕ) → limit ≡ json.Whole (pos search.parts.limit)
    → offset ≡ json.Whole (pos search.parts.offset) → rest ≡ total_member search.total total
    → made_of columns limit offset records id rest ≡ page_members search id columns records total
made_is search id columns limit offset records rest total at_limit at_offset in_rest =
    rw (at_limit, at_offset, in_rest) refl

pub returns-then-search : goal.returns-then-search
returns-then-search c =
    subst (λ (j : Json). IfOk c.dictionary.result (λ shown. shown ≡ j))
    (made_is c.args.search.now c.args.id c.args.columns _ _ c.args.records _ c.args.total
    c.count_json-limit.ensures c.count_json-offset.ensures
    (ap (λ total. (codes "total", total) ∷ []) c.count_json-total.ensures
    ∙ ap (λ told. total_member told c.args.total) (sym c.if-search.true)))
    c.dictionary.ensures.same

pub returns : goal.returns
returns c =
    subst (λ (j : Json). IfOk c.dictionary-2.result (λ shown. shown ≡ j))
    (made_is c.args.search.now c.args.id c.args.columns _ _ c.args.records _ c.args.total
    c.count_json-limit.ensures c.count_json-offset.ensures
    (ap (λ told. total_member told c.args.total) (sym c.if-search.false)))
    c.dictionary-2.ensures.same
