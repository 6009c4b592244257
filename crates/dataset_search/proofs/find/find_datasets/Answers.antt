use Rattle.std.proofs.Common.{◌≡◌, ◌∙◌, ◌++◌, ℕ, List}
use Rattle.search_index.specs.Index.{numbers_found}
use Rattle.search_index.specs.Items.{matches}
use Rattle.search_index.specs.Reading.{items_of}
use Rattle.dataset_search.proofs.FindLemmas.{found-exist, found-for, found-names, matching-exist, searched, taken-are, wanted}
use Rattle.dataset_search.proofs.find.find_datasets.Goals as goal

pub taken-requires : goal.taken-requires
taken-requires g c =
    let q : List ℕ = c.as_str.result.now in
    let fq : List ℕ = c.as_str-2.result.now in
    let numbers : List ℕ = c.as_slice.result.now in
    let are : numbers ≡ numbers_found (items_of q ++ items_of fq) c.args.shelf.now =
    c.as_slice.ensures ∙ c.in_ok-numbers.ensures.found (items_of q ++ items_of fq) c.in_ok-query.ensures in
    matching-exist c.args.search.now c.args.shelf.now c.requires.valid q fq numbers c.as_str.ensures c.as_str-2.ensures are

pub returns-clause-exist : goal.returns-clause-exist
returns-clause-exist g c =
    let q : List ℕ = c.as_str.result.now in
    let fq : List ℕ = c.as_str-2.result.now in
    let are : c.as_slice.result.now ≡ numbers_found (items_of q ++ items_of fq) c.args.shelf.now =
    c.as_slice.ensures ∙ c.in_ok-numbers.ensures.found (items_of q ++ items_of fq) c.in_ok-query.ensures in
    found-exist (matches (searched c.args.search.now)) (wanted c.args.search.now c.args.viewer.now) c.args.shelf.now
    c.requires.valid c.from.result
    (taken-are c.args.search.now c.args.viewer.now c.args.shelf.now q fq c.as_slice.result.now c.from.result
    c.as_str.ensures c.as_str-2.ensures are (c.from.ensures ∙ c.in_ok-taken.ensures.taken))

pub returns-clause-found : goal.returns-clause-found
returns-clause-found g c =
    let q : List ℕ = c.as_str.result.now in
    let fq : List ℕ = c.as_str-2.result.now in
    let are : c.as_slice.result.now ≡ numbers_found (items_of q ++ items_of fq) c.args.shelf.now =
    c.as_slice.ensures ∙ c.in_ok-numbers.ensures.found (items_of q ++ items_of fq) c.in_ok-query.ensures in
    found-for c.args.search.now c.args.viewer.now c.args.shelf.now c.requires.valid c.requires.same c.from.result
    (taken-are c.args.search.now c.args.viewer.now c.args.shelf.now q fq c.as_slice.result.now c.from.result
    c.as_str.ensures c.as_str-2.ensures are (c.from.ensures ∙ c.in_ok-taken.ensures.taken))

pub returns-clause-names : goal.returns-clause-names
returns-clause-names g c =
    let q : List ℕ = c.as_str.result.now in
    let fq : List ℕ = c.as_str-2.result.now in
    let are : c.as_slice.result.now ≡ numbers_found (items_of q ++ items_of fq) c.args.shelf.now =
    c.as_slice.ensures ∙ c.in_ok-numbers.ensures.found (items_of q ++ items_of fq) c.in_ok-query.ensures in
    found-names (matches (searched c.args.search.now)) (wanted c.args.search.now c.args.viewer.now) c.args.shelf.now
    c.requires.valid c.from.result
    (taken-are c.args.search.now c.args.viewer.now c.args.shelf.now q fq c.as_slice.result.now c.from.result
    c.as_str.ensures c.as_str-2.ensures are (c.from.ensures ∙ c.in_ok-taken.ensures.taken))
