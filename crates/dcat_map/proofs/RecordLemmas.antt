-- Whether a graph describes an IRI, by what is about it.
use Rattle.std.proofs.Common.{◌≡◌, ℕ, Bool, true, false, cond, ◌&&◌, ◌||◌, List, [], ◌∷◌, Some, None, Ok, Err, refl}
use Rattle.std.proofs.Common.{sym, ap, ◌∙◌, ◌⊎◌, inr, Result}
use Rattle.std.specs.Prelude.{IfOk, IfErr}
use Rattle.std.specs.declared.cmp.Ordering.{Ordering}
use Rattle.std.specs.declared.cmp.Ordering.TheVariants.{Less, Equal, Greater}
use Rattle.std.specs.Ordering.{is_eq, nat_cmp, ordering_then, match_ordering}
use Rattle.std.specs.List.{filter, list_any}
use Rattle.std.specs.Str.{bytes_eq}
use Rattle.std.proofs.lemmas.Map.Text.{is_eq-slice_cmp}
use Rattle.ntriples.specs.declared.term.Term.{Term}
use Rattle.ntriples.specs.declared.term.Term.TheVariants.{Iri, Blank, Literal}
use Rattle.ntriples.specs.declared.term.Triple.{Triple}
use Rattle.harvest_records.specs.declared.record.HarvestRecord.{HarvestRecord}
use Rattle.dcat_map.specs.declared.record.RecordFault.{RecordFault}
use Rattle.dcat_map.specs.declared.record.RecordFault.TheVariants.{NotDescribed, OutOfMemory}
use Rattle.dcat_map.specs.Records.{record_in, titled, description_in}
use Rattle.dcat_map.specs.Sets.{set_insert, ascending_set}
use Rattle.dcat_map.specs.Terms.{text_cmp, term_cmp, is_iri, is_english}
use Rattle.dcat_map.specs.Graphs.{about, is_about, is_typed, is_described}
use Rattle.dcat_map.specs.Vocabulary.{rdf_type, dcat_dataset_class}
use Rattle.dcat_map.proofs.SetLemmas.{TellsApart}

then_end : (r : Ordering) → is_eq (ordering_then r Equal) ≡ is_eq r
then_end Less = refl
then_end Equal = refl
then_end Greater = refl

-- A term is level with an IRI just where it is that IRI.
is_eq-term_cmp-Iri : (iri : List ℕ) (t : Term) → is_eq (term_cmp t (Iri iri)) ≡ is_iri iri t
unfolding term_cmp
is_eq-term_cmp-Iri iri (Iri name) = then_end (text_cmp name iri) ∙ is_eq-slice_cmp name iri
is_eq-term_cmp-Iri iri (Blank label) = refl
is_eq-term_cmp-Iri iri (Literal text datatype None) = refl
is_eq-term_cmp-Iri iri (Literal text datatype (Some tag)) =
    let P : Bool
    → Type 0 =
    λ b. is_eq
    (ordering_then (nat_cmp (cond b 1 2) 3)
    (ordering_then (text_cmp tag []) (ordering_then (text_cmp text iri) (text_cmp datatype [])))) ≡ false in
    elim (is_english tag) as P [ true ↦ refl | false ↦ refl ]

list_any-filter : {X : Type 0} (p q r : X → Bool) → ((x : X) → (q x && p x) ≡ r x) → (xs : List X)
    → list_any p (filter q xs) ≡ list_any r xs
list_any-filter p q r e [] = refl
list_any-filter {X} p q r e (x ∷ xs) =
    let P : Bool → Type 0 = λ b. list_any p (cond b (x ∷ filter q xs) (filter q xs)) ≡ ((b && p x) || list_any r xs) in
    (elim (q x) as P [
      | true ↦ ap (λ b. p x || b) (list_any-filter p q r e xs)
      | false ↦ list_any-filter p q r e xs
    ]) ∙ ap (λ b. b || list_any r xs) (e x)

and_assoc : (a b c : Bool) → ((a && b) && c) ≡ (a && (b && c))
and_assoc true b c = refl
and_assoc false b c = refl

-- The graph describes an IRI where what is about it and its type says so.
pub list_any-about : (g : List Triple) (iri : List ℕ)
    → list_any (λ t. is_iri dcat_dataset_class t.object) (about g (Iri iri) rdf_type) ≡ is_described g iri
unfolding is_described is_about
list_any-about g iri =
    list_any-filter (λ t. is_iri dcat_dataset_class t.object) (is_about (Iri iri) rdf_type)
    (λ t. is_iri iri t.subject && is_typed dcat_dataset_class t)
    (λ t. and_assoc (is_eq (term_cmp t.subject (Iri iri))) (bytes_eq t.predicate rdf_type)
    (is_iri dcat_dataset_class t.object)
    ∙ ap (λ b. b && is_typed dcat_dataset_class t) (is_eq-term_cmp-Iri iri t.subject)) g

twice : (a b : Bool) → (a || b) ≡ (a || (a || b))
twice true b = refl
twice false b = refl

exchange : (a b c : Bool) → (a || (b || c)) ≡ (b || (a || c))
exchange true true c = refl
exchange true false c = refl
exchange false true c = refl
exchange false false c = refl

list_any-set_insert : {X : Type 0} (cmp : X → X → Ordering) → TellsApart cmp → (test : X → Bool) (x : X) (xs : List X)
    → list_any test (set_insert cmp x xs) ≡ (test x || list_any test xs)
list_any-set_insert cmp apart test x [] = refl
list_any-set_insert {X} cmp apart test x (y ∷ ys) =
    let P : Ordering → Type 0 = λ r. cmp x y ≡ r
    → list_any test (match_ordering r (x ∷ y ∷ ys) (y ∷ ys) (y ∷ set_insert cmp x ys))
    ≡ (test x || (test y || list_any test ys)) in
    (elim (cmp x y) as P [
      | Less ↦ λ e. refl
      | Equal ↦ λ e. twice (test y) (list_any test ys) ∙ ap (λ (z : X). test z || (test y || list_any test ys))
          (sym (apart x y e))
      | Greater ↦ λ e. ap (λ b. test y || b) (list_any-set_insert cmp apart test x ys)
          ∙ exchange (test y) (test x) (list_any test ys)
    ]) refl

-- A test finds an item in the set just where it finds one in the list.
pub list_any-ascending_set : {X : Type 0} (cmp : X → X → Ordering) → TellsApart cmp → (test : X → Bool) (xs : List X)
    → list_any test (ascending_set cmp xs) ≡ list_any test xs
unfolding ascending_set
list_any-ascending_set cmp apart test [] = refl
list_any-ascending_set cmp apart test (x ∷ xs) = list_any-set_insert cmp apart test x (ascending_set cmp xs)
    ∙ ap (λ b. test x || b) (list_any-ascending_set cmp apart test xs)

-- The test of what is about the dataset, and its record, give the description.
described_by : (g : List Triple) (iri : List ℕ) (dataset : Term) (b : Bool) → dataset ≡ Iri iri
    → b ≡ list_any (λ t. is_iri dcat_dataset_class t.object) (about g dataset rdf_type) → b ≡ is_described g iri
described_by g iri dataset b e h =
    h ∙ ap (λ d. list_any (λ (t : Triple). is_iri dcat_dataset_class t.object) (about g d rdf_type)) e
    ∙ list_any-about g iri

pub not_described : (g : List Triple) (iri : List ℕ) (dataset : Term) (b : Bool) → dataset ≡ Iri iri
    → b ≡ list_any (λ t. is_iri dcat_dataset_class t.object) (about g dataset rdf_type) → b ≡ false
    → description_in g iri ≡ Err NotDescribed
unfolding description_in
not_described g iri dataset b e h holds =
    ap (λ v. cond v (titled (record_in g (Iri iri)).title (record_in g (Iri iri))) (Err NotDescribed))
    (sym (described_by g iri dataset b e h) ∙ holds)

pub described : (g : List Triple) (iri : List ℕ) (dataset : Term) (b : Bool) (r : HarvestRecord)
    (result : Result HarvestRecord RecordFault) → dataset ≡ Iri iri
    → b ≡ list_any (λ t. is_iri dcat_dataset_class t.object) (about g dataset rdf_type) → b ≡ true
    → r ≡ record_in g dataset → result ≡ titled r.title r → description_in g iri ≡ result
unfolding description_in
described g iri dataset b r result e h holds is given =
    ap (λ v. cond v (titled (record_in g (Iri iri)).title (record_in g (Iri iri))) (Err NotDescribed))
    (sym (described_by g iri dataset b e h) ∙ holds)
    ∙ ap (λ (s : HarvestRecord). titled s.title s) (sym (is ∙ ap (record_in g) e)) ∙ sym given

-- What a result says of the description that it is.
pub described_ok : (description result : Result HarvestRecord RecordFault) → description ≡ result
    → IfOk result (λ r. description ≡ Ok r)
described_ok description (Ok r) e = e
described_ok description (Err fault) e = tt

pub described_err : (description result : Result HarvestRecord RecordFault) → description ≡ result
    → IfErr result (λ fault. (fault ≡ OutOfMemory) ⊎ (description ≡ Err fault))
described_err description (Ok r) e = tt
described_err description (Err fault) e = inr e
