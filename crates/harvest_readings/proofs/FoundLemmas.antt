-- Where the description of a listed dataset is, by what the graph says of it.
use Rattle.std.proofs.Common.{◌≡◌, ℕ, Bool, true, false, cond, List, [], ◌∷◌, Result, Ok, Err, refl, ap}
use Rattle.std.proofs.Common.{◌∙◌, ◌⊎◌, inl, inr}
use Rattle.ntriples.specs.declared.term.Term.TheVariants.{Iri}
use Rattle.ntriples.specs.declared.term.Triple.{Triple}
use Rattle.harvest_records.specs.declared.record.HarvestRecord.{HarvestRecord}
use Rattle.dcat_map.specs.Graphs.{is_described}
use Rattle.dcat_map.specs.Records.{description_in, record_in, titled}
use Rattle.dcat_map.specs.declared.record.RecordFault.{RecordFault}
use Rattle.dcat_map.specs.declared.record.RecordFault.TheVariants as fault
use Rattle.harvest_sources.specs.declared.cause.Cause.TheVariants as cause
use Rattle.harvest_sources.specs.declared.reading.Reading.TheVariants.{Good, Bad}
use Rattle.harvest_sources.specs.declared.step.Found.TheVariants.{Here, Elsewhere}
use Rattle.harvest_readings.specs.Catalogues.{found_in, reading_by}

-- a description, by whether there is one
abbrev described : Bool → List ℕ → HarvestRecord → Result HarvestRecord RecordFault
described is title r = cond is (titled title r) (Err fault.NotDescribed)

is_described-ok : (is : Bool) (title : List ℕ) (r good : HarvestRecord) → described is title r ≡ Ok good → is ≡ true
is_described-ok true title r good h = refl
is_described-ok false title r good h = cc

is_described-untitled : (is : Bool) (title : List ℕ) (r : HarvestRecord) → described is title r ≡ Err fault.NoTitle
    → is ≡ true
is_described-untitled true title r h = refl
is_described-untitled false title r h = cc

isn't_described : (is : Bool) (title : List ℕ) (r : HarvestRecord) → described is title r ≡ Err fault.NotDescribed
    → is ≡ false
isn't_described false title r h = refl
isn't_described true [] r h = cc
isn't_described true (b ∷ bs) r h = cc

pub found-good : (g : List Triple) (iri : List ℕ) (r : HarvestRecord) → description_in g iri ≡ Ok r
    → found_in g iri ≡ Here (Good r)
unfolding description_in
found-good g iri r h =
    let is = is_described-ok (is_described g iri) (record_in g (Iri iri)).title (record_in g (Iri iri)) r h in
    ap (λ b. cond b (Here (reading_by (description_in g iri))) Elsewhere) is ∙ ap (λ d. Here (reading_by d)) h

pub found-untitled : (g : List Triple) (iri : List ℕ) → description_in g iri ≡ Err fault.NoTitle
    → found_in g iri ≡ Here (Bad cause.NoTitle)
unfolding description_in
found-untitled g iri h =
    let is = is_described-untitled (is_described g iri) (record_in g (Iri iri)).title (record_in g (Iri iri)) h in
    ap (λ b. cond b (Here (reading_by (description_in g iri))) Elsewhere) is ∙ ap (λ d. Here (reading_by d)) h

pub found-elsewhere : (g : List Triple) (iri : List ℕ) → description_in g iri ≡ Err fault.NotDescribed
    → found_in g iri ≡ Elsewhere
unfolding description_in
found-elsewhere g iri h =
    let isn't = isn't_described (is_described g iri) (record_in g (Iri iri)).title (record_in g (Iri iri)) h in
    ap (λ b. cond b (Here (reading_by (description_in g iri))) Elsewhere) isn't

-- A fault that isn't want of memory is that of the description.
pub fault-not_described : (found : Result HarvestRecord RecordFault) (why : RecordFault)
    → (why ≡ fault.OutOfMemory) ⊎ (found ≡ Err why) → why ≡ fault.NotDescribed → found ≡ Err fault.NotDescribed
fault-not_described found why (inl memory) e = cc
fault-not_described found why (inr h) e = cc

pub fault-untitled : (found : Result HarvestRecord RecordFault) (why : RecordFault)
    → (why ≡ fault.OutOfMemory) ⊎ (found ≡ Err why) → why ≡ fault.NoTitle → found ≡ Err fault.NoTitle
fault-untitled found why (inl memory) e = cc
fault-untitled found why (inr h) e = cc
