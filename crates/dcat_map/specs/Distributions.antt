-- The distributions of a dataset (DCAT 3, section 6.8).
use Rattle.std.specs.Prelude.{◌≡◌, All, ℕ, ◌==◌, nat_eq, if◌then◌else◌, Bool, true, false, List, [], ◌∷◌, length, map}
use Rattle.std.specs.Prelude.{filter, take, drop, Option, Some, None}
use Rattle.std.specs.List.{list_any, starts_with}
use Rattle.std.specs.declared.cmp.Ordering.{Ordering}
use Rattle.std.specs.Ordering.{on, then_cmp}
use Rattle.ntriples.specs.declared.term.Term.{Term}
use Rattle.ntriples.specs.declared.term.Term.TheVariants.{Iri, Blank, Literal}
use Rattle.ntriples.specs.declared.term.Triple.{Triple}
use Rattle.harvest_records.specs.declared.record.Distribution.{Distribution}
use Rattle.dcat_map.specs.declared.shared.Shared.{Shared}
use Rattle.dcat_map.specs.Sets.{in_order}
use Rattle.dcat_map.specs.Terms.{text_cmp}
use Rattle.dcat_map.specs.Graphs.{about}
use Rattle.dcat_map.specs.Picks.{picked, least_named, least_iri, or_empty}
use Rattle.dcat_map.specs.Vocabulary.{dcat_distribution, dcat_download_url, dcat_access_url, dcat_media_type}
use Rattle.dcat_map.specs.Vocabulary.{dct_title, dct_description, dct_format, media_types, old_media_types}

-- what follows the last byte of this value, or all where there is none
unfoldable pub after_mark : ℕ → List ℕ → List ℕ
after_mark mark [] = []
after_mark mark (b ∷ bs) =
    if list_any (λ c. c == mark) bs then after_mark mark bs else if b == mark then bs else b ∷ bs

-- what follows the last `/` or `#`
abbrev pub last_part : List ℕ → List ℕ
last_part iri = after_mark 35 (after_mark 47 iri)

-- what follows this front, if the text begins with it
unfoldable pub stripped : List ℕ → List ℕ → Option (List ℕ)
stripped front text = if starts_with nat_eq text front then Some (drop (length front) text) else None

abbrev pub rest_or : Option (List ℕ) → List ℕ → List ℕ
rest_or (Some rest) other = rest
rest_or None other = other

abbrev pub or_other : Option (List ℕ) → Option (List ℕ) → List ℕ
or_other (Some text) other = text
or_other None other = or_empty other

-- the format, or else the last part of the IRI
abbrev pub or_last_part : List ℕ → List ℕ → List ℕ
or_last_part (b ∷ bs) iri = b ∷ bs
or_last_part [] iri = last_part iri

-- a media type, without what the IRIs of media types begin with
abbrev pub media_type : List ℕ → List ℕ
media_type text = rest_or (stripped media_types text) (rest_or (stripped old_media_types text) text)

unfoldable pub distribution_in : List Triple → Term → Distribution
distribution_in g node = record {
  url = or_other (least_named (about g node dcat_download_url)) (least_named (about g node dcat_access_url));
  name = picked (about g node dct_title);
  format = or_last_part (picked (about g node dct_format)) (or_empty (least_iri (about g node dct_format)));
  mimetype = media_type (or_empty (least_named (about g node dcat_media_type)));
  description = picked (about g node dct_description);
}

-- each is what the graph says of its node
abbrev pub AreDescribed : List Triple → List Shared → Type 0
AreDescribed g shared = All (λ one. one.distribution ≡ distribution_in g one.node) shared

-- by url, name, format, mimetype and description
unfoldable pub distribution_cmp : Distribution → Distribution → Ordering
distribution_cmp =
    then_cmp (on (λ d. d.url) text_cmp)
    (then_cmp (on (λ d. d.name) text_cmp)
    (then_cmp (on (λ d. d.format) text_cmp)
    (then_cmp (on (λ d. d.mimetype) text_cmp) (on (λ d. d.description) text_cmp))))

-- an IRI or a blank node, which may be the subject of triples (RDF 1.1 Concepts, section 3.1)
abbrev pub is_iri_or_blank : Term → Bool
is_iri_or_blank (Iri iri) = true
is_iri_or_blank (Blank label) = true
is_iri_or_blank (Literal text datatype tag) = false

-- one for each object that is no literal
unfoldable pub distributions_in : List Triple → List Triple → List Distribution
distributions_in g ts = map (distribution_in g) (filter is_iri_or_blank (map (λ t. t.object) ts))

-- in order, of which the first 200 are taken
unfoldable pub resources_in : List Triple → Term → List Distribution
resources_in g subject = take 200 (in_order distribution_cmp (distributions_in g (about g subject dcat_distribution)))
