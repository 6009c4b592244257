-- The tags of a dataset: the texts among its keywords that may be tags.
use Rattle.std.specs.Prelude.{ℕ, if◌then◌else◌, List, take, Option, Some, None}
use Rattle.std.specs.List.{filter_map}
use Rattle.portal_base.specs.Tag.{is_tag}
use Rattle.ntriples.specs.declared.term.Term.{Term}
use Rattle.ntriples.specs.declared.term.Term.TheVariants.{Iri, Blank, Literal}
use Rattle.ntriples.specs.declared.term.Triple.{Triple}
use Rattle.dcat_map.specs.Sets.{ascending_set}
use Rattle.dcat_map.specs.Terms.{text_cmp}

-- a literal's text, if it may be a tag
abbrev pub tag_of : Term → Option (List ℕ)
tag_of (Iri iri) = None
tag_of (Blank label) = None
tag_of (Literal text datatype tag) = if is_tag text then Some text else None

-- the set of the tags among the objects, of which the first 100 are taken
unfoldable pub tags_among : List Triple → List (List ℕ)
tags_among ts = take 100 (ascending_set text_cmp (filter_map (λ t. tag_of t.object) ts))
