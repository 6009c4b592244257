-- The terms by which a dataset is found. A term is a word or a value with the field that it is of in front of it, as
-- full-text indexes have them.
use Rattle.std.specs.Prelude.{ℕ, Bool, true, false, List, ◌∷◌, ◌++◌, map, flat_map, codes}
use Rattle.portal_base.specs.Tokens.{tokens}
use Rattle.packages.specs.Tags.{text_set}
use Rattle.packages.specs.declared.package.Package.{Package}
use Rattle.packages.specs.declared.package.Resource.{Resource}
use Rattle.search_index.specs.declared.field.Field.{Field}
use Rattle.search_index.specs.declared.field.Field.TheVariants.{Anywhere, Title, Notes, Name, Organization, Tags}
use Rattle.search_index.specs.declared.field.Field.TheVariants.{ResFormat}

-- what the terms of a field begin with; no prefix begins another
abbrev pub field_prefix : Field → List ℕ
field_prefix Anywhere = codes "text:"
field_prefix Title = codes "title:"
field_prefix Notes = codes "notes:"
field_prefix Name = codes "name:"
field_prefix Organization = codes "organization:"
field_prefix Tags = codes "tags:"
field_prefix ResFormat = codes "res_format:"

-- whether a field is searched by words, and not by whole values
abbrev pub has_words : Field → Bool
has_words Anywhere = true
has_words Title = true
has_words Notes = true
has_words Name = false
has_words Organization = false
has_words Tags = false
has_words ResFormat = false

-- the term of a word or a value
unfoldable pub term : Field → List ℕ → List ℕ
term field text = field_prefix field ++ text

-- the terms of a text's words
abbrev pub word_terms : Field → List ℕ → List (List ℕ)
word_terms field text = map (term field) (tokens text)

-- the words of a resource's name, description and format
abbrev pub resource_terms : Resource → List (List ℕ)
resource_terms resource =
    word_terms Anywhere resource.name ++ word_terms Anywhere resource.description
    ++ word_terms Anywhere resource.format

-- the words of a dataset's name, title and notes
abbrev pub own_terms : Package → List (List ℕ)
own_terms dataset =
    word_terms Anywhere dataset.name ++ word_terms Anywhere dataset.title ++ word_terms Anywhere dataset.notes

-- the words of all its texts that are looked through: these, its tags and its resources
abbrev pub anywhere_terms : Package → List (List ℕ)
anywhere_terms dataset =
    own_terms dataset ++ flat_map (word_terms Anywhere) dataset.tags ++ flat_map resource_terms dataset.resources

-- the values of the fields that are searched by values
abbrev pub value_terms : Package → List (List ℕ)
value_terms dataset =
    term Name dataset.name ∷ term Organization dataset.owner_org ∷ map (term Tags) dataset.tags
    ++ map (λ resource. term ResFormat resource.format) dataset.resources

-- the terms of a dataset, each once, ordered by bytes
abbrev pub terms_of : Package → List (List ℕ)
terms_of dataset =
    text_set (anywhere_terms dataset ++ word_terms Title dataset.title ++ word_terms Notes dataset.notes
    ++ value_terms dataset)
