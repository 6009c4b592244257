-- The terms of DCAT 3 (sections 6 and 4.4), and of RDF and Dublin Core which it uses, by their IRIs.
use Rattle.std.specs.Prelude.{ℕ, List, codes}

-- rdf:type
abbrev pub rdf_type : List ℕ
rdf_type = codes "http://www.w3.org/1999/02/22-rdf-syntax-ns#type"

-- dcat:Catalog, the class of catalogues
abbrev pub dcat_catalog : List ℕ
dcat_catalog = codes "http://www.w3.org/ns/dcat#Catalog"

-- dcat:Dataset, the class of datasets
abbrev pub dcat_dataset_class : List ℕ
dcat_dataset_class = codes "http://www.w3.org/ns/dcat#Dataset"

-- dcat:dataset, from a catalogue to what it lists
abbrev pub dcat_dataset : List ℕ
dcat_dataset = codes "http://www.w3.org/ns/dcat#dataset"

-- dcat:distribution, from a dataset to a file or a service that gives it
abbrev pub dcat_distribution : List ℕ
dcat_distribution = codes "http://www.w3.org/ns/dcat#distribution"

-- dcat:keyword
abbrev pub dcat_keyword : List ℕ
dcat_keyword = codes "http://www.w3.org/ns/dcat#keyword"

-- dcat:downloadURL, the file itself
abbrev pub dcat_download_url : List ℕ
dcat_download_url = codes "http://www.w3.org/ns/dcat#downloadURL"

-- dcat:accessURL, a location that leads to it
abbrev pub dcat_access_url : List ℕ
dcat_access_url = codes "http://www.w3.org/ns/dcat#accessURL"

-- dcat:mediaType
abbrev pub dcat_media_type : List ℕ
dcat_media_type = codes "http://www.w3.org/ns/dcat#mediaType"

-- dct:title
abbrev pub dct_title : List ℕ
dct_title = codes "http://purl.org/dc/terms/title"

-- dct:description
abbrev pub dct_description : List ℕ
dct_description = codes "http://purl.org/dc/terms/description"

-- dct:modified
abbrev pub dct_modified : List ℕ
dct_modified = codes "http://purl.org/dc/terms/modified"

-- dct:license
abbrev pub dct_license : List ℕ
dct_license = codes "http://purl.org/dc/terms/license"

-- dct:format
abbrev pub dct_format : List ℕ
dct_format = codes "http://purl.org/dc/terms/format"

-- the IRIs of the registered media types begin so, or the same with `http:`
abbrev pub media_types : List ℕ
media_types = codes "https://www.iana.org/assignments/media-types/"

abbrev pub old_media_types : List ℕ
old_media_types = codes "http://www.iana.org/assignments/media-types/"
