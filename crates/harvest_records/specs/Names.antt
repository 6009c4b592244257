-- The name of a harvested dataset: its source's name, and the first 20 bytes of the SHA-256 (FIPS 180-4, section 6.2)
-- of its IRI in hexadecimal digits.
use Rattle.std.specs.Prelude.{ℕ, List, ◌++◌, take, codes}
use Rattle.sha2.specs.Sha256.{sha256}
use Rattle.hex.specs.Hex.{encode_lower}

unfoldable pub harvested_name : List ℕ → List ℕ → List ℕ
harvested_name source iri = codes "hv-" ++ source ++ codes "-" ++ encode_lower (take 20 (sha256 iri))
