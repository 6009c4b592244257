-- Worked examples, by computation. `sha256sum` gives the digests of `abc` and `hello`.
use Rattle.std.proofs.Common.{◌≡◌, refl}
use Rattle.std.specs.Prelude.{codes}
use Rattle.hex.specs.Hex.{encode_with}
use Rattle.sha2.specs.Sha256.{compress, digest_bytes, first_words, hash_after, rounds, schedule, sha256}
use Rattle.harvest_records.specs.Names.{harvested_name}

pub name_of_abc : harvested_name (codes "aa") (codes "abc") ≡ codes "hv-aa-ba7816bf8f01cfea414140de5dae2223b00361a3"
unfolding harvested_name encode_with sha256 digest_bytes hash_after compress rounds schedule first_words
name_of_abc = refl

pub name_of_hello : harvested_name (codes "aa") (codes "hello") ≡ codes "hv-aa-2cf24dba5fb0a30e26e83b2ac5b9e29e1b161e5c"
unfolding harvested_name encode_with sha256 digest_bytes hash_after compress rounds schedule first_words
name_of_hello = refl
