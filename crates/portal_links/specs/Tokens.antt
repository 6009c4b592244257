-- The caller with a token: the first user whose digest is the token's SHA-256 (FIPS 180-4, section 6.2), written in 64
-- lower-case hexadecimal digits.
use Rattle.std.specs.Prelude.{ℕ, List, Option, Some, None, option_map}
use Rattle.std.specs.List.{find}
use Rattle.std.specs.Str.{bytes_eq}
use Rattle.hex.specs.Hex.{encode_lower}
use Rattle.sha2.specs.Sha256.{sha256}
use Rattle.portal_base.specs.declared.caller.Caller.{Caller}
use Rattle.portal_base.specs.declared.caller.Caller.TheVariants.{Anonymous, Named}

-- users, each with the digest of a token
abbrev pub Digests : Type 0
Digests = List (List ℕ × List ℕ)

abbrev pub digest_of : List ℕ → List ℕ
digest_of token = encode_lower (sha256 token)

-- the first user with this digest
abbrev pub user_of : List ℕ → Digests → Option (List ℕ)
user_of digest digests = option_map (λ pair. pair.0) (find (λ pair. bytes_eq pair.1 digest) digests)

-- the user of that name, else the anonymous caller
abbrev pub named : Option (List ℕ) → Caller
named None = Anonymous
named (Some user) = Named user

-- The caller with the token: anonymous where there is none or no user has its digest.
abbrev pub caller_of_token : Digests → Option (List ℕ) → Caller
caller_of_token digests None = Anonymous
caller_of_token digests (Some token) = named (user_of (digest_of token) digests)
