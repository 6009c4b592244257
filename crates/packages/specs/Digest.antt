-- The digest by which a shelf finds a dataset. No public clause cites this.
use Rattle.std.specs.Prelude.{ℕ, List}
use Rattle.std.specs.Hash.DefaultHasher as sip

-- the SipHash-1-3 of a text, with both keys 0
abbrev pub digest_of : List ℕ → ℕ
digest_of text = sip.finish (sip.write sip.initial text)
