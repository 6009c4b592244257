-- The value of a text in contracts.
use Rattle.std.specs.Prelude.{ℕ, List, string_bytes}
use Rattle.portal_base.specs.declared.text.Bytes.{Bytes}
use Rattle.portal_base.specs.declared.text.Bytes.TheVariants.{Owned, Static}

-- the bytes, on the heap or in the program
abbrev pub text_bytes : Bytes → List ℕ
text_bytes (Owned string) = string_bytes string
text_bytes (Static text) = text.now
