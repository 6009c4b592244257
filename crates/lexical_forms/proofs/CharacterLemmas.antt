-- Characters at the end of a text.
use Rattle.std.proofs.Common.{◌≡◌, ℕ, List, [], ◌∷◌, ◌++◌, length, sym, ap, ◌∙◌, append-nil}
use Rattle.std.specs.Prelude.{Option, Some, None, IfNone}
use Rattle.std.specs.Char.{encode_utf8}
use Rattle.std.specs.Str.{chars, IsUtf8, encode_utf8_all}
use Rattle.std.proofs.lemmas.List.{nil_from_length}
use Rattle.std.proofs.lemmas.Str.{chars-nil, encodes-append, chars_from_encodes}

pub chars-none : (bs : List ℕ) → length bs ≡ 0 → chars bs ≡ []
chars-none bs h = ap chars (nil_from_length bs h) ∙ chars-nil

-- A true statement holds also of an option that is none.
pub IfNone-from : {X : Type 0} {P : Type 0} (o : Option X) → P → IfNone o P
IfNone-from None p = p
IfNone-from (Some x) p = tt

pub chars-last : (bs front : List ℕ) (c : ℕ) → IsUtf8 bs → IsUtf8 front → bs ≡ front ++ encode_utf8 c
    → chars bs ≡ chars front ++ c ∷ []
chars-last bs front c whole utf8 e =
    let last : encode_utf8_all (c ∷ []) ≡ encode_utf8 c = append-nil (encode_utf8 c) in
    let joined : encode_utf8_all (utf8.0 ++ c ∷ []) ≡ bs =
    encodes-append utf8.0 (c ∷ []) ∙ ap (λ xs. encode_utf8_all utf8.0 ++ xs) last
    ∙ ap (λ xs. xs ++ encode_utf8 c) utf8.1.1 ∙ sym e in
    sym (chars_from_encodes (utf8.0 ++ c ∷ []) bs whole joined)
    ∙ ap (λ cs. cs ++ c ∷ []) (chars_from_encodes utf8.0 front utf8 utf8.1.1)
