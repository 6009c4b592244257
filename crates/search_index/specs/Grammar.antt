-- The grammar of a query's text (the portal's own; its forms are those of Lucene's and CKAN's queries). Texts are lists
-- of characters, and white space is Unicode's White_Space:
--
--     query  = *white [ item *( *white item ) ] *white
--     item   = quoted / word
--     quoted = [ "+" / "-" ] field %x22 *( any character but %x22 ) [ %x22 ]
--     word   = [ "+" / "-" ] *( any character but white space )
--     field  = "name:" / "title:" / "notes:" / "tags:" / "organization:" / "res_format:"
--
-- Only the last item can lack its second double quote. A word isn't empty, and white space or nothing follows it. An
-- item that begins with a field and a double quote is quoted, and a sign before it is no part of a word.
use Rattle.std.specs.Prelude.{◌≡◌, ◌⊎◌, ℕ, true, false, List, [], ◌∷◌, ◌++◌, Contains}
use Rattle.std.specs.Char.{is_whitespace}
use Rattle.std.specs.List.{list_all, list_any}
use Rattle.search_index.specs.Cut.{begins_with, is_quote, is_sign, named_fields, opens_quote}
use Rattle.search_index.specs.Terms.{field_prefix}
use Rattle.search_index.specs.declared.field.Field.{Field}

-- white space or nothing
abbrev pub AreBlank : List ℕ → Type 0
AreBlank text = list_all is_whitespace text ≡ true

-- a plus, a minus or nothing
abbrev pub IsSign : List ℕ → Type 0
IsSign sign = (sign ≡ []) ⊎ ((c : ℕ) × (is_sign c ≡ true) × (sign ≡ c ∷ []))

-- the second double quote, or nothing at the end of the query
abbrev pub IsClosing : List ℕ → List ℕ → Type 0
IsClosing closing following = (closing ≡ 34 ∷ []) ⊎ ((closing ≡ []) × (following ≡ []))

-- white space follows, or nothing
abbrev pub IsEnd : List ℕ → Type 0
IsEnd following = (following ≡ []) ⊎ (begins_with is_whitespace following ≡ true)

pub record IsQuoted (text following : List ℕ) : Type 0 where
  pub sign : List ℕ
  pub field : Field
  pub inside : List ℕ
  pub closing : List ℕ
  pub form : text ≡ sign ++ field_prefix field ++ 34 ∷ inside ++ closing
  pub signed : IsSign sign
  pub named : Contains named_fields field
  pub inner : list_any is_quote inside ≡ false
  pub closed : IsClosing closing following

pub record IsWord (text following : List ℕ) : Type 0 where
  pub sign : List ℕ
  pub word : List ℕ
  pub form : text ≡ sign ++ word
  pub signed : IsSign sign
  pub unsigned : sign ≡ [] → begins_with is_sign word ≡ false
  pub some : text ≡ [] → ⊥
  pub unquoted : opens_quote word ≡ false
  pub unbroken : list_any is_whitespace word ≡ false
  pub ended : IsEnd following

-- a text that is an item, before what follows it
abbrev pub IsItemText : List ℕ → List ℕ → Type 0
IsItemText text following = IsQuoted text following ⊎ IsWord text following

-- the texts of the items that a text has
pub data AreItemTexts : List ℕ → List (List ℕ) → Type 0 where
  none : (blank : List ℕ) → AreBlank blank → AreItemTexts blank []
  next : (blank text rest : List ℕ) (texts : List (List ℕ)) → AreBlank blank → IsItemText text rest
      → AreItemTexts rest texts → AreItemTexts (blank ++ text ++ rest) (text ∷ texts)
