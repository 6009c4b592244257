-- Queries read by hand, and what the definitions compute for them.
use Rattle.std.proofs.Common.{◌≡◌, [], ◌∷◌, Bool, true, false, refl, codes}
use Rattle.std.specs.Str.{chars}
use Rattle.search_index.specs.Reading.{item_of_text, item_of_value, item_texts, items_of}
use Rattle.search_index.specs.Terms.{term}
use Rattle.search_index.specs.declared.field.Field.TheVariants.{Anywhere}
use Rattle.search_index.specs.declared.item.Item.{Item}
use Rattle.search_index.specs.declared.item.Test.{Test}
use Rattle.search_index.specs.declared.item.Test.TheVariants.{Term, Prefix}

abbrev item : Bool → Test → Item
item is_excluding test = record { is_excluding = is_excluding; tests = test ∷ [] }

-- ---- the texts of items

-- The next item begins right after the second quote.
after_quotes : item_texts (codes "title:\"a b\"c d") ≡ codes "title:\"a b\"" ∷ codes "c" ∷ codes "d" ∷ []
after_quotes = refl

second_quote_lacks : item_texts (codes " -title:\"x y") ≡ codes "-title:\"x y" ∷ []
second_quote_lacks = refl

-- A sign alone is an item, which is dropped.
lone_sign : item_texts (codes "- air") ≡ codes "-" ∷ codes "air" ∷ []
lone_sign = refl

-- ---- their items

-- Only one sign is a sign. What follows is read for its words.
plus_minus : item_of_text (codes "+-air") ≡ item_of_value false Anywhere (codes "-air") false
plus_minus = refl

minus_plus : item_of_text (codes "-+air") ≡ item_of_value true Anywhere (codes "+air") false
minus_plus = refl

word_and_asterisk : item_of_text (codes "foo-*") ≡ item_of_value false Anywhere (codes "foo-") true
word_and_asterisk = refl

-- ---- a query's items

empty_value : items_of (codes "tags:\"\" name: -tags:\"a b") ≡ item true (Term (codes "tags:a b")) ∷ []
unfolding chars lib.Utf8.encode term
empty_value = refl

-- An empty prefix is a test, and of two asterisks the first is in the prefix.
prefixes : items_of (codes "res_format:* name:a**")
    ≡ item false (Prefix (codes "res_format:")) ∷ item false (Prefix (codes "name:a*")) ∷ []
unfolding chars lib.Utf8.encode term
prefixes = refl

-- In double quotes an asterisk is a character.
quoted_asterisk : items_of (codes "+tags:\"a*\"") ≡ item false (Term (codes "tags:a*")) ∷ []
unfolding chars lib.Utf8.encode term
quoted_asterisk = refl

-- A field that a query can't name is no field, and neither is one in capitals.
other_field : item_of_text (codes "text:\"a\"") ≡ item_of_value false Anywhere (codes "text:\"a\"") false
other_field = refl
