-- A query's text is read as its grammar says.
use Rattle.std.proofs.Common.{◌≡◌, ◌∙◌, ◌⊎◌, ◌↔◌, ℕ, zero, suc, ◌+◌, ◌-◌, ◌<◌, ◌≤◌}
use Rattle.std.proofs.Common.{Bool, true, false, ◌&&◌, ◌||◌, not, cond}
use Rattle.std.proofs.Common.{List, [], ◌∷◌, ◌++◌, length, take, drop, slice_index_or, refl, sym, ap, ap₂, subst, arith}
use Rattle.std.proofs.Common.{inl, inr, nat_eq, eqb-true, take_at, append_assoc, append-nil, is_some, Contains, IsTrue}
use Rattle.std.specs.Prelude.{Option, Some, None, find, ◌==◌}
use Rattle.std.specs.Char.{is_whitespace}
use Rattle.std.specs.List.{list_all, list_any, starts_with}
use Rattle.std.proofs.lemmas.Bool.{and_parts, both_ways, false_from_ne_true, not-false, not-true, not_from_false}
use Rattle.std.proofs.lemmas.Bool.{or_cases, or_parts}
use Rattle.std.proofs.lemmas.List.{length-append, nil_from_length}
use Rattle.search_index.specs.Cut.{after_field, after_first, after_item, after_quoted, after_sign, begins_with}
use Rattle.search_index.specs.Cut.{first_item, from, is_nonblank, is_quote, is_sign, named_field, named_fields, opens_quote}
use Rattle.search_index.specs.Cut.{until, value_text}
use Rattle.search_index.specs.Grammar.{AreBlank, AreItemTexts, IsClosing, IsEnd, IsItemText, IsQuoted, IsSign, IsWord}
use Rattle.search_index.specs.Grammar.AreItemTexts.{next, none}
use Rattle.search_index.specs.Reading.{item_texts, item_texts_within}
use Rattle.search_index.specs.Terms.{field_prefix}
use Rattle.search_index.specs.declared.field.Field.{Field}
use Rattle.search_index.specs.declared.field.Field.TheVariants.{Anywhere, Title, Notes, Name, Organization, Tags}
use Rattle.search_index.specs.declared.field.Field.TheVariants.{ResFormat}
use Rattle.search_index.proofs.CutLemmas.{field-append-value, find-same, found_passes, from_begins, from_here}
use Rattle.search_index.proofs.CutLemmas.{from_past, until-append-from, until_lacks}

-- ---- what white space ends

white_is_no_quote : (c : ℕ) → is_whitespace c ≡ true → is_quote c ≡ false
white_is_no_quote c white =
    false_from_ne_true (is_quote c) (λ e. both_ways (is_whitespace c) (ap is_whitespace (eqb-true c 34 e)) white)

ends_no_quote : (following : List ℕ) → IsEnd following → begins_with is_quote following ≡ false
ends_no_quote [] end = refl
ends_no_quote (c ∷ cs) (inl nothing) = absurd (cc)
ends_no_quote (c ∷ cs) (inr white) = white_is_no_quote c white

end_is_here : (following : List ℕ) → IsEnd following → from is_whitespace following ≡ following
end_is_here following (inl nothing) = ap (from is_whitespace) nothing ∙ sym nothing
end_is_here following (inr white) = from_here is_whitespace following white

-- What follows a word doesn't change whether the text begins with a front that has no white space.
word_begins : (word following front : List ℕ) → IsEnd following → list_any is_whitespace front ≡ false
    → starts_with nat_eq (word ++ following) front ≡ starts_with nat_eq word front
word_begins word following [] end dense = refl
word_begins (c ∷ word) following (x ∷ front) end dense =
    ap (λ b. nat_eq x c && b)
    (word_begins word following front end (or_parts (is_whitespace x) (list_any is_whitespace front) dense).1)
word_begins [] [] (x ∷ front) end dense = refl
word_begins [] (c ∷ cs) (x ∷ front) (inl nothing) dense = absurd (cc)
word_begins [] (c ∷ cs) (x ∷ front) (inr white) dense =
    ap (λ b. b && starts_with nat_eq cs front) (
    false_from_ne_true (nat_eq x c) (λ e. both_ways (is_whitespace x)
    (or_parts (is_whitespace x) (list_any is_whitespace front) dense).0 (ap is_whitespace (eqb-true x c e) ∙ white))
    )

prefix_is_dense : (field : Field) → list_any is_whitespace (field_prefix field) ≡ false
prefix_is_dense Anywhere = refl
prefix_is_dense Title = refl
prefix_is_dense Notes = refl
prefix_is_dense Name = refl
prefix_is_dense Organization = refl
prefix_is_dense Tags = refl
prefix_is_dense ResFormat = refl

quote_in_word : (word following front : List ℕ) → IsEnd following → starts_with nat_eq word front ≡ true
    → begins_with is_quote (drop (length front) (word ++ following)) ≡ begins_with is_quote (drop (length front) word)
quote_in_word [] following [] end begins = ends_no_quote following end
quote_in_word (c ∷ word) following [] end begins = refl
quote_in_word [] following (x ∷ front) end begins = absurd (cc)
quote_in_word (c ∷ word) following (x ∷ front) end begins =
    quote_in_word word following front end (and_parts (nat_eq x c) (starts_with nat_eq word front) begins).1

-- What follows a word doesn't open a quote in it.
opens_in_word : (word following : List ℕ) → IsEnd following → opens_quote (word ++ following) ≡ opens_quote word
opens_in_word word following end =
    ap (λ o. is_some o && begins_with is_quote (after_field o (word ++ following))) (
    find-same (λ field. starts_with nat_eq (word ++ following) (field_prefix field))
    (λ field. starts_with nat_eq word (field_prefix field)) named_fields
    (λ field. word_begins word following (field_prefix field) end (prefix_is_dense field))
    )
    ∙ by (named_field word) refl
  where
    by : (o : Option Field) → named_field word ≡ o
        → (is_some o && begins_with is_quote (after_field o (word ++ following)))
        ≡ (is_some o && begins_with is_quote (after_field o word))
    by None e = refl
    by (Some field) e =
        quote_in_word word following (field_prefix field) end
        (found_passes (λ other. starts_with nat_eq word (field_prefix other)) named_fields field e)

-- ---- signs

after_no_sign : (body : List ℕ) → begins_with is_sign body ≡ false → after_sign body ≡ body
after_no_sign [] h = refl
after_no_sign (c ∷ cs) h = ap (λ b. cond b cs (c ∷ cs)) h

after_its_sign : (sign body : List ℕ) → IsSign sign → (sign ≡ [] → begins_with is_sign body ≡ false)
    → after_sign (sign ++ body) ≡ body
after_its_sign sign body (inl nothing) unsigned =
    ap (λ (xs : List ℕ). after_sign (xs ++ body)) nothing ∙ after_no_sign body (unsigned nothing)
after_its_sign sign body (inr (c, is, one)) unsigned =
    ap (λ (xs : List ℕ). after_sign (xs ++ body)) one ∙ ap (λ b. cond b body (c ∷ body)) is

sign_is_no_white : (c : ℕ) → is_sign c ≡ true → is_nonblank c ≡ true
sign_is_no_white c is = by (or_cases (c == 43) (c == 45) is)
  where
    by : ((c == 43) ≡ true) ⊎ ((c == 45) ≡ true) → is_nonblank c ≡ true
    by (inl plus) = ap is_nonblank (eqb-true c 43 plus)
    by (inr minus) = ap is_nonblank (eqb-true c 45 minus)

-- ---- quoted items

record Opens (field : Field) (inside : List ℕ) : Type 0 where
  unsigned : begins_with is_sign (field_prefix field ++ 34 ∷ inside) ≡ false
  begins : begins_with is_nonblank (field_prefix field ++ 34 ∷ inside) ≡ true
  opens : opens_quote (field_prefix field ++ 34 ∷ inside) ≡ true
  value : value_text (field_prefix field ++ 34 ∷ inside) ≡ 34 ∷ inside

field_opens : (field : Field) (inside : List ℕ) → Contains named_fields field → Opens field inside
field_opens Title inside named = record { unsigned = refl; begins = refl; opens = refl; value = refl }
field_opens Notes inside named = record { unsigned = refl; begins = refl; opens = refl; value = refl }
field_opens Name inside named = record { unsigned = refl; begins = refl; opens = refl; value = refl }
field_opens Organization inside named = record { unsigned = refl; begins = refl; opens = refl; value = refl }
field_opens Tags inside named = record { unsigned = refl; begins = refl; opens = refl; value = refl }
field_opens ResFormat inside named = record { unsigned = refl; begins = refl; opens = refl; value = refl }
field_opens Anywhere inside named = absurd (unnamed named.0 named.1 named.2)
  where
    unnamed : (k : ℕ) → k < 6 → slice_index_or named_fields k Anywhere ≡ Anywhere → ⊥
    unnamed zero within is = cc
    unnamed (suc zero) within is = cc
    unnamed (suc (suc zero)) within is = cc
    unnamed (suc (suc (suc zero))) within is = cc
    unnamed (suc (suc (suc (suc zero)))) within is = cc
    unnamed (suc (suc (suc (suc (suc zero))))) within is = cc
    unnamed (suc (suc (suc (suc (suc (suc k)))))) within is = absurd (omega arith)

closing_ends : (closing following : List ℕ) → IsClosing closing following
    → after_first (from is_quote (closing ++ following)) ≡ following
closing_ends closing following (inl closed) =
    ap (λ (xs : List ℕ). after_first (from is_quote (xs ++ following))) closed
closing_ends closing following (inr (lacking, nothing)) =
    ap₂ (λ (xs ys : List ℕ). after_first (from is_quote (xs ++ ys))) lacking nothing ∙ sym nothing

-- An item's text and what follows it are read as these two.
record IsCut (text following : List ℕ) : Type 0 where
  begins : begins_with is_nonblank (text ++ following) ≡ true
  rest : after_item (text ++ following) ≡ following

after_opened : (body inside : List ℕ) → opens_quote body ≡ true → value_text body ≡ 34 ∷ inside
    → cond (opens_quote body) (after_quoted (value_text body)) (from is_whitespace body)
    ≡ after_first (from is_quote inside)
after_opened body inside opens value =
    ap (λ b. cond b (after_quoted (value_text body)) (from is_whitespace body)) opens ∙ ap after_quoted value

signed_begins : (sign body : List ℕ) → IsSign sign → begins_with is_nonblank body ≡ true
    → begins_with is_nonblank (sign ++ body) ≡ true
signed_begins sign body (inl nothing) begins =
    ap (λ (xs : List ℕ). begins_with is_nonblank (xs ++ body)) nothing ∙ begins
signed_begins sign body (inr (c, is, one)) begins =
    ap (λ (xs : List ℕ). begins_with is_nonblank (xs ++ body)) one ∙ sign_is_no_white c is

quoted_is_cut : (text following : List ℕ) → IsQuoted text following → IsCut text following
quoted_is_cut text following item =
    let after : List ℕ = item.inside ++ (item.closing ++ following) in
    let body : List ℕ = field_prefix item.field ++ 34 ∷ after in
    let opened : Opens item.field after = field_opens item.field after item.named in
    let form : text ++ following ≡ item.sign ++ body =
    ap (λ (xs : List ℕ). xs ++ following) item.form ∙ simp append_assoc in
    record {
      begins = ap (begins_with is_nonblank) form ∙ signed_begins item.sign body item.signed opened.begins;
      rest = ap after_item form
          ∙ ap (λ (xs : List ℕ). cond (opens_quote xs) (after_quoted (value_text xs)) (from is_whitespace xs))
          (after_its_sign item.sign body item.signed (λ _. opened.unsigned))
          ∙ after_opened body after opened.opens opened.value
          ∙ ap after_first (from_past is_quote item.inside (item.closing ++ following) item.inner)
          ∙ closing_ends item.closing following item.closed;
    }

-- ---- words

dense_begins : (word following : List ℕ) → (word ≡ [] → ⊥) → list_any is_whitespace word ≡ false
    → begins_with is_nonblank (word ++ following) ≡ true
dense_begins [] following some dense = absurd (some refl)
dense_begins (c ∷ word) following some dense =
    not_from_false (is_whitespace c) (or_parts (is_whitespace c) (list_any is_whitespace word) dense).0

unsigned_word : (word following : List ℕ) → (word ≡ [] → ⊥) → begins_with is_sign word ≡ false
    → begins_with is_sign (word ++ following) ≡ false
unsigned_word [] following some unsigned = absurd (some refl)
unsigned_word (c ∷ word) following some unsigned = unsigned

word_is_cut : (text following : List ℕ) → IsWord text following → IsCut text following
word_is_cut text following item =
    let body : List ℕ = item.word ++ following in
    let form : text ++ following ≡ item.sign ++ body =
    ap (λ (xs : List ℕ). xs ++ following) item.form ∙ append_assoc item.sign item.word following in
    record {
      begins = ap (begins_with is_nonblank) form ∙ by item.signed;
      rest = ap after_item form
          ∙ ap (λ (xs : List ℕ). cond (opens_quote xs) (after_quoted (value_text xs)) (from is_whitespace xs))
          (after_its_sign item.sign body item.signed unsigned)
          ∙ ap (λ b. cond b (after_quoted (value_text body)) (from is_whitespace body))
          (opens_in_word item.word following item.ended ∙ item.unquoted)
          ∙ from_past is_whitespace item.word following item.unbroken ∙ end_is_here following item.ended;
    }
  where
    some : item.sign ≡ [] → item.word ≡ [] → ⊥
    some nothing empty = item.some (item.form ∙ ap₂ (λ (xs ys : List ℕ). xs ++ ys) nothing empty)

    unsigned : item.sign ≡ [] → begins_with is_sign (item.word ++ following) ≡ false
    unsigned nothing = unsigned_word item.word following (some nothing) (item.unsigned nothing)

    by : IsSign item.sign → begins_with is_nonblank (item.sign ++ (item.word ++ following)) ≡ true
    by (inl nothing) =
        signed_begins item.sign (item.word ++ following) item.signed
        (dense_begins item.word following (some nothing) item.unbroken)
    by (inr (c, is, one)) =
        ap (λ (xs : List ℕ). begins_with is_nonblank (xs ++ (item.word ++ following))) one ∙ sign_is_no_white c is

item_is_cut : (text following : List ℕ) → IsItemText text following → IsCut text following
item_is_cut text following (inl item) = quoted_is_cut text following item
item_is_cut text following (inr item) = word_is_cut text following item

item_some : (text following : List ℕ) → IsItemText text following → 0 < length text
item_some text following (inl item) = omega (arith, simp length-append at (ap length item.form))
item_some [] following (inr item) = absurd (item.some refl)
item_some (c ∷ cs) following (inr item) = omega arith

-- ---- the first item of a text

-- a sign or nothing, and what follows it
signed : (text : List ℕ) → (sign : List ℕ) × (sign ++ after_sign text ≡ text) × IsSign sign
    × (sign ≡ [] → begins_with is_sign (after_sign text) ≡ false)
signed [] = ([], refl, inl refl, λ _. refl)
signed (c ∷ cs) = by (is_sign c) refl
  where
    by : (b : Bool) → is_sign c ≡ b
        → (sign : List ℕ) × (sign ++ cond b cs (c ∷ cs) ≡ c ∷ cs) × IsSign sign
        × (sign ≡ [] → begins_with is_sign (cond b cs (c ∷ cs)) ≡ false)
    by true e = (c ∷ [], refl, inr (c, e, refl), λ nothing. absurd (cc))
    by false e = ([], refl, inl refl, λ _. e)

closed : (text : List ℕ) → (0 < length text → begins_with is_quote text ≡ true)
    → (closing : List ℕ) × (closing ++ after_first text ≡ text) × IsClosing closing (after_first text)
closed [] begins = ([], refl, inr (refl, refl))
closed (c ∷ cs) begins =
    (34 ∷ [], ap (λ d. d ∷ cs) (sym (eqb-true c 34 (begins (omega arith)))), inl refl)

found_is_one : {X : Type 0} (test : X → Bool) (xs : List X) (x : X) → find test xs ≡ Some x → Contains xs x
found_is_one test [] x found = absurd (cc)
found_is_one {X} test (y ∷ xs) x found = by (test y) (found_is_one test xs x) found
  where
    by : (b : Bool) → (find test xs ≡ Some x → Contains xs x) → cond b (Some y) (find test xs) ≡ Some x
        → Contains (y ∷ xs) x
    by true more found = (0, omega arith, (cc))
    by false more found = let w = more found in (suc w.0, omega (arith, w.1), w.2)

-- An item's text and what follows it make up the text.
Splits : List ℕ → List ℕ → Type 0
Splits text following = (item : List ℕ) × (item ++ following ≡ text) × IsItemText item following

quoted_value_first : (sign : List ℕ) (field : Field) (value : List ℕ) → IsSign sign → Contains named_fields field
    → begins_with is_quote value ≡ true → Splits (sign ++ (field_prefix field ++ value)) (after_quoted value)
unfolding Splits
quoted_value_first sign field [] is named begins = absurd (cc)
quoted_value_first sign field (c ∷ cs) is named begins =
    let inside : List ℕ = until is_quote cs in
    let end = closed (from is_quote cs) (from_begins is_quote cs) in
    let rest : List ℕ = after_first (from is_quote cs) in
    let item : List ℕ = sign ++ field_prefix field ++ 34 ∷ inside ++ end.0 in
    let regrouped : item ++ rest ≡ sign ++ (field_prefix field ++ 34 ∷ (inside ++ (end.0 ++ rest))) =
    simp append_assoc in (
      item,
      regrouped
          ∙ ap (λ (xs : List ℕ). sign ++ (field_prefix field ++ 34 ∷ (inside ++ xs))) end.1
          ∙ ap₂ (λ d (xs : List ℕ). sign ++ (field_prefix field ++ d ∷ xs)) (sym (eqb-true c 34 begins))
          (until-append-from is_quote cs),
      inl (record {
        sign = sign;
        field = field;
        inside = inside;
        closing = end.0;
        form = refl;
        signed = is;
        named = named;
        inner = until_lacks is_quote cs;
        closed = end.2;
      }),
    )

quoted_first : (sign body : List ℕ) → IsSign sign → opens_quote body ≡ true
    → Splits (sign ++ body) (after_quoted (value_text body))
quoted_first sign body is opens = by (named_field body) refl opens
  where
    by : (o : Option Field) → named_field body ≡ o
        → (is_some o && begins_with is_quote (after_field o body)) ≡ true
        → Splits (sign ++ body) (after_quoted (after_field o body))
    by None e opens = absurd (cc)
    by (Some field) e opens =
        let value : List ℕ = drop (length (field_prefix field)) body in
        subst (λ (xs : List ℕ). Splits (sign ++ xs) (after_quoted value)) (field-append-value body field e)
        (quoted_value_first sign field value is
        (found_is_one (λ other. starts_with nat_eq body (field_prefix other)) named_fields field e) opens)

until_unsigned : (body : List ℕ) → begins_with is_sign body ≡ false
    → begins_with is_sign (until is_whitespace body) ≡ false
until_unsigned [] unsigned = refl
until_unsigned (c ∷ cs) unsigned = by (is_whitespace c)
  where
    by : (b : Bool) → begins_with is_sign (cond b [] (c ∷ until is_whitespace cs)) ≡ false
    by true = refl
    by false = unsigned

word_some : (sign body : List ℕ) → begins_with is_nonblank (sign ++ body) ≡ true
    → sign ++ until is_whitespace body ≡ [] → ⊥
word_some (c ∷ sign) body begins empty = cc
word_some [] [] begins empty = cc
word_some [] (c ∷ cs) begins empty =
    let dense : is_whitespace c ≡ false = not-true (is_whitespace c) begins in
    let kept : c ∷ until is_whitespace cs ≡ [] =
    ap (λ b. cond b [] (c ∷ until is_whitespace cs)) (sym dense) ∙ empty in
    cc

is_end : (following : List ℕ) → (0 < length following → begins_with is_whitespace following ≡ true) → IsEnd following
is_end [] begins = inl refl
is_end (c ∷ cs) begins = inr (begins (omega arith))

word_first : (sign body : List ℕ) → IsSign sign → (sign ≡ [] → begins_with is_sign body ≡ false)
    → begins_with is_nonblank (sign ++ body) ≡ true → opens_quote body ≡ false
    → Splits (sign ++ body) (from is_whitespace body)
unfolding Splits
word_first sign body is unsigned begins opens =
    let word : List ℕ = until is_whitespace body in
    let rest : List ℕ = from is_whitespace body in
    let end : IsEnd rest = is_end rest (from_begins is_whitespace body) in (
      sign ++ word,
      append_assoc sign word rest ∙ ap (λ (xs : List ℕ). sign ++ xs) (until-append-from is_whitespace body),
      inr (record {
        sign = sign;
        word = word;
        form = refl;
        signed = is;
        unsigned = λ nothing. until_unsigned body (unsigned nothing);
        some = word_some sign body begins;
        unquoted = sym (opens_in_word word rest end) ∙ ap opens_quote (until-append-from is_whitespace body) ∙ opens;
        unbroken = until_lacks is_whitespace body;
        ended = end;
      }),
    )

first_of : (text : List ℕ) → begins_with is_nonblank text ≡ true → Splits text (after_item text)
first_of text begins = by (opens_quote (after_sign text)) refl
  where
    by : (b : Bool) → opens_quote (after_sign text) ≡ b
        → Splits text (cond b (after_quoted (value_text (after_sign text))) (from is_whitespace (after_sign text)))
    by true e =
        let s = signed text in
        subst (λ (xs : List ℕ). Splits xs (after_quoted (value_text (after_sign text)))) s.1
        (quoted_first s.0 (after_sign text) s.2 e)
    by false e =
        let s = signed text in
        subst (λ (xs : List ℕ). Splits xs (from is_whitespace (after_sign text))) s.1
        (word_first s.0 (after_sign text) s.2 s.3 (ap (begins_with is_nonblank) s.1 ∙ begins) e)

-- The first item's text is an item, and what follows it is shorter.
pub record HasFirst (text : List ℕ) : Type 0 where
  pub whole : first_item text ++ after_item text ≡ text
  pub is_item : IsItemText (first_item text) (after_item text)
  pub shorter : length (after_item text) < length text

pub has_first : (text : List ℕ) → begins_with is_nonblank text ≡ true → HasFirst text
unfolding Splits
has_first text begins =
    let split = first_of text begins in
    let rest : List ℕ = after_item text in
    let count : length text ≡ length split.0 + length rest =
    ap length (sym split.1) ∙ length-append split.0 rest in
    let some : 0 < length split.0 = item_some split.0 rest split.2 in
    let same : first_item text ≡ split.0 =
    ap (λ (xs : List ℕ). take (length text - length rest) xs) (sym split.1)
    ∙ take_at split.0 rest _ (omega arith) in
    record {
      whole = ap (λ (xs : List ℕ). xs ++ rest) same ∙ split.1;
      is_item = subst (λ (xs : List ℕ). IsItemText xs rest) (sym same) split.2;
      shorter = omega arith;
    }

pub after_item_shorter : (text : List ℕ) → IsTrue (begins_with is_nonblank text)
    → length (after_item text) < length text
after_item_shorter text begins = (has_first text begins).shorter

-- ---- white space before an item

blank_lacks : (blank : List ℕ) → AreBlank blank → list_any is_nonblank blank ≡ false
blank_lacks [] all = refl
blank_lacks (c ∷ cs) all =
    let parts = and_parts (is_whitespace c) (list_all is_whitespace cs) all in
    ap₂ (λ x y. not x || y) parts.0 (blank_lacks cs parts.1)

is_blank : (blank : List ℕ) → list_any is_nonblank blank ≡ false → AreBlank blank
is_blank [] lacks = refl
is_blank (c ∷ cs) lacks =
    let parts = or_parts (is_nonblank c) (list_any is_nonblank cs) lacks in
    ap₂ (λ x y. x && y) (not-false (is_whitespace c) parts.0) (is_blank cs parts.1)

blank_before : (blank rest : List ℕ) → AreBlank blank → from is_nonblank (blank ++ rest) ≡ from is_nonblank rest
blank_before blank rest all = from_past is_nonblank blank rest (blank_lacks blank all)

-- ---- all items

reads : (n : ℕ) (text : List ℕ) → length text ≤ n → AreItemTexts text (item_texts_within n (from is_nonblank text))
reads zero [] within = none [] refl
reads zero (c ∷ cs) within = absurd (omega arith)
reads (suc n) text within = by (from is_nonblank text) refl (reads n)
  where
    by : (start : List ℕ) → from is_nonblank text ≡ start
        → ((rest : List ℕ) → length rest ≤ n → AreItemTexts rest (item_texts_within n (from is_nonblank rest)))
        → AreItemTexts text (item_texts_within (suc n) start)
    by [] e more =
        let all : until is_nonblank text ≡ text =
        sym (append-nil (until is_nonblank text))
        ∙ ap (λ (xs : List ℕ). until is_nonblank text ++ xs) (sym e) ∙ until-append-from is_nonblank text in
        none text (is_blank text (ap (list_any is_nonblank) (sym all) ∙ until_lacks is_nonblank text))
    by (c ∷ cs) e more =
        let start : List ℕ = c ∷ cs in
        let blank : List ℕ = until is_nonblank text in
        let rest : List ℕ = after_item start in
        let whole : blank ++ start ≡ text =
        ap (λ (xs : List ℕ). until is_nonblank text ++ xs) (sym e) ∙ until-append-from is_nonblank text in
        let begins : begins_with is_nonblank start ≡ true =
        ap (begins_with is_nonblank) (sym e)
        ∙ from_begins is_nonblank text (omega (arith, ap length e)) in
        let first = has_first start begins in
        let count : length text ≡ length blank + length start =
        ap length (sym whole) ∙ length-append blank start in
        let joined : blank ++ first_item start ++ rest ≡ text =
        append_assoc blank (first_item start) rest ∙ ap (λ (xs : List ℕ). blank ++ xs) first.whole ∙ whole in
        subst (λ (xs : List ℕ). AreItemTexts xs (first_item start ∷ item_texts_within n (from is_nonblank rest))) joined
        (next blank (first_item start) rest (item_texts_within n (from is_nonblank rest))
        (is_blank blank (until_lacks is_nonblank text)) first.is_item (more rest (omega (arith, first.shorter))))

no_texts : (n : ℕ) → item_texts_within n [] ≡ []
no_texts zero = refl
no_texts (suc n) = refl

first_text : (n : ℕ) (text : List ℕ) → begins_with is_nonblank text ≡ true
    → item_texts_within (suc n) text ≡ first_item text ∷ item_texts_within n (from is_nonblank (after_item text))
first_text n [] begins = absurd (cc)
first_text n (c ∷ cs) begins = refl

first_is : (item rest : List ℕ) → after_item (item ++ rest) ≡ rest → first_item (item ++ rest) ≡ item
first_is item rest same =
    ap (λ (xs : List ℕ). take (length (item ++ rest) - length xs) (item ++ rest)) same
    ∙ take_at item rest _ (omega (arith, length-append item rest))

are_read : (text : List ℕ) (texts : List (List ℕ)) → AreItemTexts text texts → (n : ℕ) → length text ≤ n
    → item_texts_within n (from is_nonblank text) ≡ texts
are_read _ _ (none blank all) n within =
    ap (item_texts_within n) (ap (from is_nonblank) (sym (append-nil blank)) ∙ blank_before blank [] all) ∙ no_texts n
are_read _ _ (next blank text rest texts all is more) zero within =
    absurd (omega (arith, item_some text rest is, simp length-append at within))
are_read _ _ (next blank text rest texts all is more) (suc n) within =
    let cut = item_is_cut text rest is in
    let count : length blank + length text + length rest ≤ suc n = simp length-append at within in
    ap (item_texts_within (suc n)) (
    ap (from is_nonblank) (append_assoc blank text rest) ∙ blank_before blank (text ++ rest) all
    ∙ from_here is_nonblank (text ++ rest) cut.begins
    )
    ∙ first_text n (text ++ rest) cut.begins
    ∙ ap₂ (λ (xs : List ℕ) xss. xs ∷ xss) (first_is text rest cut.rest) (
    ap (λ (xs : List ℕ). item_texts_within n (from is_nonblank xs)) cut.rest
    ∙ are_read rest texts more n (omega (arith, item_some text rest is))
    )

-- The grammar divides a text in one way, which is the computed one.
pub texts_by_grammar : (text : List ℕ) (texts : List (List ℕ)) → (item_texts text ≡ texts) ↔ AreItemTexts text texts
texts_by_grammar text texts = (
  λ same. subst (AreItemTexts text) same (reads (length text) text (omega arith)),
  λ are. are_read text texts are (length text) (omega arith),
)

-- If a text has only white space, it has no items. Else the text of its first item comes before those of the rest.
pub no_item : (text : List ℕ) → length (from is_nonblank text) ≡ 0 → item_texts text ≡ []
no_item text empty = ap (item_texts_within (length text)) (nil_from_length (from is_nonblank text) empty) ∙ no_texts _

pub next_item : (text : List ℕ) → 0 < length (from is_nonblank text)
    → item_texts text ≡ first_item (from is_nonblank text) ∷ item_texts (after_item (from is_nonblank text))
next_item text some =
    let start : List ℕ = from is_nonblank text in
    let blank : List ℕ = until is_nonblank text in
    let first = has_first start (from_begins is_nonblank text some) in
    let rest : List ℕ = after_item start in
    let texts : List (List ℕ) = first_item start ∷ item_texts rest in
    let joined : blank ++ first_item start ++ rest ≡ text =
    append_assoc blank (first_item start) rest ∙ ap (λ (xs : List ℕ). blank ++ xs) first.whole
    ∙ until-append-from is_nonblank text in
    (texts_by_grammar text texts).1 (
    subst (λ (xs : List ℕ). AreItemTexts xs texts) joined
    (next blank (first_item start) rest (item_texts rest) (is_blank blank (until_lacks is_nonblank text))
    first.is_item ((texts_by_grammar rest (item_texts rest)).0 refl))
    )

-- the two turns of a reader
pub ruleset reading_turns = (no_item, next_item)
