-- A sort's text is read as its grammar says.
use Rattle.std.proofs.Common.{◌≡◌, ◌∙◌, ◌↔◌, ℕ, suc, ◌+◌, ◌-◌, ◌<◌, ◌≤◌, Bool, true, false, ◌&&◌, ◌||◌, not, cond, List, []}
use Rattle.std.proofs.Common.{◌∷◌, ◌++◌, length, take, get_or, map, fold, refl, sym, ap, ap₂, subst, arith}
use Rattle.std.proofs.Common.{append_assoc, append-nil}
use Rattle.std.specs.Prelude.{Option, Some, None, ◌==◌, ◌⊎◌}
use Rattle.std.proofs.Common.{inl, inr}
use Rattle.std.specs.List.{list_any}
use Rattle.std.specs.Prelude.{nat_le}
use Rattle.std.specs.Str.{trim}
use Rattle.std.proofs.lemmas.Bool.{eqb-true}
use Rattle.std.proofs.lemmas.Bool.Decides.{nat_tests}
use Rattle.std.proofs.lemmas.List.{at_drop_all, at_drop_more, length-append, nil_from_length, take-append-drop, take_at}
use Rattle.std.proofs.lemmas.List.{get_or_at}
use Rattle.sorted_pages.specs.Direction.{directed}
use Rattle.sorted_pages.proofs.DirectionLemmas.{directed_from, directed_to}
use Rattle.datastore_query.specs.declared.sort.SortName.{SortName}
use Rattle.datastore_query.specs.SortText.{inner, is_between_quotes, is_empty_text, is_quote}
use Rattle.datastore_query.specs.SortText.{is_unclosed, name_of, named, part_reading, parts_from, parts_of}
use Rattle.datastore_query.specs.SortText.{prepended, quoted_after}
use Rattle.datastore_query.specs.SortGrammar.{AreParts, AreSortParts, HasNoQuote, is_plain, IsClosed, IsName}
use Rattle.datastore_query.specs.SortGrammar.{IsOpen, IsPart}
use Rattle.datastore_query.specs.SortGrammar.AreParts.{last_part, next_part, open_part}
use Rattle.datastore_query.specs.SortGrammar.AreSortParts.{no_parts, some_parts}
use Rattle.datastore_query.specs.SortGrammar.IsName.{bare, in_quotes}
use Rattle.datastore_query.specs.SortGrammar.IsPart.{blank, naming}
use Rattle.datastore_query.specs.SortGrammar.IsClosed.{nothing, plain, quoted}
use Rattle.datastore_query.specs.SortGrammar.IsOpen.{opened}

-- ---- double quotes

plain-apart : (c : ℕ) → is_plain c ≡ true → (is_quote c ≡ false) × ((c == 44) ≡ false)
plain-apart c h = by (is_quote c) (c == 44) h
  where
    by : (a b : Bool) → (not a && not b) ≡ true → (a ≡ false) × (b ≡ false)
    by false false h = (refl, refl)
    by false true h = absurd (cc)
    by true b h = absurd (cc)

no_quote-apart : (c : ℕ) (cs : List ℕ) → HasNoQuote (c ∷ cs) → (is_quote c ≡ false) × HasNoQuote cs
no_quote-apart c cs h = by (is_quote c) (list_any is_quote cs) h
  where
    by : (a b : Bool) → (a || b) ≡ false → (a ≡ false) × (b ≡ false)
    by false b h = (refl, h)
    by true b h = absurd (cc)

-- one more plain byte before the first part
step-plain : (c : ℕ) (rest part : List ℕ) (parts : List (List ℕ)) → is_plain c ≡ true
    → parts_from false rest ≡ part ∷ parts → parts_from false (c ∷ rest) ≡ (c ∷ part) ∷ parts
step-plain c rest part parts h e =
    let apart = plain-apart c h in
    ap (λ b. cond (b && true) ([] ∷ parts_from false rest) (prepended c (parts_from (quoted_after false c) rest))) apart.1
    ∙ ap (λ b. prepended c (parts_from (cond b true false) rest)) apart.0
    ∙ ap (prepended c) e

step-inside : (c : ℕ) (rest part : List ℕ) (parts : List (List ℕ)) → is_quote c ≡ false
    → parts_from true rest ≡ part ∷ parts → parts_from true (c ∷ rest) ≡ (c ∷ part) ∷ parts
step-inside c rest part parts h e =
    ap (λ b. cond b ([] ∷ parts_from false rest) (prepended c (parts_from (quoted_after true c) rest))) (never (c == 44))
    ∙ ap (λ b. prepended c (parts_from (cond b false true) rest)) h
    ∙ ap (prepended c) e
  where
    never : (b : Bool) → (b && false) ≡ false
    never true = refl
    never false = refl

-- after an opened double quote, up to the one that closes it
through_quotes : (inside rest part : List ℕ) (parts : List (List ℕ)) → HasNoQuote inside
    → parts_from false rest ≡ part ∷ parts
    → parts_from true (inside ++ 34 ∷ rest) ≡ (inside ++ 34 ∷ part) ∷ parts
through_quotes [] rest part parts h e = ap (prepended 34) e
through_quotes (c ∷ inside) rest part parts h e =
    let apart = no_quote-apart c inside h in
    step-inside c (inside ++ 34 ∷ rest) (inside ++ 34 ∷ part) parts apart.0
    (through_quotes inside rest part parts apart.1 e)

-- a closed text before the first part
through_closed : (front : List ℕ) → IsClosed front → (rest part : List ℕ) (parts : List (List ℕ))
    → parts_from false rest ≡ part ∷ parts → parts_from false (front ++ rest) ≡ (front ++ part) ∷ parts
through_closed _ nothing rest part parts e = e
through_closed _ (plain c front h closed) rest part parts e =
    step-plain c (front ++ rest) (front ++ part) parts h (through_closed front closed rest part parts e)
through_closed _ (quoted inside front h closed) rest part parts e =
    let more = through_closed front closed rest part parts e in
    ap (λ (xs : List ℕ). parts_from false (34 ∷ xs)) (append_assoc inside (34 ∷ front) rest)
    ∙ ap (prepended 34) (through_quotes inside (front ++ rest) (front ++ part) parts h more)
    ∙ ap (λ (xs : List ℕ). (34 ∷ xs) ∷ parts) (sym (append_assoc inside (34 ∷ front) part))

-- an open quote to the end
to_the_end : (inside : List ℕ) → HasNoQuote inside → parts_from true inside ≡ inside ∷ []
to_the_end [] h = refl
to_the_end (c ∷ inside) h =
    let apart = no_quote-apart c inside h in
    step-inside c inside inside [] apart.0 (to_the_end inside apart.1)

closed_last : (part : List ℕ) → IsClosed part → parts_from false part ≡ part ∷ []
closed_last part closed =
    ap (parts_from false) (sym (append-nil part)) ∙ through_closed part closed [] [] [] refl
    ∙ ap (λ xs. xs ∷ []) (append-nil part)

closed_next : (part rest : List ℕ) → IsClosed part → parts_from false (part ++ 44 ∷ rest) ≡ part ∷ parts_from false rest
closed_next part rest closed =
    through_closed part closed (44 ∷ rest) [] (parts_from false rest) refl
    ∙ ap (λ xs. xs ∷ parts_from false rest) (append-nil part)

open_last : (part : List ℕ) → IsOpen part → parts_from false part ≡ part ∷ []
open_last _ (opened before inside closed h) =
    through_closed before closed (34 ∷ inside) (34 ∷ inside) [] (ap (prepended 34) (to_the_end inside h))

-- ---- what a part leaves open

quotes_through : (inside rest : List ℕ) → HasNoQuote inside
    → fold quoted_after true (inside ++ rest) ≡ fold quoted_after true rest
quotes_through [] rest h = refl
quotes_through (c ∷ inside) rest h =
    let apart = no_quote-apart c inside h in
    ap (λ b. fold quoted_after (cond b false true) (inside ++ rest)) apart.0 ∙ quotes_through inside rest apart.1

closed_leaves : (front : List ℕ) → IsClosed front → (rest : List ℕ)
    → is_unclosed (front ++ rest) ≡ is_unclosed rest
closed_leaves _ nothing rest = refl
closed_leaves _ (plain c front h closed) rest =
    ap (λ b. fold quoted_after (cond b true false) (front ++ rest)) (plain-apart c h).0
    ∙ closed_leaves front closed rest
closed_leaves _ (quoted inside front h closed) rest =
    ap (fold quoted_after true) (append_assoc inside (34 ∷ front) rest)
    ∙ quotes_through inside (34 ∷ (front ++ rest)) h
    ∙ closed_leaves front closed rest

closed_is : (part : List ℕ) → IsClosed part → is_unclosed part ≡ false
closed_is part closed = ap is_unclosed (sym (append-nil part)) ∙ closed_leaves part closed []

open_is : (part : List ℕ) → IsOpen part → is_unclosed part ≡ true
open_is _ (opened before inside closed h) =
    closed_leaves before closed (34 ∷ inside) ∙ ap (fold quoted_after true) (sym (append-nil inside))
    ∙ quotes_through inside [] h

-- ---- a name

both : (a b : Bool) → (a && b) ≡ true → (a ≡ true) × (b ≡ true)
both true b h = (refl, h)
both false b h = absurd (cc)

not_true : (b : Bool) → not b ≡ true → b ≡ false
not_true false h = refl
not_true true h = absurd (cc)

quoted_length : (name : List ℕ) → length (name ++ 34 ∷ []) ≡ suc (length name)
quoted_length name = length-append name (34 ∷ []) ∙ omega arith

quoted-inner : (name : List ℕ) → inner (34 ∷ name ++ 34 ∷ []) ≡ name
quoted-inner name =
    let n : suc (length (name ++ 34 ∷ [])) - 2 ≡ length name = omega (arith, quoted_length name) in
    ap (λ k. take k (name ++ 34 ∷ [])) n ∙ take_at name (34 ∷ []) _ refl

quoted-between : (name : List ℕ) → HasNoQuote name → is_between_quotes (34 ∷ name ++ 34 ∷ []) ≡ true
quoted-between name none =
    let text : List ℕ = 34 ∷ name ++ 34 ∷ [] in
    let n : length text - 1 ≡ length (34 ∷ name) = omega (arith, quoted_length name) in
    let long : nat_le 2 (length text) ≡ true = grind (arith, nat_tests, quoted_length name) in
    let last : get_or text (length text - 1) 0 ≡ 34 =
    ap (λ k. get_or text k 0) n ∙ get_or_at (34 ∷ name) 34 [] 0 _ refl in
    let free : list_any is_quote (inner text) ≡ false = ap (list_any is_quote) (quoted-inner name) ∙ none in
    ap (λ b. b && (is_quote (get_or text 0 0) && (is_quote (get_or text (length text - 1) 0)
    && not (list_any is_quote (inner text))))) long
    ∙ ap (λ c. is_quote c && not (list_any is_quote (inner text))) last
    ∙ ap not free

between-quoted : (text : List ℕ) → is_between_quotes text ≡ true
    → HasNoQuote (inner text) × (text ≡ 34 ∷ inner text ++ 34 ∷ [])
between-quoted [] h = absurd (cc)
between-quoted (c ∷ cs) h =
    let text : List ℕ = c ∷ cs in
    let closing : Bool = is_quote (get_or text (length text - 1) 0) in
    let free : Bool = not (list_any is_quote (inner text)) in
    let parts = both (nat_le 2 (length text)) (is_quote c && (closing && free)) h in
    let first = both (is_quote c) (closing && free) parts.1 in
    let last = both closing free first.1 in
    let long : 2 ≤ length text = grind (arith, nat_tests, parts.0) in
    let k : ℕ = length text - 2 in
    let here : k < length cs = omega arith in
    let past : length cs ≤ k + 1 = omega arith in
    let place : length text - 1 ≡ suc k = omega arith in
    let closes : get_or cs k 0 ≡ 34 =
    ap (λ i. get_or text i 0) (sym place) ∙ eqb-true (get_or text (length text - 1) 0) 34 last.0 in
    let opens : c ≡ 34 = eqb-true c 34 first.0 in
    let whole : cs ≡ take k cs ++ 34 ∷ [] =
    sym (take-append-drop k cs)
    ∙ at_drop_more (λ (xs : List ℕ). take k cs ++ xs) cs k 0 here
    ∙ at_drop_all (λ (xs : List ℕ). take k cs ++ get_or cs k 0 ∷ xs) cs (k + 1) past
    ∙ ap (λ d. take k cs ++ d ∷ []) closes in
    (not_true (list_any is_quote (inner text)) last.1, ap₂ (λ d (ds : List ℕ). d ∷ ds) opens whole)

name_to : (text : List ℕ) → IsName text (name_of text)
name_to text = by (is_between_quotes text) refl
  where
    by : (b : Bool) → is_between_quotes text ≡ b → IsName text (cond b (inner text) text)
    by true e =
        let facts = between-quoted text e in
        subst (λ t. IsName t (inner text)) (sym facts.1) (in_quotes (inner text) facts.0)
    by false e =
        bare text (λ inside none is. let between : is_between_quotes text ≡ true =
        ap is_between_quotes is ∙ quoted-between inside none in absurd (cc))

name_from : (text name : List ℕ) → IsName text name → name_of text ≡ name
name_from _ _ (in_quotes name none) =
    ap (λ b. cond b (inner (34 ∷ name ++ 34 ∷ [])) (34 ∷ name ++ 34 ∷ [])) (quoted-between name none)
    ∙ quoted-inner name
name_from _ _ (bare text none) = by (is_between_quotes text) refl
  where
    by : (b : Bool) → is_between_quotes text ≡ b → cond b (inner text) text ≡ text
    by true e = let facts = between-quoted text e in absurd (none (inner text) facts.0 facts.1)
    by false e = refl

-- ---- a part

empty_is : (text : List ℕ) → is_empty_text text ≡ true → text ≡ []
empty_is text e = nil_from_length text (eqb-true (length text) 0 e)

some_is : (text : List ℕ) → (text ≡ [] → ⊥) → is_empty_text text ≡ false
some_is text some = by (is_empty_text text) refl
  where
    by : (b : Bool) → is_empty_text text ≡ b → b ≡ false
    by true e = absurd (some (empty_is text e))
    by false e = refl

some_not : (text : List ℕ) → is_empty_text text ≡ false → text ≡ [] → ⊥
some_not text e is = let empty : is_empty_text text ≡ true = ap is_empty_text is in absurd (cc)

part_to : (part : List ℕ) → is_unclosed part ≡ false → IsPart part (part_reading part)
part_to part closed = by (is_empty_text (trim part)) refl (is_unclosed part) closed
  where
    by : (b : Bool) → is_empty_text (trim part) ≡ b → (d : Bool) → d ≡ false
        → IsPart part (cond (b || d) None (Some (named (directed (trim part)))))
    by true e d f = blank (empty_is (trim part) e)
    by false e false f =
        naming (directed (trim part)).name (name_of (directed (trim part)).name) (directed (trim part)).direction
        (some_not (trim part) e) (directed_to (trim part)) (name_to (directed (trim part)).name)
    by false e true f = absurd (cc)

part_from : (part : List ℕ) (read : Option SortName) → is_unclosed part ≡ false → IsPart part read
    → part_reading part ≡ read
part_from part _ closed (blank empty) =
    let e : is_empty_text (trim part) ≡ true = ap is_empty_text empty in
    ap (λ b. cond (b || is_unclosed part) None (Some (named (directed (trim part))))) e
part_from part _ closed (naming text name direction some on is) =
    ap (λ b. cond (b || is_unclosed part) None (Some (named (directed (trim part))))) (some_is (trim part) some)
    ∙ ap (λ b. cond b None (Some (named (directed (trim part))))) closed
    ∙ ap (λ d. Some (named d)) (directed_from (trim part) text direction on)
    ∙ ap (λ n. Some (record { name = n; direction = direction })) (name_from text name is)

unclosed_names_nothing : (part : List ℕ) → is_unclosed part ≡ true → part_reading part ≡ None
unclosed_names_nothing part e =
    ap (λ b. cond (is_empty_text (trim part) || b) None (Some (named (directed (trim part))))) e
    ∙ either (is_empty_text (trim part))
  where
    either : (b : Bool) → cond (b || true) None (Some (named (directed (trim part)))) ≡ None
    either true = refl
    either false = refl

-- ---- all parts

parts_read : (text : List ℕ) (read : List (Option SortName)) → AreParts text read
    → map part_reading (parts_from false text) ≡ read
parts_read text _ (last_part _ one closed is) =
    ap (map part_reading) (closed_last text closed)
    ∙ ap (λ r. r ∷ []) (part_from text one (closed_is text closed) is)
parts_read text _ (open_part _ left) =
    ap (map part_reading) (open_last text left) ∙ ap (λ r. r ∷ []) (unclosed_names_nothing text (open_is text left))
parts_read _ _ (next_part part rest one others closed is more) =
    ap (map part_reading) (closed_next part rest closed)
    ∙ ap₂ (λ r (rs : List (Option SortName)). r ∷ rs) (part_from part one (closed_is part closed) is)
    (parts_read rest others more)

-- some parts that the text has
abbrev Parts : List ℕ → Type 0
Parts text = (read : List (Option SortName)) × AreParts text read

closed_part : (part : List ℕ) → IsClosed part → IsPart part (part_reading part)
closed_part part closed = part_to part (closed_is part closed)

after_plain : (c : ℕ) (text : List ℕ) (read : List (Option SortName)) → is_plain c ≡ true → AreParts text read
    → Parts (c ∷ text)
after_plain c text _ h (last_part _ one closed is) =
    (_, last_part (c ∷ text) _ (plain c text h closed) (closed_part (c ∷ text) (plain c text h closed)))
after_plain c _ _ h (open_part _ (opened before inside closed none)) =
    (None ∷ [], open_part (c ∷ (before ++ 34 ∷ inside)) (opened (c ∷ before) inside (plain c before h closed) none))
after_plain c _ _ h (next_part part rest one others closed is more) =
    (_, next_part (c ∷ part) rest _ others (plain c part h closed) (closed_part (c ∷ part) (plain c part h closed)) more)

after_quoted : (front text : List ℕ) (read : List (Option SortName)) → HasNoQuote front → AreParts text read
    → Parts (34 ∷ front ++ 34 ∷ text)
after_quoted front text _ h (last_part _ one closed is) =
    let more : IsClosed (34 ∷ front ++ 34 ∷ text) = quoted front text h closed in
    (_, last_part (34 ∷ front ++ 34 ∷ text) _ more (closed_part (34 ∷ front ++ 34 ∷ text) more))
after_quoted front _ _ h (open_part _ (opened before inside closed none)) =
    let more : IsClosed (34 ∷ front ++ 34 ∷ before) = quoted front before h closed in
    let left : IsOpen ((34 ∷ front ++ 34 ∷ before) ++ 34 ∷ inside) =
    opened (34 ∷ front ++ 34 ∷ before) inside more none in (
      None ∷ [],
      open_part (34 ∷ front ++ 34 ∷ (before ++ 34 ∷ inside))
          (subst IsOpen (append_assoc (34 ∷ front) (34 ∷ before) (34 ∷ inside)) left),
    )
after_quoted front _ _ h (next_part part rest one others closed is more) =
    let front_closed : IsClosed (34 ∷ front ++ 34 ∷ part) = quoted front part h closed in
    subst Parts (append_assoc (34 ∷ front) (34 ∷ part) (44 ∷ rest)) (
      _,
      next_part (34 ∷ front ++ 34 ∷ part) rest _ others front_closed
          (closed_part (34 ∷ front ++ 34 ∷ part) front_closed) more,
    )

-- The text has a double quote, and parts after the first one.
record Closing (text : List ℕ) : Type 0 where
  front : List ℕ
  rest : List ℕ
  whole : text ≡ front ++ 34 ∷ rest
  none : HasNoQuote front
  parts : Parts rest

-- The parts of a text, as it stands and after a double quote.
record Both (text : List ℕ) : Type 0 where
  outside : Parts text
  inside : HasNoQuote text ⊎ Closing text

all_parts : (text : List ℕ) → Both text
all_parts [] = record { outside = (_, last_part [] _ nothing (closed_part [] nothing)); inside = inl refl }
all_parts (c ∷ cs) = by (is_quote c) refl (c == 44) refl (all_parts cs)
  where
    within : (b : Bool) → is_quote c ≡ b → Both cs → HasNoQuote (c ∷ cs) ⊎ Closing (c ∷ cs)
    within true e more = inr (record {
      front = [];
      rest = cs;
      whole = ap (λ d. d ∷ cs) (eqb-true c 34 e);
      none = refl;
      parts = more.outside;
    })
    within false e more = longer more.inside
      where
        longer : HasNoQuote cs ⊎ Closing cs → HasNoQuote (c ∷ cs) ⊎ Closing (c ∷ cs)
        longer (inl none) = inl (ap₂ (λ a b. a || b) e none)
        longer (inr closing) = inr (record {
          front = c ∷ closing.front;
          rest = closing.rest;
          whole = ap (λ (xs : List ℕ). c ∷ xs) closing.whole;
          none = ap₂ (λ a b. a || b) e closing.none;
          parts = closing.parts;
        })

    opening : c ≡ 34 → HasNoQuote cs ⊎ Closing cs → Parts (c ∷ cs)
    opening is (inl none) =
        subst (λ d. Parts (d ∷ cs)) (sym is) (None ∷ [], open_part (34 ∷ cs) (opened [] cs nothing none))
    opening is (inr closing) =
        subst Parts (ap₂ (λ d (xs : List ℕ). d ∷ xs) (sym is) (sym closing.whole))
        (after_quoted closing.front closing.rest closing.parts.0 closing.none closing.parts.1)

    by : (b : Bool) → is_quote c ≡ b → (d : Bool) → (c == 44) ≡ d → Both cs → Both (c ∷ cs)
    by true e d f more =
        record { outside = opening (eqb-true c 34 e) more.inside; inside = within true e more }
    by false e true f more = record {
      outside =
          subst (λ x. Parts (x ∷ cs)) (sym (eqb-true c 44 f))
          (_, next_part [] cs _ more.outside.0 nothing (closed_part [] nothing) more.outside.1);
      inside = within false e more;
    }
    by false e false f more = record {
      outside =
          after_plain c cs more.outside.0 (ap₂ (λ a b. not a && not b) e f) more.outside.1;
      inside = within false e more;
    }

sort_parts_read : (text : List ℕ) (read : List (Option SortName)) → AreSortParts text read
    → map part_reading (parts_of text) ≡ read
sort_parts_read _ _ no_parts = refl
sort_parts_read _ _ (some_parts c cs read are) = parts_read (c ∷ cs) read are

grammar_reads : (text : List ℕ) → AreSortParts text (map part_reading (parts_of text))
grammar_reads [] = no_parts
grammar_reads (c ∷ cs) =
    let found = (all_parts (c ∷ cs)).outside in
    some_parts c cs (map part_reading (parts_from false (c ∷ cs)))
    (subst (AreParts (c ∷ cs)) (sym (parts_read (c ∷ cs) found.0 found.1)) found.1)

-- What a sort's parts name is read exactly as the grammar says.
pub sort_parts_by_grammar : (text : List ℕ) (read : List (Option SortName))
    → (map part_reading (parts_of text) ≡ read) ↔ AreSortParts text read
sort_parts_by_grammar text read = (λ e. subst (AreSortParts text) e (grammar_reads text), sort_parts_read text read)
