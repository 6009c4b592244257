-- A row passes filters and has words as the definitions say.
use Rattle.std.proofs.Common.{◌≡◌, ◌∙◌, ◌↔◌, ℕ, Bool, true, false, not, List, [], ◌∷◌, ◌++◌, ap, append_assoc, append-nil}
use Rattle.std.proofs.Common.{inl, inr, map, refl, rules, subst, sym, ◌⊎◌}
use Rattle.std.specs.Prelude.{All, Contains, flat_map, pos}
use Rattle.std.specs.List.{onto_first, slice_split}
use Rattle.std.specs.Str.{bytes_eq, chars}
use Rattle.std.proofs.lemmas.List.Elements.{All-cons, All-nil, All-weaker}
use Rattle.std.proofs.lemmas.List.Splits.{slice_split-cons_no, slice_split-cons_yes, slice_split_at, slice_split_none}
use Rattle.portal_base.specs.Characters.{is_word_character}
use Rattle.portal_base.specs.Tokens.{folded, has_character, is_between_words, tokens, words_of}
use Rattle.portal_base.proofs.Filtered.{IsIn-filter, IsIn-list_all, filter-IsIn, list_all-IsIn}
use Rattle.portal_base.proofs.Unique.{Contains-IsIn, IsIn, IsIn-Contains}
use Rattle.table_schema.specs.declared.cell.Cell.{Cell}
use Rattle.table_schema.specs.declared.cell.Cell.TheVariants as cell
use Rattle.table_schema.specs.Printed.{cell_text}
use Rattle.datastore_table.specs.declared.row.Row.{Row}
use Rattle.datastore_table.specs.Cells.{cell_at}
use Rattle.datastore_table.proofs.KeyLemmas.{same_cell-is, same_cell-itself, true_false}
use Rattle.datastore_table.proofs.ReferenceLemmas.{any-found, found-any, in-map}
use Rattle.datastore_query.specs.declared.column.Column.{Column}
use Rattle.datastore_query.specs.declared.column.Column.TheVariants as column
use Rattle.datastore_query.specs.declared.filter.Filter.{Filter}
use Rattle.datastore_query.specs.Filter.{has_value, is_id, passes_filter, passes_filters}
use Rattle.datastore_query.specs.Passing.{HasWord, HasWords, HaveWord, IsAfterWord, IsBeforeWord, PassesFilters, value_at}
use Rattle.sorted_pages.proofs.MemberLemmas.{IsIn-back, IsIn-either, IsIn-front}
use Rattle.datastore_query.specs.Words.{cell_tokens, has_word, has_words, row_tokens}

-- ---- filters

id-is : (id : ℕ) (value : Cell) → is_id id value ≡ true → cell.Int (pos id) ≡ value
id-is id value h = search rules

id-itself : (id : ℕ) → is_id id (cell.Int (pos id)) ≡ true
id-itself id = search rules

value-is : (on : Column) (row : Row) (value : Cell) → has_value on row value ≡ true → value_at on row ≡ value
value-is column.Id row value h = id-is row.id value h
value-is (column.Field index) row value h = same_cell-is (cell_at row.cells index) value h

value-itself : (on : Column) (row : Row) → has_value on row (value_at on row) ≡ true
value-itself column.Id row = id-itself row.id
value-itself (column.Field index) row = same_cell-itself (cell_at row.cells index)

has-one : (f : Filter) (row : Row) → passes_filter row f ≡ true → Contains f.values (value_at f.column row)
has-one f row h =
    let found = any-found (has_value f.column row) f.values h in
    Contains-IsIn (value_at f.column row) f.values
    (subst (λ c. IsIn c f.values) (sym (value-is f.column row found.0 found.2)) found.1)

one-has : (f : Filter) (row : Row) → Contains f.values (value_at f.column row) → passes_filter row f ≡ true
one-has f row there =
    found-any (has_value f.column row) (value_at f.column row) f.values
    (IsIn-Contains (value_at f.column row) f.values there) (value-itself f.column row)

pub filters_by_values : (filters : List Filter) (row : Row)
    → (passes_filters filters row ≡ true) ↔ PassesFilters filters row
filters_by_values filters row = (
  λ h f m. has-one f row (list_all-IsIn (passes_filter row) filters h f (IsIn-Contains f filters m)),
  λ all. IsIn-list_all (passes_filter row) filters (λ f m. one-has f row (all f (Contains-IsIn f filters m))),
)

-- ---- the parts of a list between items that pass a test

-- what follows the first part
abbrev later : {X : Type 0} → List X → List X
later [] = []
later (x ∷ xs) = xs

later-onto : {X : Type 0} (x : X) (parts : List (List X)) → later (onto_first x parts) ≡ later parts
later-onto x [] = refl
later-onto x (part ∷ parts) = refl

IsIn-later : {X : Type 0} (z : X) (xs : List X) → IsIn z (later xs) → IsIn z xs
IsIn-later z [] m = m
IsIn-later z (x ∷ xs) m = inr m

-- The characters begin with the part.
record IsFirst (cs part : List ℕ) : Type 0 where
  rest : List ℕ
  whole : cs ≡ part ++ rest
  plain : All (λ c. is_between_words c ≡ false) part
  ends : IsAfterWord rest

-- The part stands after a character between words.
record IsLater (cs part : List ℕ) : Type 0 where
  front : List ℕ
  divider : ℕ
  rest : List ℕ
  whole : cs ≡ front ++ divider ∷ (part ++ rest)
  divides : is_between_words divider ≡ true
  plain : All (λ c. is_between_words c ≡ false) part
  ends : IsAfterWord rest

-- The first part, and the later ones.
record HasParts (cs : List ℕ) : Type 0 where
  head : List ℕ
  tail : List (List ℕ)
  split : slice_split is_between_words cs ≡ head ∷ tail
  first : IsFirst cs head
  others : (part : List ℕ) → IsIn part tail → IsLater cs part

later-cons : (c : ℕ) (cs part : List ℕ) → IsLater cs part → IsLater (c ∷ cs) part
later-cons c cs part l = record {
  front = c ∷ l.front;
  divider = l.divider;
  rest = l.rest;
  whole = ap (λ xs. c ∷ xs) l.whole;
  divides = l.divides;
  plain = l.plain;
  ends = l.ends;
}

parts-of : (cs : List ℕ) → HasParts cs
parts-of [] = record {
  head = [];
  tail = [];
  split = refl;
  first = record {
    rest = [];
    whole = refl;
    plain = All-nil (λ c. is_between_words c ≡ false);
    ends = IsAfterWord.nothing;
  };
  others = λ part m. absurd m;
}
parts-of (c ∷ cs) = by (is_between_words c) refl (parts-of cs)
  where
    after-divider : is_between_words c ≡ true → (part : List ℕ) → IsFirst cs part → IsLater (c ∷ cs) part
    after-divider e part first = record {
      front = [];
      divider = c;
      rest = first.rest;
      whole = ap (λ xs. c ∷ xs) first.whole;
      divides = e;
      plain = first.plain;
      ends = first.ends;
    }

    other : is_between_words c ≡ true → (h : HasParts cs) → (part : List ℕ) → IsIn part (h.head ∷ h.tail)
        → IsLater (c ∷ cs) part
    other e h part (inl same) = subst (λ z. IsLater (c ∷ cs) z) (sym same) (after-divider e h.head h.first)
    other e h part (inr m) = later-cons c cs part (h.others part m)

    by : (b : Bool) → is_between_words c ≡ b → HasParts cs → HasParts (c ∷ cs)
    by true e h = record {
      head = [];
      tail = h.head ∷ h.tail;
      split = slice_split-cons_yes is_between_words c cs e ∙ ap (λ parts. [] ∷ parts) h.split;
      first = record {
        rest = c ∷ cs;
        whole = refl;
        plain = All-nil (λ x. is_between_words x ≡ false);
        ends = IsAfterWord.beginning c cs e;
      };
      others = other e h;
    }
    by false e h = record {
      head = c ∷ h.head;
      tail = h.tail;
      split = slice_split-cons_no is_between_words c cs e ∙ ap (onto_first c) h.split;
      first = record {
        rest = h.first.rest;
        whole = ap (λ xs. c ∷ xs) h.first.whole;
        plain = All-cons (λ x. is_between_words x ≡ false) c h.head e h.first.plain;
        ends = h.first.ends;
      };
      others = λ part m. later-cons c cs part (h.others part m);
    }

first-part : (part rest : List ℕ) → All (λ c. is_between_words c ≡ false) part → IsAfterWord rest
    → IsIn part (slice_split is_between_words (part ++ rest))
first-part part rest plain IsAfterWord.nothing =
    subst (λ cs. IsIn part (slice_split is_between_words cs)) (sym (append-nil part))
    (subst (λ parts. IsIn part parts) (sym (slice_split_none is_between_words part plain)) (inl refl))
first-part part rest plain (IsAfterWord.beginning c others e) =
    subst (λ parts. IsIn part parts) (sym (slice_split_at is_between_words part c others plain e)) (inl refl)

later-part : (front : List ℕ) (c : ℕ) (cs part : List ℕ) → is_between_words c ≡ true
    → IsIn part (slice_split is_between_words cs) → IsIn part (later (slice_split is_between_words (front ++ c ∷ cs)))
later-part [] c cs part e m =
    subst (λ parts. IsIn part (later parts)) (sym (slice_split-cons_yes is_between_words c cs e)) m
later-part (x ∷ front) c cs part e m = by (is_between_words x) refl (later-part front c cs part e m)
  where
    others : List (List ℕ)
    others = slice_split is_between_words (front ++ c ∷ cs)

    by : (b : Bool) → is_between_words x ≡ b → IsIn part (later others)
        → IsIn part (later (slice_split is_between_words (x ∷ front ++ c ∷ cs)))
    by true t n =
        subst (λ parts. IsIn part (later parts)) (sym (slice_split-cons_yes is_between_words x (front ++ c ∷ cs) t))
        (IsIn-later part others n)
    by false f n =
        subst (λ parts. IsIn part (later parts)) (sym (slice_split-cons_no is_between_words x (front ++ c ∷ cs) f))
        (subst (λ parts. IsIn part parts) (sym (later-onto x others)) n)

-- ---- the words of a text

plain-letter : (c : ℕ) → is_between_words c ≡ false → is_word_character c ≡ true
plain-letter c h = by (is_word_character c) h
  where
    by : (b : Bool) → not b ≡ false → b ≡ true
    by true e = refl
    by false e = absurd (cc)

letter-plain : (c : ℕ) → is_word_character c ≡ true → is_between_words c ≡ false
letter-plain c h = ap not h

word-part : (before word rest : List ℕ) → All (λ c. is_between_words c ≡ false) word → IsBeforeWord before
    → IsAfterWord rest → IsIn word (slice_split is_between_words (before ++ (word ++ rest)))
word-part before word rest plain IsBeforeWord.nothing ends = first-part word rest plain ends
word-part before word rest plain (IsBeforeWord.ending front c e) ends =
    subst (λ cs. IsIn word (slice_split is_between_words cs)) (sym (append_assoc front (c ∷ []) (word ++ rest)))
    (IsIn-later word (slice_split is_between_words (front ++ c ∷ (word ++ rest)))
    (later-part front c (word ++ rest) word e (first-part word rest plain ends)))

have-word : (cs word : List ℕ) → HaveWord cs word → IsIn word (words_of cs)
have-word cs word h =
    filter-IsIn has_character word (slice_split is_between_words cs)
    (subst (λ xs. IsIn word (slice_split is_between_words xs)) (sym h.whole)
    (word-part h.before word h.after
    (All-weaker (λ c. is_word_character c ≡ true) (λ c. is_between_words c ≡ false) letter-plain word h.each) h.starts
    h.ends))
    (some word h.some)
  where
    some : (cs : List ℕ) → (cs ≡ [] → ⊥) → has_character cs ≡ true
    some [] s = absurd (s refl)
    some (c ∷ cs) s = refl

letters : (word : List ℕ) → All (λ c. is_between_words c ≡ false) word → All (λ c. is_word_character c ≡ true) word
letters word plain =
    All-weaker (λ c. is_between_words c ≡ false) (λ c. is_word_character c ≡ true) plain-letter word plain

not_empty : (word : List ℕ) → has_character word ≡ true → word ≡ [] → ⊥
not_empty word some e = true_false (has_character word) some (ap has_character e)

first-word : (cs word : List ℕ) → IsFirst cs word → has_character word ≡ true → HaveWord cs word
first-word cs word f some = record {
  before = [];
  after = f.rest;
  whole = f.whole;
  some = not_empty word some;
  each = letters word f.plain;
  starts = IsBeforeWord.nothing;
  ends = f.ends;
}

later-word : (cs word : List ℕ) → IsLater cs word → has_character word ≡ true → HaveWord cs word
later-word cs word l some = record {
  before = l.front ++ l.divider ∷ [];
  after = l.rest;
  whole = l.whole ∙ sym (append_assoc l.front (l.divider ∷ []) (word ++ l.rest));
  some = not_empty word some;
  each = letters word l.plain;
  starts = IsBeforeWord.ending l.front l.divider l.divides;
  ends = l.ends;
}

word-had : (cs word : List ℕ) → IsIn word (words_of cs) → HaveWord cs word
word-had cs word m =
    let kept = IsIn-filter has_character word (slice_split is_between_words cs) m in
    by (parts-of cs) kept.1 kept.0
  where
    at : (h : HasParts cs) → has_character word ≡ true → IsIn word (h.head ∷ h.tail) → HaveWord cs word
    at h some (inl e) = subst (λ w. HaveWord cs w) (sym e) (first-word cs h.head h.first (ap has_character (sym e) ∙ some))
    at h some (inr n) = later-word cs word (h.others word n) some

    by : HasParts cs → has_character word ≡ true → IsIn word (slice_split is_between_words cs) → HaveWord cs word
    by h some n = at h some (subst (λ parts. IsIn word parts) h.split n)

-- ---- the words of a row

text-is : (a b : List ℕ) → bytes_eq a b ≡ true → a ≡ b
text-is a b h = search rules

text-itself : (a : List ℕ) → bytes_eq a a ≡ true
text-itself a = search rules

map-in : {A B : Type 0} (f : A → B) (z : B) (xs : List A) → IsIn z (map f xs) → (x : A) × IsIn x xs × (f x ≡ z)
map-in f z [] m = absurd m
map-in f z (x ∷ xs) (inl e) = (x, inl refl, sym e)
map-in f z (x ∷ xs) (inr m) = let rest = map-in f z xs m in (rest.0, inr rest.1, rest.2)

flat-in : {A B : Type 0} (f : A → List B) (z : B) (xs : List A) → IsIn z (flat_map f xs)
    → (x : A) × IsIn x xs × IsIn z (f x)
flat-in f z [] m = absurd m
flat-in {A} f z (x ∷ xs) m = by (IsIn-either z (f x) (flat_map f xs) m) (flat-in f z xs)
  where
    by : IsIn z (f x) ⊎ IsIn z (flat_map f xs) → (IsIn z (flat_map f xs) → (y : A) × IsIn y xs × IsIn z (f y))
        → (y : A) × IsIn y (x ∷ xs) × IsIn z (f y)
    by (inl n) more = (x, inl refl, n)
    by (inr n) more = let rest = more n in (rest.0, inr rest.1, rest.2)

in-flat : {A B : Type 0} (f : A → List B) (z : B) (x : A) (xs : List A) → IsIn x xs → IsIn z (f x)
    → IsIn z (flat_map f xs)
in-flat f z x [] m n = absurd m
in-flat f z x (y ∷ ys) (inl e) n = IsIn-front z (f y) (flat_map f ys) (subst (λ w. IsIn z (f w)) e n)
in-flat f z x (y ∷ ys) (inr m) n = IsIn-back z (f y) (flat_map f ys) (in-flat f z x ys m n)

token-word : (row : Row) (token : List ℕ) → has_word (row_tokens row) token ≡ true → HasWord row token
token-word row token h =
    let found = any-found (λ t. bytes_eq t token) (row_tokens row) h in
    let among = flat-in cell_tokens found.0 row.cells found.1 in
    let folds = map-in folded found.0 (words_of (chars (cell_text among.0))) among.2 in
    record {
      at = among.0;
      among = Contains-IsIn among.0 row.cells among.1;
      word = folds.0;
      has = word-had (chars (cell_text among.0)) folds.0 folds.1;
      folds = folds.2 ∙ text-is found.0 token found.2;
    }

word-token : (row : Row) (token : List ℕ) → HasWord row token → has_word (row_tokens row) token ≡ true
word-token row token h =
    found-any (λ t. bytes_eq t token) token (row_tokens row)
    (in-flat cell_tokens token h.at row.cells (IsIn-Contains h.at row.cells h.among)
    (subst (λ t. IsIn t (tokens (cell_text h.at))) h.folds
    (in-map folded h.word (words_of (chars (cell_text h.at))) (have-word (chars (cell_text h.at)) h.word h.has))))
    (text-itself token)

pub words_by_texts : (words : List (List ℕ)) (row : Row) → (has_words words row ≡ true) ↔ HasWords words row
words_by_texts words row = (
  λ h w m. token-word row w (list_all-IsIn (has_word (row_tokens row)) words h w (IsIn-Contains w words m)),
  λ all. IsIn-list_all (has_word (row_tokens row)) words (λ w m. word-token row w (all w (Contains-IsIn w words m))),
)
