-- A text that is split between two records.
use Rattle.std.proofs.Common.{◌≡◌, ◌≤◌, ◌<◌, get_or, ◌+◌, ℕ, Bool, true, false, ◌||◌, List, [], ◌∷◌, ◌++◌, length}
use Rattle.std.proofs.Common.{take, drop, Option, Some, None, if◌then◌else◌, refl, sym, ap, subst, ◌∙◌, arith}
use Rattle.std.proofs.lemmas.Bool.Decides.{nat_tests}
use Rattle.std.proofs.Math.Seq.{take-length}
use Rattle.std.proofs.lemmas.List.{drop_all, drop-append-le, length-append, length-take-le, take-append-drop}
use Rattle.std.proofs.lemmas.List.{take-append-le, take_more}
use Rattle.csv.specs.Machine.{field_after, fields_after, is_end, step}
use Rattle.csv.specs.Reading.{default_config, is_bom, records, strip_bom}
use Rattle.csv.specs.declared.parser.Action.{Action}
use Rattle.csv.specs.declared.parser.Action.TheVariants as act
use Rattle.csv.specs.declared.parser.State.{State}
use Rattle.csv.specs.declared.parser.State.TheVariants as st
use Rattle.typed_csv.proofs.RecordLemmas.{all_records, records-all}
use Rattle.typed_csv.specs.Positions.{IsLastStart, has_start, is_start, next_position, position_after}
use Rattle.typed_csv.specs.declared.scan.Position.{Position}
use Rattle.typed_csv.specs.declared.scan.Position.TheVariants as position

-- ---- positions after more bytes

pub position_after-append : (start : Position) (front back : List ℕ)
    → position_after start (front ++ back) ≡ position_after (position_after start front) back
position_after-append start [] back = refl
position_after-append start (c ∷ front) back = position_after-append (next_position start c) front back

pub position_after_more : (start : Position) (bytes : List ℕ) (i : ℕ) → i < length bytes
    → position_after start (take (i + 1) bytes) ≡ next_position (position_after start (take i bytes)) (get_or bytes i 0)
position_after_more start bytes i h =
    ap (position_after start) (take_more bytes i 0 h)
    ∙ position_after-append start (take i bytes) (get_or bytes i 0 ∷ [])

-- ---- positions between two records

pub start_is : (at : Position) → is_start at ≡ true → at ≡ position.RecordStart
start_is position.RecordStart e = refl
start_is position.FieldStart e = cc
start_is position.Unquoted e = cc
start_is position.Quoted e = cc
start_is position.AfterQuote e = cc

neither : (a b : Bool) → (a || b) ≡ false → (a ≡ false) × (b ≡ false)
neither true b e = cc
neither false b e = (refl, e)

-- If the front has none, those of both parts are those of the back.
pub has_start-append : (start : Position) (front back : List ℕ) → has_start start front ≡ false
    → has_start start (front ++ back) ≡ has_start (position_after start front) back
has_start-append start [] back e = refl
has_start-append start (c ∷ front) back e =
    let none = neither (is_start (next_position start c)) (has_start (next_position start c) front) e in
    ap (λ here. here || has_start (next_position start c) (front ++ back)) none.0
    ∙ has_start-append (next_position start c) front back none.1

-- The last of them comes after all bytes.
last-all : (start : Position) (bytes : List ℕ) (count : ℕ) → count ≡ length bytes
    → position_after start bytes ≡ position.RecordStart
    → IsLastStart start bytes (Some count)
last-all start bytes count e at = (
  omega (arith, e),
  ap (position_after start) (ap (λ n. take n bytes) e ∙ take-length bytes) ∙ at,
  ap (has_start position.RecordStart) (drop_all count bytes (omega (arith, e))),
)

no_start : (at : Position) (byte : ℕ) → is_start (next_position at byte) ≡ false → has_start at (byte ∷ []) ≡ false
no_start at byte e = ap (λ here. here || false) e

-- one more byte, after which there is none
last-before : (start : Position) (bytes : List ℕ) (byte : ℕ) (records_end : Option ℕ)
    → IsLastStart start bytes records_end
    → is_start (next_position (position_after start bytes) byte) ≡ false
    → IsLastStart start (bytes ++ byte ∷ []) records_end
last-before start bytes byte None none e = has_start-append start bytes (byte ∷ []) none
    ∙ no_start (position_after start bytes) byte e
last-before start bytes byte (Some count) last e =
    let left : position_after start bytes ≡ position_after position.RecordStart (drop count bytes) =
    ap (position_after start) (sym (take-append-drop count bytes)) ∙ position_after-append start (take count bytes)
    (drop count bytes)
    ∙ ap (λ at. position_after at (drop count bytes)) last.1 in (
      omega (arith, last.0, length-append bytes (byte ∷ [])),
      ap (position_after start) (take-append-le count bytes (byte ∷ []) last.0) ∙ last.1,
      ap (has_start position.RecordStart) (drop-append-le count bytes (byte ∷ []) last.0)
          ∙ has_start-append position.RecordStart (drop count bytes) (byte ∷ []) last.2
          ∙ no_start (position_after position.RecordStart (drop count bytes)) byte
          (ap (λ at. is_start (next_position at byte)) (sym left) ∙ e),
    )

-- The same for the first bytes of a list, where `here` is the position after one more of them.
pub last_here : (start : Position) (bytes : List ℕ) (i : ℕ) (here : Position) → i < length bytes
    → here ≡ position_after start (take (i + 1) bytes)
    → is_start here ≡ true → IsLastStart start (take (i + 1) bytes) (Some (i + 1))
last_here start bytes i here h e is =
    last-all start (take (i + 1) bytes) (i + 1) (sym (length-take-le (i + 1) bytes (omega (arith, h))))
    (sym e ∙ start_is here is)

pub last_unchanged : (start : Position) (bytes : List ℕ) (i : ℕ) (here : Position) (records_end : Option ℕ)
    → i < length bytes
    → here ≡ position_after start (take (i + 1) bytes) → is_start here ≡ false
    → IsLastStart start (take i bytes) records_end
    → IsLastStart start (take (i + 1) bytes) records_end
last_unchanged start bytes i here records_end h e is last =
    subst (λ (more : List ℕ). IsLastStart start more records_end) (sym (take_more bytes i 0 h))
    (last-before start (take i bytes) (get_or bytes i 0) records_end last
    (ap is_start (sym (position_after_more start bytes i h) ∙ sym e) ∙ is))

-- ---- positions and the states of the parser

-- the position of a state of the parser
abbrev position_of : State → Position
position_of st.StartRecord = position.RecordStart
position_of st.AfterCr = position.RecordStart
position_of st.StartField = position.FieldStart
position_of st.InField = position.Unquoted
position_of st.InQuoted = position.Quoted
position_of st.AfterQuote = position.AfterQuote
position_of st.InEscape = position.Unquoted
position_of st.InComment = position.Unquoted

-- The state occurs with the default settings, which have no escapes and no comments.
abbrev Comes : State → Type 0
Comes st.StartRecord = Unit {0}
Comes st.AfterCr = Unit {0}
Comes st.StartField = Unit {0}
Comes st.InField = Unit {0}
Comes st.InQuoted = Unit {0}
Comes st.AfterQuote = Unit {0}
Comes st.InEscape = ⊥
Comes st.InComment = ⊥

-- A byte leads to the position of the next state, which occurs too. It leads to the start of a record only from a start
-- or at the end of a record.
record Steps (s : State) (c : ℕ) (t : State) (action : Action) : Type 0 where
  goes : next_position (position_of s) c ≡ position_of t
  comes : Comes t
  starts : is_end action ≡ false → position_of t ≡ position.RecordStart
      → (position_of s ≡ position.RecordStart) × (action ≡ act.Skip)

stepped : (s : State) (c : ℕ) → Comes s → Steps s c (step default_config s c).0 (step default_config s c).1
stepped st.StartRecord c h = grind (arith, nat_tests)
stepped st.AfterCr c h = grind (arith, nat_tests)
stepped st.StartField c h = grind (arith, nat_tests)
stepped st.InField c h = grind (arith, nat_tests)
stepped st.InQuoted c h = grind (arith, nat_tests)
stepped st.AfterQuote c h = grind (arith, nat_tests)
stepped st.InEscape c h = absurd h
stepped st.InComment c h = absurd h

-- ---- records of a text that is split

after_return : (c : ℕ) → step default_config st.AfterCr c ≡ step default_config st.StartRecord c
after_return c = grind (arith, nat_tests)

-- After a carriage return the records are those of a start.
all_records-return : (f : List (List ℕ)) (p bytes : List ℕ)
    → all_records st.AfterCr f p bytes ≡ all_records st.StartRecord f p bytes
unfolding all_records
all_records-return f p [] = refl
all_records-return f p (c ∷ rest) =
    ap (λ (q : State × Action). if is_end q.1 then fields_after q.1 f p ∷ all_records q.0 [] [] rest
    else all_records q.0 (fields_after q.1 f p) (field_after q.1 c p) rest) (after_return c)

-- At a start no field has begun.
IsClear : State → List (List ℕ) → List ℕ → Type 0
IsClear s f p = position_of s ≡ position.RecordStart → (f ≡ []) × (p ≡ [])

at_start : (s : State) (f : List (List ℕ)) (p back : List ℕ) → IsClear s f p → position_of s ≡ position.RecordStart
    → all_records s f p back ≡ all_records s f p [] ++ all_records st.StartRecord [] [] back
unfolding all_records IsClear
at_start st.StartRecord f p back k e = rw ((k refl).0, (k refl).1) refl
at_start st.AfterCr f p back k e = rw ((k refl).0, (k refl).1) (all_records-return [] [] back)
at_start st.StartField f p back k e = cc
at_start st.InField f p back k e = cc
at_start st.InQuoted f p back k e = cc
at_start st.AfterQuote f p back k e = cc
at_start st.InEscape f p back k e = cc
at_start st.InComment f p back k e = cc

skipped : (action : Action) (f : List (List ℕ)) (p : List ℕ) (c : ℕ) → action ≡ act.Skip → (f ≡ []) × (p ≡ [])
    → (fields_after action f p ≡ []) × (field_after action c p ≡ [])
skipped act.Skip f p c e k = k
skipped act.Copy f p c e k = absurd cc
skipped act.EndField f p c e k = absurd cc
skipped act.EndRecord f p c e k = absurd cc

at_byte : (b : Bool) (row : List (List ℕ)) (ended ended' going going' last : List (List (List ℕ)))
    → (b ≡ true → ended ≡ ended' ++ last) → (b ≡ false → going ≡ going' ++ last)
    → (if b then row ∷ ended else going) ≡ (if b then row ∷ ended' else going') ++ last
at_byte true row ended ended' going going' last e g = ap (λ (more : List (List (List ℕ))). row ∷ more) (e refl)
at_byte false row ended ended' going going' last e g = g refl

all_records-cut : (front back : List ℕ) (s : State) (f : List (List ℕ)) (p : List ℕ) → Comes s → IsClear s f p
    → position_after (position_of s) front ≡ position.RecordStart
    → all_records s f p (front ++ back) ≡ all_records s f p front ++ all_records st.StartRecord [] [] back
unfolding all_records IsClear
all_records-cut [] back s f p h k e = at_start s f p back k e
all_records-cut (c ∷ front) back s f p h k e =
    let t = (step default_config s c).0 in
    let action = (step default_config s c).1 in
    let q : Steps s c t action = stepped s c h in
    let ends : position_after (position_of t) front ≡ position.RecordStart =
    subst (λ x. position_after x front ≡ position.RecordStart) q.goes e in
    at_byte (is_end action) (fields_after action f p) _ _ _ _ (all_records st.StartRecord [] [] back)
    (λ _. all_records-cut front back t [] [] q.comes (λ _. (refl, refl)) ends)
    (λ going. all_records-cut front back t (fields_after action f p) (field_after action c p) q.comes
    (λ at. let start = q.starts going at in skipped action f p c start.1 (k start.0)) ends)

-- A text that is split between two records has the records of both parts.
pub records-cut : (front back : List ℕ) → position_after position.RecordStart front ≡ position.RecordStart
    → records default_config (front ++ back) ≡ records default_config front ++ records default_config back
unfolding IsClear
records-cut front back e =
    records-all (front ++ back) ∙ all_records-cut front back st.StartRecord [] [] tt (λ _. (refl, refl)) e
    ∙ sym (ap (λ more. more ++ records default_config back) (records-all front)
    ∙ ap (λ more. all_records st.StartRecord [] [] front ++ more) (records-all back))

-- ---- a byte order mark

mark_off : (b : Bool) (x y rest : List ℕ) → (if b then x ++ rest else y ++ rest) ≡ (if b then x else y) ++ rest
mark_off true x y rest = refl
mark_off false x y rest = refl

-- Three bytes decide whether there is a byte order mark.
pub strip_bom-append : (held rest : List ℕ) → 3 ≤ length held → strip_bom (held ++ rest) ≡ strip_bom held ++ rest
unfolding strip_bom
strip_bom-append [] rest h = absurd (omega arith)
strip_bom-append (a ∷ []) rest h = absurd (omega arith)
strip_bom-append (a ∷ b ∷ []) rest h = absurd (omega arith)
strip_bom-append (a ∷ b ∷ c ∷ text) rest h = mark_off (is_bom a b c) text (a ∷ b ∷ c ∷ text) rest
