-- Cutting bytes into lines and reading them one after the other, as a loop does.
use Rattle.std.proofs.Common.{◌≡◌, ℕ, zero, suc, ◌+◌, ◌<◌, ◌≤◌, Bool, true, false, cond, List, [], ◌∷◌, ◌++◌, length}
use Rattle.std.proofs.Common.{get_or, take, drop, Option, Some, None, Result, Ok, Err, refl, sym, ap, subst, ◌∙◌}
use Rattle.std.proofs.Common.{append_assoc, arith, inl, inr}
use Rattle.std.proofs.lemmas.List.{append-nil, length-append}
use Rattle.std.proofs.lemmas.Bool.{eqb-true, false≢true}
use Rattle.std.proofs.lemmas.Str.{is_utf8-from_IsUtf8, IsUtf8-from_is_utf8}
use Rattle.std.proofs.lemmas.Option.{same_Some, none-some}
use Rattle.std.proofs.lemmas.List.Elements.{All-from_recursion}
use Rattle.std.specs.List.{AllByRecursion}
use Rattle.std.specs.Prelude.{All, is_some, IfOk, IfErr, ◌⊎◌, ◌==◌, ◌&&◌, IsSome, option_map}
use Rattle.std.specs.Str.{IsUtf8, is_utf8, chars}
use Rattle.ntriples.specs.declared.fault.NtFault.{NtFault}
use Rattle.ntriples.specs.declared.fault.NtFault.TheVariants.{Line, OutOfMemory}
use Rattle.ntriples.specs.declared.term.Triple.{Triple}
use Rattle.ntriples.specs.Reading.{◌>>=◌, skip_blanks}
use Rattle.ntriples.specs.Parsing.{line}
use Rattle.ntriples.specs.Document.{is_line_end, onto_first, lines, given, begins_with_feed}
use Rattle.ntriples.specs.ParsedLines.{lines_after, after_end}
use Rattle.ntriples.specs.ParsedLines.{line_of, triples_of, IsParsed, IsFirstUnparsed, IsParseFault}
use Rattle.ntriples.specs.Written.{CanBeRead}
use Rattle.ntriples.proofs.Lines.{line_form}

-- ---- lines

and_right : (x y : Bool) → (x && y) ≡ true → y ≡ true
and_right true y e = e
and_right false y e = absurd cc

pub feed_line : (bs : List ℕ) → lines (10 ∷ bs) ≡ [] ∷ lines bs
unfolding lines
feed_line bs = refl

following_lines : (test : Bool) (bs : List ℕ) → (test ≡ true → begins_with_feed bs ≡ true)
    → cond test (drop 1 (lines bs)) (lines bs) ≡ lines_after (cond test (Some (drop 1 bs)) (Some bs))
following_lines false bs h = refl
following_lines true [] h = absurd (let e : false ≡ true = h refl in cc)
following_lines true (b ∷ bs) h = ap (λ (x : ℕ). drop 1 (lines (x ∷ bs))) (eqb-true b 10 (h refl))
    ∙ ap (drop 1) (feed_line bs)

lines_end : (b : ℕ) (bs : List ℕ) → is_line_end b ≡ true → lines (b ∷ bs) ≡ [] ∷ lines_after (after_end (b ∷ bs))
unfolding lines
lines_end b bs e =
    rw e (ap (λ (ls : List (List ℕ)). [] ∷ ls)
    (following_lines ((b == 13) && begins_with_feed bs) bs (λ h. and_right (b == 13) (begins_with_feed bs) h)))

pub lines_inside : (b : ℕ) (bs : List ℕ) → is_line_end b ≡ false → lines (b ∷ bs) ≡ onto_first b (lines bs)
unfolding lines
lines_inside b bs e = rw e refl

pub lines_none : lines [] ≡ [] ∷ []
unfolding lines
lines_none = refl

-- the first line is what is before the first line end
pub lines_cut : (bs : List ℕ) (n : ℕ) → n ≤ length bs → ((k : ℕ) → k < n → is_line_end (get_or bs k 0) ≡ false)
    → (n < length bs → is_line_end (get_or bs n 0) ≡ true) → lines bs ≡ take n bs ∷ lines_after (after_end (drop n bs))
lines_cut [] zero within before found = lines_none
lines_cut (b ∷ bs) zero within before found = lines_end b bs (found (omega arith))
lines_cut [] (suc n) within before found = absurd (omega arith)
lines_cut (b ∷ bs) (suc n) within before found =
    lines_inside b bs (before 0 (omega arith))
    ∙ ap (onto_first b) (lines_cut bs n (omega arith) (λ k h. before (suc k) (omega arith)) (λ h. found (omega arith)))

-- ---- one line

pub line_of_text : (bytes : List ℕ) → IsUtf8 bytes → line_of bytes ≡ line (chars bytes)
unfolding line_of
line_of_text bytes u = rw (is_utf8-from_IsUtf8 bytes u) refl

no_text : (b : Bool) (bytes : List ℕ) → is_utf8 bytes ≡ b → (IsUtf8 bytes → ⊥) → is_utf8 bytes ≡ false
no_text true bytes e h = absurd (h (IsUtf8-from_is_utf8 bytes e))
no_text false bytes e h = e

pub line_of_none : (bytes : List ℕ) → (IsUtf8 bytes → ⊥) → line_of bytes ≡ None
unfolding line_of
line_of_none bytes h = rw (no_text (is_utf8 bytes) bytes refl h) refl

pub empty_line : line_of [] ≡ Some None
unfolding line_of line is_utf8 chars skip_blanks
empty_line = refl

-- ---- many lines

triples_after : Option (List Triple) → List (List ℕ) → Option (List Triple)
triples_after None ls = None
triples_after (Some prefix) ls = triples_of ls >>= λ ts. Some (prefix ++ ts)

nothing : (o : Option (List Triple)) → o ≡ (o >>= λ ts. Some ([] ++ ts))
nothing None = refl
nothing (Some ts) = refl

regroup : (t : Option Triple) (prefix : List Triple) (o : Option (List Triple))
    → ((o >>= λ ts. Some (prefix ++ ts)) >>= λ ts. Some (given t ++ ts)) ≡ (o >>= λ ts. Some ((given t ++ prefix) ++ ts))
regroup t prefix None = refl
regroup t prefix (Some ts) = ap Some (sym (append_assoc (given t) prefix ts))

cons : Option (Option Triple) → Option (List Triple) → Option (List Triple)
cons o later = o >>= λ t. later >>= λ ts. Some (given t ++ ts)

triples_step : (o : Option (Option Triple)) (mid whole : Option (List Triple)) (ls : List (List ℕ))
    → whole ≡ triples_after mid ls → cons o whole ≡ triples_after (cons o mid) ls
unfolding triples_after cons
triples_step None mid whole ls e = refl
triples_step (Some t) None whole ls e = rw e refl
triples_step (Some t) (Some prefix) whole ls e = rw e (regroup t prefix (triples_of ls))

triples_nil : (ls : List (List ℕ)) → triples_of ls ≡ triples_after (triples_of []) ls
unfolding triples_of triples_after
triples_nil ls = nothing (triples_of ls)

triples_cons : (l : List ℕ) (ls : List (List ℕ)) → triples_of (l ∷ ls) ≡ cons (line_of l) (triples_of ls)
unfolding triples_of cons
triples_cons l ls = refl

triples_append : (before ls : List (List ℕ)) → triples_of (before ++ ls) ≡ triples_after (triples_of before) ls
triples_append [] ls = triples_nil ls
triples_append (l ∷ before) ls =
    triples_cons l (before ++ ls) ∙ triples_step (line_of l) (triples_of before) (triples_of (before ++ ls)) ls
    (triples_append before ls)
    ∙ ap (λ o. triples_after o ls) (sym (triples_cons l before))

triples_one : (prefix : List Triple) (l : List ℕ) (o : Option (Option Triple)) (ts : List Triple) → line_of l ≡ o
    → option_map (λ t. prefix ++ given t) o ≡ Some ts → triples_after (Some prefix) (l ∷ []) ≡ Some ts
unfolding triples_of triples_after
triples_one prefix l None ts e given_all = absurd cc
triples_one prefix l (Some t) ts e given_all =
    rw e (ap (λ (v : List Triple). Some (prefix ++ v)) (append-nil (given t)) ∙ given_all)

triples_bad : (l : List ℕ) (ls : List (List ℕ)) → line_of l ≡ None → triples_of (l ∷ ls) ≡ None
unfolding triples_of
triples_bad l ls e = rw e refl

-- ---- reading them in order

-- this count of lines was read, with these triples, and these bytes are left
pub record UnderWay (bytes rest : List ℕ) (triples : List Triple) (ended : ℕ) : Type 0 where
  pub before : List (List ℕ)
  pub cut : lines bytes ≡ before ++ lines rest
  pub good : triples_of before ≡ Some triples
  pub counted : length before ≡ ended
  pub fits : ended + length rest ≤ length bytes

pub none_yet : triples_of [] ≡ Some []
unfolding triples_of
none_yet = refl

pub UnderWay-start : (bytes : List ℕ) (triples : List Triple) → triples ≡ [] → UnderWay bytes bytes triples 0
UnderWay-start bytes triples e =
    record { before = []; cut = refl; good = none_yet ∙ ap Some (sym e); counted = refl; fits = omega arith }

module _ (bytes rest : List ℕ) (triples : List Triple) (ended : ℕ) (u : UnderWay bytes rest triples ended)
    (first : List ℕ) where
  with_line : (ts : List Triple) → option_map (λ t. triples ++ given t) (line_of first) ≡ Some ts
      → triples_of (u.before ++ first ∷ []) ≡ Some ts
  with_line ts pushed =
      triples_append u.before (first ∷ []) ∙ ap (λ o. triples_after o (first ∷ [])) u.good
      ∙ triples_one triples first (line_of first) ts refl pushed

  pub UnderWay-more : (after : List ℕ) (ts : List Triple) → lines rest ≡ first ∷ lines after
      → option_map (λ t. triples ++ given t) (line_of first) ≡ Some ts → length after < length rest
      → UnderWay bytes after ts (ended + 1)
  UnderWay-more after ts cut pushed shorter = record {
    before = u.before ++ first ∷ [];
    cut = u.cut ∙ ap (λ (ls : List (List ℕ)). u.before ++ ls) cut
        ∙ sym (append_assoc u.before (first ∷ []) (lines after));
    good = with_line ts pushed;
    counted = omega (arith, length-append u.before (first ∷ []), u.counted);
    fits = omega (arith, u.fits);
  }

  pub UnderWay-done : (ts : List Triple) → lines rest ≡ first ∷ []
      → option_map (λ t. triples ++ given t) (line_of first) ≡ Some ts → IsParsed bytes ts
  UnderWay-done ts cut pushed =
      ap triples_of (u.cut ∙ ap (λ (ls : List (List ℕ)). u.before ++ ls) cut) ∙ with_line ts pushed

  no_line : (o : Option (Option Triple)) → option_map (λ t. triples ++ given t) o ≡ None → o ≡ None
  no_line None e = refl
  no_line (Some t) e = absurd cc

  pub UnderWay-bad : (later : List (List ℕ)) → lines rest ≡ first ∷ later
      → option_map (λ t. triples ++ given t) (line_of first) ≡ None → IsFirstUnparsed bytes (ended + 1)
  UnderWay-bad later cut refused = record {
    before = u.before;
    bad = first;
    following = later;
    cut = u.cut ∙ ap (λ (ls : List (List ℕ)). u.before ++ ls) cut;
    good = ap is_some u.good;
    malformed = no_line (line_of first) refused;
    counted = omega (arith, u.counted);
  }

  some_bytes : (l : List ℕ) → l ≡ first → option_map (λ t. triples ++ given t) (line_of l) ≡ None → 0 < length first
  some_bytes [] e refused =
      absurd (let h : ◌≡◌ {A = Option (Option Triple)} None (Some None) = sym (no_line (line_of []) refused)
      ∙ empty_line in cc)
  some_bytes (b ∷ bs) e refused = omega (arith, ap length e)

  pub UnderWay-fits : option_map (λ t. triples ++ given t) (line_of first) ≡ None → length first ≤ length rest
      → ended + 1 ≤ length bytes
  UnderWay-fits refused within = omega (arith, some_bytes first refl refused, u.fits)

-- ---- one reading

pub one_document : (bytes : List ℕ) (ts us : List Triple) → IsParsed bytes ts → IsParsed bytes us → ts ≡ us
one_document bytes ts us h k = same_Some ts us (sym h ∙ k)

after_none : (o : Option (List Triple)) (ls : List (List ℕ)) → triples_of ls ≡ None → triples_after o ls ≡ None
unfolding triples_after
after_none None ls e = refl
after_none (Some prefix) ls e = rw e refl

pub never_both : (bytes : List ℕ) (ts : List Triple) (number : ℕ) → IsParsed bytes ts → IsFirstUnparsed bytes number
    → ⊥
never_both bytes ts number h k =
    let none : triples_of (lines bytes) ≡ None =
    ap triples_of k.cut ∙ triples_append k.before (k.bad ∷ k.following)
    ∙ after_none (triples_of k.before) (k.bad ∷ k.following) (triples_bad k.bad k.following k.malformed) in
    none-some ts (sym none ∙ h)

not_good : (l : List ℕ) (ls : List (List ℕ)) → line_of l ≡ None → IsSome (triples_of (l ∷ ls)) → ⊥
not_good l ls e h = false≢true (subst IsSome (triples_bad l ls e) h)

good_tail_by : (o : Option (Option Triple)) (later : Option (List Triple)) → IsSome (cons o later) → IsSome later
unfolding cons
good_tail_by None later h = absurd (false≢true h)
good_tail_by (Some t) None h = absurd (false≢true h)
good_tail_by (Some t) (Some ts) h = refl

good_tail : (l : List ℕ) (ls : List (List ℕ)) → IsSome (triples_of (l ∷ ls)) → IsSome (triples_of ls)
good_tail l ls h = good_tail_by (line_of l) (triples_of ls) (subst IsSome (triples_cons l ls) h)

same_position : (a b : List (List ℕ)) (x y : List ℕ) (p q : List (List ℕ)) → IsSome (triples_of a)
    → IsSome (triples_of b) → line_of x ≡ None → line_of y ≡ None → a ++ x ∷ p ≡ b ++ y ∷ q → length a ≡ length b
same_position [] [] x y p q ga gb ex ey e = refl
same_position [] (l ∷ b) x y p q ga gb ex ey e =
    absurd (let same : x ≡ l = cc in not_good l b (ap line_of (sym same) ∙ ex) gb)
same_position (l ∷ a) [] x y p q ga gb ex ey e = absurd (let same : l ≡ y = cc in not_good l a (ap line_of same ∙ ey) ga)
same_position (l ∷ a) (m ∷ b) x y p q ga gb ex ey e =
    let tails : a ++ x ∷ p ≡ b ++ y ∷ q = cc in
    ap suc (same_position a b x y p q (good_tail l a ga) (good_tail m b gb) ex ey tails)

pub one_bad_line : (bytes : List ℕ) (m n : ℕ) → IsFirstUnparsed bytes m → IsFirstUnparsed bytes n → m ≡ n
one_bad_line bytes m n h k =
    omega (
      arith,
      h.counted,
      k.counted,
      same_position h.before k.before h.bad k.bad h.following k.following h.good k.good
          h.malformed k.malformed (sym h.cut ∙ k.cut),
    )

-- the lines up to the first that is bad, and those after it
record HasBad (ls : List (List ℕ)) : Type 0 where
  pub before : List (List ℕ)
  pub bad : List ℕ
  pub following : List (List ℕ)
  pub cut : ls ≡ before ++ bad ∷ following
  pub good : IsSome (triples_of before)
  pub malformed : line_of bad ≡ None

some_yet : IsSome (triples_of [])
some_yet = ap is_some none_yet

cons_some : (t : Option Triple) (o : Option (List Triple)) → IsSome o → IsSome (cons (Some t) o)
unfolding cons
cons_some t None h = h
cons_some t (Some ts) h = refl

prepended_line : (l : List ℕ) (ls : List (List ℕ)) (t : Option Triple) → line_of l ≡ Some t → IsSome (triples_of ls)
    → IsSome (triples_of (l ∷ ls))
prepended_line l ls t e h = subst IsSome (sym (triples_cons l ls ∙ ap (λ o. cons o (triples_of ls)) e))
    (cons_some t (triples_of ls) h)

pub good_prefix : (l : List ℕ) (ls : List (List ℕ)) (t : Option Triple) (ts : List Triple) → line_of l ≡ Some t
    → triples_of ls ≡ Some ts → triples_of (l ∷ ls) ≡ Some (given t ++ ts)
unfolding triples_of
good_prefix l ls t ts e f = rw (e, f) refl

find_by : (o : Option (Option Triple)) (l : List ℕ) (ls : List (List ℕ)) → line_of l ≡ o
    → ((ts : List Triple) × (triples_of ls ≡ Some ts)) ⊎ HasBad ls
    → ((ts : List Triple) × (triples_of (l ∷ ls) ≡ Some ts)) ⊎ HasBad (l ∷ ls)
find_by None l ls e later =
    inr (record { before = []; bad = l; following = ls; cut = refl; good = some_yet; malformed = e })
find_by (Some t) l ls e (inl (ts, f)) = inl (given t ++ ts, good_prefix l ls t ts e f)
find_by (Some t) l ls e (inr b) = inr (record {
  before = l ∷ b.before;
  bad = b.bad;
  following = b.following;
  cut = ap (λ (rest : List (List ℕ)). l ∷ rest) b.cut;
  good = prepended_line l b.before t e b.good;
  malformed = b.malformed;
})

find_bad : (ls : List (List ℕ)) → ((ts : List Triple) × (triples_of ls ≡ Some ts)) ⊎ HasBad ls
find_bad [] = inl ([], none_yet)
find_bad (l ∷ ls) = find_by (line_of l) l ls refl (find_bad ls)

number_of : (bytes : List ℕ) → ((ts : List Triple) × (triples_of (lines bytes) ≡ Some ts)) ⊎ HasBad (lines bytes)
    → ((ts : List Triple) × IsParsed bytes ts) ⊎ ((n : ℕ) × IsFirstUnparsed bytes n)
number_of bytes (inl d) = inl d
number_of bytes (inr b) =
    inr (
      length b.before + 1,
      record {
        before = b.before;
        bad = b.bad;
        following = b.following;
        cut = b.cut;
        good = b.good;
        malformed = b.malformed;
        counted = refl;
      },
    )

pub document_or_bad_line : (bytes : List ℕ)
    → ((ts : List Triple) × IsParsed bytes ts) ⊎ ((n : ℕ) × IsFirstUnparsed bytes n)
document_or_bad_line bytes = number_of bytes (find_bad (lines bytes))

-- ---- what is read can be read

readable_by : (l : List ℕ) (o : Option (Option Triple)) (later : Option (List Triple)) (ts : List Triple)
    → line_of l ≡ o → ((us : List Triple) → later ≡ Some us → AllByRecursion CanBeRead us) → cons o later ≡ Some ts
    → AllByRecursion CanBeRead ts
unfolding cons
readable_by l None later ts e before h = absurd (none-some ts h)
readable_by l (Some t) None ts e before h = absurd (none-some ts h)
readable_by l (Some None) (Some us) ts e before h =
    subst (AllByRecursion CanBeRead) (same_Some us ts h) (before us refl)
readable_by l (Some (Some t)) (Some us) ts e before h =
    subst (AllByRecursion CanBeRead) (same_Some (t ∷ us) ts h)
    (record { line = l; gives = line_form l (Some t) e }, before us refl)

readable : (ls : List (List ℕ)) (ts : List Triple) → triples_of ls ≡ Some ts → AllByRecursion CanBeRead ts
readable [] ts e = subst (AllByRecursion CanBeRead) (same_Some [] ts (sym none_yet ∙ e)) tt
readable (l ∷ ls) ts e = readable_by l (line_of l) (triples_of ls) ts refl (readable ls) (sym (triples_cons l ls) ∙ e)

pub all_readable : (bytes : List ℕ) (r : Result (List Triple) NtFault) → IfOk r (IsParsed bytes)
    → IfOk r (All CanBeRead)
all_readable bytes (Ok ts) h = All-from_recursion CanBeRead ts (readable (lines bytes) ts h)
all_readable bytes (Err e) h = tt

-- ---- what a call of read answers

pub only_document : (bytes : List ℕ) (r : Result (List Triple) NtFault) → IfOk r (IsParsed bytes)
    → IfErr r (IsParseFault bytes) → (ts : List Triple) → IsParsed bytes ts → (r ≡ Ok ts) ⊎ (r ≡ Err OutOfMemory)
only_document bytes (Ok us) h k ts d = inl (ap Ok (one_document bytes us ts h d))
only_document bytes (Err (Line n)) h k ts d = absurd (never_both bytes ts n d k)
only_document bytes (Err OutOfMemory) h k ts d = inr refl

pub only_bad_line : (bytes : List ℕ) (r : Result (List Triple) NtFault) → IfOk r (IsParsed bytes)
    → IfErr r (IsParseFault bytes) → (n : ℕ) → IsFirstUnparsed bytes n → (r ≡ Err (Line n)) ⊎ (r ≡ Err OutOfMemory)
only_bad_line bytes (Ok us) h k n d = absurd (never_both bytes us n h d)
only_bad_line bytes (Err (Line m)) h k n d = inl (ap (λ (x : ℕ). Err (Line x)) (one_bad_line bytes m n k d))
only_bad_line bytes (Err OutOfMemory) h k n d = inr refl
