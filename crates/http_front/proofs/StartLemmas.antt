-- The start of a head, its field lines, and what a text that ends among them may still become.
use Rattle.std.proofs.Common.{◌≡◌, ℕ, ◌+◌, ◌<◌, ◌≤◌, List, [], ◌∷◌, ◌++◌, ◌∙◌, refl, sym, ap, subst}
use Rattle.std.proofs.Common.{append_assoc, length, arith, inl, inr, append-nil, length-append}
use Rattle.std.proofs.Common.{flat_map, All, true, false, IsTrue}
use Rattle.std.proofs.Common.{get_or, zero, suc, take, length-take-le}
use Rattle.std.specs.Prelude.{codes, Bool, Result, Ok, Err, IfOk}
use Rattle.std.proofs.lemmas.List.{length-map}
use Rattle.std.proofs.lemmas.Bool.{cases_lt, false≢true}
use Rattle.std.proofs.lemmas.List.Elements.{All-append, All-cons, All-nil, All-head, All-map}
use Rattle.std.proofs.lemmas.Str.{IsUtf8-from_ascii}
use Rattle.std.proofs.lemmas.Str.Ascii.{IsAscii-from_all}
use Rattle.httparse.specs.Grammar.{LineEnd, crlf, lf, print_end, print_blank, print_version, Field}
use Rattle.httparse.specs.Grammar.{print_field, IsField}
use Rattle.httparse.specs.Grammar.{AllPass, is_token_byte, is_uri_byte, IsRequestHead, RequestHead, ReadsRequest}
use Rattle.httparse.specs.Grammar.{print_request, MayBecomeRequest, EndsInTarget}
use Rattle.httparse.specs.Pieces.{RequestStart, Section, is_newline}
use Rattle.httparse.specs.declared.spans.HeaderSpan.{HeaderSpan}
use Rattle.httparse.specs.declared.spans.RequestSpans.{RequestSpans}
use Rattle.httparse.specs.Spans.{RequestExceeds, RequestOverflows, IsRequestOf, IsRequestWithin, header_bytes}
use Rattle.httparse.specs.Spans.{name_and_value}
use Rattle.httparse.proofs.GrammarLemmas.{print_request-append, request_pieces, request_tree, request_unique}
use Rattle.httparse.proofs.GrammarLemmas.{ReadsRequest-append}
use Rattle.httparse.proofs.PieceLemmas.{Stops_token, RequestStart_deterministic, Section_skip}
use Rattle.httparse.proofs.PieceLemmas.{newline_not_stopped, colon_ends_token, token_is_no_newline}
use Rattle.http_front.specs.Head.{Continues, IsPartial, marked, marked_byte}
use Rattle.http_front.specs.HeadParse.{HasNoneOver, StaysWithin}
use Rattle.http_front.proofs.EndLemmas.{IsEnding, field_parts, parted, Closes, close_lines, all_front, all_back}

-- with either ending the text begins with no head of more than 64 fields
abbrev EndsInTime : List ℕ → Type 0
EndsInTime text = (ending : List ℕ) → IsEnding ending → HasNoneOver (text ++ ending)

-- the empty lines and the request line
abbrev pub start_of : RequestHead → List ℕ
start_of h =
    print_blank h.blank ++ (h.method ++ 32 ∷ (h.target ++ 32 ∷ (print_version h.minor ++ print_end h.line_end)))

start_append : (h : RequestHead) (rest : List ℕ) → start_of h ++ rest
    ≡ print_blank h.blank ++ (h.method ++ 32 ∷ (h.target ++ 32 ∷
    (print_version h.minor ++ (print_end h.line_end ++ rest))))
start_append h rest =
    regroup (print_blank h.blank) h.method h.target (print_version h.minor) (print_end h.line_end) rest
  where
    regroup : (a b c d e r : List ℕ)
        → (a ++ (b ++ 32 ∷ (c ++ 32 ∷ (d ++ e)))) ++ r ≡ a ++ (b ++ 32 ∷ (c ++ 32 ∷ (d ++ (e ++ r))))
    regroup a b c d e r = simp append_assoc

-- a head is its start, its field lines and a line end
pub print_parts : (h : RequestHead) (rest : List ℕ) → print_request h ++ rest
    ≡ start_of h ++ ((flat_map print_field h.fields ++ print_end h.last) ++ rest)
print_parts h rest = print_request-append h rest
    ∙ sym (start_append h ((flat_map print_field h.fields ++ print_end h.last) ++ rest))

-- the start begins the text that it is followed by
start_piece : (h : RequestHead) (middle : List ℕ) → IsRequestHead h
    → RequestStart (request_tree h).0 (start_of h ++ middle) middle
start_piece h middle x = (
  _,
  (start_append h middle, Stops_token h.method _ x.method.0 x.method.1),
  (
    _,
    (x.method.0, x.method.1, refl),
    (_, ((x.target.0, x.target.1, refl), x.target_text), (_, (x.minor, refl), refl)),
  ),
)

-- the head with other field lines
abbrev with_fields : RequestHead → List Field → LineEnd → RequestHead
with_fields h fields last = record h { fields = fields; last = last }

valid_with : (h : RequestHead) (fields : List Field) (last : LineEnd) → IsRequestHead h → All IsField fields
    → IsRequestHead (with_fields h fields last)
valid_with h fields last x valid = record {
  method = x.method;
  target = x.target;
  target_text = x.target_text;
  minor = x.minor;
  fields = valid;
}

-- ---- what may still come

-- the text ends inside the start
none_begun : (text z : List ℕ) (h : RequestHead) → IsRequestHead h → start_of h ≡ text ++ z → Continues 64 text
none_begun text z h x e = record {
  more = z ++ 10 ∷ [];
  head = with_fields h [] lf;
  rest = [];
  reads = (
    valid_with h [] lf x (All-nil IsField),
    sym (append_assoc text z (10 ∷ [])) ∙ ap (λ v. v ++ 10 ∷ []) (sym e) ∙ sym (print_parts (with_fields h [] lf) []),
  );
  few = omega arith;
}

-- the text ends among the field lines
some_begun : (text y : List ℕ) (h : RequestHead) → IsRequestHead h → text ≡ start_of h ++ y → Closes y
    → EndsInTime text → Continues 64 text
some_begun text y h x e cl fits =
    let head : RequestHead = with_fields h cl.fields cl.last in
    let reads : ReadsRequest (text ++ cl.ending) head cl.rest = (
      valid_with h cl.fields cl.last x cl.valid,
      ap (λ v. v ++ cl.ending) e ∙ append_assoc (start_of h) y cl.ending ∙ ap (λ v. start_of h ++ v) cl.reads
          ∙ sym (print_parts head cl.rest),
    ) in
    record {
      more = cl.ending;
      head = head;
      rest = cl.rest;
      reads = reads;
      few = fits cl.ending cl.is_ending head cl.rest reads;
    }

abbrev IsUri : ℕ → Type 0
IsUri v = IsTrue (is_uri_byte v)

-- the text ends inside a target of ASCII alone
target_begun : (text : List ℕ) → All (λ b. b < 128) text → EndsInTarget text → Continues 64 text
target_begun text small (blank, method, target, token, uri, e) =
    let whole = target ++ 47 ∷ [] in
    let head : RequestHead = record {
      blank = blank;
      method = method;
      target = whole;
      minor = 0;
      line_end = lf;
      fields = [];
      last = lf;
    } in
    let one : length whole ≡ length target + 1 = length-append target (47 ∷ []) in
    let all_small : All (λ b. b < 128) target =
    all_back (λ b. b < 128) (32 ∷ []) target
    (all_back (λ b. b < 128) (print_blank blank ++ method) (32 ∷ target) (subst (All (λ b. b < 128)) e small)) in
    record {
      more = codes "/ HTTP/1.0\n\n";
      head = head;
      rest = [];
      reads = (
        record {
          method = token;
          target = (
            omega (arith, one),
            All-append IsUri target (47 ∷ []) uri (All-cons IsUri 47 [] refl (All-nil IsUri)),
          );
          target_text = IsUtf8-from_ascii whole (IsAscii-from_all whole
              (All-append (λ b. b < 128) target (47 ∷ []) all_small
              (All-cons (λ b. b < 128) 47 [] (omega arith) (All-nil (λ b. b < 128)))));
          minor = omega arith;
          fields = All-nil IsField;
        },
        ap (λ v. v ++ codes "/ HTTP/1.0\n\n") e
            ∙ regroup (print_blank blank) method target (codes "HTTP/1.0\n\n")
            ∙ sym (print_request-append head []),
      );
      few = omega arith;
    }
  where
    regroup : (a b c v : List ℕ) → ((a ++ b) ++ 32 ∷ c) ++ (47 ∷ 32 ∷ v) ≡ a ++ (b ++ 32 ∷ ((c ++ 47 ∷ []) ++ 32 ∷ v))
    regroup a b c v = simp append_assoc

-- the text ends inside a head, or at its end
head_begun : (text more : List ℕ) (h : RequestHead) → ReadsRequest (text ++ more) h [] → EndsInTime text
    → Continues 64 text
head_begun text more h reads fits =
    let lines = flat_map print_field h.fields ++ print_end h.last in
    let e : text ++ more ≡ start_of h ++ lines =
    reads.1 ∙ print_parts h [] ∙ ap (λ v. start_of h ++ v) (append-nil lines) in
    elim (parted text more (start_of h) lines e) [
      | inl s ↦ none_begun text s.0 h reads.0 s.1
      | inr l ↦ some_begun text (l.0 ∷ l.1) h reads.0 l.2
          (close_lines h.fields h.last (l.0 ∷ l.1) more reads.0.fields (sym l.3)) fits
    ]

-- ---- what can't come any more

-- a list that is longer than n, at index n
abbrev Cut : ℕ → List Field → Type 0
Cut n fields = (front : List Field) × (g : Field) × (back : List Field) × (fields ≡ front ++ g ∷ back)
    × (length front ≡ n)

cut_at : (n : ℕ) (fields : List Field) → n < length fields → Cut n fields
cut_at n [] lt = absurd (omega (arith, lt))
cut_at zero (f ∷ fields) lt = ([], f, fields, refl, refl)
cut_at (suc n) (f ∷ fields) lt =
    let c = cut_at n fields (omega (arith, lt)) in
    (f ∷ c.0, c.1, c.2, ap (λ v. f ∷ v) c.3, omega (arith, c.4))

lines_append : (a b : List Field) → flat_map print_field (a ++ b) ≡ flat_map print_field a ++ flat_map print_field b
lines_append [] b = refl
lines_append (f ∷ a) b =
    ap (λ v. print_field f ++ v) (lines_append a b)
    ∙ sym (append_assoc (print_field f) (flat_map print_field a) (flat_map print_field b))

more_lines : (fs hs : List Field) (c : ℕ) (z rest : List ℕ) (last : LineEnd) → length fs ≡ 64 → is_newline c ≡ false
    → Section (hs, last) (c ∷ z) rest → 64 < length (fs ++ hs)
more_lines fs [] c z rest last n stops s = absurd (newline_not_stopped last rest (c ∷ z) (sym s.1) stops)
more_lines fs (h ∷ hs) c z rest last n stops s = rw (length-append fs (h ∷ hs)) (omega (arith, n))

-- after 64 field lines the text goes on with something that is no line end
overflows : (text z : List ℕ) (c : ℕ) (h : RequestHead) (fs : List Field) → IsRequestHead h → All IsField fs
    → length fs ≡ 64 → is_newline c ≡ false → text ≡ (start_of h ++ flat_map print_field fs) ++ c ∷ z
    → RequestOverflows 64 text
overflows text z c h fs x valid n stops e more k rest reads =
    let after : List ℕ = c ∷ (z ++ more) in
    let lines : List ℕ = flat_map print_field fs ++ after in
    let pieces = request_pieces (text ++ more) k rest reads in
    let split : text ++ more ≡ start_of h ++ lines =
    ap (λ v. v ++ more) e ∙ regroup (start_of h) (flat_map print_field fs) (c ∷ z) more in
    let own : RequestStart (request_tree h).0 (text ++ more) lines =
    subst (λ v. RequestStart (request_tree h).0 v lines) (sym split) (start_piece h lines x) in
    let same = RequestStart_deterministic.unique (request_tree k).0 (request_tree h).0 (text ++ more) pieces.0 lines
    pieces.1 own in
    let section : Section (k.fields, k.last) lines rest =
    subst (λ v. Section (k.fields, k.last) v rest) same.1 pieces.2 in
    let skipped = Section_skip fs k.fields k.last lines after rest (valid, refl) section in
    subst (λ v. 64 < length v) (sym skipped.1) (more_lines fs skipped.0 c (z ++ more) rest k.last n stops skipped.2)
  where
    regroup : (a b c d : List ℕ) → ((a ++ b) ++ c) ++ d ≡ a ++ (b ++ (c ++ d))
    regroup a b c d = simp append_assoc

-- a field line begins with a byte of its name, and has three at least
first_token : (f : Field) (c : ℕ) (y tail : List ℕ) → IsField f → print_field f ++ tail ≡ c ∷ y
    → (is_token_byte c ≡ true) × (length tail + 2 ≤ length y)
first_token f c y tail valid e = by_name f.name valid.name.0 valid.name.1 refl
  where
    by_name : (name : List ℕ) → 0 < length name → AllPass is_token_byte name → f.name ≡ name
        → (is_token_byte c ≡ true) × (length tail + 2 ≤ length y)
    by_name [] some all is = absurd (omega (arith, some))
    by_name (b ∷ bs) some all is =
        let whole : b ∷ (bs ++ 58 ∷ (f.raw ++ (print_end f.end ++ tail))) ≡ c ∷ y =
        sym (ap (λ v. v ++ 58 ∷ (f.raw ++ (print_end f.end ++ tail))) is)
        ∙ sym (regroup f.name f.raw (print_end f.end) tail) ∙ e in
        let first : b ≡ c = cc in
        let rest : bs ++ 58 ∷ (f.raw ++ (print_end f.end ++ tail)) ≡ y = cc in (
          subst (λ v. is_token_byte v ≡ true) first (All-head (λ v. is_token_byte v ≡ true) b bs all),
          subst (λ v. length tail + 2 ≤ length v) rest (long bs f.raw f.end),
        )
      where
        regroup : (a b c d : List ℕ) → ((a ++ 58 ∷ b) ++ c) ++ d ≡ a ++ 58 ∷ (b ++ (c ++ d))
        regroup a b c d = simp append_assoc

        long : (bs raw : List ℕ) (end : LineEnd)
            → length tail + 2 ≤ length (bs ++ 58 ∷ (raw ++ (print_end end ++ tail)))
        long bs raw crlf = rw (length-append bs (58 ∷ (raw ++ (print_end crlf ++ tail))))
            (rw (length-append raw (print_end crlf ++ tail)) (omega arith))
        long bs raw lf = rw (length-append bs (58 ∷ (raw ++ (print_end lf ++ tail))))
            (rw (length-append raw (print_end lf ++ tail)) (omega arith))

line_feed_ends_token : is_token_byte 10 ≡ false
unfolding is_token_byte
line_feed_ends_token = refl

-- in an ending no field line begins that has two bytes more
ending_bare : (ending z y : List ℕ) (c : ℕ) → IsEnding ending → ending ≡ z ++ c ∷ y → 2 ≤ length y
    → is_token_byte c ≡ false
ending_bare ending [] y c (inl is) e long =
    let first : 58 ≡ c = cc (sym is ∙ e) in subst (λ v. is_token_byte v ≡ false) first colon_ends_token
ending_bare ending [] y c (inr is) e long =
    let first : 10 ≡ c = cc (sym is ∙ e) in subst (λ v. is_token_byte v ≡ false) first line_feed_ends_token
ending_bare ending (d ∷ z) y c (inl is) e long =
    absurd (omega (arith, ap length (sym is ∙ e), length-append z (c ∷ y), long))
ending_bare ending (d ∷ z) y c (inr is) e long =
    absurd (omega (arith, ap length (sym is ∙ e), length-append z (c ∷ y), long))

end_some : (end : LineEnd) → 0 < length (print_end end)
end_some crlf = omega arith
end_some lf = omega arith

tail_some : (a : List ℕ) (end : LineEnd) → 0 < length (a ++ print_end end)
tail_some a end = rw (length-append a (print_end end)) (omega (arith, end_some end))

line_some : (f : Field) (tail : List ℕ) → IsField f → 1 < length (print_field f ++ tail)
line_some f tail valid = omega (
  arith,
  valid.name.0,
  ap length (field_parts f),
  length-append f.name (58 ∷ (f.raw ++ print_end f.end)),
  length-append (print_field f) tail,
)

-- where the text and an ending have 65 field lines in them, the text has begun the 65th
pub exceeds_overflows : (text ending : List ℕ) → IsEnding ending → RequestExceeds 64 (text ++ ending)
    → RequestOverflows 64 text
exceeds_overflows text ending is (front, rest, e, h, reads, over) =
    let parts = cut_at 64 h.fields over in
    let fs : List Field = parts.0 in
    let g : Field = parts.1 in
    let gs : List Field = parts.2 in
    let valid : All IsField (fs ++ g ∷ gs) = subst (All IsField) parts.3 reads.0.fields in
    let own : IsField g = All-head IsField g gs (all_back IsField fs (g ∷ gs) valid) in
    let written : List ℕ = start_of h ++ flat_map print_field fs in
    let tail : List ℕ = flat_map print_field gs ++ print_end h.last in
    let whole : front ++ 10 ∷ [] ≡ written ++ (print_field g ++ tail) =
    reads.1 ∙ print_parts h []
    ∙ ap (λ v. start_of h ++ ((flat_map print_field v ++ print_end h.last) ++ [])) parts.3
    ∙ ap (λ v. start_of h ++ ((v ++ print_end h.last) ++ [])) (lines_append fs (g ∷ gs))
    ∙ regroup (start_of h) (flat_map print_field fs) (print_field g) (flat_map print_field gs) (print_end h.last) in
    elim (parted front (10 ∷ []) written (print_field g ++ tail) whole) [
      | inl s ↦ absurd (omega (arith, line_some g tail own, ap length s.2, length-append s.0 (print_field g ++ tail)))
      | inr l ↦ field_begun text ending front rest is h fs reads.0 (all_front IsField fs
          (g ∷ gs) valid) parts.4 l.0 l.1 tail
          (first_token g l.0 (l.1 ++ 10 ∷ []) tail own l.3) (tail_some (flat_map print_field gs) h.last) e l.2
    ]
  where
    regroup : (a b c d e : List ℕ) → a ++ (((b ++ (c ++ d)) ++ e) ++ []) ≡ (a ++ b) ++ (c ++ (d ++ e))
    regroup a b c d e = simp (append_assoc, append-nil)

    field_begun : (text ending front rest : List ℕ) → IsEnding ending → (h : RequestHead) (fs : List Field)
        → IsRequestHead h
        → All IsField fs → length fs ≡ 64 → (c : ℕ) (more : List ℕ)
        → (tail : List ℕ) → (is_token_byte c ≡ true) × (length tail + 2 ≤ length (more ++ 10 ∷ [])) → 0 < length tail
        → text ++ ending ≡ front ++ rest → front ≡ (start_of h ++ flat_map print_field fs) ++ c ∷ more
        → RequestOverflows 64 text
    field_begun text ending front rest is h fs x valid n c more tail token some e f =
        let written : List ℕ = start_of h ++ flat_map print_field fs in
        let whole : text ++ ending ≡ written ++ (c ∷ (more ++ rest)) =
        e ∙ ap (λ v. v ++ rest) f ∙ append_assoc written (c ∷ more) rest in
        let long : 2 ≤ length (more ++ rest) = rw (length-append more rest)
        (omega (arith, token.1, some, length-append more (10 ∷ []))) in
        elim (parted text ending written (c ∷ (more ++ rest)) whole) [
          | inl s ↦ absurd (false≢true (sym (ending_bare ending s.0 (more ++ rest) c is s.2 long) ∙ token.0))
          | inr m ↦
              let first : c ≡ m.0 = cc (m.3) in
              overflows text m.1 m.0 h fs x valid n
              (subst (λ v. is_newline v ≡ false) first (token_is_no_newline c token.0)) m.2
        ]

small_mark : (b : ℕ) → marked_byte b < 128
small_mark b = elim (cases_lt b 128) [ inl small ↦ grind arith | inr large ↦ grind arith ]

pub small_marks : (bytes : List ℕ) → All (λ b. b < 128) (marked bytes)
small_marks bytes = All-map (λ b. b < 128) marked_byte bytes (λ k d lt. small_mark (get_or bytes k d))

-- what the check of an end says of marked bytes
pub marks_continue : (bytes : List ℕ) → MayBecomeRequest (marked bytes) → StaysWithin (marked bytes) → IsPartial bytes
marks_continue bytes (inl (more, h, reads)) fits = fits more h [] reads
marks_continue bytes (inr target) fits = target_begun (marked bytes) (small_marks bytes) target

-- the two ends show whether the text stays within the limit
stays_within : (text : List ℕ) → HasNoneOver (text ++ codes ":\n\n") → HasNoneOver (text ++ codes "\n\n")
    → StaysWithin text
stays_within text a b more h rest reads =
    elim (parted text more (print_request h) rest reads.1) [
      | inl s ↦ head_begun text s.0 h (reads.0, sym s.1 ∙ sym (append-nil (print_request h))) in_time
      | inr l ↦
          let own : ReadsRequest text h (l.0 ∷ l.1) = (reads.0, l.2) in
          record {
            more = [];
            head = h;
            rest = l.0 ∷ l.1;
            reads = subst (λ v. ReadsRequest v h (l.0 ∷ l.1)) (sym (append-nil text)) own;
            few = b h ((l.0 ∷ l.1) ++ codes "\n\n") (ReadsRequest-append text h (l.0 ∷ l.1) (codes "\n\n") own);
          }
    ]
  where
    in_time : EndsInTime text
    in_time ending (inl e) = subst (λ v. HasNoneOver (text ++ v)) (sym e) a
    in_time ending (inr e) = subst (λ v. HasNoneOver (text ++ v)) (sym e) b

-- a head that the parser found has no more fields than it had room for
pub complete_fits : (text : List ℕ) (spans : List HeaderSpan) (found : RequestSpans) → length spans ≡ 64
    → IsRequestOf text spans found → IsRequestWithin text spans found → HasNoneOver text
complete_fits text spans found room (own, at) within head rest reads =
    let same = request_unique text own head _ rest at.reads reads in
    subst (λ v. length v.fields ≤ 64) same.0 (omega (
      arith,
      room,
      within.section.count_fits,
      ap length at.fields,
      length-map (take found.headers spans) (header_bytes text),
      length-map own.fields name_and_value,
      length-take-le found.headers spans within.section.count_fits,
    ))

pub over_named : (text : List ℕ) → RequestExceeds 64 (text ++ codes ":\n\n") → RequestOverflows 64 text
over_named text x = exceeds_overflows text (codes ":\n\n") (inl refl) x

pub over_unnamed : (text : List ℕ) → RequestExceeds 64 (text ++ codes "\n\n") → RequestOverflows 64 text
over_unnamed text x = exceeds_overflows text (codes "\n\n") (inr refl) x

pub stays_ended : {E : Type 0} (text : List ℕ) (result : Result Bool E) → HasNoneOver (text ++ codes ":\n\n")
    → IfOk result (λ over. over ≡ false → HasNoneOver (text ++ codes "\n\n"))
    → IfOk result (λ over. over ≡ false → StaysWithin text)
stays_ended text (Ok over) named fits = λ is. stays_within text named (fits is)
stays_ended text (Err e) named fits = tt

pub over_ended : {E : Type 0} (text : List ℕ) (result : Result Bool E)
    → IfOk result (λ over. over ≡ true → RequestExceeds 64 (text ++ codes "\n\n"))
    → IfOk result (λ over. over ≡ true → RequestOverflows 64 text)
over_ended text (Ok over) exceeds = λ is. over_unnamed text (exceeds is)
over_ended text (Err e) exceeds = tt
