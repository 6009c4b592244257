-- What holds of the bytes so far also holds of them with what follows.
use Rattle.std.proofs.Common.{◌≡◌, ℕ, ◌<◌, ◌≤◌, List, [], ◌++◌, ◌∙◌, refl, sym, ap, subst, append_assoc}
use Rattle.std.proofs.Common.{length, take}
use Rattle.std.proofs.Common.{arith, drop, take-append-drop}
use Rattle.std.proofs.lemmas.List.{append-nil, take_at, take-append-le, map-append, length-map}
use Rattle.httparse.specs.Grammar.{RequestHead, ReadsRequest, print_request, HasNoRequest}
use Rattle.httparse.proofs.GrammarLemmas.{ReadsRequest-append, request_unique}
use Rattle.httparse.specs.Spans.{RequestOverflows}
use Rattle.http_front.specs.HeadParse.{IsComplete, IsHeadParse}
use Rattle.http_front.specs.declared.head.Head.{Head}
use Rattle.http_front.specs.declared.head.HeadParse.{HeadParse}
use Rattle.http_front.specs.declared.head.HeadParse.TheVariants.{Complete, Partial, Invalid}
use Rattle.http_front.specs.Head.{pairs_of, marked, marked_byte, Begins, HasNoHead, IsInvalid}

pub marked-append : (a b : List ℕ) → marked (a ++ b) ≡ marked a ++ marked b
marked-append a b = map-append marked_byte a b

-- a head that begins the bytes so far begins all
pub begins_on : (buffer rest : List ℕ) (head : RequestHead) → Begins buffer head → Begins (buffer ++ rest) head
begins_on buffer rest head b = record {
  rest = b.rest ++ marked rest;
  reads = subst (λ v. ReadsRequest v head (b.rest ++ marked rest)) (sym (marked-append buffer rest))
      (ReadsRequest-append (marked buffer) head b.rest (marked rest) b.reads);
  short = b.short;
  few = b.few;
}

-- a text that no continuation makes a head stays so with more bytes
pub overflows_on : (text rest : List ℕ) → RequestOverflows 64 text → RequestOverflows 64 (text ++ rest)
overflows_on text rest never more head after reads =
    never (rest ++ more) head after (subst (λ v. ReadsRequest v head after) (append_assoc text rest more) reads)

pub invalid_on : (buffer rest : List ℕ) → IsInvalid buffer → IsInvalid (buffer ++ rest)
invalid_on buffer rest never =
    subst (RequestOverflows 64) (sym (marked-append buffer rest)) (overflows_on (marked buffer) (marked rest) never)

pub invalid_none : (bytes : List ℕ) → IsInvalid bytes → HasNoHead bytes
invalid_none bytes never head b =
    let over : 64 < length head.fields = never [] head b.rest
    (subst (λ v. ReadsRequest v head b.rest) (sym (append-nil (marked bytes))) b.reads) in
    omega (arith, over, b.few)

pub end_none : (buffer : List ℕ) → HasNoRequest (marked buffer) → HasNoHead buffer
end_none buffer none head b = none head b.rest b.reads

-- the prefix of a list that is written in two ways
pub split_front : (a b x y : List ℕ) → a ++ b ≡ x ++ y → length x ≤ length a → (z : List ℕ) × (a ≡ x ++ z)
split_front a b x y e l = (
  drop (length x) a,
  sym (take-append-drop (length x) a)
      ∙ ap (λ v. v ++ drop (length x) a) (sym (take-append-le (length x) a b l) ∙ ap (take (length x)) e
      ∙ take_at x y (length x) refl),
)

-- If the bytes so far are as many as a head may have and begin with none, they begin with none with more bytes either.
pub full_none : (buffer rest : List ℕ) → 16384 ≤ length buffer → HasNoRequest (marked buffer) → HasNoHead
    (buffer ++ rest)
full_none buffer rest full none head b =
    let e : marked buffer ++ marked rest ≡ print_request head ++ b.rest = sym (marked-append buffer rest) ∙ b.reads.1 in
    let l : length (print_request head) ≤ length (marked buffer) =
    rw (length-map buffer marked_byte) (omega (arith, full, b.short)) in
    let z = split_front (marked buffer) (marked rest) (print_request head) b.rest e l in
    none head z.0 (b.reads.0, z.1)

-- one head's fields
pub same_fields : (text : List ℕ) (copy : Head) (mark : RequestHead) (rest : List ℕ) → IsComplete text copy
    → ReadsRequest text mark rest → copy.fields ≡ pairs_of mark
same_fields text copy mark rest w reads =
    let same = request_unique text w.head mark (drop copy.length text) rest w.reads reads in
    w.holds.fields ∙ ap pairs_of same.0

same_copy : (one two : Head) → one.method ≡ two.method → one.target ≡ two.target → one.fields ≡ two.fields
    → one.length ≡ two.length → one ≡ two
same_copy one two m t f l =
    ap (λ v. record one { method = v }) m ∙ ap (λ v. record one { method = two.method; target = v }) t
    ∙ ap (λ v. record two { fields = v; length = one.length }) f ∙ ap (λ v. record two { length = v }) l

-- a complete head is the one parse of the text, whatever bytes follow
pub complete_kept : (text more : List ℕ) (head : Head) (parse : HeadParse) → IsHeadParse text (Complete head)
    → IsHeadParse (text ++ more) parse → parse ≡ Complete head
complete_kept text more one parse w p = by_parse parse p
  where
    rest : List ℕ
    rest = drop one.length text ++ more

    reads : ReadsRequest (text ++ more) w.head rest
    reads = ReadsRequest-append text w.head (drop one.length text) more w.reads

    by_parse : (parse : HeadParse) → IsHeadParse (text ++ more) parse → parse ≡ Complete one
    by_parse (Complete two) v =
        let same = (request_unique (text ++ more) v.head w.head _ rest v.reads reads).0 in
        ap Complete (same_copy two one
        (v.holds.method ∙ ap (λ h. h.method) same ∙ sym w.holds.method)
        (v.holds.target ∙ ap (λ h. h.target) same ∙ sym w.holds.target)
        (v.holds.fields ∙ ap pairs_of same ∙ sym w.holds.fields)
        (v.holds.length ∙ ap (λ h. length (print_request h)) same ∙ sym w.holds.length))
    by_parse Partial v = absurd (v.0 w.head rest reads)
    by_parse Invalid over =
        let many : 64 < length w.head.fields = over [] w.head rest
        (subst (λ v. ReadsRequest v w.head rest) (sym (append-nil (text ++ more))) reads) in
        absurd (omega (arith, many, w.few))
