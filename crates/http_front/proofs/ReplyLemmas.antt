-- From the bytes of a response that came to all that were to come.
use Rattle.std.proofs.Common.{◌≡◌, ℕ, ◌<◌, ◌≤◌, List, ◌++◌, ◌∙◌, sym, ap, subst}
use Rattle.std.proofs.Common.{length, arith, take, take_all, drop, inl, map}
use Rattle.std.specs.Prelude.{Option, Some, None, Result, Ok, Err, IfSome}
use Rattle.httparse.specs.Grammar.{ReadsResponse, HasNoResponse, print_response, status_code}
use Rattle.httparse.specs.Spans.{ResponseOverflows, name_and_value}
use Rattle.httparse.proofs.GrammarLemmas.{ReadsResponse-append}
use Rattle.portal_base.specs.Outside.{Gives, IsAtEnd, Takes, TakesPrefix}
use Rattle.portal_base.specs.declared.outside.FetchFault.{FetchFault}
use Rattle.http_front.specs.declared.fault.FrontFault.{FrontFault}
use Rattle.http_front.specs.declared.reply.Reply.{Reply}
use Rattle.http_front.specs.Fetch.{HasNoReply, IsReplyOf, IsFetched, reply_of, ObservesRead}
use Rattle.http_front.proofs.HeadLemmas.{split_front}
use Rattle.http_front.proofs.ReceiveLemmas.{all_read, on_observed, fault_map}

overflows_none : (buffer rest : List ℕ) → ResponseOverflows 64 buffer → HasNoReply (buffer ++ rest)
overflows_none buffer rest never head after b =
    let over : 64 < length head.fields = never rest head after b.reads in omega (arith, over, b.few)

full_none : (buffer rest : List ℕ) → 16384 ≤ length buffer → HasNoResponse buffer → HasNoReply (buffer ++ rest)
full_none buffer rest full none head after b =
    let l : length (print_response head) ≤ length buffer = omega (arith, full, b.short) in
    let z = split_front buffer rest (print_response head) after b.reads.1 l in
    none head z.0 (b.reads.0, z.1)

-- where no head can begin the bytes that were read
pub invalid_has_none : (observed left : Option (List ℕ)) (buffer : List ℕ) → Gives observed buffer left
    → ResponseOverflows 64 buffer
    → IfSome observed HasNoReply
invalid_has_none None left buffer g never = tt
invalid_has_none (Some all) left buffer g never = subst HasNoReply (sym g.2) (overflows_none buffer g.0 never)

-- where none begins as many bytes as a head may have
pub full_has_none : (observed left : Option (List ℕ)) (buffer : List ℕ) → Gives observed buffer left
    → 16384 ≤ length buffer
    → HasNoResponse buffer → IfSome observed HasNoReply
full_has_none None left buffer g full none = tt
full_has_none (Some all) left buffer g full none = subst HasNoReply (sym g.2) (full_none buffer g.0 full none)

-- where the link is at its end, and none begins what was read
pub partial_has_none : (observed left : Option (List ℕ)) (buffer : List ℕ) → Gives observed buffer left → IsAtEnd left
    → HasNoResponse buffer → IfSome observed HasNoReply
partial_has_none observed left buffer g end none = on_observed observed
    (λ bytes e. subst HasNoReply (sym e) (λ head after b. none head after b.reads))
    (all_read observed left buffer g end)

observes_map : {T : Type 0} (r : Result T FrontFault) (items : T → List ℕ) (P Q : Result (List ℕ) FetchFault → Type 0)
    → ((observed : Result (List ℕ) FetchFault) → P observed → Q observed) → ObservesRead r items P
    → ObservesRead r items Q
observes_map (Ok body) items P Q f p = f (Ok (items body)) p
observes_map (Err fault) items P Q f p = fault_map fault (f _) p

-- the result of a fetch, for the buffer and the bytes after it
pub reply_fetched : {T : Type 0} (result : Result T FrontFault) (items : T → List ℕ) (observed left : Option (List ℕ))
    (limit : ℕ) (buffer received : List ℕ) (reply : Reply) → Gives observed buffer left → IsReplyOf buffer reply
    → reply.length ≤ 16384 → received ≡ drop reply.length buffer
    → IfSome left (λ bytes. ObservesRead result items (λ t. t ≡ reply_of limit reply.status reply.fields
    (received ++ bytes)))
    → IfSome observed (λ bytes. ObservesRead result items (IsFetched limit bytes))
reply_fetched result items None left limit buffer received reply g is short b gives = tt
reply_fetched result items (Some all) left limit buffer received reply g is short b gives =
    let own : ObservesRead result items (λ t. t ≡ reply_of limit reply.status reply.fields (received ++ g.0)) =
    subst (λ o. IfSome o (λ bytes. ObservesRead result items
    (λ t. t ≡ reply_of limit reply.status reply.fields (received ++ bytes)))) g.1 gives in
    observes_map result items _ (IsFetched limit all) (λ t e. inl (record {
      head = is.head;
      rest = drop reply.length buffer ++ g.0;
      begins = record {
        reads = subst (λ v. ReadsResponse v is.head (drop reply.length buffer ++ g.0)) (sym g.2)
            (ReadsResponse-append buffer is.head (drop reply.length buffer) g.0 is.reads);
        short = subst (λ v. v ≤ 16384) is.length short;
        few = is.few;
      };
      gives = e ∙ ap (λ v. reply_of limit v reply.fields (received ++ g.0)) is.status
          ∙ ap (λ v. reply_of limit (status_code is.head) v (received ++ g.0)) is.fields
          ∙ ap (λ v. reply_of limit (status_code is.head) (map name_and_value is.head.fields) (v ++ g.0)) b;
    })) own

-- a piece that was taken whole, and a link that then stayed as it was
pub prefix_kept : (old requested now : Option (List ℕ)) (piece : List ℕ) → Takes old piece requested → now ≡ requested
    → TakesPrefix old piece now
prefix_kept old requested now piece takes kept = (
  length piece,
  omega arith,
  subst (λ v. Takes old (take (length piece) piece) v) (sym kept)
      (subst (λ v. Takes old v requested) (sym (take_all (length piece) piece (omega arith))) takes),
)
