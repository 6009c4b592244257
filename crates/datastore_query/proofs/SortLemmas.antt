-- The parts of a sort's text, as they are split from it.
use Rattle.std.proofs.Common.{◌≡◌, ◌∙◌, ℕ, ◌+◌, ◌<◌, ◌≤◌, List, length, drop, get_or, refl, ap, sym}
use Rattle.std.proofs.Common.{Bool, true, false, cond, arith}
use Rattle.std.specs.Prelude.{Option, Some, None, option_map}
use Rattle.std.specs.Str.{IsUtf8, IsCharBoundary}
use Rattle.std.proofs.Common.{◌&&◌, subst}
use Rattle.std.specs.Prelude.{nat_le}
use Rattle.std.proofs.lemmas.List.{at_drop_more, at_drop_all}
use Rattle.std.proofs.lemmas.Bool.{eqb-true}
use Rattle.std.proofs.lemmas.Bool.Decides.{nat_tests}
use Rattle.std.proofs.lemmas.Str.{IsCharBoundary-after_ascii}
use Rattle.datastore_query.specs.SortText.{comma_from, is_between_quotes, is_end, is_quote}
use Rattle.datastore_query.specs.SortText.{quoted_after}

-- a position in the rest, counted from the start of the text
abbrev pub counted_on : ℕ → Option ℕ → Option ℕ
counted_on i None = None
counted_on i (Some n) = Some (i + n)

pub counted_on-none : (o : Option ℕ) → o ≡ counted_on 0 o
counted_on-none None = refl
counted_on-none (Some n) = ap Some (omega arith)

more : (i : ℕ) (o : Option ℕ) → counted_on i (option_map (λ n. n + 1) o) ≡ counted_on (i + 1) o
more i None = refl
more i (Some n) = ap Some (omega arith)

pub comma_from-next : (quoted : Bool) (text : List ℕ) (i : ℕ) → i < length text
    → is_end quoted (get_or text i 0) ≡ false
    → counted_on i (comma_from quoted (drop i text))
    ≡ counted_on (i + 1) (comma_from (quoted_after quoted (get_or text i 0)) (drop (i + 1) text))
comma_from-next quoted text i lt not_end =
    at_drop_more (λ cs. counted_on i (comma_from quoted cs)) text i 0 lt
    ∙ ap (λ b. counted_on i (cond b (Some 0)
    (option_map (λ n. n + 1) (comma_from (quoted_after quoted (get_or text i 0)) (drop (i + 1) text))))) not_end
    ∙ more i (comma_from (quoted_after quoted (get_or text i 0)) (drop (i + 1) text))

pub comma_from-end : (quoted : Bool) (text : List ℕ) (i : ℕ) → i < length text
    → is_end quoted (get_or text i 0) ≡ true → counted_on i (comma_from quoted (drop i text)) ≡ Some i
comma_from-end quoted text i lt end =
    at_drop_more (λ cs. counted_on i (comma_from quoted cs)) text i 0 lt
    ∙ ap (λ b. counted_on i (cond b (Some 0)
    (option_map (λ n. n + 1) (comma_from (quoted_after quoted (get_or text i 0)) (drop (i + 1) text))))) end
    ∙ ap Some (omega arith)

pub comma_from-none : (quoted : Bool) (text : List ℕ) (i : ℕ) → length text ≤ i
    → counted_on i (comma_from quoted (drop i text)) ≡ None
comma_from-none quoted text i le = at_drop_all (λ cs. counted_on i (comma_from quoted cs)) text i le

leb-true : (a b : ℕ) → nat_le a b ≡ true → a ≤ b
leb-true a b h = grind (arith, nat_tests)

-- A text may be split after a comma, and after the double quote that it begins with.
pub boundary-comma : (text bytes : List ℕ) (i : ℕ) → IsUtf8 text → bytes ≡ text → i < length bytes
    → get_or bytes i 0 ≡ 44 → IsCharBoundary text (i + 1)
boundary-comma text bytes i utf8 same lt comma =
    let at : get_or text i 0 ≡ 44 = ap (λ bs. get_or bs i 0) (sym same) ∙ comma in
    let long : i < length text = subst (λ (bs : List ℕ). i < length bs) same lt in
    IsCharBoundary-after_ascii text i utf8 long (omega arith)

both : (a b : Bool) → (a && b) ≡ true → (a ≡ true) × (b ≡ true)
both true b h = (refl, h)
both false b h = absurd (cc)

pub boundary-quote : (text bytes : List ℕ) → IsUtf8 text → bytes ≡ text → is_between_quotes bytes ≡ true
    → IsCharBoundary text 1
boundary-quote text bytes utf8 same quotes =
    let here : is_between_quotes text ≡ true = ap is_between_quotes (sym same) ∙ quotes in
    let parts = both (nat_le 2 (length text)) _ here in
    let first = both (is_quote (get_or text 0 0)) _ parts.1 in
    let long : 2 ≤ length text = leb-true 2 (length text) parts.0 in
    let at : get_or text 0 0 ≡ 34 = eqb-true (get_or text 0 0) 34 first.0 in
    IsCharBoundary-after_ascii text 0 utf8 (omega arith) (omega arith)
