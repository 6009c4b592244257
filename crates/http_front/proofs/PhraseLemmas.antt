-- Only numbers of three digits have a phrase.
use Rattle.std.proofs.Common.{ℕ, ◌==◌, List, if◌then◌else◌, ◌&&◌, nat_lt, nat_le}
use Rattle.std.proofs.Common.{IsTrue, arith, rules, refl}
use Rattle.std.specs.Prelude.{Option, Some, None, IsSome}
use Rattle.http.specs.StatusCode.{IsStatusCode, reason_phrase}

-- whoever has a phrase is a status code
abbrev HasDigits : ℕ → Option (List ℕ) → Type 0
HasDigits n phrase = IsSome phrase → IsStatusCode n

step : (n k : ℕ) (phrase : List ℕ) (rest : Option (List ℕ)) → IsTrue (nat_le 100 k && nat_lt k 1000)
    → HasDigits n rest → HasDigits n (if n == k then Some phrase else rest)
step n k phrase rest fits h = grind arith

none : (n : ℕ) → HasDigits n None
none n h = search rules

pub has_three_digits : (n : ℕ) → IsSome (reason_phrase n) → IsStatusCode n
has_three_digits n =
    step n 100 _ _ refl (step n 101 _ _ refl (step n 102 _ _ refl (step n 103 _ _ refl (step n 200 _ _ refl (
    step n 201 _ _ refl (step n 202 _ _ refl (step n 203 _ _ refl (step n 204 _ _ refl (step n 205 _ _ refl (
    step n 206 _ _ refl (step n 207 _ _ refl (step n 208 _ _ refl (step n 226 _ _ refl (step n 300 _ _ refl (
    step n 301 _ _ refl (step n 302 _ _ refl (step n 303 _ _ refl (step n 304 _ _ refl (step n 305 _ _ refl (
    step n 307 _ _ refl (step n 308 _ _ refl (step n 400 _ _ refl (step n 401 _ _ refl (step n 402 _ _ refl (
    step n 403 _ _ refl (step n 404 _ _ refl (step n 405 _ _ refl (step n 406 _ _ refl (step n 407 _ _ refl (
    step n 408 _ _ refl (step n 409 _ _ refl (step n 410 _ _ refl (step n 411 _ _ refl (step n 412 _ _ refl (
    step n 413 _ _ refl (step n 414 _ _ refl (step n 415 _ _ refl (step n 416 _ _ refl (step n 417 _ _ refl (
    step n 418 _ _ refl (step n 421 _ _ refl (step n 422 _ _ refl (step n 423 _ _ refl (step n 424 _ _ refl (
    step n 425 _ _ refl (step n 426 _ _ refl (step n 428 _ _ refl (step n 429 _ _ refl (step n 431 _ _ refl (
    step n 451 _ _ refl (step n 500 _ _ refl (step n 501 _ _ refl (step n 502 _ _ refl (step n 503 _ _ refl (
    step n 504 _ _ refl (step n 505 _ _ refl (step n 506 _ _ refl (step n 507 _ _ refl (step n 508 _ _ refl (
    step n 510 _ _ refl (step n 511 _ _ refl (none n))))))))))))))))))))))))))))))))))))))))))))))))))))))))))))))
