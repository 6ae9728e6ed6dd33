-- How many items of each kind a capsule s has: the counts of its body (C25), for a caller that goes through its items
-- without trying for 16. A refused capsule counts 0; `check` says why, and so does `refusal`, by 10 to 15, for any item
-- number. Assumes nothing.
use Rattle.std.specs.Prelude.{ℕ, List, Ok, Err}
use Rattle.capsule_header.specs.Header.{body}
use Rattle.capsule_body.specs.Body.{drivers, payloads}
use Rattle.capsule_check.specs.Verdict.{verdict}
use Rattle.refusal_order.specs.Decide.{Verdict}

-- a count of a faultless capsule; 0 with a refusal
abbrev pub count_of : Verdict → ℕ → ℕ
count_of (Ok x) n = n
count_of (Err r) n = 0

unfoldable pub driver_count : List ℕ → ℕ
driver_count s = count_of (verdict s) (drivers (body s))

unfoldable pub payload_count : List ℕ → ℕ
payload_count s = count_of (verdict s) (payloads (body s))
