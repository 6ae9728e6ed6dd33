-- The verdict on a capsule s, and on a capsule with an item number (N10 to N16). Assumes nothing.
use Rattle.std.specs.Prelude.{ℕ, Bool, true, false, List, Result, Ok, Err, leb, ltb, length}
use Rattle.refusals.specs.declared.Refusal.{Refusal}
use Rattle.refusals.specs.declared.Refusal.TheVariants.{CapsuleShort, CapsuleSizes, CapsuleFlags, CapsuleGuid, CapsuleBody}
use Rattle.refusals.specs.declared.Refusal.TheVariants.{CapsulePayload, NoItem}
use Rattle.capsule_header.specs.Header.{header_least, sizes_right, flags, flags_right, guid_right, body}
use Rattle.capsule_body.specs.Body.{items, body_right}
use Rattle.capsule_payloads.specs.Payload.{payloads_right}
use Rattle.refusal_order.specs.Decide.{Verdict, verdict_number}

-- the verdict that an answer carries
abbrev pub verdict_of : {A : Type 0} → Result A Refusal → Verdict
verdict_of (Ok x) = Ok tt
verdict_of (Err r) = Err r

-- the refusal r where the test fails, else what the rest says
abbrev pub unless : Bool → Refusal → Verdict → Verdict
unless true r rest = rest
unless false r rest = Err r

-- N10 to N15, by number (N109)
unfoldable pub verdict : List ℕ → Verdict
verdict s =
    unless (leb header_least (length s)) CapsuleShort
    (unless (sizes_right s) CapsuleSizes
    (unless (flags_right (flags s)) CapsuleFlags
    (unless (guid_right s) CapsuleGuid
    (unless (body_right (body s)) CapsuleBody
    (unless (payloads_right (body s)) CapsulePayload (Ok tt))))))

-- a refusal stands; what is faultless goes on to the next verdict
abbrev pub after : Verdict → Verdict → Verdict
after (Ok x) next = next
after (Err r) next = Err r

-- N16, of a faultless capsule alone, since it comes last
unfoldable pub item_verdict : List ℕ → ℕ → Verdict
item_verdict s k = after (verdict s) (unless (ltb k (items (body s))) NoItem (Ok tt))

-- the number of what the sister entry gives, 0 for none (C23)
abbrev pub refusal_number : List ℕ → ℕ → ℕ
refusal_number s k = verdict_number (item_verdict s k)
