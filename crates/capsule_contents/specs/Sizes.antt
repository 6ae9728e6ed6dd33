-- How long the items are, as the tables tell it, for the functions that measure and write a capsule. Nothing here is
-- needed to read the entries' promises. Assumes nothing.
use Rattle.std.specs.Prelude.{ℕ, zero, suc, ◌+◌, ◌-◌, cond, List, leb, ltb}
use Rattle.capsule_payloads.specs.Payload.{header_length}
use Rattle.capsule_contents.specs.Contents.{size_limit}
use Rattle.capsule_contents.specs.Lent.{drivers_in, length_at, driver_at, image_at, vendor_code_at, version_given}

-- the least size that can't be told
abbrev pub size_cap : ℕ
size_cap = size_limit + 1

-- a size that can be told, or the cap
unfoldable pub cap : ℕ → ℕ
cap n = cond (leb n size_cap) n size_cap

unfoldable pub payload_size : (table : List ℕ) → ℕ → ℕ
payload_size table j = header_length (version_given table j) + length_at table (image_at j) + length_at table (vendor_code_at j)

unfoldable pub item_size : (driver_table payload_table : List ℕ) → ℕ → ℕ
item_size driver_table payload_table k =
    cond (ltb k (drivers_in driver_table)) (length_at driver_table (driver_at k)) (payload_size payload_table (k - drivers_in driver_table))

-- the sum of f at the numbers below n
unfoldable pub sum : ℕ → (ℕ → ℕ) → ℕ
sum zero f = 0
sum (suc n) f = sum n f + f n
