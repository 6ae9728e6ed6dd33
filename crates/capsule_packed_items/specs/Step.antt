-- The steps in which a capsule is written, each by the bytes that it puts. Nothing here is needed to read the packer's
-- promise. Assumes nothing.
use Rattle.std.specs.Prelude.{ℕ, ◌+◌, ◌*◌, ◌≤◌, ◌<◌, ◌≡◌, true, List, ◌++◌}
use Rattle.fields.specs.Number.{bytes}
use Rattle.fields.specs.Joined.{joined}
use Rattle.capsule_body.specs.Body.{item_limit}
use Rattle.capsule_contents.specs.Contents.{header_bytes, items_of, size_limit}
use Rattle.capsule_contents.specs.Lent.{Lent, contents_of, payloads_in}
use Rattle.capsule_contents.specs.Sizes.{size_cap, sum, payload_size, item_size}
use Rattle.capsule_packing_rules.specs.Rules.{payload_inside, parts_inside, capsule_size}

-- what comes before the list of offsets
unfoldable pub front_bytes : (flags size drivers payloads : ℕ) → List ℕ
front_bytes flags size drivers payloads = header_bytes flags size ++ bytes 4 1 ++ bytes 2 drivers ++ bytes 2 payloads

-- the list of offsets of so many items, by what the tables tell of their sizes
unfoldable pub offsets_bytes : (driver_table payload_table : List ℕ) (items : ℕ) → List ℕ
offsets_bytes driver_table payload_table items =
    joined items (λ k. bytes 8 (8 + 8 * items + sum k (item_size driver_table payload_table)))

-- payload j has its parts in their slices, a size that can be told, and room from `at` on
pub record PayloadReady (x : Lent) (j at room : ℕ) : Type 0 where
  pub named : j < payloads_in x.payload_table
  pub parts : payload_inside x.image_slice x.vendor_code_slice x.payload_table j ≡ true
  pub small : payload_size x.payload_table j < size_cap
  pub fits : at + payload_size x.payload_table j ≤ room

-- item k has its parts in their slices, a size that can be told, and room from `at` on
pub record ItemReady (x : Lent) (k at room : ℕ) : Type 0 where
  pub named : k < items_of (contents_of x)
  pub parts : parts_inside x ≡ true
  pub small : item_size x.driver_table x.payload_table k < size_cap
  pub fits : at + item_size x.driver_table x.payload_table k ≤ room

-- what the packer's tests have shown
pub record Packable (x : Lent) (room : ℕ) : Type 0 where
  pub few : items_of (contents_of x) ≤ item_limit
  pub parts : parts_inside x ≡ true
  pub small : capsule_size x ≤ size_limit
  pub fits : capsule_size x ≤ room
