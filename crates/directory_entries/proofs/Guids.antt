-- The type GUIDs of a sound record are whole. Assumes nothing.
use mathlib.Core.Path.{◌≡◌}
use mathlib.Core.Bool.{true}
use mathlib.Core.List.{List}
use Prim.Native.Nat.{ℕ, ◌<◌}
use lib.ListN.{length}
use Rattle.fields.proofs.Guid.{guid_whole}
use Rattle.record_layout.specs.Layout.{bank_count, image_count, entry_at, type_guid}
use Rattle.record_layout.specs.Rules.{sound}
use Rattle.record_layout.proofs.Sizes.{guid_in}
use Rattle.record_layout.proofs.Sound.{sound_sized}

pub guid_long : (r : List ℕ) (i : ℕ) → sound r ≡ true → i < image_count r → length (type_guid r i) ≡ 16
guid_long r i e h =
    guid_whole r (entry_at (bank_count r) i) (guid_in r (bank_count r) (image_count r) i (sound_sized r e) h)
