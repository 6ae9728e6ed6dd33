-- The values that are shown of an item of a capsule s (C21). An `Item` says where it lies; a refusal stands in its
-- place. Assumes nothing.
use Rattle.std.specs.Prelude.{ℕ, List, replicate, Result, Ok, Err}
use Rattle.refusals.specs.declared.Refusal.{Refusal}
use Rattle.fields.specs.Part.{part}
use Rattle.capsule_payloads.specs.Payload.{type_guid, image_index, hardware_instance}
use Rattle.capsule_check.specs.declared.Item.{Item}
use Rattle.capsule_check.specs.declared.Item.TheVariants.{Driver, Payload}

-- what f tells of a payload's bytes; zeros of a driver and of a refusal
abbrev pub shown : {A : Type 0} → (f : List ℕ → A) (zeros : A) → List ℕ → Result Item Refusal → A
shown f zeros s (Ok (Driver a e)) = zeros
shown f zeros s (Ok (Payload a e)) = f (part s a e)
shown f zeros s (Err r) = zeros

abbrev pub type_guid_of : List ℕ → Result Item Refusal → List ℕ
type_guid_of s i = shown type_guid (replicate 16 0) s i

abbrev pub image_index_of : List ℕ → Result Item Refusal → ℕ
image_index_of s i = shown image_index 0 s i

abbrev pub hardware_instance_of : List ℕ → Result Item Refusal → ℕ
hardware_instance_of s i = shown hardware_instance 0 s i
