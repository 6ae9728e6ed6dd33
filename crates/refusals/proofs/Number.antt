-- No refusal has the number 0, which can therefore stand for none. Assumes nothing.
use Prim.Native.Nat.{◌≤◌}
use native.Mathlib.Omega.{arith}
use Rattle.refusals.specs.Number.{number_of}
use Rattle.refusals.specs.declared.Refusal.{Refusal}
use Rattle.refusals.specs.declared.Refusal.TheVariants.{WindowEnd, DescriptorCount, DescriptorAddress, BlockOutside, TotalLength, TotalZero, NoPlace, CapsuleShort, CapsuleSizes, CapsuleFlags, CapsuleGuid, CapsuleBody, CapsulePayload, NoItem, AreaLength, NoSoundCopy, NotSoundAndEqual, StoreSlice, StagingFault, SessionState, NoImage, ImagesMissing, BootedBank}
use Rattle.refusals.specs.declared.Refusal.TheVariants.{DirectoryWords, DirectoryPermissions, DirectoryRoom}
use Rattle.refusals.specs.declared.Refusal.TheVariants.{DirectoryShort, DirectoryHeader, DirectoryLength, DirectoryEntries}
use Rattle.refusals.specs.declared.Refusal.TheVariants.{PackItems, PackPart, PackEmptyDriver, PackVersion}
use Rattle.refusals.specs.declared.Refusal.TheVariants.{PackInstance, PackFlags, PackSize, PackRoom}

pub number_positive : (r : Refusal) → 1 ≤ number_of r
number_positive WindowEnd = omega arith
number_positive DescriptorCount = omega arith
number_positive DescriptorAddress = omega arith
number_positive BlockOutside = omega arith
number_positive TotalLength = omega arith
number_positive TotalZero = omega arith
number_positive NoPlace = omega arith
number_positive CapsuleShort = omega arith
number_positive CapsuleSizes = omega arith
number_positive CapsuleFlags = omega arith
number_positive CapsuleGuid = omega arith
number_positive CapsuleBody = omega arith
number_positive CapsulePayload = omega arith
number_positive NoItem = omega arith
number_positive AreaLength = omega arith
number_positive NoSoundCopy = omega arith
number_positive NotSoundAndEqual = omega arith
number_positive StoreSlice = omega arith
number_positive StagingFault = omega arith
number_positive SessionState = omega arith
number_positive NoImage = omega arith
number_positive (ImagesMissing n) = omega arith
number_positive BootedBank = omega arith
number_positive DirectoryWords = omega arith
number_positive DirectoryPermissions = omega arith
number_positive DirectoryRoom = omega arith
number_positive DirectoryShort = omega arith
number_positive DirectoryHeader = omega arith
number_positive DirectoryLength = omega arith
number_positive DirectoryEntries = omega arith
number_positive PackItems = omega arith
number_positive PackPart = omega arith
number_positive PackEmptyDriver = omega arith
number_positive PackVersion = omega arith
number_positive PackInstance = omega arith
number_positive PackFlags = omega arith
number_positive PackSize = omega arith
number_positive PackRoom = omega arith
