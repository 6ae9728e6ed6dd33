-- The number of each refusal, and what it tells beside (N1 to N57, N104, N107). Assumes nothing.
use Rattle.std.specs.Prelude.{ℕ, List, [], ◌∷◌}
use Rattle.refusals.specs.declared.Refusal.{Refusal}
use Rattle.refusals.specs.declared.Refusal.TheVariants.{WindowEnd, DescriptorCount, DescriptorAddress, BlockOutside, TotalLength, TotalZero, NoPlace, CapsuleShort, CapsuleSizes, CapsuleFlags, CapsuleGuid, CapsuleBody, CapsulePayload, NoItem, AreaLength, NoSoundCopy, NotSoundAndEqual, StoreSlice, StagingFault, SessionState, NoImage, ImagesMissing, BootedBank}
use Rattle.refusals.specs.declared.Refusal.TheVariants.{DirectoryWords, DirectoryPermissions, DirectoryRoom}
use Rattle.refusals.specs.declared.Refusal.TheVariants.{DirectoryShort, DirectoryHeader, DirectoryLength, DirectoryEntries}
use Rattle.refusals.specs.declared.Refusal.TheVariants.{PackItems, PackPart, PackEmptyDriver, PackVersion}
use Rattle.refusals.specs.declared.Refusal.TheVariants.{PackInstance, PackFlags, PackSize, PackRoom}

-- A refusal's number is that of its rule, so 24 is N24's. Beside it 27 tells how many images are missing
abbrev pub told : Refusal → ℕ × List ℕ
told WindowEnd = (1, [])
told DescriptorCount = (2, [])
told DescriptorAddress = (3, [])
told BlockOutside = (4, [])
told TotalLength = (5, [])
told TotalZero = (6, [])
told NoPlace = (7, [])
told CapsuleShort = (10, [])
told CapsuleSizes = (11, [])
told CapsuleFlags = (12, [])
told CapsuleGuid = (13, [])
told CapsuleBody = (14, [])
told CapsulePayload = (15, [])
told NoItem = (16, [])
told AreaLength = (20, [])
told NoSoundCopy = (21, [])
told NotSoundAndEqual = (22, [])
told StoreSlice = (23, [])
told StagingFault = (24, [])
told SessionState = (25, [])
told NoImage = (26, [])
told (ImagesMissing n) = (27, n ∷ [])
told BootedBank = (28, [])
told DirectoryWords = (40, [])
told DirectoryPermissions = (41, [])
told DirectoryRoom = (42, [])
told DirectoryShort = (43, [])
told DirectoryHeader = (44, [])
told DirectoryLength = (45, [])
told DirectoryEntries = (46, [])
told PackItems = (50, [])
told PackPart = (51, [])
told PackEmptyDriver = (52, [])
told PackVersion = (53, [])
told PackInstance = (54, [])
told PackFlags = (55, [])
told PackSize = (56, [])
told PackRoom = (57, [])

abbrev pub number_of : Refusal → ℕ
number_of r = (told r).0

abbrev pub values_of : Refusal → List ℕ
values_of r = (told r).1
