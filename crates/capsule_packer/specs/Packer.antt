-- What the packer answers and writes (C26 to C32, N50 to N57). x is what is lent to it, out the bytes of the output
-- slice. Assumes nothing.
use Rattle.std.specs.Prelude.{ℕ, List, [], ◌∷◌, ◌++◌, ltb, length}
use Rattle.fields.specs.Number.{put}
use Rattle.refusals.specs.declared.Refusal.TheVariants.{PackRoom}
use Rattle.refusal_order.specs.Decide.{Decision, passed, refusal, Test, decide, Reply, gives, refuses}
use Rattle.capsule_contents.specs.Contents.{capsule_bytes}
use Rattle.capsule_contents.specs.Lent.{Lent, contents_of}
use Rattle.capsule_packing_rules.specs.Rules.{capsule_size, size_tests}

-- N57: the output slice is shorter than the capsule
abbrev pub room_test : Lent → (room : ℕ) → Test
room_test x room = (ltb room (capsule_size x), PackRoom)

-- 50 to 57, by number
unfoldable pub packer_tests : Lent → (room : ℕ) → List Test
packer_tests x room = size_tests x ++ (room_test x room ∷ [])

-- C32: how many bytes were written, and the output slice afterwards: the capsule at its front, every byte past it as it
-- was; with a refusal every byte
unfoldable pub packed_by : Decision → (capsule out : List ℕ) → Reply ℕ × List ℕ
packed_by passed capsule out = (gives (length capsule), put out 0 capsule)
packed_by (refusal number values) capsule out = (refuses number values, out)

unfoldable pub packed : Lent → (out : List ℕ) → Reply ℕ × List ℕ
packed x out = packed_by (decide (packer_tests x (length out))) (capsule_bytes (contents_of x)) out
