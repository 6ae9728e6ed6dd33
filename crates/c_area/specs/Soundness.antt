-- The soundness of an area in a number (X7). a is the bytes of the area. Assumes nothing.
use Rattle.std.specs.Prelude.{ℕ, ◌+◌, cond, List, [], ◌∷◌}
use Rattle.refusal_order.specs.Decide.{decide, reply}
use Rattle.record_layout.specs.Layout.{copy0, copy1}
use Rattle.record_layout.specs.Rules.{sound_copy}
use Rattle.record_copies.specs.Copies.{sound_and_equal}
use Rattle.update_admission.specs.Rows.{length_test}
use Rattle.c_reply.specs.Replied.{replied}

-- bit 0: copy 0 is sound; bit 1: copy 1 is (R5); bit 2: the copies are sound and equal (R21)
unfoldable pub sound_copies : List ℕ → ℕ
sound_copies a = cond (sound_copy (copy0 a)) 1 0 + (cond (sound_copy (copy1 a)) 2 0 + cond (sound_and_equal a) 4 0)

-- the number answered, and what stands behind the pointer (N20, X5)
unfoldable pub exported_soundness : List ℕ → (found : ℕ) → ℕ × ℕ
exported_soundness a found = replied (reply (decide (length_test a ∷ [])) (sound_copies a)) found
