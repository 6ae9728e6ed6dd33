-- `write_words` meets its contract. The loop's invariant: the first i numbers are put. Assumes nothing.
use Prim.Native.Nat.{◌-◌, ◌≤◌}
use mathlib.Core.Path.{◌≡◌}
use lib.ListN.{length, take}
use Rattle.fields.specs.Number.{put, words_bytes}
use Rattle.field_writes.proofs.write_words.Given as goal

abbrev pub invariant-loop-i : goal.invariant-loop-i
invariant-loop-i l = (l.i ≤ length l.words) × (length l.s ≡ length l.initial.s) × (l.s ≡ put l.initial.s l.at (words_bytes (take l.i l.words)))

abbrev pub decreases-loop-i : goal.decreases-loop-i
decreases-loop-i l = length l.words - l.i
