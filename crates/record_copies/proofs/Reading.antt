-- What is known of the copy that is read. Assumes nothing.
use mathlib.Core.Path.{◌≡◌, refl, sym}
use mathlib.Core.Bool.{Bool, true, false, cond, ◌&&◌}
use mathlib.Core.List.{List}
use mathlib.Core.Logic.{◌≢◌}
use Prim.Native.Nat.{ℕ}
use Rattle.std.specs.Prelude.{Option, Some, None}
use native.Mathlib.Omega.{arith}
use Rattle.fields.proofs.Tests.{both}
use Rattle.fields.proofs.Guid.{same_true}
use Rattle.record_layout.specs.Layout.{record_of, copy0, copy1}
use Rattle.record_layout.specs.Rules.{sound, sound_copy}
use Rattle.record_copies.specs.Copies.{source_of, read_from, record_read, records_equal, sound_and_equal}
use Rattle.record_copies.specs.declared.Source.{Source}
use Rattle.record_copies.specs.declared.Source.TheVariants.{Copy0, Copy1}

first : (x y : Bool) → cond x (Some Copy0) (cond y (Some Copy1) None) ≡ Some Copy0 → x ≡ true
first true y e = refl
first false true e = let z : ◌≡◌ {A = ℕ} 0 1 = cc in absurd (omega arith)
first false false e = let z : ◌≡◌ {A = ℕ} 0 1 = cc in absurd (omega arith)

second : (x y : Bool) → cond x (Some Copy0) (cond y (Some Copy1) None) ≡ Some Copy1 → (x ≡ false) × (y ≡ true)
second true y e = let z : ◌≡◌ {A = ℕ} 0 1 = cc in absurd (omega arith)
second false true e = (refl, refl)
second false false e = let z : ◌≡◌ {A = ℕ} 0 1 = cc in absurd (omega arith)

-- copy 0 is read where it is sound
pub from_copy0 : (a : List ℕ) → source_of a ≡ Some Copy0 → sound (record_of (copy0 a)) ≡ true
unfolding source_of sound_copy
from_copy0 a e = first (sound_copy (copy0 a)) (sound_copy (copy1 a)) e

-- copy 1 where copy 0 is not, and it is
pub from_copy1 : (a : List ℕ) → source_of a ≡ Some Copy1 → sound (record_of (copy1 a)) ≡ true
unfolding source_of sound_copy
from_copy1 a e = (second (sound_copy (copy0 a)) (sound_copy (copy1 a)) e).1

pub copy0_unsound : (a : List ℕ) → source_of a ≡ Some Copy1 → sound_copy (copy0 a) ≡ false
unfolding source_of
copy0_unsound a e = (second (sound_copy (copy0 a)) (sound_copy (copy1 a)) e).0

-- the record read is sound, where there is one
pub read_sound : (s : Option Source) (a : List ℕ) → s ≡ source_of a → s ≢ None → sound (read_from s a) ≡ true
unfolding read_from
read_sound (Some Copy0) a e n = from_copy0 a (sym e)
read_sound (Some Copy1) a e n = from_copy1 a (sym e)
read_sound None a e n = absurd (n refl)

-- the same, copy by copy
pub read0 : (a : List ℕ) → source_of a ≡ Some Copy0 → (record_of (copy0 a) ≡ record_read a) × (sound (record_of (copy0 a)) ≡ true)
unfolding read_from
read0 a e = (rw e, from_copy0 a e)

pub read1 : (a : List ℕ) → source_of a ≡ Some Copy1 → (record_of (copy1 a) ≡ record_read a) × (sound (record_of (copy1 a)) ≡ true)
unfolding read_from
read1 a e = (rw e, from_copy1 a e)

-- sound and equal copies hold one record
pub equal_sound : (a : List ℕ) → sound_and_equal a ≡ true → sound (record_of (copy0 a)) ≡ true
unfolding sound_and_equal sound_copy
equal_sound a e =
    let p = both (sound_copy (copy0 a) && sound_copy (copy1 a)) (records_equal a) e in
    (both (sound_copy (copy0 a)) (sound_copy (copy1 a)) p.0).0

pub equal_same : (a : List ℕ) → sound_and_equal a ≡ true → record_of (copy0 a) ≡ record_of (copy1 a)
unfolding sound_and_equal records_equal
equal_same a e =
    same_true (record_of (copy0 a)) (record_of (copy1 a)) (both (sound_copy (copy0 a) && sound_copy (copy1 a)) (records_equal a) e).1
