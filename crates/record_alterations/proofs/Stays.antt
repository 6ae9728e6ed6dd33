-- A record whose words are put where they stand. Assumes nothing.
use mathlib.Core.Path.{◌≡◌, refl}
use mathlib.Core.Bool.{true}
use mathlib.Core.List.{List, append_assoc}
use Prim.Native.Nat.{ℕ, ◌+◌, ◌≤◌}
use native.Mathlib.Omega.{arith}
use lib.ListN.{length, take-append-drop}
use Rattle.fields.specs.Number.{Bytes, le, bytes, put}
use Rattle.fields.proofs.Number.{length_bytes}
use Rattle.fields.proofs.Bytes.{drop_number}
use Rattle.record_layout.specs.Rules.{sound}
use Rattle.record_layout.proofs.Sound.{sound_sized, sound_long, sound_crc}
use Rattle.record_alterations.specs.Fields.{set_active, set_previous, with_crc}
use Rattle.record_alterations.specs.Altered.{flagged, altered_by, as_it_is, Unaltered}

pub word_back : (s : List ℕ) (i : ℕ) → Bytes s → i + 4 ≤ length s → put s i (bytes 4 (le 4 s i)) ≡ s
unfolding put
word_back s i b h = rw (length_bytes 4 (le 4 s i), append_assoc, ← drop_number 4 s i b h) (take-append-drop i s)

module _ (r : List ℕ) (e : sound r ≡ true) (b : Bytes r) where
  long : 40 ≤ length r
  long = sound_long r e

  -- the CRC of a sound record is there already
  pub crc_stays : with_crc r ≡ r
  unfolding with_crc
  crc_stays = rw (← sound_crc r e) (word_back r 0 b (omega (arith, long)))

  pub unaltered_is : Unaltered (as_it_is r) r
  unfolding altered_by flagged set_active set_previous
  unaltered_is =
      let one = word_back r 8 b (omega (arith, long)) in
      let two = word_back r 12 b (omega (arith, long)) in
      let three = word_back r 24 b (omega (arith, long)) in
      record {
        is = refl;
        within = record { bank = omega (arith, (sound_sized r e).banks_low); images = omega arith };
        crc_is = rw (one, two, three) (sound_crc r e);
        stays = rw (one, two, three) crc_stays;
      }
