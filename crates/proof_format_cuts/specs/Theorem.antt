-- What survives a cut, over any format of the record and any writer of its copies. a is the bytes of an area; old is
-- the record that both copies hold before a change, new the one that is written over them; r is a record that is read;
-- n is how many of the stores listed are done before the cut. Assumes nothing.
use Rattle.std.specs.Prelude.{ℕ, ◌≤◌, ◌≡◌, ◌⊎◌, true, cond, List, [], ◌++◌, map, length}
use Rattle.std.proofs.Math.Option.{Option, none, some}
use Rattle.fields.specs.Number.{Bytes}
use Rattle.fields.specs.Guid.{same}
use Rattle.record_stores.specs.Stores.{Store, shift}
use Rattle.proof_format_cuts.specs.Area.{after_cut}
use Rattle.proof_format_cuts.specs.Format.{Format, FormatLaws, Writer, WriterLaws, Area, record_of, sound_copy, copy0, copy1, over}

-- the record read (R20)
unfoldable pub read_of : Format → List ℕ → List ℕ → Option (List ℕ)
read_of F x y = cond (sound_copy F x) (some (record_of F x)) (cond (sound_copy F y) (some (record_of F y)) none)

unfoldable pub record_read : Format → List ℕ → Option (List ℕ)
record_read F a = read_of F (copy0 F a) (copy1 F a)

-- both copies are sound and hold the record r
pub record BothHold (F : Format) (r a : List ℕ) : Type 0 where
  pub sound0 : sound_copy F (copy0 F a) ≡ true
  pub is0 : record_of F (copy0 F a) ≡ r
  pub sound1 : sound_copy F (copy1 F a) ≡ true
  pub is1 : record_of F (copy1 F a) ≡ r

-- a writer that lists none into a copy which holds the record already
unfoldable pub sparing : Format → Writer → Writer
sparing F W c r = cond (same (record_of F c) r) [] (W c r)

-- the stores that write a record over both copies of an area: copy 0 whole before copy 1
unfoldable pub change_list : Format → Writer → List ℕ → List ℕ → List Store
change_list F W a r = sparing F W (copy0 F a) r ++ map (shift F.copy_size) (sparing F W (copy1 F a) r)

-- the area after n of them
unfoldable pub cut : Format → Writer → List ℕ → List ℕ → ℕ → List ℕ
cut F W a r n = after_cut a (change_list F W a r) n

-- what a cut leaves, whatever was read before it
--     kept, bytes        an area still
--     after_all, area    after all stores both copies hold the record, and every other byte of the area is as before
pub record Written (F : Format) (W : Writer) (a r : List ℕ) (n : ℕ) : Type 0 where
  pub kept : length (cut F W a r n) ≡ length a
  pub bytes : Bytes (cut F W a r n)
  pub after_all : length (change_list F W a r) ≤ n → BothHold F r (cut F W a r n)
  pub area : length (change_list F W a r) ≤ n → cut F W a r n ≡ over r (copy0 F a) ++ over r (copy1 F a)

-- a new record written over copies that both hold the old one
--     either    exactly the old record is read or exactly the new
--     first     the old after no store
--     last      the new after all
--     later     once the new is read, every later cut reads it too
pub record Survives (F : Format) (W : Writer) (a old new : List ℕ) (n : ℕ) : Type 0 where
  pub either : (record_read F (cut F W a new n) ≡ some old) ⊎ (record_read F (cut F W a new n) ≡ some new)
  pub first : n ≡ 0 → record_read F (cut F W a new n) ≡ some old
  pub last : length (change_list F W a new) ≤ n → record_read F (cut F W a new n) ≡ some new
  pub later : (m : ℕ) → n ≤ m → record_read F (cut F W a new n) ≡ some new → record_read F (cut F W a new m) ≡ some new
  pub written : Written F W a new n

-- The record that is read written over the copies again, so into the other one alone, since the one that it is read
-- from holds it: it is read still, wherever that is cut
pub record Stays (F : Format) (W : Writer) (a r : List ℕ) (n : ℕ) : Type 0 where
  pub reads : record_read F (cut F W a r n) ≡ some r
  pub written : Written F W a r n

-- The theorem
--     change     from two copies that hold the old record to any sound new one
--     restore    from any area with a sound copy to the record that is read
--     none       no store where both copies hold the record already
pub record FormatCuts (F : Format) (W : Writer) : Type 0 where
  pub change : (a old new : List ℕ) (n : ℕ) → Area F a → BothHold F old a → Bytes new → F.sound new ≡ true → Survives F W a old new n
  pub restore : (a r : List ℕ) (n : ℕ) → Area F a → record_read F a ≡ some r → Stays F W a r n
  pub none : (a r : List ℕ) → BothHold F r a → change_list F W a r ≡ []

-- for every format and writer that keep the laws asked of them (specs/Format.antt)
abbrev pub FormatCutsHold : Type 0
FormatCutsHold = (F : Format) → FormatLaws F → (W : Writer) → WriterLaws F W → FormatCuts F W
