-- What the writer answers of a record, by what each of its steps found. Assumes nothing.
use mathlib.Core.Path.{◌≡◌, refl}
use mathlib.Core.Bool.{Bool, true, false}
use mathlib.Core.List.{List}
use Prim.Native.Nat.{ℕ, ◌*◌, ◌≤◌, ◌<◌}
use Rattle.std.specs.Prelude.{Some}
use native.Mathlib.Omega.{arith}
use borrow.Author.Tests.{leb-false, lt-leb, ltb-false, eq-eqb}
use lib.Dec.{leb}
use lib.ListN.{length}
use Rattle.fields.specs.Number.{put}
use Rattle.refusals.specs.declared.Refusal.{Refusal}
use Rattle.refusal_order.specs.Decide.{passed, decide, refused, Reply, gives, refusing, reply}
use Rattle.refusal_order.proofs.Decide.{no_fault}
use Rattle.record_layout.specs.Layout.{area_size, bank_count, image_count}
use Rattle.record_copies.specs.Copies.{source_of, record_read}
use Rattle.record_copies.specs.declared.Source.{Source}
use Rattle.update_admission.specs.Rows.{read_tests}
use Rattle.update_admission.proofs.Area.{some_sound}
use Rattle.update_session.specs.declared.Session.{Session}
use Rattle.update_start_up.specs.StartUp.{started_session, started_from, start_up_tests}
use Rattle.directory_layout.specs.Layout.{directory_bytes, directory_size}
use Rattle.directory_entries.specs.Installed.{words_an_image}
use Rattle.directory_writer.specs.Writer.{installed, directory_tests, writer_tests, written_by, written}
use Rattle.directory_writer.specs.Step.{written_from}

abbrev Answer : Type 0
Answer = Reply ℕ × List ℕ

module _ (r : List ℕ) (booted : ℕ) where
  -- start-up's answer of the record: 28 is the writer's too
  pub booted_refused : (words out : List ℕ) (why : Refusal) → refusing why ≡ started_from r booted
      → ◌≡◌ {A = Answer} (refusing why, out) (written_from r booted words out)
  unfolding started_from decide reply written_from written_by
  booted_refused words out why e = go (leb (bank_count r) booted) refl
    where
      go : (b : Bool) → leb (bank_count r) booted ≡ b → ◌≡◌ {A = Answer} (refusing why, out) (written_from r booted words out)
      go true t = let q = rw t at e in rw t (cc)
      go false t = let z : ◌≡◌ {A = ℕ} 0 1 = (let q = rw t at e in cc) in absurd (omega arith)

  -- or the session
  pub booted_passed : (q : Session) → gives q ≡ started_from r booted → (booted < bank_count r) × (q ≡ started_session r booted)
  unfolding started_from decide reply
  booted_passed q e = go (leb (bank_count r) booted) refl
    where
      go : (b : Bool) → leb (bank_count r) booted ≡ b → (booted < bank_count r) × (q ≡ started_session r booted)
      go true t = let z : ◌≡◌ {A = ℕ} 0 1 = (let p = rw t at e in cc) in absurd (omega arith)
      go false t = (leb-false (bank_count r) booted t, (let p = rw t at e in cc))

  module _ (words out : List ℕ) (low : booted < bank_count r) where
    -- then the writer's own tests decide
    own : written_from r booted words out
        ≡ written_by (decide (directory_tests r words (length out))) (directory_bytes (installed r booted words)) out
    unfolding written_from decide
    own = rw (lt-leb (bank_count r) booted low)

    pub own_refused : (why : Refusal) → refused why ≡ decide (directory_tests r words (length out))
        → ◌≡◌ {A = Answer} (refusing why, out) (written_from r booted words out)
    unfolding written_by
    own_refused why e = rw (own, ← e)

    pub own_passed : (n : ℕ) (new : List ℕ) → passed ≡ decide (directory_tests r words (length out))
        → n ≡ length (directory_bytes (installed r booted words)) → new ≡ put out 0 (directory_bytes (installed r booted words))
        → ◌≡◌ {A = Answer} (gives n, new) (written_from r booted words out)
    unfolding written_by
    own_passed n new e l p = rw (own, ← e, l, p)

-- what the writer's own tests leave known
pub enough : (r words : List ℕ) (room : ℕ) → passed ≡ decide (directory_tests r words room)
    → (image_count r * words_an_image ≤ length words) × (directory_size (image_count r) ≤ room)
enough r words room e =
    let f = no_fault (directory_tests r words room) e in
    (ltb-false (length words) (image_count r * words_an_image) f.0, ltb-false room (directory_size (image_count r)) f.1.1.0)

-- where a record is read, the writer answers by it
pub by_record : (a : List ℕ) (booted : ℕ) (words out : List ℕ) (x : Source) → length a ≡ area_size → source_of a ≡ Some x
    → written a booted words out ≡ written_from (record_read a) booted words out
unfolding written written_from writer_tests start_up_tests read_tests decide
by_record a booted words out x l e = rw (eq-eqb (length a) area_size l, some_sound a x e)
