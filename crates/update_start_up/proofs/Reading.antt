-- Start-up's answer by the record that is read. Assumes nothing.
use mathlib.Core.Path.{◌≡◌}
use mathlib.Core.List.{List}
use Prim.Native.Nat.{ℕ}
use borrow.Author.Tests.{eq-eqb}
use lib.ListN.{length}
use Rattle.record_layout.specs.Layout.{area_size}
use Rattle.record_copies.specs.Copies.{source_of, record_read}
use Rattle.std.specs.Prelude.{Some}
use Rattle.record_copies.specs.declared.Source.{Source}
use Rattle.refusal_order.specs.Decide.{decide}
use Rattle.update_admission.specs.Rows.{read_tests}
use Rattle.update_admission.proofs.Area.{some_sound}
use Rattle.update_start_up.specs.StartUp.{started_from, start_up_tests, start_up_of}

-- where a record is read, start-up answers by it
pub read_by : (a : List ℕ) (booted : ℕ) (x : Source) → length a ≡ area_size → source_of a ≡ Some x
    → start_up_of a booted ≡ started_from (record_read a) booted
unfolding start_up_of start_up_tests read_tests started_from decide
read_by a booted x l e = rw (eq-eqb (length a) area_size l, some_sound a x e)
