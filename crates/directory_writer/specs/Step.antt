-- What the writer's functions answer each other of a record that is read. Nothing here is needed to read the entry's
-- promise. Assumes nothing.
use Rattle.std.specs.Prelude.{ℕ, List, ◌∷◌, length}
use Rattle.refusal_order.specs.Decide.{decide, Reply}
use Rattle.update_start_up.specs.StartUp.{booted_test}
use Rattle.directory_layout.specs.Layout.{directory_bytes}
use Rattle.directory_writer.specs.Writer.{installed, directory_tests, written_by}

-- 28, 40, 41, 42
unfoldable pub written_from : (r : List ℕ) (booted : ℕ) (words out : List ℕ) → Reply ℕ × List ℕ
written_from r booted words out =
    written_by (decide (booted_test r booted ∷ directory_tests r words (length out))) (directory_bytes (installed r booted words)) out
