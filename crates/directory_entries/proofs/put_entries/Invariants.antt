-- `put_entries` meets its contract. The loop's invariant: the entries of the images below i are put. Assumes nothing.
use mathlib.Core.Path.{◌≡◌}
use lib.ListN.{length}
use Rattle.fields.specs.Number.{put}
use Rattle.directory_layout.specs.Layout.{entries_bytes, up_to}
use Rattle.directory_entries.specs.Installed.{installed_entry}
use Rattle.directory_entries.proofs.put_entries.Given as goal

abbrev pub invariant-loop-i : goal.invariant-loop-i
invariant-loop-i l =
    (length l.out ≡ length l.initial.out)
    × (l.out ≡ put l.initial.out 24 (entries_bytes (up_to l.i (installed_entry l.r l.booted l.words))))
