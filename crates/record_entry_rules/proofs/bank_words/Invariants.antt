-- `bank_words` meets its contract. The loop's invariant: the words of the banks below b are at most the limit. Assumes
-- nothing.
use mathlib.Core.Bool.{Bool}
use mathlib.Core.List.{List}
use Prim.Native.Nat.{ℕ, ◌+◌}
use lib.Dec.{leb}
use Rattle.fields.specs.Number.{le}
use Rattle.record_layout.specs.Layout.{bank_entry_at}
use Rattle.record_layout.proofs.Below.{Passed}
use Rattle.record_entry_rules.proofs.bank_words.Given as goal

abbrev pub test : List ℕ → (banks from limit i b : ℕ) → Bool
test r banks from limit i b = leb (le 4 r (bank_entry_at banks i b + from)) limit

abbrev pub invariant-loop-b : goal.invariant-loop-b
invariant-loop-b l = Passed (test l.c.bytes.now l.c.banks l.from l.limit l.i) l.c.banks l.b
