-- `put_words` meets its contract. The loop's invariant: the words before word k that differ are listed. Assumes nothing.
use Prim.Native.Nat.{◌+◌, ◌-◌, ◌≤◌}
use mathlib.Core.Path.{◌≡◌}
use Rattle.record_stores.specs.Added.{Added, stored}
use Rattle.record_stores.specs.Stores.{offsets}
use Rattle.record_alterations.specs.Altered.{record_with}
use Rattle.record_copy_stores.proofs.put_words.Given as goal

abbrev pub invariant-loop-k : goal.invariant-loop-k
invariant-loop-k l =
    (l.list.out.ghost_name ≡ l.initial.list.out.ghost_name)
    × Added l.initial.list.pairs l.list.pairs (stored l.base l.c (record_with l.new.x l.new.r.now) (offsets 8 (l.k - 2)))
    l.initial.list.out.now l.list.out.now
    × (l.list.pairs ≤ l.initial.list.pairs + (l.k - 2))
