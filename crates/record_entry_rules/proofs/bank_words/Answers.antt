-- `bank_words` meets its contract. The loop's invariant: the words of the banks below b are at most the limit. Assumes
-- nothing.
use mathlib.Core.Path.{sym}
use native.Mathlib.Omega.{arith}
use borrow.Author.Tests.{le-leb, lt-leb}
use Rattle.record_layout.proofs.Below.{passed_none, passed_more, passed_stop, passed_all}
use Rattle.record_layout.specs.Sized.{bank_words}
use Rattle.record_entry_rules.proofs.bank_words.Goals as goal

pub loop-b-init : goal.loop-b-init
loop-b-init c = passed_none

pub returns-then-limit-bank_word : goal.returns-then-limit-bank_word
unfolding bank_words
returns-then-limit-bank_word c =
    sym (passed_stop c.loop-b.invariant c.loop-b-test.true (rw (← c.bank_word.ensures) (lt-leb _ _ c.if-limit-bank_word.true)))

pub loop-b-preserved : goal.loop-b-preserved
loop-b-preserved c =
    passed_more c.loop-b.invariant c.loop-b-test.true (rw (← c.bank_word.ensures) (le-leb _ _ c.if-limit-bank_word.false))

pub returns : goal.returns
unfolding bank_words
returns c = sym (passed_all c.loop-b.invariant (omega arith))
