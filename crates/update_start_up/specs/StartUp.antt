-- What start-up answers (S2, S3, N28): the session, or a refusal and no session. a is the bytes of the area, r those of
-- the record read. Assumes nothing.
use Rattle.std.specs.Prelude.{ℕ, cond, List, [], ◌∷◌, ◌++◌, eqb, leb}
use Rattle.refusals.specs.declared.Refusal.TheVariants.{BootedBank}
use Rattle.refusal_order.specs.Decide.{Test, decide, Reply, reply}
use Rattle.record_layout.specs.Layout.{active, state, bank_count}
use Rattle.record_layout.specs.Rules.{accepted_bank}
use Rattle.record_copies.specs.Copies.{record_read}
use Rattle.update_admission.specs.Rows.{read_tests}
use Rattle.update_session.specs.declared.Session.{Session}
use Rattle.update_session.specs.declared.Session.TheVariants.{Regular, Trial, Fallback}

-- the session, by the booted bank and the active one's state (S2)
unfoldable pub started_session : List ℕ → ℕ → Session
started_session r booted = cond (eqb booted (active r)) (cond (eqb (state r (active r)) accepted_bank) Regular Trial) Fallback

-- N28: the booted bank is at or past the bank count
abbrev pub booted_test : (r : List ℕ) (booted : ℕ) → Test
booted_test r booted = (leb (bank_count r) booted, BootedBank)

-- what a record that is read gives: the session, or 28
unfoldable pub started_from : List ℕ → ℕ → Reply Session
started_from r booted = reply (decide (booted_test r booted ∷ [])) (started_session r booted)

-- 20, 21, 28
unfoldable pub start_up_tests : (a : List ℕ) (booted : ℕ) → List Test
start_up_tests a booted = read_tests a ++ (booted_test (record_read a) booted ∷ [])

-- the session that the record read and the booted bank give, or the first fault
unfoldable pub start_up_of : List ℕ → ℕ → Reply Session
start_up_of a booted = reply (decide (start_up_tests a booted)) (started_session (record_read a) booted)
