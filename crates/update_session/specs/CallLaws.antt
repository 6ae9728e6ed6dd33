-- End's own test, image by image (S9, N27): what the count of ones in it means (`call_laws`, proofs/CallLaws.antt). The
-- laws of the set itself are in crates/update_committed_set/specs/SetLaws.antt. Assumes nothing.
use Rattle.std.specs.Prelude.{ℕ, ◌≡◌, not, List, [], ◌∷◌, ◌++◌}
use Rattle.refusals.specs.declared.Refusal.TheVariants.{ImagesMissing}
use Rattle.record_layout.specs.Layout.{image_count}
use Rattle.update_committed_set.specs.SetLaws.{every_in, absent}
use Rattle.update_changes.specs.Changed.{end}
use Rattle.refusal_order.specs.Decide.{Test, decide}
use Rattle.update_session.specs.declared.Session.{Session}
use Rattle.update_session.specs.Sessions.{set_of}
use Rattle.update_session.specs.Calls.{held, common_tests, session_test, tests}

-- 27 without a count of ones: an image is not in the set, with how many are not
abbrev pub absent_test : Session → (r : List ℕ) → Test
absent_test q r = (not (every_in (image_count r) (set_of q)), ImagesMissing (absent (image_count r) (set_of q)))

pub record CallLaws : Type 0 where
  pub end_by_images : (q : Session) (a : List ℕ) (n : ℕ)
      → decide (tests end q a n) ≡ decide (common_tests q a n ++ (session_test end q ∷ absent_test q (held a) ∷ []))
