-- End, image by image (specs/CallLaws.antt). Assumes nothing.
use mathlib.Core.Path.{◌≡◌, refl}
use mathlib.Core.List.{List, [], ◌∷◌}
use Prim.Native.Nat.{ℕ}
use native.Mathlib.Omega.{arith}
use Rattle.record_layout.specs.Layout.{image_count}
use Rattle.record_copies.proofs.Reading.{equal_sound}
use Rattle.update_committed_set.proofs.Known.{known}
use Rattle.update_committed_set.proofs.SetLaws.{missing_law, none_absent}
use Rattle.refusal_order.specs.Decide.{passed, decide}
use Rattle.refusal_order.proofs.Decide.{same_after}
use Rattle.update_session.specs.declared.Session.{Session}
use Rattle.update_session.specs.declared.Session.TheVariants.{Regular, Staging, Trial, Fallback, Restart}
use Rattle.update_changes.specs.Changed.{end}
use Rattle.update_session.specs.Calls.{held, session_test, common_tests, own_tests, tests}
use Rattle.update_session.specs.CallLaws.{absent_test, CallLaws}
use Rattle.update_session.proofs.Answered.{common_held, common_below}

own_law : (q : Session) (a : List ℕ) (n : ℕ) → passed ≡ decide (common_tests q a n) → decide (own_tests end q (held a)) ≡ decide (session_test end q ∷ absent_test q (held a) ∷ [])
unfolding decide own_tests
own_law (Staging bank set) a n e =
    let k = known (held a) (equal_sound a (common_held (Staging bank set) a n e).1) in
    rw (missing_law set (held a) (omega (arith, k.images_high)) (common_below (Staging bank set) bank set a n refl e), none_absent (image_count (held a)) set)
own_law Regular a n e = refl
own_law Trial a n e = refl
own_law Fallback a n e = refl
own_law Restart a n e = refl

pub call_laws : CallLaws
unfolding tests
call_laws = record { end_by_images = λ q a n. same_after (common_tests q a n) (own_tests end q (held a)) _ (own_law q a n) }
