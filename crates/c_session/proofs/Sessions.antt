-- Two laws of sessions in numbers. Assumes nothing.
use Prim.Native.Nat.{ℕ}
use mathlib.Core.Path.{◌≡◌, refl}
use Rattle.update_session.specs.declared.Session.{Session}
use Rattle.update_session.specs.declared.Session.TheVariants.{Regular, Staging, Trial, Fallback, Restart}
use Rattle.c_session.specs.Numbers.{numbers_of, session_named}

-- the session that an exported function answers is the session that the next call is given by it
pub session_back : (q : Session) → session_named (numbers_of q) ≡ q
unfolding session_named
session_back Regular = refl
session_back (Staging bank set) = refl
session_back Trial = refl
session_back Fallback = refl
session_back Restart = refl

-- numbers of kind 0, a zeroed struct among them, count as Restart, for which no call is named (N25)
pub none_as_restart : (bank set : ℕ) → session_named (record { kind = 0; bank = bank; set = set }) ≡ Restart
unfolding session_named
none_as_restart bank set = refl
