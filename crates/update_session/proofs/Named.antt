-- Whether a session is one that a call is for, by the cases that a match took or left out. Assumes nothing.
use mathlib.Core.Path.{◌≡◌, refl}
use mathlib.Core.Bool.{true, false}
use mathlib.Core.Logic.{◌⊎◌, inl, inr}
use mathlib.Core.List.{◌∷◌, []}
use Prim.Native.Nat.{ℕ}
use Rattle.update_session.specs.declared.Session.{Session}
use Rattle.update_session.specs.declared.Session.TheVariants.{Regular, Staging, Trial, Fallback, Restart}
use Rattle.update_changes.specs.Changed.{begin, select_previous}
use Rattle.update_session.specs.Sessions.{staging, trial, kind_of, among, named_for}

pub not_staging : (q : Session) → ((bank set : ℕ) → q ≡ Staging bank set → ⊥) → among (kind_of q) (staging ∷ []) ≡ false
not_staging Regular h = refl
not_staging (Staging bank set) h = absurd (h bank set refl)
not_staging Trial h = refl
not_staging Fallback h = refl
not_staging Restart h = refl

pub not_trial : (q : Session) → (q ≡ Trial → ⊥) → among (kind_of q) (trial ∷ []) ≡ false
not_trial Regular h = refl
not_trial (Staging bank set) h = refl
not_trial Trial h = absurd (h refl)
not_trial Fallback h = refl
not_trial Restart h = refl

pub for_begin : (q : Session) → (q ≡ Regular) ⊎ ((bank : ℕ) × (set : ℕ) × q ≡ Staging bank set) → among (kind_of q) (named_for begin) ≡ true
for_begin q (inl e) = rw e
for_begin q (inr h) = rw h.2

pub not_for_begin : (q : Session) → (q ≡ Regular → ⊥) → ((bank set : ℕ) → q ≡ Staging bank set → ⊥)
    → among (kind_of q) (named_for begin) ≡ false
not_for_begin Regular g h = absurd (g refl)
not_for_begin (Staging bank set) g h = absurd (h bank set refl)
not_for_begin Trial g h = refl
not_for_begin Fallback g h = refl
not_for_begin Restart g h = refl

pub for_select : (q : Session) → (q ≡ Trial) ⊎ (q ≡ Fallback) → among (kind_of q) (named_for select_previous) ≡ true
for_select q (inl e) = rw e
for_select q (inr e) = rw e

pub not_for_select : (q : Session) → (q ≡ Trial → ⊥) → (q ≡ Fallback → ⊥) → among (kind_of q) (named_for select_previous) ≡ false
not_for_select Regular g h = refl
not_for_select (Staging bank set) g h = refl
not_for_select Trial g h = absurd (g refl)
not_for_select Fallback g h = absurd (h refl)
not_for_select Restart g h = refl
