-- `correct_boot` meets its contract: every session but Fallback gives 1. Assumes nothing.
use mathlib.Core.Path.{◌≡◌, refl, sym, ap}
use Rattle.update_session.specs.declared.Session.{Session}
use Rattle.update_session.specs.declared.Session.TheVariants.{Regular, Staging, Trial, Fallback, Restart}
use Rattle.directory_writer.specs.Writer.{correct_boot_of}
use Rattle.directory_writer.proofs.correct_boot.Goals as goal

one : (q : Session) → (q ≡ Fallback → ⊥) → 1 ≡ correct_boot_of q
one Regular h = refl
one (Staging bank set) h = refl
one Trial h = refl
one Fallback h = absurd (h refl)
one Restart h = refl

pub returns-in-Fallback : goal.returns-in-Fallback
returns-in-Fallback c = sym (ap correct_boot_of c.in-Fallback.is)

pub returns-in_default : goal.returns-in_default
returns-in_default c = one c.args.session c.in_default.not-Fallback
