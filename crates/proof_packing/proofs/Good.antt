-- What is known of contents that the packer packs. Assumes nothing.
use mathlib.Core.Path.{◌≡◌}
use mathlib.Core.Bool.{true}
use mathlib.Core.Logic.{⊎_elim}
use Prim.Native.Nat.{ℕ, ◌^◌, ◌<◌, ◌≤◌}
use native.Mathlib.Omega.{arith}
use borrow.Author.Tests.{eqb-true}
use lib.Dec.{eqb}
use lib.ListN.{length}
use Rattle.fields.proofs.Tests.{either}
use Rattle.capsule_header.specs.Header.{flags_right}
use Rattle.capsule_body.specs.Body.{item_limit}
use Rattle.capsule_payloads.specs.Payload.{version_right}
use Rattle.capsule_contents.specs.Contents.{PayloadContents, Contents, items_of, capsule_bytes}

pub record GoodPayload (p : PayloadContents) : Type 0 where
  pub whole : length p.type_guid ≡ 16
  pub version : version_right p.version ≡ true
  pub wide : p.hardware_instance < 2 ^ 64
  pub none : eqb p.version 1 ≡ true → p.hardware_instance ≡ 0

pub record Good (c : Contents) : Type 0 where
  pub few : items_of c ≤ item_limit
  pub flags : c.flags < 2 ^ 32
  pub persists : flags_right c.flags ≡ true
  pub small : length (capsule_bytes c) < 2 ^ 32
  pub filled : (k : ℕ) → k < c.drivers → 0 < length (c.driver k)
  pub payload : (j : ℕ) → j < c.payloads → GoodPayload (c.payload j)

-- a version that is right has few bits
pub version_small : (v : ℕ) → version_right v ≡ true → v < 2 ^ 32
unfolding version_right
version_small v e =
    ⊎_elim (λ one. omega (arith, eqb-true v 1 one)) (λ two. omega (arith, eqb-true v 2 two)) (either (eqb v 1) (eqb v 2) e)
