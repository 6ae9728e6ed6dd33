-- What the packer answers, by what each of its steps found. Assumes nothing.
use mathlib.Core.Path.{◌≡◌, refl}
use mathlib.Core.List.{List, [], ◌∷◌}
use Prim.Native.Nat.{ℕ, ◌≤◌, ◌<◌}
use native.Mathlib.Omega.{arith}
use borrow.Author.Tests.{lt-ltb, le-ltb, ltb-false, not-false}
use lib.Dec.{ltb}
use lib.ListN.{length}
use Rattle.fields.specs.Number.{put}
use Rattle.refusals.specs.declared.Refusal.{Refusal}
use Rattle.refusals.specs.declared.Refusal.TheVariants.{PackRoom, PackSize}
use Rattle.refusal_order.specs.Decide.{Decision, passed, refusal, decide, Reply, gives, refuses, refusing, reply}
use Rattle.refusal_order.proofs.Decide.{found, missed, refused_before, passed_before, passed_first, no_fault}
use Rattle.capsule_contents.specs.Contents.{capsule_bytes, size_limit}
use Rattle.capsule_contents.specs.Lent.{Lent, contents_of}
use Rattle.capsule_packing_rules.specs.Rules.{parts_inside, capsule_size, contents_tests, size_tests, sized}
use Rattle.capsule_packing_rules.proofs.Steps.{few}
use Rattle.capsule_packed_items.specs.Step.{Packable}
use Rattle.capsule_packer.specs.Packer.{room_test, packer_tests, packed_by, packed}

abbrev Answer : Type 0
Answer = Reply ℕ × List ℕ

-- a reply tells the decision that it was made of
reply_refused : (d : Decision) (n number : ℕ) (values : List ℕ) → refuses number values ≡ reply d n → refusal number values ≡ d
unfolding reply
reply_refused passed n number values e = let z : ◌≡◌ {A = ℕ} 0 1 = cc in absurd (omega arith)
reply_refused (refusal m vs) n number values e = cc

reply_given : (d : Decision) (m n : ℕ) → gives m ≡ reply d n → (passed ≡ d) × (m ≡ n)
unfolding reply
reply_given passed m n e = (refl, (cc))
reply_given (refusal number values) m n e = let z : ◌≡◌ {A = ℕ} 0 1 = cc in absurd (omega arith)

module _ (x : Lent) where
  -- 50 to 56 are the packer's too
  pub size_refused : (out : List ℕ) (why : Refusal) → refusing why ≡ sized x → ◌≡◌ {A = Answer} (refusing why, out) (packed x out)
  unfolding sized packed packer_tests packed_by
  size_refused out why e =
      let d = reply_refused (decide (size_tests x)) (capsule_size x) _ _ e in
      rw (← refused_before (size_tests x) (room_test x (length out) ∷ []) _ _ d)

  -- or the size
  pub size_found : (n : ℕ) → gives n ≡ sized x → (passed ≡ decide (size_tests x)) × (n ≡ capsule_size x)
  unfolding sized
  size_found n e = reply_given (decide (size_tests x)) n (capsule_size x) e

  module _ (fine : passed ≡ decide (size_tests x)) (out : List ℕ) where
    -- 57
    pub room_refused : length out < capsule_size x → ◌≡◌ {A = Answer} (refusing PackRoom, out) (packed x out)
    unfolding packed packer_tests packed_by
    room_refused h =
        rw (← passed_before (size_tests x) (room_test x (length out) ∷ []) _ fine
        (found (ltb (length out) (capsule_size x)) PackRoom [] (lt-ltb (length out) (capsule_size x) h)))

    module _ (room : capsule_size x ≤ length out) where
      -- what all tests leave known
      pub packable : Packable x (length out)
      unfolding size_tests contents_tests
      packable =
          let parts = passed_first (contents_tests x) ((ltb size_limit (capsule_size x), PackSize) ∷ []) fine in
          let own = no_fault (contents_tests x) parts.0 in
          let size = no_fault ((ltb size_limit (capsule_size x), PackSize) ∷ []) parts.1 in
          record {
            few = few x parts.0;
            parts = not-false (parts_inside x) own.1.0;
            small = ltb-false size_limit (capsule_size x) size.0;
            fits = room;
          }

      pub all_passed : (n : ℕ) (new : List ℕ) → n ≡ capsule_size x → new ≡ put out 0 (capsule_bytes (contents_of x))
          → ◌≡◌ {A = Answer} (gives n, new) (packed x out)
      unfolding packed packer_tests packed_by decide
      all_passed n new l p =
          rw (
            ← passed_before (size_tests x) (room_test x (length out) ∷ []) passed fine
                (missed (ltb (length out) (capsule_size x)) PackRoom [] passed (le-ltb (length out) (capsule_size x) room) refl),
            l,
            p,
          )
