-- What is packed is taken and shows what was given, and what is tight is packed again to the same bytes (C34 to C37).
-- Assumes nothing.
use Rattle.proof_packing.specs.RoundTrip.{RoundTrip, lent_again}
use Rattle.proof_packing.proofs.PackedTaken.{packed_taken}
use Rattle.proof_packing.proofs.TakenPacked.{taken_packed}
use Rattle.proof_packing.proofs.ReadAgain.{read_again}

pub round_trip : RoundTrip
round_trip =
    record {
      packed_taken = packed_taken;
      taken_packed = taken_packed;
      read_again = read_again;
      packed_again =
          λ s out small taken tightly room.
          let again = read_again s small taken in
          taken_packed s out (lent_again s) small taken tightly again.0 again.1 room;
    }
