-- Laws and proofs of the round trip: of what is packed, then of what is packed again.
pub mod Good
pub mod PayloadFields
pub mod BodyFields
pub mod CapsuleTaken
pub mod CapsuleShown
pub mod PackedGood
pub mod PackedTaken
pub mod PayloadAgain
pub mod BodyAgain
pub mod Shown
pub mod CapsuleAgain
pub mod TakenPacked
pub mod Told
pub mod ReadAgain
pub mod RoundTrip
