-- The layout of a capsule's payloads, and the rules on them (C14 to C16). Assumes nothing.
pub mod Payload
