-- CRC-32, and the table by which it is worked. Assumes nothing.
pub mod Crc
pub mod Table
