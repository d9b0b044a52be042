-- What the crate `streams` is about, as a reader must believe it.
--     Hex       bytes as hexadecimal digits
pub mod Hex
