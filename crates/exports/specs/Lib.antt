-- What the crate `exports` is about: PUT as other languages call it. All else is what the crates below define.
--     Exports   the field asked for, the answer and the buffer
--     Examples  the same byte by byte
pub mod Exports
pub mod Examples
