-- What the crate `closing_exports` is about: CLOSE as other languages call it.
--     Exports   the answer in one number, and the buffer
--     Laws      what a caller reads off them
--     Examples  the same byte by byte
pub mod Exports
pub mod Laws
pub mod Examples
