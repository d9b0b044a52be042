-- What the crate `merging_exports` is about: MERGE as other languages call it.
--     Exports   the answer in one number
--     Laws      what a caller reads off it
--     Examples  the same byte by byte
pub mod Exports
pub mod Laws
pub mod Examples
