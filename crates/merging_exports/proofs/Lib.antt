-- Proofs about MERGE as other languages call it:
--     Laws      what a caller reads off the answer
--     Examples  byte by byte
pub mod Laws
pub mod Examples
