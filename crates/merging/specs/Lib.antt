-- What the crate `merging` is about, as a reader must believe it (document 02, A.5): one log made of two with the same opening.
--     Merged    two lists of events made one, and what holds of it
--     Logs      a log read to its end
--     Merge     MERGE: the number, the bytes written, the buffer
--     Laws      what the document says of MERGE, in its words and numbers
--     Demand    the log written is played by RUN
--     Examples  lists with literal events, whose order a wrong definition would change; MERGE byte by byte
pub mod Merged
pub mod Logs
pub mod Merge
pub mod Laws
pub mod Demand
pub mod Examples
