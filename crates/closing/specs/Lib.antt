-- What the crate `closing` is about, as a reader must believe it (document 02, A.3). Every definition speaks of any record, made-up ones included.
--     Turn      what one station gets at its turn
--     Closing   the closing log: turn after turn, pass after pass
--     Close     the operation: number, settlement, bytes written and the buffer
--     Demand    what holds of it for a settlement reached from an opening
--     Laws      what the document says of every record, in its words and numbers
--     Examples  closing logs byte by byte
pub mod Turn
pub mod Closing
pub mod Close
pub mod Demand
pub mod Laws
pub mod Examples
