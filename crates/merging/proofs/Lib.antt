-- Proofs about one log made of two:
--     Merged      what holds of two lists made one
--     InTurn      whose event goes next in it
--     Logs        what is left of a log from a place on
--     Told        a log read to its end, field by field
--     Read        what holds of each event read, and the opening of a log without fault
--     Numbers     reading faults, station numbers and bytes of a log
--     Laws        what the document says of MERGE
--     Demand      RUN plays the log written to its end
--     Examples    the order of the one list as literals, and MERGE byte by byte
pub mod Merged
pub mod InTurn
pub mod Logs
pub mod Told
pub mod Read
pub mod Numbers
pub mod Laws
pub mod Demand
pub mod Examples
