-- What the crate `settlement` is about, as a reader must believe it. Every definition speaks of any record, made-up ones included.
--     Record    entries read and replaced, and what an event looks at
--     Fault     the record test, 42
--     Outcome   what OPEN and an event answer
--     Events    OPEN and the five events, whole
--     InPlace   one event at its places in the arrays, without the record test
--     Look      LOOK, whole
--     Tally     LOOK at a ballot, whole
--     Demand1   demand 1, as one law over every event and every record
--     Link      the records that a list of events leads to, beside the play
--     Demands   demands 2 and 3 about the operations, over whole lists
--     Laws      what the documents say of every record, in their words and numbers
--     Voters    who voted which way: a look at a ballot in words, and the sets over whole lists
--     Edges     edges of OPEN, the record test, both LOOKs and the events, as one list
pub mod Record
pub mod Fault
pub mod Outcome
pub mod Events
pub mod InPlace
pub mod Look
pub mod Tally
pub mod Demand1
pub mod Link
pub mod Demands
pub mod Laws
pub mod Voters
pub mod Edges
