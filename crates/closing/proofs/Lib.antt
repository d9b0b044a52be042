-- Proofs about the closing log. What is due, which the code of `close` goes by too:
--     Passing     the numbers of a range that pass a test
--     Handed      what an event of a turn leaves for the rest of it
--     Due         what is due at a station's turn: the first of its events, and what is due after it
pub mod Passing
pub mod Handed
pub mod Due
-- On every record:
--     Kept        what a closing log leaves as it was
--     Counted     the STEPs of one station in it
--     Needed      each event of it is what the station whose turn it is needs next, in words
--     Short       how many bytes it can have
--     Literal     its fields, byte by byte
--     Laws        what the document says of CLOSE, in its words and numbers
--     Examples    closing logs byte by byte
pub mod Kept
pub mod Counted
pub mod Needed
pub mod Short
pub mod Literal
pub mod Laws
pub mod Examples
-- From an opening:
--     Supply      what is due is accepted, and a STEP that is due is supplied
--     Steps       the events of a closing log after a list; the STEPs counted
--     Turns       turns, one pass, all passes
--     SameBound   the record's bound is demand 3's
--     Closes      what holds of the closing log
pub mod Supply
pub mod Steps
pub mod Turns
pub mod SameBound
pub mod Closes
-- Its bytes after a log:
--     Bytes       a log and its closing log are played to the settlement answered
--     Demand      all of it
pub mod Bytes
pub mod Demand
