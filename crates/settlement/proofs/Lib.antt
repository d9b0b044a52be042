-- Laws that belong to no one function.
--     Refusals  what the number of an outcome says of its settlement
--     Range     what a record that passes the record test says of its numbers
--     Places    an event may be played on the entries at its places in the arrays
--     Seek      a seeking station's STEP asks no ballot
--     Votes     the votes that LOOK shows fit a byte
--     Demand1   demand 1
--     Stays     what an event leaves as it was
--     Answers   ANSWER on a record, test by test; the bit that stands changes nothing
--     Laws      what the documents say of every record
--     Edges     the edges of the record test, computed
--     Link      the record and the play go side by side, so demands 2 and 3 hold of the operations
--     Voters    a look at a ballot in words, and the sets of voters beside the play
pub mod Refusals
pub mod Range
pub mod Places
pub mod Seek
pub mod Votes
pub mod Demand1
pub mod Link
pub mod Stays
pub mod Answers
pub mod Laws
pub mod Voters
pub mod Edges
