-- Laws that belong to no one function.
--     Numbers   the numbers in the document's words
--     Said      what an event makes of the parts that it names
--     Frame     what an event does not name stays
--     Kept      what no accepted event takes back
--     Examples  the worked rows, computed
pub mod Numbers
pub mod Said
pub mod Frame
pub mod Kept
pub mod Examples
