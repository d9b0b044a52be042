-- Laws about the definitions of specs/ that belong to no one function.
--     Digits      a number by its bits, and its length
--     Words       one bit changed, low bits compared
--     Machine     what code on a machine word computes
--     Difference  the first bit at which two numbers differ
--     Masks       sets of stations
--     Log         ceil(log2 n)
--     Examples    the numbers that the documents write out, and edges
pub mod Digits
pub mod Words
pub mod Machine
pub mod Difference
pub mod Masks
pub mod Log
pub mod Examples
