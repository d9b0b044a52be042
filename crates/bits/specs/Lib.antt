-- What the crate `bits` is about, as a reader must believe it.
--     Digits      the binary digits of a number, its length, its bits
--     Words       one bit changed, low bits compared; words of a fixed width, masks of stations and how many are in one
--     Difference  the first bit at which two numbers differ, bit k before those below it
--     Log         ceil(log2 n)
--     Examples    the numbers that the documents write out, and edges
pub mod Digits
pub mod Words
pub mod Difference
pub mod Log
pub mod Examples
