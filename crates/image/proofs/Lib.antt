-- Laws that belong to no one function.
--     Lists     entries laid one after the other, found and replaced
--     Entries   an entry and its bytes, both ways
--     Image     an image and its record, both ways
--     Fits      the numbers of a record that a list leads to fit their types
--     Examples  images byte by byte
pub mod Lists
pub mod Entries
pub mod Image
pub mod Fits
pub mod Examples
