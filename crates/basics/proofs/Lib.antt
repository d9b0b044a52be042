-- Laws that belong to no one function.
--     Bools     case splits that keep their equation; tests joined by "and", "or", "not"
--     Refusals  chains of refusals taken apart
--     Below     what is found below n, and what is not
--     Lists     entries past an array; an entry stored again
--     Bytes     four bytes and their number; a part that was lent and comes back
--     Writers   the same of a writer
--     Written   bytes after bytes in a lent buffer; a text measured, then written
pub mod Bools
pub mod Refusals
pub mod Below
pub mod Lists
pub mod Bytes
pub mod Written
pub mod Writers
