-- What the crate `report` is about, as a reader must believe it.
--     Quoted    quoted text as bytes
--     Decimal   a number in decimal
--     Text      the lines
--     Report    what is printed for a log
--     Written   a text printed into a lent buffer
--     Agreed    what two lines that say `decided` show
--     Laws      what document 01 says of the text: laws, and lines letter by letter
pub mod Quoted
pub mod Decimal
pub mod Text
pub mod Report
pub mod Written
pub mod Agreed
pub mod Laws
