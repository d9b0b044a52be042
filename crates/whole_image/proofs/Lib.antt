-- Laws that belong to no one function.
--     Partly    a list whose first entries are already those of another
--     Fresh     an opening's image
--     Laws      what is stored, read and reported, on any bytes
--     Lists     OPEN and a log beside lists of events on one image
--     Examples  what is stored and reported, in literals
pub mod Partly
pub mod Fresh
pub mod Laws
pub mod Lists
pub mod Examples
