-- Laws that belong to no one function.
--     Decimal   the digits of a number, and how many it has
--     Lines     the lines by entries are those of the record
--     Printed   a text measured, then printed or not
--     Empty     a text is never empty
--     Apart     a text taken apart at its line feeds, and a line at its spaces
--     Agreed    two lines that say `decided`
--     Laws      the laws of the text
pub mod Decimal
pub mod Lines
pub mod Printed
pub mod Empty
pub mod Apart
pub mod Agreed
pub mod Laws
