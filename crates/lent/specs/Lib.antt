-- What the crate `lent` is about, as a reader must believe it.
--     Lists     lists of events on one lent settlement
pub mod Lists
