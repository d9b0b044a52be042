-- Laws that belong to no one function.
--     Given      what a refused event hands back
--     Lists      lists of events on one lent settlement
pub mod Given
pub mod Lists
