-- Laws that belong to no one function.
--     Counts    a field that PUT writes has few bytes
--     Examples  PUT's bytes and answers, computed
pub mod Counts
pub mod Examples
