-- Laws that belong to no one function.
--     Early     the tests before a stage's own
pub mod Early
