-- Laws that belong to no one function.
--     Stages  the table of the stages tells them apart
pub mod Stages
