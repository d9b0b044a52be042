-- Laws that belong to no one function.
--     Filled    a part of a list that was filled, after its front
pub mod Filled
