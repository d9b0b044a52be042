-- Laws that belong to no one function.
--     First     the opening, from RUN with limit 0
pub mod First
