-- Laws that belong to no one function.
--     Cases     the starred cases, computed
pub mod Cases
