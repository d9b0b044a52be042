-- The record and the play go side by side from OPEN on.
--     Linked       what ties a record to a play's state, and single entries changed
--     Faultless    a record tied to a reached state does not meet the record test
--     Numbers      each event has one number in both
--     Effects      each accepted event keeps the tie
--     Demands      the demands about the operations
pub mod Linked
pub mod Faultless
pub mod Numbers
pub mod Effects
pub mod Demands
