-- What the crate `entry` is about, as a reader must believe it. Every definition speaks of any entry, made-up ones included.
--     Stages    which stage a station is at
--     Entries   what entries say, and how an event changes one
pub mod Stages
pub mod Entries
