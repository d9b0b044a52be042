-- What the crate `event` is about, as a reader must believe it: an event looks at two station entries and one ballot entry, and replaces at most one
-- of each. Every definition speaks of any entries, made-up ones included.
--     Meant     the crate's enum as an event of the list
--     Places    where an event looks
--     Tests     what each event is turned away for, in order
--     Step      what one STEP does
--     Change    the five events, whole
--     Numbers   the numbers in the document's words
--     Said      what an event makes of the parts that it names, in the document's words
--     Frame     what an event does not name stays
--     Examples  worked rows, with literal numbers
pub mod Meant
pub mod Places
pub mod Tests
pub mod Step
pub mod Change
pub mod Numbers
pub mod Said
pub mod Frame
pub mod Examples
