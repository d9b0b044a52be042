-- What the crate `close` is about, as a reader must believe it (document 02, A.3); the definitions that it cites are those of the crate `closing`.
--     Contract  what CLOSE answers, and what it leaves in the buffer
-- And what the code goes by, which a reader may skip:
--     Masks     sets of stations as masks
--     Due       what is due at a station's turn, found on entries and masks
--     Closer    what the code keeps of a closing log on its way, and what its functions promise
--     Played    what the functions that play a whole closing log promise
pub mod Masks
pub mod Due
pub mod Closer
pub mod Contract
pub mod Played
