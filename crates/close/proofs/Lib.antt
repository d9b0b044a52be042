-- Proofs of the code of CLOSE:
--     Sets        masks of stations, bit by bit
--     Gathered    the claims at hand, station by station
--     Hand        the mask of the claims at hand
--     Sound       the record test after an event
--     Delivering  the DELIVER of a claim that is due
--     Seeking     the STEP of a station that seeks
--     Advanced    what one event in place tells
--     Ends        a log that is stuck, turns one after the other, passes that nobody needs
--     Faulty      a STEP whose entry the record test refuses
--     Turning     an event that is due, played and written
--     Parts       the parts of a turn
--     Passing     the closing log, pass after pass
--     Measured    the answers of CLOSE
pub mod Sets
pub mod Gathered
pub mod Hand
pub mod Sound
pub mod Delivering
pub mod Seeking
pub mod Advanced
pub mod Ends
pub mod Faulty
pub mod Turning
pub mod Parts
pub mod Passing
pub mod Measured
