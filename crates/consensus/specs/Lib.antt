-- The routine as mathematics: nothing here speaks of a program.
--     Events      the events and lists of them; openings
--     State       what the play keeps of each station and each ballot
--     Rules       what each event is refused for, and what it does (document 01, as 02 changed it)
--     Frame       what an event does not name stays
--     Terms       the words of demands 2 and 3, read off a list of events
--     Told        the words are what the play's state shows
--     Owners      whose event it is, and events of different owners in either order
--     Demand3     demand 3 about the play
--     Figure      one process of a figure: a line, and an event made of lines
--     Figure1     the paper's figure 1, line by line
--     Figure2     the paper's figure 2, line by line
--     System      processes that may crash, broadcasts and binary consensus instances
--     Runs        what may happen in the system, and the runs of a figure
--     Demand2     demand 2 about the play
--     Lines       runs of single printed lines end where the play ends
--     Examples    lists that tell the four false readings apart, and lists that meet the bounds
--     Misread     figure 2 with line 10 or 11 read otherwise, run to its end
--     Rows        numbers and STEPs of the play as literals
--     Edges       the words of demands 2 and 3 at their edges, as literals
pub mod Events
pub mod State
pub mod Rules
pub mod Terms
pub mod Frame
pub mod Told
pub mod Owners
pub mod Demand3
pub mod Figure
pub mod Figure1
pub mod Figure2
pub mod System
pub mod Runs
pub mod Demand2
pub mod Lines
pub mod Examples
pub mod Misread
pub mod Rows
pub mod Edges
