-- Proofs about the play. First, computed: the lists that tell the four false readings apart; figure 2 misread; the play's numbers and STEPs as literals.
pub mod Examples
pub mod Misread
pub mod Rows
-- What holds of every state reached:
--     Basics       cases on Bools, updates, refusals
--     Invariant    what holds of every state reached from an opening
--     Grows        what all can see only grows, and the invariant's parts grow with it
--     Own          an event that changes one station's own part keeps the invariant
--     Spelling     the facts about bits, words and answers that a STEP needs
--     Steps        each STEP keeps the invariant
--     Reached      every event keeps the invariant, so it holds of every state reached
--     Station      what one event does to one station
pub mod Basics
pub mod Invariant
pub mod Grows
pub mod Own
pub mod Spelling
pub mod Steps
pub mod Reached
pub mod Station
-- Demand 3:
--     Accepted     an accepted event is what the state shows
--     Frame        what an event does not name stays
--     Told         what the list tells of a station is what its stage says
--     Listed       what stands in the lists of votes and answers
--     Beginnings   beginnings of a list, and the claims in it
--     Longest      rounds stay below K
--     Agree        agreement, validity, the cost in ballots
--     Bound        what each step spends
--     Supplied     the bound on supplied steps
--     Never        a supplied step is never refused, and no event meets 42
--     Demand3      demand 3 about the play
--     Edges        its words at their edges
pub mod Accepted
pub mod Frame
pub mod Told
pub mod Listed
pub mod Beginnings
pub mod Longest
pub mod Agree
pub mod Bound
pub mod Supplied
pub mod Never
pub mod Demand3
pub mod Edges
-- The figures:
--     Alike        what a STEP does, in the figures' terms
--     Alike1       a STEP by station does what an event of figure 1 does
--     Alike2       a STEP by claim does what an event of figure 2 does
--     Ballots      nothing is cast past the last ballot, and 42 is never met
--     Shown        each event has the same verdict in the play and in the figure
--     Figures      demand 2 about the play
--     Lawful       what both figures' lines have in common
--     Gather       single lines gathered into events
--     Spread       an event spread over its lines
--     SingleLines  a run of single lines ends where the play ends
pub mod Alike
pub mod Alike1
pub mod Alike2
pub mod Ballots
pub mod Shown
pub mod Figures
pub mod Lawful
pub mod Gather
pub mod Spread
pub mod SingleLines
-- Whose event it is:
--     Commute      two events of different owners in either order
--     Owners       the laws of owners: an event accepted now may come before others'
pub mod Commute
pub mod Owners
