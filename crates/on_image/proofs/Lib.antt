-- Laws that belong to no one function.
--     Laws      two entries stored, and bytes that are no image
--     Looks     what LOOK on an image answers, by its tests
--     Tallies   what LOOK at a ballot of an image answers
--     Lists     lists of events on one image
--     Examples  events and LOOKs byte by byte
pub mod Laws
pub mod Looks
pub mod Tallies
pub mod Lists
pub mod Examples
