-- What the crate `on_image` is about, as a reader must believe it: an image that the caller lends.
--     Events    the five events
--     Look      LOOK, at one station and at all
--     Tally     LOOK at a ballot
--     Lists     lists of events on one image
--     Examples  events and LOOKs byte by byte
pub mod Events
pub mod Look
pub mod Tally
pub mod Lists
pub mod Examples
