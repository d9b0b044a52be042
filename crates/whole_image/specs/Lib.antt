-- What the crate `whole_image` is about, as a reader must believe it.
--     Whole     a whole record read off an image and stored as one
--     Lists     the same beside lists of events on one image
--     Examples  what is stored and reported, in literals
pub mod Whole
pub mod Lists
pub mod Examples
