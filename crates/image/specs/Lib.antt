-- What the crate `image` is about, as a reader must believe it: a settlement as bytes.
--     Lists     entries laid one after the other
--     Entries   a station's entry and a ballot's as bytes
--     Image     the layout, which bytes are no image, and both ways
--     Examples  images byte by byte
pub mod Lists
pub mod Entries
pub mod Image
pub mod Examples
