-- The laws that rest on counting by the first cell: the order, the inverse and the ends of the listing.
pub mod FirstCell
pub mod Order
pub mod Inverse
pub mod Limits
