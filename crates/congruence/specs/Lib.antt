-- How the joins of dereferences of one address end (Closing), and the last looks (Settling).
pub mod Closing
pub mod Settling
