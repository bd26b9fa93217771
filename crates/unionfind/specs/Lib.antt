-- A forest of links, the labelling that it stands for, and what the functions of this crate leave.
pub mod Forest
pub mod Lent
pub mod Hanging
pub mod Turns
pub mod Uniting
