-- How loops find the first fault of a table.
pub mod FirstFault
pub mod Fields
pub mod Terms
pub mod Listed
pub mod Parts
