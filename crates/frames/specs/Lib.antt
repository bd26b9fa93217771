-- A frame after the records read so far (Taking), stored in rows (Rows); rows copied (Copying).
pub mod Taking
pub mod Rows
pub mod Copying
