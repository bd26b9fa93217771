-- Tables that grow by inverse dereferencing (Settle), leads by their homes (Keys), pairs of homes that need no look
-- (Seen), what settling reads (Views).
pub mod Keys
pub mod Seen
pub mod Settle
pub mod Views
