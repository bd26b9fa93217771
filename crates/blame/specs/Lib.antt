-- The verdict on the kept propositions (Kept), runs of cells (Runs), and the marks while propositions are tried, a run at a time (Blaming).
pub mod Kept
pub mod Runs
pub mod Dropping
pub mod Blaming
