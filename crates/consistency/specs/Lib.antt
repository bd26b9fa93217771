-- The verdict on the kept propositions, and the variables by their classes.
pub mod Live
pub mod Deciding
pub mod Variables
pub mod KeptSet
