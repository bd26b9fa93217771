-- Labellings by representative and offset: when one is sound, what its conflicts mean, that it is unique, how a join changes it,
-- how far apart two terms of one class can be, and what each step of a closure keeps.
pub mod Labelling
pub mod Unique
pub mod Relabel
pub mod Spread
pub mod Joins
pub mod Steps
pub mod View
pub mod Clearing
pub mod Agree
