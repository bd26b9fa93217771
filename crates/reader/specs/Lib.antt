-- Lines one after another (Loading, Progress); the rows of an accepted text copied (Copied); the answers of `read` and `faulty_line`
-- (Answers); the tables that `read` leaves hold the text's records (Held), and the solver does not refuse them (Passing);
-- what the answers of `read` say (Facts).
pub mod Loading
pub mod Progress
pub mod Copied
pub mod Answers
pub mod Held
pub mod Passing
pub mod Facts
