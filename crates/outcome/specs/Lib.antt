-- What a run leaves (Outcome, with Blame and PairBits) and how much (Lengths), paper 01's examples (Examples), and the theorems (Demands;
-- of blame: BlameMinimal, BlameOrder), with the marks as cells hold them (Marks).
pub mod Blame
pub mod PairBits
pub mod Outcome
pub mod Examples
pub mod Marks
