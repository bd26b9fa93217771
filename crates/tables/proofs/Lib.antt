pub mod Stands
pub mod TermTable
pub mod PropositionTable
pub mod QuestionTable
pub mod TableFaults
pub mod Memory
pub mod Places
