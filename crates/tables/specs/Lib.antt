-- Limits and records, the refusals of tables and of lent memory with their places, and the memory after a call.
pub mod Limits
pub mod Records
pub mod Rows
pub mod RowLaws
pub mod Refusals
pub mod RefusalLaws
pub mod Stands
pub mod TermTable
pub mod PropositionTable
pub mod QuestionTable
pub mod Sets
pub mod TableFaults
pub mod Memory
