-- What an argument asks for (Arguments), what a call moved (Calls), and what a run of the program writes (Answers).
pub mod Arguments
pub mod Calls
pub mod Answers
