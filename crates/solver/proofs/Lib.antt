pub mod Answering
pub mod Demands
