pub mod PairBits
pub mod Lengths
pub mod BlameMinimal
pub mod BlameOrder
pub mod Demands
