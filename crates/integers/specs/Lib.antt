pub mod Linear
pub mod Compare
pub mod Within
