pub mod Digits
pub mod Laws
pub mod FrameLaws
pub mod Size
pub mod Sound
pub mod OutputSize
