-- When sums of bounded offsets fit 64 bits; bits in two's complement; negations and differences at the ends of the range.
pub mod Fits
pub mod Bits
pub mod Exact
