-- The addresses that dereferences read, and what an order of the dereferences shows of them.
pub mod Addresses
pub mod Order
pub mod Terms
