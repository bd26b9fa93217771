-- What the functions for C return.
pub mod Results
