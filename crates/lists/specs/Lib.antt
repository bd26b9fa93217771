-- Lists by the numbers of their items: searches, lists collected from others, lists that are lent and lists that are written.
pub mod Booleans
pub mod Items
pub mod Search
pub mod Counting
pub mod Collect
pub mod Tabulate
pub mod Overwrite
pub mod Filled
