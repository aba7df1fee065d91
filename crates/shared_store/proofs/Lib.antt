mod FirstPool
mod Unmarked
pub mod Living
pub mod FewRows
