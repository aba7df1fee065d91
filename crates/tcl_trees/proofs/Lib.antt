pub mod CompiledRows
pub mod Named
pub mod PieceLists
