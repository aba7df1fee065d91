pub mod Answering
mod Composing
mod Refusing
