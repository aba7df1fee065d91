pub mod Addr
pub mod Addresses
pub mod Base64Text
pub mod Digest
pub mod Laws
pub mod Percent
pub mod Words
