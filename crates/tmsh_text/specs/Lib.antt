pub mod Braces
pub mod Imported
pub mod Items
pub mod Printed
pub mod Words
