mod Found
mod Keys
mod Longest
mod Operators
mod Positions
mod Rows
