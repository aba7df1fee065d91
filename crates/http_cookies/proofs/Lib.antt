mod Marks
mod Swaps
mod Values
