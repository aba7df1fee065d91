mod Lines
mod Loops
mod Numbers
