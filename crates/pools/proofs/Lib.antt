mod Hits
mod Kept
mod Marks
mod Rounds
mod Serving
mod Turns
