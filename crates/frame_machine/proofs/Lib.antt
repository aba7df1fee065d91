mod InSteps
mod InWalks
mod RunLaws
mod TicksTold
