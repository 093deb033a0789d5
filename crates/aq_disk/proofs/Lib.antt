mod Calls
mod HeldSteps
pub mod Moments
mod Pushed
pub mod Writes
