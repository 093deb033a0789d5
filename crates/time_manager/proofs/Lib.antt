pub mod Alike
pub mod Gathering
pub mod Held
pub mod Naming
pub mod Owning
pub mod Walking
