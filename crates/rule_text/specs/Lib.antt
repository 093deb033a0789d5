pub mod Laws
pub mod Lexing
pub mod Outline
pub mod PrintReadable
pub mod Printing
pub mod Reading
