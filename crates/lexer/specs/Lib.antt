pub mod Bytes
pub mod Lexeme
pub mod Parts
pub mod Vocabulary
