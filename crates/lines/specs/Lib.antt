pub mod GrammarLines
pub mod Lines
