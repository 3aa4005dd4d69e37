pub mod Word
pub mod ScriptRow
pub mod Round
pub mod Script
