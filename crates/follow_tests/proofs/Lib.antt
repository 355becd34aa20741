pub mod KeptLaws
pub mod ScriptLaws
