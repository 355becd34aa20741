pub mod FieldLaws
pub mod WriteLaws
pub mod WaitLaws
