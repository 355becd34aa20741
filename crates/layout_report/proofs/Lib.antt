mod LintedLaws
mod ListedLaws
mod MappedLaws
pub mod ReportLaws
mod TextLaws
