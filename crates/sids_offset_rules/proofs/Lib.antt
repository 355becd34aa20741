pub mod PieceLaws
pub mod FaceLaws
pub mod ListedLaws
