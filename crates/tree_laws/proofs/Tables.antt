-- Tables of children: longer ones, and entries that move up.
pub mod OwnParts
pub mod TableReplaced
pub mod ListClosed
pub mod ListsChanged
