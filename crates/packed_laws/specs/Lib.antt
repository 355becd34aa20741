pub mod PackedForm
pub mod Laws
