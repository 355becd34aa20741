-- What was read at a place is the field there, where the bytes are told and have it.
use Rattle.std.proofs.Common.{ℕ, ◌+◌, ◌≤◌, List, length, Option, None, Some, subst}
use Rattle.adf_format.specs.Fields.{field}
use Rattle.field_access.specs.Fields.{WhereTold}
use Rattle.field_access.proofs.FieldLaws.{field_given}
use Rattle.node_reads.specs.Reads.{ReadAt}

pub read_is_field : (image : List ℕ) (place n : ℕ) (P : List ℕ → Type 0) → ReadAt (Some image) place n P → place + n ≤ length image → P (field image place n)
read_is_field image place n P r within = subst P (field_given (Some image) place n r.bytes r.long r.given within) r.says

pub read_where_told : (held : Option (List ℕ)) (place n : ℕ) (P : List ℕ → Type 0) → ReadAt held place n P → WhereTold held place n P
read_where_told None place n P r = tt
read_where_told (Some image) place n P r = λ within. read_is_field image place n P r within
