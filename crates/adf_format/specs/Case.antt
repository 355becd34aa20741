-- Letters of hexadecimal fields in upper case.
use Rattle.std.specs.Prelude.{ℕ, ◌-◌, nat_le, Bool, cond, ◌&&◌, ◌||◌, if◌then◌else◌, List, [], ◌∷◌, ◌++◌, map, take, drop}
use Rattle.adf_format.specs.declared.fields.Field.{Field}
use Rattle.adf_format.specs.RecordFields.{is_number_field, is_pointer_field}

-- a digit of either case as the writer spells it: `a` to `f` are 97 to 102
abbrev pub upper : ℕ → ℕ
upper b = if nat_le 97 b && nat_le b 102 then b - 32 else b

-- The fields of a record in their order, each by its length and whether it is hexadecimal: the bytes
-- of the record, with the letters of those fields in upper case and all others as they are.
abbrev pub in_upper_case : List (ℕ × Bool) → List ℕ → List ℕ
in_upper_case [] bytes = []
in_upper_case (f ∷ fields) bytes = cond f.1 (map upper (take f.0 bytes)) (take f.0 bytes) ++ in_upper_case fields (drop f.0 bytes)

-- the fields of a record as this list: those that are read as a number or as a pointer are hexadecimal
abbrev pub letters_in : List Field → List (ℕ × Bool)
letters_in fields = map (λ (f : Field). (f.length, is_number_field f || is_pointer_field f)) fields
