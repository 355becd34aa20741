-- The children of a node as they are kept: name fields with serials, in the order of the node's table.
use Rattle.std.specs.Prelude.{ℕ, nat_eq, Bool, List, Option, slice_index_or, slice_set, position}
use Rattle.std.specs.Cmp.Lexicographic.{pointwise}
use Rattle.std.specs.Map.{keys_of, lookup, remove_entry}
use Rattle.std.specs.Option.{option_map_or}

-- whether a name field is another
abbrev pub is_name : List ℕ → List ℕ → Bool
is_name name other = pointwise nat_eq name other

-- the serial of the first child of a name, and its position
abbrev pub serial_of : List ℕ → List (List ℕ × ℕ) → Option ℕ
serial_of name list = lookup (is_name name) list

abbrev pub position_of : List ℕ → List (List ℕ × ℕ) → Option ℕ
position_of name list = position (is_name name) (keys_of list)

-- the children where the first of a name has another
abbrev pub renamed : List ℕ → List ℕ → List (List ℕ × ℕ) → List (List ℕ × ℕ)
renamed name to list = option_map_or (λ i. slice_set list i (to, (slice_index_or list i (to, 0)).1)) (position_of name list) list

-- the children without the first of a name
abbrev pub without : List ℕ → List (List ℕ × ℕ) → List (List ℕ × ℕ)
without name list = remove_entry (is_name name) list
