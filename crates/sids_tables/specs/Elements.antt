-- The types of elements, by their codes.
use Rattle.std.specs.Prelude.{ℕ, List, [], ◌∷◌, slice_get, Option, Some, None}
use Rattle.std.specs.Option.{option_flatten}

-- the nodes of an element of each type, by its code from 0 on, where that number is fixed
unfoldable pub element_nodes : List (Option ℕ)
element_nodes =
    None  -- null
    ∷ None  -- user defined
    ∷ Some 1  -- NODE
    ∷ Some 2  -- BAR_2
    ∷ Some 3  -- BAR_3
    ∷ Some 3  -- TRI_3
    ∷ Some 6  -- TRI_6
    ∷ Some 4  -- QUAD_4
    ∷ Some 8  -- QUAD_8
    ∷ Some 9  -- QUAD_9
    ∷ Some 4  -- TETRA_4
    ∷ Some 10  -- TETRA_10
    ∷ Some 5  -- PYRA_5
    ∷ Some 14  -- PYRA_14
    ∷ Some 6  -- PENTA_6
    ∷ Some 15  -- PENTA_15
    ∷ Some 18  -- PENTA_18
    ∷ Some 8  -- HEXA_8
    ∷ Some 20  -- HEXA_20
    ∷ Some 27  -- HEXA_27
    ∷ None  -- MIXED
    ∷ Some 13  -- PYRA_13
    ∷ None  -- NGON_n
    ∷ None  -- NFACE_n
    ∷ []

-- the nodes of an element of a type, where the type fixes their number
abbrev pub nodes_of : ℕ → Option ℕ
nodes_of code = option_flatten (slice_get element_nodes code)
