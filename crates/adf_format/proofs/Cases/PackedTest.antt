-- Packed files: the fresh ones, and a file with one child, whose table has one entry.
use Rattle.std.proofs.Common.{arith, ◌≡◌, ℕ, refl, [], ◌∷◌, Bool, true, false}
use Rattle.std.specs.Prelude.{Some, None, codes}
use Rattle.adf_format.specs.declared.types.DataType.{DataType}
use Rattle.adf_format.specs.declared.types.Format.{Format}
use Rattle.adf_format.specs.Tree.{Tree, fresh_root, fresh_tree}
use Rattle.adf_format.specs.Placement.{Placement}
use Rattle.adf_format.specs.HeapRule.{no_parts}
use Rattle.adf_format.specs.Packed.{IsPacked, packed_length}
use Rattle.adf_format.specs.Fresh.{fresh_placement}

pub fresh_is_packed : (wide : Bool) → IsPacked (fresh_tree wide) (fresh_placement wide)
fresh_is_packed false = record { no_gaps = refl; long = refl }
fresh_is_packed true = record { no_gaps = refl; long = refl }

abbrev one_child : Tree
one_child = record {
  wide = false;
  format = Format.Little;
  nodes = Some (record fresh_root { children = 1 ∷ [] }) ∷ Some (record { name = codes "Base"; label = []; kind = DataType.Mt; dims = []; bytes = None; children = [] }) ∷ [];
}

abbrev packed_child : Placement
packed_child = record {
  parts = Some (record no_parts { header = 266; table = Some (record { place = 512; entries = 1 }) }) ∷ Some (record no_parts { header = 576 }) ∷ [];
  heap = record { gaps = []; end = 821 };
}

child_is_packed : IsPacked one_child packed_child
child_is_packed = record { no_gaps = refl; long = refl }

-- a table of eight entries is too long
abbrev edited_child : Placement
edited_child = record {
  parts = Some (record no_parts { header = 266; table = Some (record { place = 758; entries = 8 }) }) ∷ Some (record no_parts { header = 512 }) ∷ [];
  heap = record { gaps = []; end = 1129 };
}

not_packed : IsPacked one_child edited_child → ⊥
not_packed packed = unequal packed.long
  where
    unequal : ◌≡◌ {A = ℕ} 1130 822 → ⊥
    unequal e = omega (arith, e)

child_wide : packed_length (record one_child { wide = true }) ≡ 1014
child_wide = refl
