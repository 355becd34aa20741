-- Keys that were met.
use Rattle.std.specs.Prelude.{Bool, List}
use Rattle.std.specs.List.{list_any}
use Rattle.std.specs.BTreeMap.{is_at}
use Rattle.std.specs.declared.cmp.Ordering.{Ordering}

-- one of the keys is equal to this one
abbrev pub contains : {K : Type 0} → (K → K → Ordering) → List K → K → Bool
contains cmp keys q = list_any (is_at (cmp q)) keys
