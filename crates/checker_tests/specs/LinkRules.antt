-- Of all rules the first: a link that cannot be followed.
use Rattle.std.specs.Prelude.{ℕ, List, [], ◌∷◌, codes, Option, Some, None}
use Rattle.adf_model.specs.declared.tree.NodeId.{NodeId}
use Rattle.sids_rules.specs.Rules.{Rule, rule, breaks_link}

abbrev pub link_rules : List Rule
link_rules = rule 1 (codes "link") breaks_link ∷ []

-- the numbers of those that a node breaks, by what it is followed to
abbrev pub link_numbers : Option NodeId → List ℕ
link_numbers None = 1 ∷ []
link_numbers (Some at) = []
