-- The rules of records are rules of a layout: so is the first of them that is broken.
use Rattle.std.proofs.Common.{◌≡◌, ℕ, ◌≤◌, Bool, true, false, cond, List, [], ◌∷◌, map, refl, subst, arith}
use Rattle.std.proofs.lemmas.Bool.Decides.{nat_tests}
use Rattle.std.specs.Prelude.{Some, nat_le, ◌&&◌}
use Rattle.adf_format.specs.RuleNumbers.{IsRule}
use Rattle.adf_format.specs.Checks.{Row, Fault, first_broken}
use Rattle.adf_format.specs.FirstFault.{header_rows, free_table_rows, node_rows, text_rows, number_rows, pointer_rows, shape_rows, dimension_row}
use Rattle.adf_model.proofs.Basics.{and_parts}

-- whether each of some rules is one of a layout
abbrev pub are_rules : List Row → Bool
are_rules [] = true
are_rules (r ∷ rows) = nat_le 1 r.fault.rule && nat_le r.fault.rule 30 && are_rules rows

rule_of : (n : ℕ) → (nat_le 1 n && nat_le n 30) ≡ true → IsRule n
rule_of n h = let both = and_parts (nat_le 1 n) (nat_le n 30) h in (low n both.0, high n both.1)
  where
    low : (n : ℕ) → nat_le 1 n ≡ true → 1 ≤ n
    low n h = grind (arith, nat_tests)

    high : (n : ℕ) → nat_le n 30 ≡ true → n ≤ 30
    high n h = grind (arith, nat_tests)

pub first_is : (rows : List Row) (f : Fault) → are_rules rows ≡ true → first_broken rows ≡ Some f → IsRule f.rule
first_is [] f are e = cc
first_is (r ∷ rows) f are e = let parts = and_parts (nat_le 1 r.fault.rule && nat_le r.fault.rule 30) (are_rules rows) are in by_test r.kept e parts.0 (first_is rows f parts.1)
  where
    by_test : (kept : Bool) → cond kept (first_broken rows) (Some r.fault) ≡ Some f → (nat_le 1 r.fault.rule && nat_le r.fault.rule 30) ≡ true → (first_broken rows ≡ Some f → IsRule f.rule) → IsRule f.rule
    by_test true e here later = later e
    by_test false e here later = let same : r.fault ≡ f = cc in subst (λ (g : Fault). IsRule g.rule) same (rule_of r.fault.rule here)

header_are : (bytes : List ℕ) → are_rules (header_rows bytes) ≡ true
unfolding header_rows
header_are bytes = refl

free_table_are : (base : ℕ) (bytes : List ℕ) → are_rules (free_table_rows base bytes) ≡ true
unfolding free_table_rows
free_table_are base bytes = refl

dimensions_are : (wide : Bool) (base : ℕ) (bytes : List ℕ) (is : List ℕ) → are_rules (map (dimension_row wide base bytes) is) ≡ true
unfolding dimension_row
dimensions_are wide base bytes [] = refl
dimensions_are wide base bytes (i ∷ is) = dimensions_are wide base bytes is

node_are : (wide named : Bool) (base : ℕ) (bytes : List ℕ) → are_rules (node_rows wide base named bytes) ≡ true
unfolding node_rows text_rows number_rows pointer_rows shape_rows
node_are false named base bytes = dimensions_are false base bytes _
node_are true named base bytes = dimensions_are true base bytes _

pub header_rule : (bytes : List ℕ) (f : Fault) → first_broken (header_rows bytes) ≡ Some f → IsRule f.rule
header_rule bytes f = first_is (header_rows bytes) f (header_are bytes)

pub free_table_rule : (base : ℕ) (bytes : List ℕ) (f : Fault) → first_broken (free_table_rows base bytes) ≡ Some f → IsRule f.rule
free_table_rule base bytes f = first_is (free_table_rows base bytes) f (free_table_are base bytes)

pub node_rule : (wide named : Bool) (base : ℕ) (bytes : List ℕ) (f : Fault) → first_broken (node_rows wide base named bytes) ≡ Some f → IsRule f.rule
node_rule wide named base bytes f = first_is (node_rows wide base named bytes) f (node_are wide named base bytes)
