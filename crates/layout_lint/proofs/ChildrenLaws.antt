-- The rules of a table of children and of its entries in use.
use Rattle.std.proofs.Common.{◌≡◌, ◌≢◌, ℕ, ◌+◌, ◌*◌, ◌≤◌, ◌<◌, List, ◌++◌, refl, sym, ◌∙◌, ap, arith, false}
use Rattle.std.specs.Prelude.{None, ◌==◌}
use Rattle.std.proofs.lemmas.Bool.Decides.{nat_tests}
use Rattle.adf_format.specs.Checks.{Row, first_broken}
use Rattle.adf_format.specs.FirstFault.{table_rows, entry_rows, rows_unless}
use Rattle.adf_records.specs.declared.NodeHeader.{NodeHeader}
use Rattle.layout_lint.specs.declared.entries.SubNodeTable.{SubNodeTable}
use Rattle.layout_lint.specs.declared.verdict.Halt.{Halt}
use Rattle.layout_lint.specs.Halts.{Breaks}
use Rattle.layout_lint.specs.Nodes.{table_of, children_rows}
use Rattle.layout_lint.proofs.RowSteps.{breaks_first, breaks_then, kept_2}

no_rows : (image : List ℕ) (end used table entries children : ℕ) → entries ≡ 0 → children ≡ 0 → first_broken (children_rows image end used table entries children) ≡ None
unfolding entry_rows
no_rows image end used table entries children e f = rw (e, f) refl

is_some : (n : ℕ) → n ≢ 0 → (n == 0) ≡ false
is_some n h = grind (arith, nat_tests)

module _ (image : List ℕ) (end used : ℕ) (n : NodeHeader) (t : SubNodeTable) (is : t ≡ record { place = table_of n; entries = n.entries }) where
  abbrev pub all_rows : List Row
  all_rows = children_rows image end used (table_of n) n.entries n.children

  pub no_table : t.entries ≡ 0 → n.children ≤ n.entries → first_broken all_rows ≡ None
  no_table e le =
      let none : n.entries ≡ 0 = ap (λ (t : SubNodeTable). t.entries) (sym is) ∙ e in
      no_rows image end used (table_of n) n.entries n.children none (omega arith)

  in_groups : t.entries ≢ 0 → all_rows ≡ table_rows image end used t.place t.entries ++ entry_rows image t.place n.children
  in_groups some =
      let entries : t.entries ≡ n.entries = ap (λ (t : SubNodeTable). t.entries) is in
      ap (λ k. rows_unless k (table_rows image end used (table_of n) n.entries) ++ entry_rows image (table_of n) n.children) (ap (λ k. k == 0) (sym entries) ∙ is_some t.entries some)
      ∙ ap (λ (t : SubNodeTable). table_rows image end used t.place t.entries ++ entry_rows image t.place n.children) (sym is)

  module _ (some : t.entries ≢ 0) where
    pub breaks_table : (h : Halt) → Breaks (table_rows image end used t.place t.entries) h → Breaks all_rows h
    breaks_table h b = rw (in_groups some) (breaks_first (table_rows image end used t.place t.entries) (entry_rows image t.place n.children) h b)

    pub breaks_entries : (h : Halt) → first_broken (table_rows image end used t.place t.entries) ≡ None → Breaks (entry_rows image t.place n.children) h → Breaks all_rows h
    breaks_entries h table b = rw (in_groups some) (breaks_then (table_rows image end used t.place t.entries) (entry_rows image t.place n.children) h table b)

    pub keeps_children : first_broken (table_rows image end used t.place t.entries) ≡ None → first_broken (entry_rows image t.place n.children) ≡ None → first_broken all_rows ≡ None
    keeps_children table entries = rw (in_groups some) (kept_2 (table_rows image end used t.place t.entries) (entry_rows image t.place n.children) table entries)

-- the entries in use lie within the bytes
pub entries_within : (end long : ℕ) (n : NodeHeader) (t : SubNodeTable) → t ≡ record { place = table_of n; entries = n.entries } → n.children ≤ n.entries → t.place + (20 + 44 * t.entries) ≤ end + 1 → end < long
    → t.place + 16 + 44 * n.children ≤ long
entries_within end long n t is fewer fits within = let entries : t.entries ≡ n.entries = ap (λ (t : SubNodeTable). t.entries) is in omega arith
