-- The first entry of a table with a name, by the children that are kept.
use Rattle.std.proofs.Common.{◌≡◌, ℕ, sym, ◌∙◌, ap, subst, arith, List, [], length, get_or, ◌≤◌, ◌<◌, Bool, true, false, Option, None, Some}
use Rattle.std.proofs.lemmas.Grind.{common_steps}
use Rattle.std.proofs.lemmas.List.{get_or-map}
use Rattle.std.proofs.lemmas.List.Quantifiers.{position-Some}
use Rattle.std.proofs.lemmas.List.Sums.{fails_before_first}
use Rattle.std.proofs.lemmas.Map.Entries.{length-keys_of}
use Rattle.std.proofs.lemmas.Slice.Eq.{bytes_eq-Decides}
use Rattle.std.specs.Prelude.{IfSome, bytes_eq}
use Rattle.std.specs.List.{position, position_or_len}
use Rattle.std.specs.Map.{keys_of}
use Rattle.adf_model.proofs.Basics.{not_true, false_of}
use Rattle.cg_io.specs.Blocks.{ReadsFew}
use Rattle.cg_io.specs.Device.{DeviceState}
use Rattle.kept_names.specs.Lists.{position_of}
use Rattle.node_reads.specs.declared.find.Wanted.TheVariants.{Name}
use Rattle.node_reads.specs.declared.header.ChildTable.{ChildTable}
use Rattle.node_reads.specs.Entries.{is_wanted_at}
use Rattle.node_reads.specs.Reads.{IsFirst}
use Rattle.tree_edits.specs.declared.memory.Core.{Core}
use Rattle.tree_edits.specs.declared.rows.Row.{Row}
use Rattle.tree_edits.specs.Known.{IsListOf, ListsChildren, ListsSiblings, ListsTable}
use Rattle.tree_edits.specs.Listed.{FindsFirst, IsTableOf}
use Rattle.tree_edits.specs.Rows.{row_of}

position-None : {X : Type 0} (p : X → Bool) (xs : List X) (k : ℕ) (d : X) → position p xs ≡ None → k < length xs → p (get_or xs k d) ≡ false
position-None p xs k d e lt =
    let past : length xs ≤ position_or_len p xs = grind (arith, common_steps) in
    fails_before_first p xs k d (omega (arith, past, lt))

-- bytes are those of others, or not, either way
turned : (a b : List ℕ) (v : Bool) → bytes_eq a b ≡ v → bytes_eq b a ≡ v
turned a b true e = (bytes_eq-Decides b a).1 (sym ((bytes_eq-Decides a b).0 e))
turned a b false e = false_of (bytes_eq b a) (λ t. not_true (sym e ∙ (bytes_eq-Decides a b).1 (sym ((bytes_eq-Decides b a).0 t))))

module _ (image : List ℕ) (table : ChildTable) (list : List (List ℕ × ℕ)) (is : IsListOf image table list) (name : List ℕ) where
  named_as : (i : ℕ) → i < table.count → (v : Bool) → bytes_eq name (get_or (keys_of list) i []) ≡ v → is_wanted_at (Name name) image table.place i ≡ v
  named_as i lt v e =
      let many = is.many in
      let key : get_or (keys_of list) i [] ≡ (get_or list i ([], 0)).0 = get_or-map (λ (c : List ℕ × ℕ). c.0) list i ([], 0) [] (omega (arith, lt, many)) in
      ap (λ k. bytes_eq k name) (is.named i lt ∙ sym key) ∙ turned name (get_or (keys_of list) i []) v e

  first_kept : (o : Option ℕ) → position_of name list ≡ o → IsFirst (is_wanted_at (Name name) image table.place) 0 table.count o
  first_kept None e =
      let many = is.many in
      let long = length-keys_of list in
      λ j from lt. named_as j lt false (position-None (bytes_eq name) (keys_of list) j [] e (omega (arith, lt, many, long)))
  first_kept (Some i) e =
      let many = is.many in
      let long = length-keys_of list in
      let at = position-Some (bytes_eq name) (keys_of list) i [] e in
      let inside = at.0 in
      let lt : i < table.count = omega (arith, inside, many, long) in
      (omega arith, lt, named_as i lt true at.1, λ j from before. named_as j (omega (arith, before, lt)) false (at.2 j before))

pub first_known : (held : Option (List ℕ)) (table : ChildTable) (list : List (List ℕ × ℕ)) (name : List ℕ) (o : Option ℕ) → ListsTable held table list → position_of name list ≡ o → FindsFirst held table (Name name) o
first_known None table list name o lists at = tt
first_known (Some image) table list name o lists at = λ fits. first_kept image table list (lists fits) name o at

-- ---- the children of a node, and the table that its header names

module _ {X : Type 0} (now : X → List (List ℕ × ℕ)) where
  pub known_table : (core : Core) (held mid : Option (List ℕ)) (parent : ℕ) (table : ChildTable) → IsTableOf core held parent table → mid ≡ held → (known : Option X)
      → IfSome known (λ l. ListsChildren core held parent (now l)) → IfSome known (λ l. ListsTable mid table (now l))
  known_table core held mid parent table its still None all = tt
  known_table core held mid parent table its still (Some l) all = subst (λ (h : Option (List ℕ)). ListsTable h table (now l)) (sym still) (all table its)

  pub known_siblings : (core : Core) (held : Option (List ℕ)) (serial : ℕ) (row : Row) (parent : ℕ) → row_of core.rows.items serial ≡ Some row → row.parent ≡ Some parent → (known : Option X)
      → IfSome known (λ l. ListsSiblings core held serial (now l)) → IfSome known (λ l. ListsChildren core held parent (now l))
  known_siblings core held serial row parent found above None all = tt
  known_siblings core held serial row parent found above (Some l) all = all row parent found above

  -- nothing is read of a table whose children are known
  pub known_soon : {S : Type 0} (state : S → DeviceState) (start mid last : S) (n count : ℕ) (known : Option X) → ReadsFew n (state start) (state mid)
      → IfSome known (λ l. length (now l) ≡ count → last ≡ mid) → IfSome known (λ l. length (now l) ≡ count → ReadsFew n (state start) (state last))
  known_soon state start mid last n count None few still = tt
  known_soon state start mid last n count (Some l) few still = λ many. subst (λ s. ReadsFew n (state start) (state s)) (sym (still many)) few
