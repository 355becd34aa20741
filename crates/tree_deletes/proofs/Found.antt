-- Children that a table names, by their serials.
use Rattle.std.proofs.Common.{◌≡◌, ℕ, refl, sym, ◌∙◌, ap, subst, arith, List, [], ◌∷◌, ◌++◌, length, get_or, take, ◌+◌, ◌*◌, ◌<◌, ◌≤◌, true, false, Option, None, Some}
use Rattle.std.proofs.lemmas.List.{take_more, take_all, append_assoc}
use Rattle.std.proofs.lemmas.Option.{slice_get-get_or, slice_get_within}
use Rattle.std.specs.Prelude.{slice_get, ⊤}
use Rattle.adf_format.specs.RuleNumbers.{IsRule}
use Rattle.adf_format.specs.Tree.{Tree, children_at}
use Rattle.adf_format.specs.Placement.{Placement}
use Rattle.adf_model.specs.declared.error.AdfError.{AdfError}
use Rattle.adf_model.specs.declared.error.AdfError.TheVariants as error
use Rattle.adf_model.proofs.Basics.{same_Some}
use Rattle.cg_io.specs.Answers.{IsRefusal}
use Rattle.cg_io.specs.Blocks.{blocks_of}
use Rattle.node_reads.specs.declared.entries.ListedChild.{ListedChild}
use Rattle.node_reads.specs.declared.header.ChildTable.{ChildTable}
use Rattle.node_reads.specs.Reads.{ReadAt, IsUnread}
use Rattle.node_reads.specs.Entries.{child_said, child_view}
use Rattle.tree_asks.specs.Hints.{is_placed}
use Rattle.tree_asks.proofs.Named.{serial_is, count_is, here, entry, entry_child, entry_said, one_placed}
use Rattle.tree_edits.specs.declared.memory.Core.{Core}
use Rattle.tree_edits.specs.Rows.{Means}
use Rattle.tree_edits.specs.Edits.{memory_of}
use Rattle.tree_edits.specs.Listed.{IsTableOf}
use Rattle.tree_edits.proofs.Nodes.{the_node}
use Rattle.tree_asks.specs.Told.{OfEach}
use Rattle.tree_deletes.specs.Doomed.{IsChildAt, AddsChildren, IsLost, MeansNone}

-- ---- one child

module _ (image : List ℕ) (core : Core) (table : ChildTable) (i : ℕ) (lt : i < table.count) (parent : ℕ) (t : IsTableOf core (Some image) parent table) (tree : Tree) (p : Placement) (m : Means image tree p (memory_of core)) where
  abbrev kids : List ℕ
  kids = (the_node image (memory_of core) parent t.above t.found tree p m).node.children

  listed : slice_get kids i ≡ Some (get_or kids i 0)
  listed = slice_get-get_or kids i 0 (let c = count_is image core tree p m parent t.above t.found table t.named in omega (arith, c, lt))

  its_serial : (child : ListedChild) (s : ℕ) → ReadAt (Some image) (table.place + 16 + 44 * i) 44 (λ bytes. child_said bytes ≡ Some (child_view child)) → is_placed core.rows.items child.place s ≡ true → slice_get (children_at tree parent) i ≡ Some s
  its_serial child s r placed =
      let c = get_or kids i 0 in
      let e = entry image core tree p m parent t.above t.found table t.named i c listed in
      let its : s ≡ c = serial_is image core tree p m c e.at s e.is.stands (subst (λ k. is_placed core.rows.items k s ≡ true) (sym (entry_child image core tree p m parent t.above t.found table t.named i c listed child r)) placed) in
      ap (λ xs. slice_get xs i) (here image core tree p m parent t.above t.found table t.named) ∙ listed ∙ ap (λ k. Some k) (sym its)

pub child_found : (core : Core) (held : Option (List ℕ)) (table : ChildTable) (i : ℕ) (child : ListedChild) (s : ℕ) → i < table.count → ReadAt held (table.place + 16 + 44 * i) 44 (λ bytes. child_said bytes ≡ Some (child_view child))
    → is_placed core.rows.items child.place s ≡ true → IsChildAt core held table i s
child_found core None table i child s lt r placed = λ parent t. tt
child_found core (Some image) table i child s lt r placed = λ parent t tree p m. its_serial image core table i lt parent t tree p m child s r placed

pub child_unsaid : (core : Core) (held : Option (List ℕ)) (table : ChildTable) (i : ℕ) (before now : ℕ) (e : AdfError) → i < table.count
    → IsUnread (λ rule at. (rule ≡ 24) × (at ≡ table.place + 16 + 44 * i) × ReadAt held (table.place + 16 + 44 * i) 44 (λ bytes. child_said bytes ≡ None)) before now e → IsRefusal (IsLost core held table) before now e
child_unsaid core held table i before now error.ReadFault lt c = c
child_unsaid core None table i before now (error.Layout rule at) lt c = (subst IsRule (sym c.0) (omega arith, omega arith), λ parent t. tt)
child_unsaid core (Some image) table i before now (error.Layout rule at) lt c = (subst IsRule (sym c.0) (omega arith, omega arith), λ parent t tree p m. entry_said image core tree p m parent t.above t.found table t.named i lt c.2)
child_unsaid core held table i before now other lt c = absurd c

pub child_lost : (core : Core) (held : Option (List ℕ)) (table : ChildTable) (i : ℕ) (child : ListedChild) → i < table.count → ReadAt held (table.place + 16 + 44 * i) 44 (λ bytes. child_said bytes ≡ Some (child_view child))
    → ((s : ℕ) → is_placed core.rows.items child.place s ≡ false) → IsLost core held table
child_lost core None table i child lt r none = λ parent t. tt
child_lost core (Some image) table i child lt r none = λ parent t tree p m. one_placed image core tree p m parent t.above t.found table t.named i child lt r none

-- ---- all children of a table

-- the first of the children are added
abbrev pub AddsSome : Core → Option (List ℕ) → ChildTable → ℕ → List ℕ → List ℕ → Type 0
AddsSome core None table k old new = (parent : ℕ) → IsTableOf core None parent table → ⊤
AddsSome core (Some image) table k old new =
    (parent : ℕ) → IsTableOf core (Some image) parent table → (tree : Tree) (p : Placement) → Means image tree p (memory_of core) → new ≡ old ++ take k (children_at tree parent)

pub adds_none : (core : Core) (held : Option (List ℕ)) (table : ChildTable) (old : List ℕ) → AddsSome core held table 0 old old
adds_none core None table old = λ parent t. tt
adds_none core (Some image) table old = λ parent t tree p m. sym (append_none old)
  where
    append_none : (xs : List ℕ) → xs ++ [] ≡ xs
    append_none [] = refl
    append_none (x ∷ xs) = ap (λ ys. x ∷ ys) (append_none xs)

pub adds_one : (core : Core) (held : Option (List ℕ)) (table : ChildTable) (k s : ℕ) (old mid new : List ℕ) → AddsSome core held table k old mid → new ≡ mid ++ s ∷ [] → IsChildAt core held table k s → AddsSome core held table (k + 1) old new
adds_one core None table k s old mid new a e c = λ parent t. tt
adds_one core (Some image) table k s old mid new a e c = λ parent t tree p m. one_more (children_at tree parent) (c parent t tree p m) (a parent t tree p m)
  where
    within : (xs : List ℕ) (k s : ℕ) → slice_get xs k ≡ Some s → (k < length xs) × (get_or xs k 0 ≡ s)
    within xs k s e = (slice_get_within xs k s e, same_Some (get_or xs k 0) s (sym (slice_get-get_or xs k 0 (slice_get_within xs k s e)) ∙ e))

    one_more : (xs : List ℕ) → slice_get xs k ≡ Some s → mid ≡ old ++ take k xs → new ≡ old ++ take (k + 1) xs
    one_more xs at before =
        let w = within xs k s at in
        e ∙ ap (λ ys. ys ++ s ∷ []) before ∙ append_assoc old (take k xs) (s ∷ []) ∙ ap (λ ys. old ++ ys) (ap (λ y. take k xs ++ y ∷ []) (sym w.1) ∙ sym (take_more xs k 0 w.0))

pub adds_all : (core : Core) (held : Option (List ℕ)) (table : ChildTable) (k : ℕ) (old new : List ℕ) → k ≡ table.count → AddsSome core held table k old new → AddsChildren core held table old new
adds_all core None table k old new e a = λ parent t. tt
adds_all core (Some image) table k old new e a = λ parent t tree p m.
    a parent t tree p m ∙ ap (λ ys. old ++ ys) (take_all k (children_at tree parent) (let c = count_is image core tree p m parent t.above t.found table t.named in let h = ap length (here image core tree p m parent t.above t.found table t.named) in omega (arith, e, c, h)))

-- ---- of a node's table

pub none_any : (core : Core) (held : Option (List ℕ)) (P : List ℕ → Tree → Placement → Type 0) → MeansNone core held → OfEach core held P
none_any core None P none = tt
none_any core (Some image) P none = λ tree p m. absurd (none tree p m)

pub over_told : (core : Core) (held : Option (List ℕ)) (serial n : ℕ) (table : ChildTable) → IsTableOf core held serial table → length core.rows.items < n + table.count → OfEach core held (λ image tree p. length core.rows.items < n + length (children_at tree serial))
over_told core None serial n table t over = tt
over_told core (Some image) serial n table t over = λ tree p m.
    let c = count_is image core tree p m serial t.above t.found table t.named in let h = ap length (here image core tree p m serial t.above t.found table t.named) in omega (arith, over, c, h)

pub entry_blocks : (place : ℕ) → blocks_of place 44 ≤ 2
entry_blocks place = omega arith
