-- Whether a node may move: the tests of the edit, and what is so of them in bytes that are told.
use Rattle.std.proofs.Common.{◌≡◌, ◌≢◌, ◌⊎◌, inl, inr, ℕ, refl, sym, ◌∙◌, ap, subst, arith, List, [], ◌∷◌, length, ◌+◌, ◌-◌, ◌^◌, ◌<◌, ◌≤◌, Bool, true, false, not, ◌||◌, Option, None, Some}
use Rattle.std.proofs.lemmas.Bool.Decides.{eqb_tells, nat_tests}
use Rattle.std.specs.Prelude.{is_some, nat_le, nat_lt, if◌then◌else◌, IfSome, IsSome, Result, Ok, slice_get}
use Rattle.std.specs.List.{list_any}
use Rattle.adf_format.specs.Fields.{text_field}
use Rattle.adf_format.specs.Names.{is_name, is_lk}
use Rattle.adf_format.specs.Checks.{first_broken}
use Rattle.adf_format.specs.Tree.{Tree, is_among, node_at, name_of, name_at, children_at, parent_of, depth_of, is_within, subtree, is_link_in}
use Rattle.adf_format.specs.Placement.{Placement}
use Rattle.adf_model.specs.declared.error.AdfError.{AdfError}
use Rattle.adf_model.specs.declared.tree.Edit.{Edit}
use Rattle.adf_model.specs.declared.tree.NodeId.{NodeId}
use Rattle.adf_model.specs.Tests.{checked, if_there}
use Rattle.adf_model.specs.Edits.{file_step, has_named, moved, other_children}
use Rattle.adf_model.proofs.Basics.{not_true, false_of, equal}
use Rattle.adf_model.proofs.Following.StepTests.{step_tests}
use Rattle.adf_model.proofs.Trees.AncestorLemmas.{within_itself}
use Rattle.node_reads.specs.declared.find.Wanted.TheVariants.{Name}
use Rattle.node_reads.specs.Headers.{table_rows}
use Rattle.node_reads.proofs.LaidOut.{table_breaks_none}
use Rattle.tree_laws.proofs.Moves.MovedNodes.{others_of_none}
use Rattle.tree_laws.proofs.Moves.MoveFits.{deepest_decides}
use Rattle.tree_edits.specs.declared.memory.Core.{Core}
use Rattle.tree_edits.specs.declared.room.Parent.{Parent}
use Rattle.tree_edits.specs.declared.rows.Row.{Row}
use Rattle.tree_edits.specs.Rows.{Means, row_of}
use Rattle.tree_edits.specs.Edits.{memory_of}
use Rattle.tree_edits.specs.Listed.{TableBreaks, NamesNone, FindsFirst, is_another}
use Rattle.tree_edits.specs.Room.{SaysKind}
use Rattle.tree_edits.proofs.Nodes.{TheNode, the_node, its_row, header_says, no_node, no_break}
use Rattle.tree_edits.proofs.Kids as kids
use Rattle.tree_edits.proofs.Parents as parents
use Rattle.tree_edits.proofs.Tables.{there}
use Rattle.tree_moves.specs.declared.place.Source.{Source}
use Rattle.tree_moves.specs.Below.{is_below, IsDeepest, IsDepthBelow}
use Rattle.tree_moves.specs.Movable.{SourceBreaks, clashes, MayTry, HasLooked}
use Rattle.tree_moves.proofs.BelowTree.{below_is}

-- ---- the tests

-- whether the subtree of a node goes too deep below another
abbrev pub goes_deep : Tree → ℕ → ℕ → Bool
goes_deep tree s to = list_any (λ below. nat_lt 255 (depth_of tree to + 1 + (depth_of tree below - depth_of tree s))) (subtree tree s)

-- all tests, by what is known of both nodes
abbrev pub tested : Tree → NodeId → NodeId → Bool → Bool → Bool → Bool → Option ℕ → Bool → Bool → Bool → Bool → Result Tree AdfError
tested tree node at here there link writable par within taken many deep =
    checked ((not here || (not there || false), AdfError.NoSuchNode) ∷ (link, AdfError.LinkMissing) ∷ (not writable, AdfError.ReadOnly) ∷ [])
    (if_there par AdfError.NotAChild (λ from.
    checked ((within, AdfError.IntoItself) ∷ (taken, AdfError.Duplicate) ∷ (many, AdfError.TooManyChildren) ∷ (deep, AdfError.TooDeep) ∷ [])
    (Ok (moved tree from at.serial node.serial))))

module _ (tree : Tree) (node at : NodeId) (writable : Bool) where
  abbrev live : Bool
  live = is_some (node_at tree node.serial)

  abbrev there_too : Bool
  there_too = is_some (node_at tree at.serial)

  abbrev is_a_link : Bool
  is_a_link = is_link_in (node_at tree at.serial)

  abbrev par_of : Option ℕ
  par_of = parent_of tree node.serial

  abbrev inside : Bool
  inside = is_within tree node.serial at.serial

  abbrev has_name : Bool
  has_name = has_named tree (other_children tree at.serial node.serial) (name_at tree node.serial)

  abbrev many_kids : Bool
  many_kids = nat_le (2 ^ 20) (length (children_at tree at.serial))

  abbrev too_deep : Bool
  too_deep = goes_deep tree node.serial at.serial

  pub known : {here there link w within taken many deep : Bool} {par : Option ℕ} → live ≡ here → there_too ≡ there → is_a_link ≡ link → writable ≡ w → par_of ≡ par → inside ≡ within → has_name ≡ taken → many_kids ≡ many → too_deep ≡ deep
      → file_step writable tree (Edit.Move node at) ≡ tested tree node at here there link w par within taken many deep
  known {here} {there} {link} {w} {within} {taken} {many} {deep} {par} a b c d e f g h i =
      step_tests writable tree (Edit.Move node at)
      ∙ ap (λ (x : Bool). tested tree node at x there_too is_a_link writable par_of inside has_name many_kids too_deep) a
      ∙ ap (λ (x : Bool). tested tree node at here x is_a_link writable par_of inside has_name many_kids too_deep) b
      ∙ ap (λ (x : Bool). tested tree node at here there x writable par_of inside has_name many_kids too_deep) c
      ∙ ap (λ (x : Bool). tested tree node at here there link x par_of inside has_name many_kids too_deep) d
      ∙ ap (λ (x : Option ℕ). tested tree node at here there link w x inside has_name many_kids too_deep) e
      ∙ ap (λ (x : Bool). tested tree node at here there link w par x has_name many_kids too_deep) f
      ∙ ap (λ (x : Bool). tested tree node at here there link w par within x many_kids too_deep) g
      ∙ ap (λ (x : Bool). tested tree node at here there link w par within taken x too_deep) h
      ∙ ap (λ (x : Bool). tested tree node at here there link w par within taken many x) i

pub is_le : (a b : ℕ) → a ≤ b → nat_le a b ≡ true
is_le a b le = grind (arith, nat_tests)

pub is_more : (a b : ℕ) → b < a → nat_le a b ≡ false
is_more a b lt = grind (arith, nat_tests)

pub fits_not : (a b c d : ℕ) → b ≤ c → a + 1 + c ≤ 255 + b → d ≡ c → nat_lt 255 (a + 1 + (d - b)) ≡ false
fits_not a b c d le fits same = let n : a + 1 + (d - b) ≤ 255 = omega (arith, le, fits, same) in grind (arith, nat_tests, n)

pub deep_too : (a b c d : ℕ) → b ≤ c → 255 + b < a + 1 + c → d ≡ c → nat_lt 255 (a + 1 + (d - b)) ≡ true
deep_too a b c d le more same = let n : 255 < a + 1 + (d - b) = omega (arith, le, more, same) in grind (arith, nat_tests, n)

-- ---- of bytes that are told

module _ (image : List ℕ) (core : Core) (tree : Tree) (p : Placement) (m : Means image tree p (memory_of core)) where
  -- a header that is read, and its table, break no rule
  pub unbroken : (serial : ℕ) (row : Row) → row_of core.rows.items serial ≡ Some row → (rule place : ℕ) → TableBreaks core.wide (Some image) row.place rule place → ⊥
  unbroken serial row found rule place (inl b) = no_break image (memory_of core) serial row found tree p m rule place b
  unbroken serial row found rule place (inr f) =
      let n = the_node image (memory_of core) serial row found tree p m in
      let says = header_says image (memory_of core) serial row found tree p m f.header f.read in
      let none = table_breaks_none image tree p serial n.node n.parts f.header n.is says in
      parents.none_some _ _ (subst (λ k. first_broken (table_rows f.header k) ≡ None) n.at none) f.fails

  pub row_live : (serial : ℕ) (row : Row) → row_of core.rows.items serial ≡ Some row → is_some (node_at tree serial) ≡ true
  row_live serial row found = let n = the_node image (memory_of core) serial row found tree p m in ap is_some n.is.live

  pub some_live : (serial : ℕ) → IsSome (row_of core.rows.items serial) → is_some (node_at tree serial) ≡ true
  some_live serial some = let r = there (row_of core.rows.items serial) some in row_live serial r.0 r.1

  pub link_is : (at : NodeId) (link : Bool) (row : Row) → SaysKind core at (Some image) link row → is_link_in (node_at tree at.serial) ≡ link
  link_is at link row k =
      let n = the_node image (memory_of core) at.serial row k.found tree p m in
      let s = header_says image (memory_of core) at.serial row k.found tree p m k.header k.read in
      ap is_link_in n.is.live ∙ sym (ap is_lk s.kind) ∙ k.kind

  pub depth_is : (serial : ℕ) (row : Row) → row_of core.rows.items serial ≡ Some row → row.depth ≡ depth_of tree serial
  depth_is serial row found = let its = its_row image (memory_of core) serial row found tree p m in its.depth

  pub parent_is : (serial : ℕ) (row : Row) → row_of core.rows.items serial ≡ Some row → (o : Option ℕ) → row.parent ≡ o → parent_of tree serial ≡ o
  parent_is serial row found o e = let its = its_row image (memory_of core) serial row found tree p m in sym its.parent ∙ e

  module _ (node at : NodeId) (row : Row) (to : Parent) (may : MayTry core node at (Some image) row to) where
    abbrev own : TheNode image tree p node.serial row.place
    own = the_node image (memory_of core) node.serial row may.found tree p m

    pub within_is : is_within tree node.serial at.serial ≡ is_below core.rows.items node.serial row.depth at.serial
    within_is = sym (below_is tree m.laid_out.is_tree p core.rows.items m.table at.serial to.row may.target.node.found node.serial row.depth (depth_is node.serial row may.found))

    -- the deepest node below decides
    pub deep_is : (deepest : ℕ) → IsDeepest core.rows.items node.serial row.depth deepest → (b : Bool) → ((d : ℕ) → d ≡ deepest → nat_lt 255 (to.row.depth + 1 + (d - row.depth)) ≡ b) → goes_deep tree node.serial at.serial ≡ b
    deep_is deepest d b is = by_one d.one
      where
        below_all : (k : ℕ) → IsSome (node_at tree k) → is_within tree node.serial k ≡ true → depth_of tree k ≤ deepest
        below_all k live within = by_row (row_of core.rows.items k) refl
          where
            by_row : (o : Option Row) → row_of core.rows.items k ≡ o → depth_of tree k ≤ deepest
            by_row None none = absurd (not_true (sym (ap is_some (no_node image (memory_of core) k none tree p m)) ∙ live))
            by_row (Some r) found =
                let below = below_is tree m.laid_out.is_tree p core.rows.items m.table k r found node.serial row.depth (depth_is node.serial row may.found) ∙ within in
                let few : r.depth ≤ deepest = subst (λ (o : Option Row). IfSome o (λ x. x.depth ≤ deepest)) found (d.all k below) in
                let e = depth_is k r found in omega (arith, few, e)

        at_serial : (s : ℕ) → is_some (node_at tree s) ≡ true → is_within tree node.serial s ≡ true → depth_of tree s ≡ deepest → goes_deep tree node.serial at.serial ≡ b
        at_serial s live within e =
            deepest_decides tree node.serial at.serial s live within (λ k l w. let n = below_all k l w in omega (arith, n, e))
            ∙ ap (λ x. nat_lt 255 (x + 1 + (depth_of tree s - depth_of tree node.serial))) (sym (depth_is at.serial to.row may.target.node.found))
            ∙ ap (λ x. nat_lt 255 (to.row.depth + 1 + (depth_of tree s - x))) (sym (depth_is node.serial row may.found))
            ∙ is (depth_of tree s) e

        by_one : (deepest ≡ row.depth) ⊎ IsDepthBelow core.rows.items node.serial row.depth deepest → goes_deep tree node.serial at.serial ≡ b
        by_one (inl same) = at_serial node.serial (row_live node.serial row may.found) (within_itself tree m.laid_out.is_tree node.serial (row_live node.serial row may.found)) (let e = depth_is node.serial row may.found in omega (arith, e, same))
        by_one (inr x) =
            at_serial x.serial (row_live x.serial x.row x.found)
            (sym (below_is tree m.laid_out.is_tree p core.rows.items m.table x.serial x.row x.found node.serial row.depth (depth_is node.serial row may.found)) ∙ x.below)
            (let e = depth_is x.serial x.row x.found in let f = x.deep_is in omega (arith, e, f))

    pub count_is : length (children_at tree at.serial) ≡ to.table.count
    count_is =
        ap length (kids.kids_are image core at.serial to.row may.target.node.found tree p m to.table may.target.named_by)
        ∙ sym (kids.count_is image core at.serial to.row may.target.node.found tree p m to.table may.target.named_by)

    name_is : name_at tree node.serial ≡ own.node.name
    name_is = ap name_of own.is.live

    pub good_name : is_name (name_at tree node.serial) ≡ true
    good_name = ap is_name name_is ∙ (m.laid_out.is_tree.each node.serial own.node own.is.live).named

  module _ (node at : NodeId) (row : Row) (to : Parent) (source : Source) (parent : ℕ) (last clash : Bool) (l : HasLooked core node at (Some image) row to source parent last clash) where
    abbrev may : MayTry core node at (Some image) row to
    may = l.may.may

    abbrev above : row.parent ≡ Some parent
    above = l.may.leaves.above

    pub field_is : source.name ≡ text_field 32 (name_at tree node.serial)
    field_is =
        let s = header_says image (memory_of core) node.serial row may.found tree p m l.source_is.header l.source_is.read in
        l.source_is.name ∙ s.name ∙ ap (text_field 32) (sym (name_is node at row to may))

    first_is : FindsFirst (Some image) to.table (Name (text_field 32 (name_at tree node.serial))) l.name.entry
    first_is = subst (λ t. FindsFirst (Some image) to.table (Name t) l.name.entry) field_is l.name.first

    pub position_is : slice_get (parents.up image core node.serial row may.found parent above tree p m l.source_is.listed.table.above l.source_is.listed.table.found).node.children source.listed.position ≡ Some node.serial
    position_is = parents.position image core node.serial row may.found parent above tree p m l.source_is.listed.table.above l.source_is.listed.table.found source.listed.table l.source_is.listed.table.named source.listed.position l.source_is.listed.first

    pub named_is : has_named tree (other_children tree at.serial node.serial) (name_at tree node.serial) ≡ clash
    named_is = by_last last refl
      where
        over_is : (o : Option ℕ) → is_some o ≡ clashes o None
        over_is None = refl
        over_is (Some i) = refl

        last_is : (o : Option ℕ) → is_another o source.listed.position ≡ clashes o (Some source.listed.position)
        last_is None = refl
        last_is (Some i) = refl

        absent : parent ≢ at.serial → is_among (children_at tree at.serial) node.serial ≡ false
        absent differ = false_of (is_among (children_at tree at.serial) node.serial) (λ t. differ (m.laid_out.is_tree.one_parent parent at.serial node.serial (parents.child image core node.serial row may.found parent above tree p m) t))

        by_last : (b : Bool) → last ≡ b → has_named tree (other_children tree at.serial node.serial) (name_at tree node.serial) ≡ clash
        by_last false e =
            let differ : parent ≢ at.serial = elim (eqb_tells parent at.serial) [ inl t ↦ absurd (not_true (sym e ∙ l.last_is ∙ t.0)) | inr t ↦ t.1 ] in
            ap (λ xs. has_named tree xs (name_at tree node.serial)) (others_of_none (children_at tree at.serial) node.serial (absent differ))
            ∙ kids.taken image core at.serial to.row may.target.node.found tree p m to.table may.target.named_by (name_at tree node.serial) (good_name node at row to may) l.name.entry first_is
            ∙ over_is l.name.entry ∙ ap (λ b. clashes l.name.entry (if b then Some source.listed.position else None)) (sym e) ∙ l.name.free
        by_last true e =
            let same : parent ≡ at.serial = equal parent at.serial (sym l.last_is ∙ e) in
            ap (λ k. has_named tree (other_children tree k node.serial) (name_at tree node.serial)) (sym same)
            ∙ parents.taken image core node.serial row may.found parent above tree p m l.source_is.listed.table.above l.source_is.listed.table.found source.listed.table l.source_is.listed.table.named (name_at tree node.serial) (good_name node at row to may)
            source.listed.position l.name.entry position_is (subst (λ t. FindsFirst (Some image) t (Name (text_field 32 (name_at tree node.serial))) l.name.entry) (l.same e) first_is)
            ∙ last_is l.name.entry ∙ ap (λ b. clashes l.name.entry (if b then Some source.listed.position else None)) (sym e) ∙ l.name.free

  -- what is found of the old parent
  pub source_whole : (serial : ℕ) (row : Row) (found : row_of core.rows.items serial ≡ Some row) (parent : ℕ) → row.parent ≡ Some parent → (rule place : ℕ) → SourceBreaks core (Some image) row parent rule place → ⊥
  source_whole serial row found parent has rule place (inr b) = no_break image (memory_of core) serial row found tree p m rule place b
  source_whole serial row found parent has rule place (inl (inl b)) = parents.unbroken image core serial row found parent has tree p m b.above b.found rule place b.breaks
  source_whole serial row found parent has rule place (inl (inr n)) = named_none n.2
    where
      named_none : NamesNone core (Some image) row.place parent → ⊥
      named_none (inl none) = parents.has_row image core serial row found parent has tree p m none
      named_none (inr t) = parents.none_listed image core serial row found parent has tree p m t.1.above t.1.found t.0 t.1.named t.2
