-- The reply to a query, whatever its kind.
use Rattle.std.proofs.Common.{◌≡◌, inl, inr, ℕ, refl, sym, ◌∙◌, ap, subst, List, length, Option, None, Some}
use Rattle.std.specs.Prelude.{Result, Ok, Err, IfOk, IfErr}
use Rattle.adf_format.specs.Tree.{Tree, Node}
use Rattle.adf_format.specs.Placement.{Placement}
use Rattle.adf_model.specs.declared.error.AdfError.{AdfError}
use Rattle.adf_model.specs.declared.error.AdfError.TheVariants as error
use Rattle.adf_model.specs.declared.tree.NodeId.{NodeId}
use Rattle.adf_model.specs.declared.tree.Query.{Query}
use Rattle.adf_model.specs.declared.tree.Query.TheVariants.{Name, LabelOf, ShapeOf, ChildrenOf, LinkText, ReadAll, ReadPart, Find, Next, FormatOf, Parent, Target}
use Rattle.adf_model.specs.declared.tree.Reply.{Reply}
use Rattle.adf_model.specs.Answers.{field_of, field_within}
use Rattle.adf_model.specs.Tests.{if_there}
use Rattle.cg_io.specs.Answers.{AnswersRead}
use Rattle.cg_io.specs.Device.{DeviceState}
use Rattle.cg_io.proofs.ReadLaws.{reads_none, only_none}
use Rattle.tree_edits.specs.declared.memory.Core.{Core}
use Rattle.tree_edits.specs.declared.rows.Row.{Row}
use Rattle.tree_edits.specs.Rows.{Means, row_of}
use Rattle.tree_edits.specs.Edits.{memory_of}
use Rattle.tree_edits.proofs.Nodes.{its_row, the_node, no_node}
use Rattle.tree_asks.specs.Told.{IsWanted, Tells}
use Rattle.tree_asks.specs.Causes.{IsRowCause, IsAskCause, AskReads}
use Rattle.tree_asks.specs.Known.{IsOfRow, IsKnown}
use Rattle.tree_asks.proofs.Answered.{within_is}

-- ---- what is told

is_wanted : {A : Type 0} (wanted r : Result A AdfError) → wanted ≡ r → IsWanted wanted r
is_wanted wanted (Ok value) e = e
is_wanted wanted (Err error.Memory) e = tt
is_wanted wanted (Err error.ReadFault) e = tt
is_wanted wanted (Err other) e = e

module _ (core : Core) (held : Option (List ℕ)) (at : NodeId) where
  -- the answer to a query is that to the same query under another name
  pub told_as : (query q : Query) (r : Result Reply AdfError) → query ≡ q → Tells core held (λ tree. field_within tree at q) r → Tells core held (λ tree. field_within tree at query) r
  told_as query q r is told = subst (λ x. Tells core held (λ tree. field_within tree at x) r) (sym is) told

  pub gone_told : (query : Query) → row_of core.rows.items at.serial ≡ None → Tells core held (λ tree. field_within tree at query) (Err AdfError.NoSuchNode)
  gone_told query none = by_held held
    where
      by_held : (o : Option (List ℕ)) → Tells core o (λ tree. field_within tree at query) (Err AdfError.NoSuchNode)
      by_held None = tt
      by_held (Some image) = λ tree p m. ap (λ o. if_there o AdfError.NoSuchNode (λ (n : Node). field_of tree at n query)) (no_node image (memory_of core) at.serial none tree p m)

  module _ (row : Row) (found : row_of core.rows.items at.serial ≡ Some row) where
    -- what is told of a node without its bytes
    known_told : (query : Query) (r : Result Reply AdfError) → ((image : List ℕ) (tree : Tree) (p : Placement) → Means image tree p (memory_of core) → (node : Node) → field_of tree at node query ≡ r) → Tells core held (λ tree. field_within tree at query) r
    known_told query r is = by_held held
      where
        by_held : (o : Option (List ℕ)) → Tells core o (λ tree. field_within tree at query) r
        by_held None = tt
        by_held (Some image) = λ tree p m.
            let n = the_node image (memory_of core) at.serial row found tree p m in
            is_wanted (field_within tree at query) r (within_is tree at query n.node n.is.live ∙ is image tree p m n.node)

    pub find_told : (query : Query) (node : NodeId) (path : List ℕ) → query ≡ Find node path → Tells core held (λ tree. field_within tree at query) (Err AdfError.NotFound)
    find_told query node path is = told_as query (Find node path) (Err AdfError.NotFound) is (known_told (Find node path) (Err AdfError.NotFound) (λ image tree p m n. refl))

    pub target_told : (query : Query) (node : NodeId) → query ≡ Target node → Tells core held (λ tree. field_within tree at query) (Ok (Reply.Node at))
    target_told query node is = told_as query (Target node) (Ok (Reply.Node at)) is (known_told (Target node) (Ok (Reply.Node at)) (λ image tree p m n. refl))

    pub next_told : (query : Query) (node : NodeId) (count : ℕ) → query ≡ Next node → count ≡ length core.rows.items → Tells core held (λ tree. field_within tree at query) (Ok (Reply.Node (record { file = at.file; serial = count })))
    next_told query node count is many = told_as query (Next node) (Ok (Reply.Node (record { file = at.file; serial = count }))) is (known_told (Next node) (Ok (Reply.Node (record { file = at.file; serial = count }))) (λ image tree p m n. ap (λ k. Ok (Reply.Node (record { file = at.file; serial = k }))) (sym (many ∙ m.table.count))))

    pub parent_told : (query : Query) (node : NodeId) (r : Result Reply AdfError) → query ≡ Parent node → r ≡ if_there row.parent AdfError.NotAChild (λ serial. Ok (Reply.Node (record { file = at.file; serial = serial }))) → Tells core held (λ tree. field_within tree at query) r
    parent_told query node r is e = told_as query (Parent node) r is (known_told (Parent node) r (λ image tree p m n.
        ap (λ o. if_there o AdfError.NotAChild (λ serial. Ok (Reply.Node (record { file = at.file; serial = serial })))) (sym (its_row image (memory_of core) at.serial row found tree p m).parent) ∙ sym e))

-- ---- what memory knows

module _ (core : Core) (at : NodeId) (row : Row) (found : row_of core.rows.items at.serial ≡ Some row) where
  known : (query : Query) (r : Result Reply AdfError) → IfOk r (λ reply. IsOfRow core at query reply row) → IfOk r (IsKnown core at query)
  known query (Ok reply) h = record { row = row; found = found; is = h }
  known query (Err e) h = tt

  -- a reply that is read
  pub read_known : (query q : Query) (r : Result Reply AdfError) → query ≡ q → ((reply : Reply) → IsOfRow core at q reply row) → IfOk r (IsKnown core at query)
  read_known query q r is free = subst (λ x. IfOk r (IsKnown core at x)) (sym is) (known q r (each r))
    where
      each : (r : Result Reply AdfError) → IfOk r (λ reply. IsOfRow core at q reply row)
      each (Ok reply) = free reply
      each (Err e) = tt

  pub one_known : (query q : Query) (reply : Reply) → query ≡ q → IsOfRow core at q reply row → IsKnown core at query reply
  one_known query q reply is h = subst (λ x. IsKnown core at x reply) (sym is) (record { row = row; found = found; is = h })

  pub parent_known : (query : Query) (node : NodeId) (r : Result Reply AdfError) → query ≡ Parent node → r ≡ if_there row.parent AdfError.NotAChild (λ serial. Ok (Reply.Node (record { file = at.file; serial = serial }))) → IfOk r (IsKnown core at query)
  parent_known query node r is e = subst (λ x. IfOk r (IsKnown core at x)) (sym is) (known (Parent node) r (by_parent row.parent refl r e))
    where
      by_parent : (o : Option ℕ) → row.parent ≡ o → (r : Result Reply AdfError) → r ≡ if_there o AdfError.NotAChild (λ serial. Ok (Reply.Node (record { file = at.file; serial = serial }))) → IfOk r (λ reply. IsOfRow core at (Parent node) reply row)
      by_parent None p r e = subst (λ x. IfOk x (λ reply. IsOfRow core at (Parent node) reply row)) (sym e) tt
      by_parent (Some serial) p r e = subst (λ x. IfOk x (λ reply. IsOfRow core at (Parent node) reply row)) (sym e) (serial, p, refl)

-- ---- what is left of the space, and why there is no reply

-- nothing is read
reads_nothing : (core : Core) (held : Option (List ℕ)) (at : NodeId) (query : Query) (a : DeviceState) → AskReads core held at query a a
reads_nothing core held at (Name node) a = reads_none 2 a
reads_nothing core held at (LabelOf node) a = reads_none 2 a
reads_nothing core held at (ShapeOf node) a = reads_none 2 a
reads_nothing core held at (ChildrenOf node) a = inl (reads_none 2 a)
reads_nothing core held at (LinkText node) a = only_none a
reads_nothing core held at (ReadAll node) a = only_none a
reads_nothing core held at (ReadPart node selection) a = only_none a
reads_nothing core held at (Find node path) a = reads_none 0 a
reads_nothing core held at (Next node) a = reads_none 0 a
reads_nothing core held at (FormatOf node) a = reads_none 1 a
reads_nothing core held at (Parent node) a = reads_none 0 a
reads_nothing core held at (Target node) a = reads_none 0 a

module _ {S : Type 0} (is_sound : S → Type 0) (image : S → Option (List ℕ)) (state : S → DeviceState) (waiting : S → List ℕ) (core : Core) (held : Option (List ℕ)) (at : NodeId) where
  abbrev pub Asked : Query → S → S → Result Reply AdfError → Type 0
  Asked query old new r = AnswersRead is_sound image state waiting (AskReads core held at query) (IsAskCause core held at query) old new r

  -- nothing is done
  pub nothing_read : (query : Query) (now : S) (r : Result Reply AdfError) → is_sound now → IfErr r (λ e. IsAskCause core held at query (state now).faults (state now).faults e) → Asked query now now r
  nothing_read query now r sound cause = record { sound = sound; bytes = refl; waits = refl; effect = reads_nothing core held at query (state now); cause = cause }

  pub gone_asked : (query : Query) (now : S) → is_sound now → row_of core.rows.items at.serial ≡ None → Asked query now now (Err AdfError.NoSuchNode)
  gone_asked query now sound none = nothing_read query now (Err AdfError.NoSuchNode) sound (inl (none, refl))

  module _ (row : Row) (found : row_of core.rows.items at.serial ≡ Some row) where
    of_row : (query : Query) (before now : ℕ) (r : Result Reply AdfError) → IfErr r (IsRowCause core held query row before now) → IfErr r (IsAskCause core held at query before now)
    of_row query before now (Ok reply) h = tt
    of_row query before now (Err e) h = inr (record { row = row; found = found; is = h })

    -- a reply that is read
    pub row_asked : (query q : Query) (old new : S) (r : Result Reply AdfError) → query ≡ q → AnswersRead is_sound image state waiting (AskReads core held at q) (IsRowCause core held q row) old new r → Asked query old new r
    row_asked query q old new r is a = subst (λ x. Asked x old new r) (sym is) (record { sound = a.sound; bytes = a.bytes; waits = a.waits; effect = a.effect; cause = of_row q (state old).faults (state new).faults r a.cause })

    pub find_asked : (query : Query) (node : NodeId) (path : List ℕ) (now : S) → query ≡ Find node path → is_sound now → Asked query now now (Err AdfError.NotFound)
    find_asked query node path now is sound = subst (λ x. Asked x now now (Err AdfError.NotFound)) (sym is) (nothing_read (Find node path) now (Err AdfError.NotFound) sound (inr (record { row = row; found = found; is = refl })))

    pub parent_asked : (query : Query) (node : NodeId) (now : S) (r : Result Reply AdfError) → query ≡ Parent node → is_sound now → r ≡ if_there row.parent AdfError.NotAChild (λ serial. Ok (Reply.Node (record { file = at.file; serial = serial }))) → Asked query now now r
    parent_asked query node now r is sound e = subst (λ x. Asked x now now r) (sym is) (nothing_read (Parent node) now r sound (of_row (Parent node) (state now).faults (state now).faults r (by_parent row.parent refl r e)))
      where
        by_parent : (o : Option ℕ) → row.parent ≡ o → (r : Result Reply AdfError) → r ≡ if_there o AdfError.NotAChild (λ serial. Ok (Reply.Node (record { file = at.file; serial = serial }))) → IfErr r (IsRowCause core held (Parent node) row (state now).faults (state now).faults)
        by_parent None p r e = subst (λ x. IfErr x (IsRowCause core held (Parent node) row (state now).faults (state now).faults)) (sym e) (refl, p)
        by_parent (Some serial) p r e = subst (λ x. IfErr x (IsRowCause core held (Parent node) row (state now).faults (state now).faults)) (sym e) tt
