-- Looks at one node, as they are answered.
use Rattle.std.proofs.Common.{◌≡◌, inl, inr, ℕ, ◌≤◌, refl, sym, ◌∙◌, ap, subst, List, Bool, true, false}
use Rattle.std.specs.Prelude.{Option, Some, None, IfErr, IfOk, IsSome, Result, Ok, Err}
use Rattle.cg_io.proofs.ReadLaws.{few_only, rose_later}
use Rattle.adf_format.specs.Names.{is_lk}
use Rattle.adf_format.specs.RecordFields.{node_length}
use Rattle.adf_format.specs.Tree.{Tree, Node, is_link_in, node_at}
use Rattle.adf_model.proofs.Basics.{not_true}
use Rattle.adf_model.specs.Answers.{asked_node, goes_through_links, is_followed}
use Rattle.adf_model.specs.Counts.{DeviceState, OnlyReads}
use Rattle.adf_model.specs.declared.error.AdfError.{AdfError}
use Rattle.adf_model.specs.declared.error.AdfError.TheVariants as error
use Rattle.adf_model.specs.declared.tree.NodeId.{NodeId}
use Rattle.adf_model.specs.declared.tree.Query.{Query}
use Rattle.adf_model.specs.declared.tree.Query.TheVariants.{Name, LabelOf, ShapeOf, ChildrenOf, LinkText, ReadAll, ReadPart, Find, Next, FormatOf, Parent, Target}
use Rattle.adf_model.specs.declared.tree.Reply.{Reply}
use Rattle.adf_records.specs.declared.NodeHeader.{NodeHeader}
use Rattle.node_reads.specs.Headers.{IsHeader}
use Rattle.node_reads.specs.Reads.{ReadAt, IsUnread}
use Rattle.tree_asks.proofs.AskedRules.{of_query}
use Rattle.tree_asks.specs.Causes.{AskReads, AtRow, IsChildCause, IsTextCause}
use Rattle.tree_asks.specs.Known.{IsKnown}
use Rattle.tree_asks.specs.Refusals.{IsAskRefusal}
use Rattle.tree_asks.specs.Told.{IsWanted, Tells}
use Rattle.tree_edits.proofs.Nodes.{header_says, no_node, the_node}
use Rattle.tree_edits.specs.Causes.{HeaderBreaks}
use Rattle.tree_edits.specs.Edits.{memory_of}
use Rattle.tree_edits.specs.Listed.{IsTableOf}
use Rattle.tree_edits.specs.Rows.{Means, row_of}
use Rattle.tree_edits.specs.declared.memory.Core.{Core}
use Rattle.tree_edits.specs.declared.rows.Row.{Row}
use Rattle.tree_edits.proofs.TableReads.{table_reads}
use Rattle.adf_tree.proofs.HeaderRules.{header_rule}
use Rattle.adf_tree.specs.Asks.{IsAskedCause, IsLookCause, IsPathCause, IsStayCause, enters_at, stays_at, stays_if}

-- ---- causes

pub unread_looks : (wide : Bool) (held : Option (List ℕ)) (place before now : ℕ) (e : AdfError) → IsUnread (HeaderBreaks wide held place) before now e → IsLookCause before now e
unread_looks wide held place before now error.ReadFault h = h
unread_looks wide held place before now (error.Layout rule at) h = header_rule wide held place rule at h
unread_looks wide held place before now other h = absurd h

pub look_stays : (before now : ℕ) (e : AdfError) → IsLookCause before now e → IsStayCause before now e
look_stays before now error.LinkMissing h = tt
look_stays before now e h = h

pub stay_on_path : (before now : ℕ) (e : AdfError) → IsStayCause before now e → IsPathCause before now e
stay_on_path before now error.NotFound h = tt
stay_on_path before now e h = h

pub look_on_path : (before now : ℕ) (e : AdfError) → IsLookCause before now e → IsPathCause before now e
look_on_path before now e h = stay_on_path before now e (look_stays before now e h)

pub path_finds : (node : NodeId) (path : List ℕ) (before now : ℕ) (e : AdfError) → IsPathCause before now e → IsAskedCause (Find node path) before now e
path_finds node path before now error.Memory h = tt
path_finds node path before now error.ReadFault h = h
path_finds node path before now (error.Layout rule at) h = h
path_finds node path before now error.LinkMissing h = refl
path_finds node path before now error.NotFound h = refl
path_finds node path before now e h = absurd h

pub stay_asks : (query : Query) (before now : ℕ) (e : AdfError) → goes_through_links query ≡ true → IsStayCause before now e → IsAskedCause query before now e
stay_asks query before now error.Memory through h = tt
stay_asks query before now error.ReadFault through h = h
stay_asks query before now (error.Layout rule at) through h = h
stay_asks query before now error.LinkMissing through h = through
stay_asks query before now e through h = absurd h

pub refusal_asks : (query : Query) (before now : ℕ) (e : AdfError) → IsAskRefusal query before now e → IsAskedCause query before now e
refusal_asks query before now error.Memory h = tt
refusal_asks query before now error.ReadFault h = h
refusal_asks query before now (error.Layout rule at) h = h
refusal_asks query before now error.Broken h = absurd h
refusal_asks query before now error.NotOpen h = absurd h
refusal_asks query before now error.NoSuchFile h = absurd h
refusal_asks query before now error.LinkMissing h = absurd h
refusal_asks query before now error.LinkChain h = absurd h
refusal_asks query before now e h = h

pub child_looks : (core : Core) (held : Option (List ℕ)) (serial before now : ℕ) (e : AdfError) → AtRow core serial (λ row. IsChildCause core held row.place before now e) → IsLookCause before now e
child_looks core held serial before now e a = by_error e a.is
  where
    node : NodeId
    node = record { file = 0; serial = serial }

    by_error : (x : AdfError) → IsChildCause core held a.row.place before now x → IsLookCause before now x
    by_error error.ReadFault h = h
    by_error (error.Layout rule at) h = of_query core held node (ChildrenOf node) before now (error.Layout rule at) (inr (record { row = a.row; found = a.found; is = h }))
    by_error other h = absurd h

pub text_looks : (core : Core) (held : Option (List ℕ)) (serial before now : ℕ) (e : AdfError) → AtRow core serial (λ row. IsTextCause core held row.place before now e) → IsLookCause before now e
text_looks core held serial before now e a = by_error e a.is
  where
    by_error : (x : AdfError) → IsTextCause core held a.row.place before now x → IsLookCause before now x
    by_error error.Memory h = tt
    by_error error.ReadFault h = h
    by_error (error.Layout rule at) (inl b) = header_rule core.wide held a.row.place rule at b
    by_error (error.Layout rule at) (inr f) = f.0
    by_error other h = absurd h

-- ---- refusals

-- what no tree decides, or what another call is refused with
pub wanted_on : {A B : Type 0} (a : Result A AdfError) (b : Result B AdfError) (e : AdfError) → (a ≡ Err e → b ≡ Err e) → IsWanted a (Err e) → IsWanted b (Err e)
wanted_on a b error.Memory on w = tt
wanted_on a b error.ReadFault on w = tt
wanted_on a b e on w = on w

pub tells_on : {A B : Type 0} (core : Core) (held : Option (List ℕ)) (a : Tree → Result A AdfError) (b : Tree → Result B AdfError) (e : AdfError) → ((tree : Tree) → a tree ≡ Err e → b tree ≡ Err e)
    → Tells core held a (Err e) → Tells core held b (Err e)
tells_on core None a b e on t = tt
tells_on core (Some image) a b e on t = λ tree p m. wanted_on (a tree) (b tree) e (on tree) (t tree p m)

-- ---- a node that is no link

module _ (core : Core) (serial : ℕ) where
  pub stays_gone : (held : Option (List ℕ)) → row_of core.rows.items serial ≡ None → Tells core held (λ tree. stays_at tree serial) (Ok tt)
  stays_gone None none = tt
  stays_gone (Some image) none = λ tree p m. ap (λ (o : Option Node). stays_if (is_link_in o)) (no_node image (memory_of core) serial none tree p m)

  module _ (row : Row) (found : row_of core.rows.items serial ≡ Some row) (header : NodeHeader) where
    -- what the header says
    says_link : (image : List ℕ) (tree : Tree) → ReadAt (Some image) row.place (node_length core.wide) (IsHeader core.wide row.place None header) → (p : _) → Means image tree p (memory_of core)
        → is_link_in (node_at tree serial) ≡ is_lk header.kind
    says_link image tree r p m =
        let n = the_node image (memory_of core) serial row found tree p m in
        ap is_link_in n.is.live ∙ ap is_lk (sym (header_says image (memory_of core) serial row found tree p m header r).kind)

    pub stays_said : (link : Bool) (held : Option (List ℕ)) → ReadAt held row.place (node_length core.wide) (IsHeader core.wide row.place None header) → is_lk header.kind ≡ link
        → (result : Result (Unit {0}) AdfError) → result ≡ stays_if link → Tells core held (λ tree. stays_at tree serial) result
    stays_said link None r is result e = tt
    stays_said link (Some image) r is result e = λ tree p m.
        by_result result (ap stays_if (says_link image tree r p m ∙ is) ∙ sym e)
      where
        by_result : {wanted : Result (Unit {0}) AdfError} (o : Result (Unit {0}) AdfError) → wanted ≡ o → IsWanted wanted o
        by_result (Ok done) h = h
        by_result (Err error.Memory) h = tt
        by_result (Err error.ReadFault) h = tt
        by_result (Err x) h = h

-- ---- where links would be followed

pub enters_through : (core : Core) (held : Option (List ℕ)) (serial : ℕ) (through : Bool) (result : Result (Unit {0}) AdfError) → through ≡ true → Tells core held (λ tree. stays_at tree serial) result
    → Tells core held (λ tree. enters_at through tree serial) result
enters_through core held serial through result is t = subst (λ (b : Bool). Tells core held (λ tree. enters_at b tree serial) result) (sym is) t

pub enters_plain : (core : Core) (held : Option (List ℕ)) (serial : ℕ) (through : Bool) → through ≡ false → Tells core held (λ tree. enters_at through tree serial) (Ok tt)
enters_plain core held serial through is = subst (λ (b : Bool). Tells core held (λ tree. enters_at b tree serial) (Ok tt)) (sym is) (plain held)
  where
    plain : (h : Option (List ℕ)) → Tells {A = Unit {0}} core h (λ tree. Ok tt) (Ok tt)
    plain None = tt
    plain (Some image) = λ tree p m. refl

-- ---- causes of a call behind another

pub later_path : {T : Type 0} (a b c : ℕ) (result : Result T AdfError) → a ≤ b → IfErr result (IsPathCause b c) → IfErr result (IsPathCause a c)
later_path a b c (Ok value) le h = tt
later_path a b c (Err e) le h = by_error e h
  where
    by_error : (x : AdfError) → IsPathCause b c x → IsPathCause a c x
    by_error error.NotFound h = tt
    by_error error.LinkMissing h = tt
    by_error error.Memory h = tt
    by_error error.ReadFault h = rose_later a b c le h
    by_error (error.Layout rule at) h = h
    by_error x h = absurd h

pub later_asked : {T : Type 0} (query : Query) (a b c : ℕ) (result : Result T AdfError) → a ≤ b → IfErr result (IsAskedCause query b c) → IfErr result (IsAskedCause query a c)
later_asked query a b c (Ok value) le h = tt
later_asked query a b c (Err e) le h = by_error e h
  where
    by_error : (x : AdfError) → IsAskedCause query b c x → IsAskedCause query a c x
    by_error error.Memory h = tt
    by_error error.ReadFault h = rose_later a b c le h
    by_error (error.Layout rule at) h = h
    by_error error.Broken h = absurd h
    by_error error.NotOpen h = absurd h
    by_error error.NoSuchFile h = absurd h
    by_error error.LinkChain h = absurd h
    by_error x h = h

-- ---- how often a query reads, and why it is refused

pub through_of : (query : Query) → is_followed query ≡ true → goes_through_links query ≡ true
through_of (Find node path) h = refl
through_of query h = h

pub asks_only : (core : Core) (held : Option (List ℕ)) (at : NodeId) (query : Query) (old new : DeviceState) → AskReads core held at query old new → OnlyReads old new
asks_only core held at (Name node) old new r = few_only 2 old new r
asks_only core held at (LabelOf node) old new r = few_only 2 old new r
asks_only core held at (ShapeOf node) old new r = few_only 2 old new r
asks_only core held at (ChildrenOf node) old new r = table_reads (IsTableOf core held at.serial) 1 2 old new r
asks_only core held at (LinkText node) old new r = r
asks_only core held at (ReadAll node) old new r = r
asks_only core held at (ReadPart node selection) old new r = r
asks_only core held at (Find node path) old new r = few_only 0 old new r
asks_only core held at (Next node) old new r = few_only 0 old new r
asks_only core held at (FormatOf node) old new r = few_only 1 old new r
asks_only core held at (Parent node) old new r = few_only 0 old new r
asks_only core held at (Target node) old new r = few_only 0 old new r

pub asks_cause : {T : Type 0} (query : Query) (before now : ℕ) (result : Result T AdfError) → IfErr result (IsAskRefusal query before now) → IfErr result (IsAskedCause query before now)
asks_cause query before now (Ok value) h = tt
asks_cause query before now (Err e) h = refusal_asks query before now e h

-- a path is searched from a node that has a row
pub find_known : (core : Core) (query : Query) (node : NodeId) (path : List ℕ) (result : Result Reply AdfError) → query ≡ Find node path → IsSome (row_of core.rows.items (asked_node query).serial) → IfOk result (IsKnown core (asked_node query) query)
find_known core query node path (Err e) is there = tt
find_known core query node path (Ok reply) is there = subst (λ (q : Query). IsKnown core (asked_node q) q reply) (sym is) (by_row (row_of core.rows.items node.serial) refl (subst (λ (q : Query). IsSome (row_of core.rows.items (asked_node q).serial)) is there))
  where
    by_row : (o : Option Row) → row_of core.rows.items node.serial ≡ o → IsSome o → IsKnown core node (Find node path) reply
    by_row None e some = absurd (not_true some)
    by_row (Some row) e some = record { row = row; found = e; is = tt }

pub known_as : (core : Core) (at node : NodeId) (query : Query) (result : Result Reply AdfError) → at ≡ node → IfOk result (IsKnown core at query) → IfOk result (IsKnown core node query)
known_as core at node query result is known = subst (λ (n : NodeId). IfOk result (IsKnown core n query)) is known

pub looks_child : {T : Type 0} (core : Core) (held : Option (List ℕ)) (serial before now : ℕ) (result : Result T AdfError) → IfErr result (λ e. AtRow core serial (λ row. IsChildCause core held row.place before now e)) → IfErr result (IsLookCause before now)
looks_child core held serial before now (Ok value) h = tt
looks_child core held serial before now (Err e) h = child_looks core held serial before now e h
