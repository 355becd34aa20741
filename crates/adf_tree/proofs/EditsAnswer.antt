-- What each edit over a space answers, as a step of an open file.
use Rattle.std.proofs.Common.{◌≡◌, inl, inr, ℕ, refl, sym, ◌∙◌, ap, subst, arith, List, [], ◌∷◌, length, ◌+◌, ◌*◌, ◌/◌, ◌≤◌, Bool, true, false, cond, not, ◌||◌}
use Rattle.std.specs.List.{list_any}
use Rattle.std.specs.Prelude.{Option, Some, None, is_some, nat_lt, if◌then◌else◌, IfSome, IsSome, Ok, Err}
use Rattle.adf_format.specs.Checks.{Fault, first_broken}
use Rattle.adf_format.specs.HeapRule.{chunk_length_for, grown_entries}
use Rattle.adf_format.specs.Links.{link_text}
use Rattle.adf_format.specs.Parts.{node_length, table_length}
use Rattle.adf_format.specs.Placement.{Placement}
use Rattle.adf_format.specs.RuleNumbers.{IsRule}
use Rattle.adf_format.specs.Tree.{Tree, Node, node_at, is_live, children_at}
use Rattle.adf_model.specs.Counts.{DeviceState, OnlyReads}
use Rattle.adf_model.specs.Edits.{file_step, named_nodes, resolve_by, apply_where}
use Rattle.adf_model.specs.Follow.{stay}
use Rattle.adf_model.specs.Need.{cost}
use Rattle.adf_model.specs.Placing.{chunk_number}
use Rattle.adf_model.specs.Tests.{checked, and_then}
use Rattle.adf_model.specs.declared.error.AdfError.{AdfError}
use Rattle.adf_model.specs.declared.error.AdfError.TheVariants as error
use Rattle.adf_model.specs.declared.tree.Edit.{Edit}
use Rattle.adf_model.specs.declared.tree.Edit.TheVariants.{Create, Link, Rename, SetLabel}
use Rattle.adf_model.specs.declared.tree.NodeId.{NodeId}
use Rattle.cg_io.specs.Answers.{AnswersWrite}
use Rattle.cg_io.specs.Blocks.{Both, ReadsFew}
use Rattle.cg_io.specs.Waits.{how_many}
use Rattle.node_reads.specs.Headers.{table_rows}
use Rattle.adf_records.specs.declared.NodeHeader.{NodeHeader}
use Rattle.tree_laws.specs.Pays.{edit_blocks}
use Rattle.tree_laws.proofs.Groups.Pays.{edit_pays}
use Rattle.tree_edits.specs.declared.memory.Core.{Core}
use Rattle.tree_edits.specs.declared.rows.Row.{Row}
use Rattle.tree_edits.specs.Causes.{named_row, HeaderBreaks, IsLabelCause, MaySetLabel}
use Rattle.tree_edits.specs.Created.{IsCreatable, IsCreateCause, CreatesWithin}
use Rattle.tree_edits.specs.Edits.{Does, Refuses, KeepsCore, memory_of}
use Rattle.tree_edits.specs.Linkable.{IsLinkable, IsLinkCause, LinksWithin}
use Rattle.tree_edits.specs.Listed.{TableBreaks, IsUnlisted, ReadsTable}
use Rattle.tree_edits.specs.Names.{IsNameCause, IsTableAbove, MayRename}
use Rattle.tree_edits.specs.Rows.{AreNear, Means, IsRowOf}
use Rattle.tree_edits.specs.Waiting.{Reaches}
use Rattle.tree_edits.proofs.Kids.{count_is, kids_are}
use Rattle.cg_io.proofs.ReadLaws.{few_only, only_none}
use Rattle.tree_edits.proofs.TableReads.{table_reads}
use Rattle.adf_tree.proofs.HeaderRules.{header_rule}
use Rattle.adf_tree.specs.Steps.{EditAnswers, IsStepCause, IsWithinCost}

-- ---- rules

table_rule : (header : NodeHeader) (place : ℕ) (f : Fault) → first_broken (table_rows header place) ≡ Some f → IsRule f.rule
table_rule header place f e = by_tests _ _ _ _ e
  where
    by_tests : (a b : Bool) (m n : ℕ) → cond a (cond b None (Some (record { rule = 23; place = n }))) (Some (record { rule = 22; place = m })) ≡ Some f → IsRule f.rule
    by_tests true true m n e = cc
    by_tests true false m n e = let same : f.rule ≡ 23 = cc in (omega (arith, same), omega (arith, same))
    by_tests false b m n e = let same : f.rule ≡ 22 = cc in (omega (arith, same), omega (arith, same))

pub breaks_rule : (wide : Bool) (held : Option (List ℕ)) (place rule at : ℕ) → TableBreaks wide held place rule at → IsRule rule
breaks_rule wide held place rule at (inl b) = header_rule wide held place rule at b
breaks_rule wide held place rule at (inr b) = table_rule b.header place (record { rule = rule; place = at }) b.fails

pub unlisted_rule : (core : Core) (held : Option (List ℕ)) (place parent rule at : ℕ) → IsUnlisted core held place parent rule at → IsRule rule
unlisted_rule core held place parent rule at (inl b) = breaks_rule core.wide held b.above.place rule at b.breaks
unlisted_rule core held place parent rule at (inr b) = let e = b.0 in (omega (arith, e), omega (arith, e))

-- ---- causes

label_cause : (core : Core) (node : NodeId) (label : List ℕ) (held : Option (List ℕ)) (before now : ℕ) (e : AdfError) → IsSome (named_row core node)
    → IsLabelCause core node label held before now e → IsStepCause (SetLabel node label) before now e
label_cause core node label held before now error.Memory there c = tt
label_cause core node label held before now error.ReadFault there c = c.1
label_cause core node label held before now (error.Layout rule at) there c = by_row (named_row core node) there c
  where
    by_row : (o : Option Row) → IsSome o → IfSome o (λ (row : Row). HeaderBreaks core.wide held row.place rule at) → IsRule rule
    by_row None there c = cc
    by_row (Some row) there c = header_rule core.wide held row.place rule at c
label_cause core node label held before now error.NoSuchNode there c = (refl, refl)
label_cause core node label held before now error.LinkMissing there c = (refl, refl)
label_cause core node label held before now error.ReadOnly there c = (refl, refl)
label_cause core node label held before now error.BadLabel there c = (refl, refl)
label_cause core node label held before now e there c = absurd c

name_cause : (core : Core) (node : NodeId) (name : List ℕ) (held : Option (List ℕ)) (before now : ℕ) (e : AdfError)
    → IsNameCause core node name held before now e → IsStepCause (Rename node name) before now e
name_cause core node name held before now error.Memory c = tt
name_cause core node name held before now error.ReadFault c = c.1
name_cause core node name held before now (error.Layout rule at) c = unlisted_rule core held c.0.row.place c.0.parent rule at c.1
name_cause core node name held before now error.NoSuchNode c = (refl, refl)
name_cause core node name held before now error.ReadOnly c = (refl, refl)
name_cause core node name held before now error.NotAChild c = (refl, refl)
name_cause core node name held before now error.BadName c = (refl, refl)
name_cause core node name held before now error.Duplicate c = (refl, refl)
name_cause core node name held before now e c = absurd c

create_cause : (core : Core) (at : NodeId) (name label : List ℕ) (held : Option (List ℕ)) (before now : ℕ) (e : AdfError)
    → IsCreateCause core at name label held before now e → IsStepCause (Create at name label) before now e
create_cause core at name label held before now error.Memory c = tt
create_cause core at name label held before now error.ReadFault c = c.1
create_cause core at name label held before now (error.Full asked end) c = (refl, refl)
create_cause core at name label held before now (error.Layout rule place) (inl c) = breaks_rule core.wide held c.0.place rule place c.2
create_cause core at name label held before now (error.Layout rule place) (inr c) = c.1
create_cause core at name label held before now error.NoSuchNode c = (refl, refl)
create_cause core at name label held before now error.LinkMissing c = (refl, refl)
create_cause core at name label held before now error.ReadOnly c = (refl, refl)
create_cause core at name label held before now error.BadName c = (refl, refl)
create_cause core at name label held before now error.BadLabel c = (refl, refl)
create_cause core at name label held before now error.Duplicate c = (refl, refl)
create_cause core at name label held before now error.TooManyChildren c = (refl, refl)
create_cause core at name label held before now error.TooDeep c = (refl, refl)
create_cause core at name label held before now error.TooLarge c = (refl, refl)
create_cause core at name label held before now e c = absurd c

link_cause : (core : Core) (at : NodeId) (name file path : List ℕ) (held : Option (List ℕ)) (before now : ℕ) (e : AdfError)
    → IsLinkCause core at name file path held before now e → IsStepCause (Link at name file path) before now e
link_cause core at name file path held before now error.Memory c = tt
link_cause core at name file path held before now error.ReadFault c = c.1
link_cause core at name file path held before now (error.Full asked end) c = (refl, refl)
link_cause core at name file path held before now (error.Layout rule place) (inl c) = breaks_rule core.wide held c.0.place rule place c.2
link_cause core at name file path held before now (error.Layout rule place) (inr c) = c.1
link_cause core at name file path held before now error.NoSuchNode c = (refl, refl)
link_cause core at name file path held before now error.LinkMissing c = (refl, refl)
link_cause core at name file path held before now error.ReadOnly c = (refl, refl)
link_cause core at name file path held before now error.BadName c = (refl, refl)
link_cause core at name file path held before now error.BadLabel c = let no : true ≡ false = c.3 in cc
link_cause core at name file path held before now error.BadLink c = (refl, refl)
link_cause core at name file path held before now error.Duplicate c = (refl, refl)
link_cause core at name file path held before now error.TooManyChildren c = (refl, refl)
link_cause core at name file path held before now error.TooDeep c = (refl, refl)
link_cause core at name file path held before now error.TooLarge c = (refl, refl)
link_cause core at name file path held before now e c = absurd c

-- ---- nodes that are not there

abbrev no_row : Core → NodeId → Type 0
no_row core node = named_row core node ≡ None

not_live : (core : Core) (node : NodeId) (image : List ℕ) (tree : Tree) (p : Placement) → Means image tree p (memory_of core) → no_row core node → node_at tree node.serial ≡ None
not_live core node image tree p m none = subst (IsRowOf tree p node.serial) none (m.table.each node.serial)

entry_refuses : (writable : Bool) (tree : Tree) (edit : Edit) → list_any (λ (n : NodeId). not (is_live tree n.serial)) (named_nodes edit) ≡ true
    → file_step writable tree edit ≡ Err error.NoSuchNode
entry_refuses writable tree edit h = ap (λ (b : Bool). checked ((b, error.NoSuchNode) ∷ []) (and_then (resolve_by (stay tree) edit) (apply_where writable tree))) h

label_of_none : (core : Core) (node : NodeId) (label : List ℕ) (held : Option (List ℕ)) → no_row core node → IfSome held (Refuses (SetLabel node label) core error.NoSuchNode)
label_of_none core node label None none = tt
label_of_none core node label (Some image) none = λ tree p m.
    entry_refuses core.writable tree (SetLabel node label) (ap (λ (o : Option Node). not (is_some o) || false) (not_live core node image tree p m none))

-- ---- the answers

pub same_core : (core : Core) → KeepsCore core core
same_core core = record { rows = refl; heap = refl; limit = refl; wide = refl; writable = refl }

-- few blocks more are within what an edit costs
pays : (edit : Edit) (core : Core) (before now : List ℕ) (n : ℕ) (held : Option (List ℕ)) → how_many now ≤ how_many before + n
    → ((tree : Tree) (chunks : ℕ → ℕ) → n ≤ edit_blocks tree chunks edit) → IfSome held (IsWithinCost edit core before now)
pays edit core before now n None le few = tt
pays edit core before now n (Some image) le few = λ tree p m. (let a = few tree (chunk_number p) in let b = edit_pays tree (chunk_number p) edit in omega (arith, le, a, b))

module _ {S : Type 0} (is_sound : S → Type 0) (image : S → Option (List ℕ)) (state : S → DeviceState) (waiting : S → List ℕ) (core : Core) (node : NodeId) (label : List ℕ) (old new : S) (near : AreNear core.wide core.rows.items) where
  pub label_none : is_sound old → no_row core node → EditAnswers is_sound image state waiting (SetLabel node label) core core old old (Err error.NoSuchNode)
  label_none sound none = record {
    sound = sound;
    done = tt;
    serial = tt;
    allowed = tt;
    refused = label_of_none core node label (image old) none;
    kept = same_core core;
    near = near;
    effect = only_none (state old);
    cost = tt;
    reached = tt;
    cause = (refl, refl);
  }

  pub label_done : Both (Does (SetLabel node label) core core) (image old) (image new) → IfSome (image old) (Reaches (SetLabel node label) core core (waiting old) (waiting new)) → MaySetLabel core node label (image old)
      → AnswersWrite {T = Unit {0}} is_sound state waiting 2 (ReadsFew 4) (IsLabelCause core node label (image old)) old new (Ok tt)
      → EditAnswers is_sound image state waiting (SetLabel node label) core core old new (Ok None)
  label_done does reaches may writes = record {
    sound = writes.sound;
    done = does;
    serial = refl;
    allowed = may.allowed;
    refused = tt;
    kept = same_core core;
    near = near;
    effect = few_only 4 (state old) (state new) writes.effect;
    cost = pays (SetLabel node label) core (waiting old) (waiting new) 2 (image old) writes.waits (λ tree chunks. omega arith);
    reached = reaches;
    cause = tt;
  }

  pub label_refused : (e : AdfError) → IsSome (named_row core node) → IfSome (image old) (Refuses (SetLabel node label) core e)
      → AnswersWrite {T = Unit {0}} is_sound state waiting 2 (ReadsFew 4) (IsLabelCause core node label (image old)) old new (Err e)
      → EditAnswers is_sound image state waiting (SetLabel node label) core core old new (Err e)
  label_refused e there refuses writes = record {
    sound = writes.sound;
    done = tt;
    serial = tt;
    allowed = tt;
    refused = refuses;
    kept = same_core core;
    near = near;
    effect = few_only 4 (state old) (state new) writes.effect;
    cost = tt;
    reached = tt;
    cause = label_cause core node label (image old) (state old).faults (state new).faults e there writes.cause;
  }

module _ {S : Type 0} (is_sound : S → Type 0) (image : S → Option (List ℕ)) (state : S → DeviceState) (waiting : S → List ℕ) (core : Core) (node : NodeId) (name : List ℕ) (old new : S) (near : AreNear core.wide core.rows.items) where
  abbrev effects : DeviceState → DeviceState → Type 0
  effects = ReadsTable (IsTableAbove core node (image old)) 2 6

  writable_of : MayRename core node name (image old) → core.writable ≡ true
  writable_of may = may.may.allowed

  pub name_done : Both (Does (Rename node name) core core) (image old) (image new) → IfSome (image old) (Reaches (Rename node name) core core (waiting old) (waiting new)) → MayRename core node name (image old)
      → AnswersWrite {T = Unit {0}} is_sound state waiting 4 effects (IsNameCause core node name (image old)) old new (Ok tt)
      → EditAnswers is_sound image state waiting (Rename node name) core core old new (Ok None)
  name_done does reaches may writes = record {
    sound = writes.sound;
    done = does;
    serial = refl;
    allowed = writable_of may;
    refused = tt;
    kept = same_core core;
    near = near;
    effect = table_reads (IsTableAbove core node (image old)) 2 6 (state old) (state new) writes.effect;
    cost = pays (Rename node name) core (waiting old) (waiting new) 4 (image old) writes.waits (λ tree chunks. omega arith);
    reached = reaches;
    cause = tt;
  }

  pub name_refused : (e : AdfError) → IfSome (image old) (Refuses (Rename node name) core e)
      → AnswersWrite {T = Unit {0}} is_sound state waiting 4 effects (IsNameCause core node name (image old)) old new (Err e)
      → EditAnswers is_sound image state waiting (Rename node name) core core old new (Err e)
  name_refused e refuses writes = record {
    sound = writes.sound;
    done = tt;
    serial = tt;
    allowed = tt;
    refused = refuses;
    kept = same_core core;
    near = near;
    effect = table_reads (IsTableAbove core node (image old)) 2 6 (state old) (state new) writes.effect;
    cost = tt;
    reached = tt;
    cause = name_cause core node name (image old) (state old).faults (state new).faults e writes.cause;
  }

-- ---- a new node

-- so many blocks are within what a new child of a parent of so many costs
create_costs : (wide : Bool) (c entries : ℕ) → 11 + (if nat_lt c entries then 4 else 33 + table_length (grown_entries c) / 4096) ≤ 64 + (node_length wide + 44 * (2 * c + 8) + 4095) / 4096
create_costs wide c entries = by_test (nat_lt c entries)
  where
    by_test : (b : Bool) → 11 + (if b then 4 else 33 + table_length (grown_entries c) / 4096) ≤ 64 + (node_length wide + 44 * (2 * c + 8) + 4095) / 4096
    by_test true = omega arith
    by_test false = omega arith

module _ (core : Core) (at : NodeId) (name label : List ℕ) (before now : List ℕ) (n : ℕ) (le : how_many now ≤ how_many before + n) where
  create_within : (held : Option (List ℕ)) → CreatesWithin core at held n → IfSome held (IsWithinCost (Create at name label) core before now)
  create_within None c = tt
  create_within (Some image) c = λ tree p m. by_table tree p m c
    where
      by_table : (tree : Tree) (p : Placement) → Means image tree p (memory_of core) → CreatesWithin core at (Some image) n → how_many now ≤ how_many before + cost tree (chunk_number p) (Create at name label)
      by_table tree p m (inl none) = omega (arith, le, none)
      by_table tree p m (inr t) =
          let its = t.1 in
          let many : t.0.count ≡ length (children_at tree at.serial)
          = count_is image core at.serial its.above its.found tree p m t.0 its.named ∙ ap length (sym (kids_are image core at.serial its.above its.found tree p m t.0 its.named)) in
          let most = create_costs tree.wide t.0.count t.0.entries in
          let is = t.2 in
          let paid : n ≤ cost tree (chunk_number p) (Create at name label)
          = subst (λ (c : ℕ). n ≤ 64 * (1 + 0 + 0) + (node_length tree.wide + 44 * (2 * c + 8) + 4095) / 4096) many (omega (arith, is, most)) in
          omega (arith, le, paid)

module _ {S : Type 0} (is_sound : S → Type 0) (image : S → Option (List ℕ)) (state : S → DeviceState) (waiting : S → List ℕ) (core after : Core) (at : NodeId) (name label : List ℕ) (old new : S)
    (kept : KeepsCore core after) (near : AreNear after.wide after.rows.items)
  where
    pub create_done : (serial : ℕ) → Both (Does (Create at name label) core after) (image old) (image new) → IfSome (image old) (Reaches (Create at name label) core after (waiting old) (waiting new)) → serial ≡ length core.rows.items → IsCreatable core at name label (image old)
        → ((n : ℕ) × CreatesWithin core at (image old) n × AnswersWrite {T = ℕ} is_sound state waiting n OnlyReads (IsCreateCause core at name label (image old)) old new (Ok serial))
        → EditAnswers is_sound image state waiting (Create at name label) core after old new (Ok (Some serial))
    create_done serial does reaches drawn may w = record {
      sound = w.2.sound;
      done = does;
      serial = ap (λ (n : ℕ). Some n) drawn;
      allowed = may.1.asked.may.allowed;
      refused = tt;
      kept = kept;
      near = near;
      effect = w.2.effect;
      cost = create_within core at name label (waiting old) (waiting new) w.0 w.2.waits (image old) w.1;
      reached = reaches;
      cause = tt;
    }

    pub create_refused : (e : AdfError) → IfSome (image old) (Refuses (Create at name label) core e)
        → ((n : ℕ) × CreatesWithin core at (image old) n × AnswersWrite {T = ℕ} is_sound state waiting n OnlyReads (IsCreateCause core at name label (image old)) old new (Err e))
        → EditAnswers is_sound image state waiting (Create at name label) core after old new (Err e)
    create_refused e refuses w = record {
      sound = w.2.sound;
      done = tt;
      serial = tt;
      allowed = tt;
      refused = refuses;
      kept = kept;
      near = near;
      effect = w.2.effect;
      cost = tt;
      reached = tt;
      cause = create_cause core at name label (image old) (state old).faults (state new).faults e w.2.cause;
    }

-- ---- a new link

-- so many blocks are within what a new link to a text of so many bytes costs
link_costs : (wide : Bool) (c entries n : ℕ) → 32 + (if nat_lt c entries then 4 else 33 + table_length (grown_entries c) / 4096) ≤ 64 + (node_length wide + 44 * (2 * c + 8) + chunk_length_for n + 4095) / 4096
link_costs wide c entries n = by_test (nat_lt c entries)
  where
    by_test : (b : Bool) → 32 + (if b then 4 else 33 + table_length (grown_entries c) / 4096) ≤ 64 + (node_length wide + 44 * (2 * c + 8) + chunk_length_for n + 4095) / 4096
    by_test true = omega arith
    by_test false = omega arith

module _ (core : Core) (at : NodeId) (name file path : List ℕ) (before now : List ℕ) (n : ℕ) (le : how_many now ≤ how_many before + n) where
  link_within : (held : Option (List ℕ)) → LinksWithin core at held n → IfSome held (IsWithinCost (Link at name file path) core before now)
  link_within None c = tt
  link_within (Some image) c = λ tree p m. by_table tree p m c
    where
      by_table : (tree : Tree) (p : Placement) → Means image tree p (memory_of core) → LinksWithin core at (Some image) n → how_many now ≤ how_many before + cost tree (chunk_number p) (Link at name file path)
      by_table tree p m (inl none) = omega (arith, le, none)
      by_table tree p m (inr t) =
          let its = t.1 in
          let many : t.0.count ≡ length (children_at tree at.serial)
          = count_is image core at.serial its.above its.found tree p m t.0 its.named ∙ ap length (sym (kids_are image core at.serial its.above its.found tree p m t.0 its.named)) in
          let text = length (link_text file path) in
          let most = link_costs tree.wide t.0.count t.0.entries text in
          let is = t.2 in
          let paid : n ≤ cost tree (chunk_number p) (Link at name file path)
          = subst (λ (c : ℕ). n ≤ 64 * (1 + 0 + 0) + (node_length tree.wide + 44 * (2 * c + 8) + chunk_length_for text + 4095) / 4096) many (omega (arith, is, most)) in
          omega (arith, le, paid)

module _ {S : Type 0} (is_sound : S → Type 0) (image : S → Option (List ℕ)) (state : S → DeviceState) (waiting : S → List ℕ) (core after : Core) (at : NodeId) (name file path : List ℕ) (old new : S)
    (kept : KeepsCore core after) (near : AreNear after.wide after.rows.items)
  where
    pub link_done : (serial : ℕ) → Both (Does (Link at name file path) core after) (image old) (image new) → IfSome (image old) (Reaches (Link at name file path) core after (waiting old) (waiting new)) → serial ≡ length core.rows.items → IsLinkable core at name file path (image old)
        → ((n : ℕ) × LinksWithin core at (image old) n × AnswersWrite {T = ℕ} is_sound state waiting n OnlyReads (IsLinkCause core at name file path (image old)) old new (Ok serial))
        → EditAnswers is_sound image state waiting (Link at name file path) core after old new (Ok (Some serial))
    link_done serial does reaches drawn may w = record {
      sound = w.2.sound;
      done = does;
      serial = ap (λ (n : ℕ). Some n) drawn;
      allowed = may.1.room.asked.may.allowed;
      refused = tt;
      kept = kept;
      near = near;
      effect = w.2.effect;
      cost = link_within core at name file path (waiting old) (waiting new) w.0 w.2.waits (image old) w.1;
      reached = reaches;
      cause = tt;
    }

    pub link_refused : (e : AdfError) → IfSome (image old) (Refuses (Link at name file path) core e)
        → ((n : ℕ) × LinksWithin core at (image old) n × AnswersWrite {T = ℕ} is_sound state waiting n OnlyReads (IsLinkCause core at name file path (image old)) old new (Err e))
        → EditAnswers is_sound image state waiting (Link at name file path) core after old new (Err e)
    link_refused e refuses w = record {
      sound = w.2.sound;
      done = tt;
      serial = tt;
      allowed = tt;
      refused = refuses;
      kept = kept;
      near = near;
      effect = w.2.effect;
      cost = tt;
      reached = tt;
      cause = link_cause core at name file path (image old) (state old).faults (state new).faults e w.2.cause;
    }
