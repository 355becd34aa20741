-- An edit behind a look at the children of the node that it gives a child.
use Rattle.std.proofs.Common.{◌≡◌, ◌≤◌, ℕ, refl, sym, ◌∙◌, ap, subst, List, Bool, true, false, []}
use Rattle.std.specs.Prelude.{Option, Some, None, IfErr, IfSome, IsSome, Result, Ok, Err, if◌then◌else◌, ◌&&◌}
use Rattle.adf_format.specs.Names.{is_label, is_name}
use Rattle.adf_model.proofs.Basics.{same_Some}
use Rattle.adf_model.specs.Counts.{DeviceState, OnlyReads, Rose}
use Rattle.adf_model.specs.declared.error.AdfError.{AdfError}
use Rattle.adf_model.specs.declared.error.AdfError.TheVariants as error
use Rattle.adf_model.specs.declared.tree.Edit.{Edit}
use Rattle.adf_model.specs.declared.tree.Edit.TheVariants.{Create, Link}
use Rattle.adf_model.specs.declared.tree.NodeId.{NodeId}
use Rattle.cg_io.proofs.ReadLaws.{only_then, rose_later}
use Rattle.node_reads.specs.Reads.{IsUnread}
use Rattle.tree_edits.specs.declared.memory.Core.{Core}
use Rattle.tree_edits.specs.Edits.{Refuses}
use Rattle.tree_edits.specs.Rows.{row_of}
use Rattle.tree_edits.proofs.Rooms.{refused_fault}
use Rattle.tree_edits.proofs.Tables.{there}
use Rattle.adf_tree.specs.Commits.{undone}
use Rattle.adf_tree.specs.Files.{FileState}
use Rattle.adf_tree.specs.Headers.{Looks}
use Rattle.adf_tree.specs.KeptLists.{IsReadStop, new_parent}
use Rattle.adf_tree.specs.Reached.{or_reached, with_reached}
use Rattle.adf_tree.proofs.ReachedEdits.{reached_create, reached_link}
use Rattle.adf_tree.specs.Steps.{IsStepCause, Refused, StepEnds, Stepped, undone_over}

two_ways : (b : Bool) → b ≡ false → b ≡ true → ⊥
two_ways b is e = cc

-- ---- a look, and then the edit

later_cause : (edit : Edit) (before middle now : ℕ) (e : AdfError) → before ≤ middle → IsStepCause edit middle now e → IsStepCause edit before now e
later_cause edit before middle now error.ReadFault le h = rose_later before middle now le h
later_cause edit before middle now e le h = h

refused_behind : (edit : Edit) (old : FileState) (d : DeviceState) (new : FileState) (e : AdfError) → OnlyReads old.device d → Refused edit e (record old { device = d }) new → Refused edit e old new
refused_behind edit old d new e looks r = record {
  live = r.live;
  why = r.why;
  cause = later_cause edit old.device.faults d.faults new.device.faults e looks.faults r.cause;
  device = only_then old.device d new.device looks r.device;
  undone = r.undone;
}

behind_look : (edit : Edit) (old : FileState) (d : DeviceState) (new : FileState) (result : Result (Option ℕ) AdfError) → old.broken ≡ false → OnlyReads old.device d → StepEnds edit result (record old { device = d }) new → StepEnds edit result old new
behind_look edit old d new (Ok serial) live looks s = record {
  live = s.live;
  broken = s.broken;
  allowed = s.allowed;
  steps = s.steps;
  kept = s.kept;
  device = only_then old.device d new.device looks s.device;
  done = s.done;
  drawn = s.drawn;
  cost = s.cost;
  reached = s.reached;
}
behind_look edit old d new (Err error.Broken) live looks s = absurd (two_ways old.broken live s.0)
behind_look edit old d new (Err e) live looks s = refused_behind edit old d new e looks s

pub step_behind : (edit : Edit) (result : Result (Option ℕ) AdfError) (old mid new : FileState) → old.broken ≡ false → Looks old mid → StepEnds edit result mid new → StepEnds edit result old new
step_behind edit result old mid new live looks ends = behind_look edit old mid.device new result live looks.device (subst (λ (file : FileState). StepEnds edit result file new) looks.stays ends)

-- ---- a look that fails

only_fault : (before now : ℕ) (e : AdfError) → IsUnread (λ rule place. ⊥) before now e → (e ≡ error.ReadFault) × Rose before now
only_fault before now error.ReadFault h = (refl, h)
only_fault before now (error.Layout rule place) h = absurd h
only_fault before now e h = absurd h

pub read_stop : (edit : Edit) (old new : FileState) (at : NodeId) → new_parent edit ≡ Some at → old.core.writable ≡ true → (result : Result (Unit {0}) AdfError) → IfErr result (λ e. IsSome (row_of old.core.rows.items at.serial))
    → IfErr result (IsUnread (λ rule place. ⊥) old.device.faults new.device.faults) → IfErr result (IsReadStop edit old new)
read_stop edit old new at parent allowed (Ok x) live cause = tt
read_stop edit old new at parent allowed (Err e) live cause =
    let fault = only_fault old.device.faults new.device.faults e cause in
    record { at = at; parent = parent; live = live; allowed = allowed; read = fault.0; rose = fault.1 }

given : (b : Bool) (node at : NodeId) → (if b then Some node else None) ≡ Some at → node ≡ at
given true node at e = same_Some node at e
given false node at e = cc

module _ (core : Core) (held : Option (List ℕ)) (at : NodeId) (live : IsSome (row_of core.rows.items at.serial)) where
  fault : (name label : List ℕ) (node : NodeId) → node ≡ at → IfSome held (Refuses (Create node name label) core error.ReadFault)
  fault name label node is =
      let row = there (row_of core.rows.items at.serial) live in
      subst (λ (n : NodeId). IfSome held (Refuses (Create n name label) core error.ReadFault)) (sym is) (refused_fault core at name label row.0 row.1 held)

  link_fault : (h : Option (List ℕ)) (node : NodeId) (name file path : List ℕ) → IfSome h (Refuses (Create node name []) core error.ReadFault) → IfSome h (Refuses (Link node name file path) core error.ReadFault)
  link_fault None node name file path f = tt
  link_fault (Some image) node name file path f = f

  stop_refused : (edit : Edit) → new_parent edit ≡ Some at → IfSome held (Refuses edit core error.ReadFault)
  stop_refused (Create node name label) e = fault name label node (given (is_name name && is_label label) node at e)
  stop_refused (Link node name file path) e = link_fault held node name file path (fault name [] node (given (is_name name) node at e))
  stop_refused edit e = cc

pub look_refused : (edit : Edit) (e : AdfError) (old mid new : FileState) → old.broken ≡ false → Looks old mid → IsReadStop edit old mid e → new ≡ undone mid → StepEnds edit (Err e) old new
look_refused edit e old mid new live looks stop same = subst (λ (x : AdfError). StepEnds edit (Err x) old new) (sym stop.read) (record {
  live = live;
  why = stop_refused old.core old.image stop.at stop.live edit stop.parent;
  cause = subst (λ (n : ℕ). IsStepCause edit old.device.faults n error.ReadFault) (sym (ap (λ (file : FileState). file.device.faults) same)) stop.rose;
  device = subst (λ (file : FileState). OnlyReads old.device file.device) (sym same) looks.device;
  undone = subst (λ (file : FileState). file ≡ undone_over file.device old) (sym same) (ap undone looks.stays);
})

-- ---- the node that an edit gives a child

abbrev only_if : Bool → NodeId → Option NodeId
only_if named node = if named then Some node else None

module _ (edit : Edit) (there : Option NodeId) (at node : NodeId) (name given : List ℕ) (named : Bool) (result : Option NodeId) where
  pub create_parent : (label called : List ℕ) → edit ≡ Create at name label → result ≡ (if named then Some node else None) → named ≡ (is_name given && is_label called) → node ≡ or_reached at there → given ≡ name → called ≡ label
      → result ≡ new_parent (with_reached edit there)
  create_parent label called is made fits to same also = made ∙ ap (λ (b : Bool). only_if b node) fits ∙ ap new_parent (reached_create edit there at node name label given called is to same also)

  pub link_parent : (file path : List ℕ) → edit ≡ Link at name file path → result ≡ (if named then Some node else None) → named ≡ is_name given → node ≡ or_reached at there → given ≡ name
      → result ≡ new_parent (with_reached edit there)
  link_parent file path is made fits to same = made ∙ ap (λ (b : Bool). only_if b node) fits ∙ ap new_parent (reached_link edit there at node name file path given file path is to same refl refl)

-- an edit that makes no node gives none a child
pub no_parent : (edit : Edit) (there : Option NodeId) → ((a : NodeId) (b c : List ℕ) → edit ≡ Create a b c → ⊥) → ((a : NodeId) (b c d : List ℕ) → edit ≡ Link a b c d → ⊥) → new_parent (with_reached edit there) ≡ None
no_parent (Create at name label) there create link = absurd (create at name label refl)
no_parent (Link at name file path) there create link = absurd (link at name file path refl)
no_parent edit None create link = refl
no_parent edit (Some node) create link = refl
