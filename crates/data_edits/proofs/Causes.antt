-- Facts of the node of an edit of data, as each edit needs them.
use Rattle.std.proofs.Common.{inl, ℕ, List, Option, None, Some}
use Rattle.std.specs.Prelude.{IfSome}
use Rattle.adf_format.specs.Placement.{Placement}
use Rattle.adf_format.specs.Tree.{Tree}
use Rattle.adf_model.specs.declared.error.AdfError.{AdfError}
use Rattle.adf_model.specs.declared.error.AdfError.TheVariants as error
use Rattle.adf_model.specs.declared.tree.Edit.{Edit}
use Rattle.adf_model.specs.declared.tree.NodeId.{NodeId}
use Rattle.adf_model.specs.declared.tree.Shape.{Shape}
use Rattle.file_heap.specs.Heap.{IsThreaded}
use Rattle.tree_edits.specs.declared.memory.Core.{Core}
use Rattle.tree_edits.specs.Rows.{Means}
use Rattle.tree_edits.specs.Edits.{memory_of, Refuses}
use Rattle.data_edits.specs.Found.{IsOfNode, RefusesEach, IsNodeCause}
use Rattle.data_edits.specs.Shaped.{IsShapeCause}

-- what each edit is refused for, one is
pub each_one : (core : Core) (node : NodeId) (edit : Edit) → IsOfNode edit node → (held : Option (List ℕ)) (e : AdfError) → IfSome held (RefusesEach core node e) → IfSome held (Refuses edit core e)
each_one core node edit is None e r = tt
each_one core node edit is (Some image) e r = r edit is

pub threaded : (core : Core) (held : Option (List ℕ)) → IfSome held (λ bytes. (tree : Tree) × (p : Placement) × Means bytes tree p (memory_of core)) → IfSome held (IsThreaded core.heap.work)
threaded core None means = tt
threaded core (Some image) means = means.2.threads

pub node_is_cause : (core : Core) (node : NodeId) (shape : Shape) (held : Option (List ℕ)) (before now : ℕ) (e : AdfError) → IsNodeCause core node held before now e → IsShapeCause core node shape held before now e
node_is_cause core node shape held before now error.Memory c = absurd c
node_is_cause core node shape held before now error.BadShape c = absurd c
node_is_cause core node shape held before now error.TooLarge c = absurd c
node_is_cause core node shape held before now (error.Full asked end) c = absurd c
node_is_cause core node shape held before now (error.Layout rule at) c = inl c
node_is_cause core node shape held before now other c = c
