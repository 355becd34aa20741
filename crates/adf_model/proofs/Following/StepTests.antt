-- Within one file an edit is of the very nodes that it names, and its tests stand in one row.
use Rattle.std.proofs.Common.{◌≡◌, Bool, true, false, not, [], ◌∷◌, ◌++◌, refl, sym, ap}
use Rattle.std.specs.Prelude.{Option, Some, None, if◌then◌else◌, Result, Ok, Err}
use Rattle.adf_model.specs.declared.error.AdfError.{AdfError}
use Rattle.adf_model.specs.declared.error.AdfError.TheVariants.{ReadOnly, LinkMissing}
use Rattle.adf_model.specs.declared.tree.Edit.{Edit}
use Rattle.adf_model.specs.declared.tree.Edit.TheVariants.{Create, Delete, Rename, Move, SetLabel, SetDims, PutAll, PutPart, Link}
use Rattle.adf_model.specs.declared.tree.NodeId.{NodeId}
use Rattle.adf_model.specs.Tests.{checked, and_then}
use Rattle.adf_format.specs.Tree.{Tree, node_at, is_link_in}
use Rattle.adf_model.specs.Follow.{stay, Spot}
use Rattle.adf_model.specs.Edits.{apply, named_nodes, followed, with_followed, names_link, resolved_by, live_tests, apply_where, reach_tests, file_step}
use Rattle.adf_model.proofs.Basics.{not_there, same_Some}

-- an edit is the same with its own followed node
pub followed_same : (edit : Edit) (node : NodeId) → followed edit ≡ Some node → with_followed edit node ≡ edit
followed_same (Create at wanted label) node e = ap (λ n. Create n wanted label) (sym (same_Some at node e))
followed_same (Delete at) node e = absurd (not_there node e)
followed_same (Rename at wanted) node e = absurd (not_there node e)
followed_same (Move at to) node e = ap (λ n. Move at n) (sym (same_Some to node e))
followed_same (SetLabel at label) node e = ap (λ n. SetLabel n label) (sym (same_Some at node e))
followed_same (SetDims at shape) node e = ap (λ n. SetDims n shape) (sym (same_Some at node e))
followed_same (PutAll at given) node e = ap (λ n. PutAll n given) (sym (same_Some at node e))
followed_same (PutPart at selection given) node e = ap (λ n. PutPart n selection given) (sym (same_Some at node e))
followed_same (Link at wanted file path) node e = ap (λ n. Link n wanted file path) (sym (same_Some at node e))

-- no link is followed, and one that is named is refused
stays_here : {A : Type 0} (tree : Tree) (edit : Edit) (next : Edit → Result A AdfError) (o : Option NodeId) → followed edit ≡ o
    → and_then (resolved_by (stay tree) edit o) next ≡ checked ((names_link tree o, LinkMissing) ∷ []) (next edit)
stays_here tree edit next None e = refl
stays_here {A = A} tree edit next (Some node) e = by_link (is_link_in (node_at tree node.serial))
  where
    nowhere : Result Spot AdfError
    nowhere = Err LinkMissing

    refused : Result A AdfError
    refused = Err LinkMissing

    by_link : (b : Bool) → and_then (and_then (and_then (if b then nowhere else Ok (record { node = node; left = 100 })) (λ spot. Ok spot.node)) (λ there. Ok (with_followed edit there))) next ≡ (if b then refused else next edit)
    by_link true = refl
    by_link false = ap next (followed_same edit node e)

-- the tests of an edit in one row
pub step_tests : (writable : Bool) (tree : Tree) (edit : Edit) → file_step writable tree edit ≡ checked (reach_tests tree edit ++ (not writable, ReadOnly) ∷ []) (apply tree edit)
step_tests writable tree edit = ap (checked (live_tests tree (named_nodes edit))) (stays_here tree edit (apply_where writable tree) (followed edit) refl)
