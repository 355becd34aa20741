-- Edits of a node that was reached.
use Rattle.std.proofs.Common.{◌≡◌, refl, sym, ◌∙◌, ap, List, ℕ}
use Rattle.std.specs.Prelude.{Option, Some, None}
use Rattle.adf_model.specs.declared.tree.Edit.{Edit}
use Rattle.adf_model.specs.declared.tree.Edit.TheVariants.{Create, Delete, Link, Move, PutAll, PutPart, Rename, SetDims, SetLabel}
use Rattle.adf_model.specs.declared.tree.NodeId.{NodeId}
use Rattle.adf_model.specs.declared.tree.Selection.{Selection}
use Rattle.adf_model.specs.declared.tree.Shape.{Shape}
use Rattle.adf_tree.specs.Reached.{or_reached, with_reached}

reached_parent : (at : NodeId) (name label : List ℕ) (there : Option NodeId) → Create (or_reached at there) name label ≡ with_reached (Create at name label) there
reached_parent at name label None = refl
reached_parent at name label (Some node) = refl

pub reached_create : (edit : Edit) (there : Option NodeId) (at node : NodeId) (name label given called : List ℕ) → edit ≡ Create at name label → node ≡ or_reached at there → given ≡ name → called ≡ label
    → Create node given called ≡ with_reached edit there
reached_create edit there at node name label given called is to same also =
    ap (λ (n : NodeId). Create n given called) to ∙ ap (λ (xs : List ℕ). Create (or_reached at there) xs called) same ∙ ap (λ (xs : List ℕ). Create (or_reached at there) name xs) also
    ∙ reached_parent at name label there ∙ ap (λ (e : Edit). with_reached e there) (sym is)

reached_node : (at : NodeId) (label : List ℕ) (there : Option NodeId) → SetLabel (or_reached at there) label ≡ with_reached (SetLabel at label) there
reached_node at label None = refl
reached_node at label (Some node) = refl

pub reached_label : (edit : Edit) (there : Option NodeId) (at node : NodeId) (label given : List ℕ) → edit ≡ SetLabel at label → node ≡ or_reached at there → given ≡ label
    → SetLabel node given ≡ with_reached edit there
reached_label edit there at node label given is to same =
    ap (λ (n : NodeId). SetLabel n given) to ∙ ap (λ (xs : List ℕ). SetLabel (or_reached at there) xs) same ∙ reached_node at label there ∙ ap (λ (e : Edit). with_reached e there) (sym is)

named_still : (node : NodeId) (name : List ℕ) (there : Option NodeId) → Rename node name ≡ with_reached (Rename node name) there
named_still node name None = refl
named_still node name (Some other) = refl

pub reached_name : (edit : Edit) (there : Option NodeId) (node : NodeId) (name given : List ℕ) → edit ≡ Rename node name → given ≡ name → Rename node given ≡ with_reached edit there
reached_name edit there node name given is same =
    ap (λ (xs : List ℕ). Rename node xs) same ∙ named_still node name there ∙ ap (λ (e : Edit). with_reached e there) (sym is)

reached_linked : (at : NodeId) (name file path : List ℕ) (there : Option NodeId) → Link (or_reached at there) name file path ≡ with_reached (Link at name file path) there
reached_linked at name file path None = refl
reached_linked at name file path (Some node) = refl

pub reached_link : (edit : Edit) (there : Option NodeId) (at node : NodeId) (name file path given to_file to_path : List ℕ) → edit ≡ Link at name file path → node ≡ or_reached at there → given ≡ name → to_file ≡ file
    → to_path ≡ path → Link node given to_file to_path ≡ with_reached edit there
reached_link edit there at node name file path given to_file to_path is to same also last =
    ap (λ (n : NodeId). Link n given to_file to_path) to ∙ ap (λ (xs : List ℕ). Link (or_reached at there) xs to_file to_path) same ∙ ap (λ (xs : List ℕ). Link (or_reached at there) name xs to_path) also
    ∙ ap (λ (xs : List ℕ). Link (or_reached at there) name file xs) last ∙ reached_linked at name file path there ∙ ap (λ (e : Edit). with_reached e there) (sym is)

deleted_still : (node : NodeId) (there : Option NodeId) → Delete node ≡ with_reached (Delete node) there
deleted_still node None = refl
deleted_still node (Some other) = refl

pub reached_deletion : (edit : Edit) (there : Option NodeId) (node : NodeId) → edit ≡ Delete node → Delete node ≡ with_reached edit there
reached_deletion edit there node is = deleted_still node there ∙ ap (λ (e : Edit). with_reached e there) (sym is)

moved_there : (node at : NodeId) (there : Option NodeId) → Move node (or_reached at there) ≡ with_reached (Move node at) there
moved_there node at None = refl
moved_there node at (Some other) = refl

pub reached_move : (edit : Edit) (there : Option NodeId) (node at to : NodeId) → edit ≡ Move node at → to ≡ or_reached at there → Move node to ≡ with_reached edit there
reached_move edit there node at to is reached = ap (Move node) reached ∙ moved_there node at there ∙ ap (λ (e : Edit). with_reached e there) (sym is)

shaped_there : (at : NodeId) (shape : Shape) (there : Option NodeId) → SetDims (or_reached at there) shape ≡ with_reached (SetDims at shape) there
shaped_there at shape None = refl
shaped_there at shape (Some node) = refl

pub reached_shape : (edit : Edit) (there : Option NodeId) (at node : NodeId) (shape : Shape) → edit ≡ SetDims at shape → node ≡ or_reached at there → SetDims node shape ≡ with_reached edit there
reached_shape edit there at node shape is to = ap (λ (n : NodeId). SetDims n shape) to ∙ shaped_there at shape there ∙ ap (λ (e : Edit). with_reached e there) (sym is)

filled_there : (at : NodeId) (bytes : List ℕ) (there : Option NodeId) → PutAll (or_reached at there) bytes ≡ with_reached (PutAll at bytes) there
filled_there at bytes None = refl
filled_there at bytes (Some node) = refl

pub reached_data : (edit : Edit) (there : Option NodeId) (at node : NodeId) (bytes given : List ℕ) → edit ≡ PutAll at bytes → node ≡ or_reached at there → given ≡ bytes → PutAll node given ≡ with_reached edit there
reached_data edit there at node bytes given is to same =
    ap (λ (n : NodeId). PutAll n given) to ∙ ap (λ (xs : List ℕ). PutAll (or_reached at there) xs) same ∙ filled_there at bytes there ∙ ap (λ (e : Edit). with_reached e there) (sym is)

chosen_there : (at : NodeId) (selection : Selection) (bytes : List ℕ) (there : Option NodeId) → PutPart (or_reached at there) selection bytes ≡ with_reached (PutPart at selection bytes) there
chosen_there at selection bytes None = refl
chosen_there at selection bytes (Some node) = refl

pub reached_part : (edit : Edit) (there : Option NodeId) (at node : NodeId) (selection : Selection) (bytes given : List ℕ) → edit ≡ PutPart at selection bytes → node ≡ or_reached at there → given ≡ bytes
    → PutPart node selection given ≡ with_reached edit there
reached_part edit there at node selection bytes given is to same =
    ap (λ (n : NodeId). PutPart n selection given) to ∙ ap (λ (xs : List ℕ). PutPart (or_reached at there) selection xs) same ∙ chosen_there at selection bytes there
    ∙ ap (λ (e : Edit). with_reached e there) (sym is)
