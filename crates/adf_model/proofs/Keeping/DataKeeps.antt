-- Edits of the shape and the data of a node keep a tree sound.
use Rattle.std.proofs.Common.{◌≡◌, ℕ, ◌-◌, Bool, true, false, not, List, [], ◌∷◌, ◌++◌, length, take, replicate, min, refl, sym, ◌∙◌, ap, subst, arith, length-append}
use Rattle.std.proofs.lemmas.List.{length-take, length-replicate}
use Rattle.std.specs.Prelude.{Option, Some, None, IfSome, option_map, is_some, ◌==◌, ◌&&◌, nat_le, if◌then◌else◌, Ok}
use Rattle.adf_format.specs.declared.types.DataType.{DataType}
use Rattle.adf_format.specs.declared.types.DataType.TheVariants.{Mt, I4, I8, U4, U8, R4, R8, X4, X8, B1, C1, Lk}
use Rattle.adf_format.specs.Names.{data_size, is_same_type, is_mt, is_lk, is_shape_of}
use Rattle.adf_format.specs.Tree.{Node, Tree, node_at, is_link, IsNode, IsTree}
use Rattle.adf_model.specs.declared.error.AdfError.{AdfError}
use Rattle.adf_model.specs.declared.tree.Edit.{Edit}
use Rattle.adf_model.specs.declared.tree.NodeId.{NodeId}
use Rattle.adf_model.specs.declared.tree.Shape.{Shape}
use Rattle.adf_model.specs.Shapes.{dims_of, is_shape}
use Rattle.adf_model.specs.Edits.{apply, with_node, with_shape, keeps_data, resized, shape_tests, data_tests, length_test, size_of}
use Rattle.adf_model.proofs.Basics.{not_true, and_parts, or_none, not_false, equal, same_Ok, passed, found}
use Rattle.adf_model.proofs.Keeping.Keeps.{IsTree-with_node}

-- bytes cut or filled up have the length that was asked
pub length-resized : (bytes : List ℕ) (size : ℕ) → length (resized bytes size) ≡ size
length-resized bytes size =
    let a = length-append (take size bytes) (replicate (size - length bytes) 0) in
    let b : length (take size bytes) ≡ min size (length bytes) = length-take size bytes in
    let c : length {A = ℕ} (replicate (size - length bytes) 0) ≡ size - length bytes = length-replicate (size - length bytes) 0 in
    grind (arith, a, b, c)

-- a type with the number of the empty type is the empty type
mt_alone : (kind : DataType) → is_same_type kind Mt ≡ true → kind ≡ Mt
mt_alone Mt e = refl
mt_alone I4 e = absurd (not_true e)
mt_alone I8 e = absurd (not_true e)
mt_alone U4 e = absurd (not_true e)
mt_alone U8 e = absurd (not_true e)
mt_alone R4 e = absurd (not_true e)
mt_alone R8 e = absurd (not_true e)
mt_alone X4 e = absurd (not_true e)
mt_alone X8 e = absurd (not_true e)
mt_alone B1 e = absurd (not_true e)
mt_alone C1 e = absurd (not_true e)
mt_alone Lk e = absurd (not_true e)

-- the data of a node with another shape
abbrev kept : Bool → Option (List ℕ) → ℕ → Option (List ℕ)
kept keep bytes size = if keep then option_map (λ bs. resized bs size) bytes else None

kept_fit : (keep : Bool) (bytes : Option (List ℕ)) (size : ℕ) → IfSome (kept keep bytes size) (λ bs. length bs ≡ size)
kept_fit false bytes size = tt
kept_fit true None size = tt
kept_fit true (Some bytes) size = length-resized bytes size

not_kept : (keep : Bool) (bytes : Option (List ℕ)) (size : ℕ) → keep ≡ false → kept keep bytes size ≡ None
not_kept true bytes size e = absurd (not_true (sym e))
not_kept false bytes size e = refl

none_kept : (keep : Bool) (bytes : Option (List ℕ)) (size : ℕ) → bytes ≡ None → kept keep bytes size ≡ None
none_kept keep (Some bytes) size e = absurd (some_none bytes e)
  where
    some_none : (bytes : List ℕ) → ◌≡◌ {A = Option (List ℕ)} (Some bytes) None → ⊥
    some_none bytes e = cc
none_kept true None size e = refl
none_kept false None size e = refl

-- without data none are kept
mt_kept : (wide : Bool) (old : Node) (shape : Shape) → IsNode wide old → shape.kind ≡ Mt → (keep : Bool) → keeps_data old shape ≡ keep → kept keep old.bytes (data_size shape.kind (dims_of shape)) ≡ None
mt_kept wide old shape is e false k = refl
mt_kept wide old shape is e true k =
    let first : (is_same_type old.kind shape.kind && (length old.dims == shape.rank)) ≡ true = (and_parts (is_same_type old.kind shape.kind && (length old.dims == shape.rank)) (is_some old.bytes) k).0 in
    let same : is_same_type old.kind shape.kind ≡ true = (and_parts (is_same_type old.kind shape.kind) (length old.dims == shape.rank) first).0 in
    none_kept true old.bytes (data_size shape.kind (dims_of shape)) (is.empty (mt_alone old.kind (subst (λ kind. is_same_type old.kind kind ≡ true) e same)))

not_lk : (shape : Shape) → is_lk shape.kind ≡ false → shape.kind ≡ Lk → ⊥
not_lk shape other e = not_true (sym other ∙ ap is_lk e)

pub IsNode-with_shape : (wide : Bool) (old : Node) (shape : Shape) → IsNode wide old → is_shape wide shape ≡ true → is_lk shape.kind ≡ false → IsNode wide (with_shape old shape)
IsNode-with_shape wide old shape is shaped no_link = record {
  named = is.named;
  labelled = is.labelled;
  shaped = (and_parts (nat_le shape.rank 12) (is_shape_of wide shape.kind (dims_of shape)) shaped).1;
  sized = kept_fit (keeps_data old shape) old.bytes (data_size shape.kind (dims_of shape));
  empty = λ e. mt_kept wide old shape is e (keeps_data old shape) refl;
  link = λ e. absurd (not_lk shape no_link e);
}

-- an edit of a shape keeps the tree sound
pub set_dims_keeps : (tree after : Tree) (node : NodeId) (shape : Shape) → IsTree tree → apply tree (Edit.SetDims node shape) ≡ Ok after → IsTree after
set_dims_keeps tree after node shape is e =
    let at = found (node_at tree node.serial) AdfError.NoSuchNode _ after e in
    let old = at.0 in
    let all = passed (shape_tests tree.wide old shape) (Ok (with_node tree node.serial (with_shape old shape))) after at.2 in
    let first = or_none (not (is_shape tree.wide shape)) (is_lk shape.kind) all.0.0 in
    subst IsTree (same_Ok all.1)
    (IsTree-with_node tree node.serial old (with_shape old shape) at.1 refl refl is (IsNode-with_shape tree.wide old shape (is.each node.serial old at.1) (not_false _ first.0) first.1))

-- a node that is no link with other data of the right length
pub IsNode-with_bytes : (wide : Bool) (old : Node) (bytes : List ℕ) → IsNode wide old → is_link old ≡ false → is_mt old.kind ≡ false → length bytes ≡ size_of old → IsNode wide (record old { bytes = Some bytes })
IsNode-with_bytes wide old bytes is no_link some fit = record {
  named = is.named;
  labelled = is.labelled;
  shaped = is.shaped;
  sized = fit;
  empty = λ e. absurd (not_true (sym some ∙ ap is_mt e));
  link = λ e. absurd (not_true (sym no_link ∙ ap is_lk e));
}

-- where the node is no link
pub put_all_keeps : (tree after : Tree) (node : NodeId) (given : List ℕ) → IsTree tree → ((old : Node) → node_at tree node.serial ≡ Some old → is_link old ≡ false) → apply tree (Edit.PutAll node given) ≡ Ok after → IsTree after
put_all_keeps tree after node given is no_link e =
    let at = found (node_at tree node.serial) AdfError.NoSuchNode _ after e in
    let old = at.0 in
    let all = passed (data_tests old ++ length_test (size_of old) given ∷ []) (Ok (with_node tree node.serial (record old { bytes = Some given }))) after at.2 in
    subst IsTree (same_Ok all.1)
    (IsTree-with_node tree node.serial old (record old { bytes = Some given }) at.1 refl refl is
    (IsNode-with_bytes tree.wide old given (is.each node.serial old at.1) (no_link old at.1) all.0.0 (equal _ _ (not_false _ all.0.1.1.0))))
