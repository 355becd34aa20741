-- The nodes that children are seen as are live and no links.
use Rattle.std.proofs.Common.{◌≡◌, sym, subst, refl, ℕ, Bool, true, false, List, [], ◌∷◌}
use Rattle.std.specs.Prelude.{filter_map, bytes_eq, Option, Some, None, option_map, IfSome, IfOk, Result, Ok, Err, if◌then◌else◌}
use Rattle.std.specs.List.{AllByRecursion, cons_option}
use Rattle.adf_model.specs.declared.error.AdfError.{AdfError}
use Rattle.adf_model.specs.declared.tree.Child.{Child}
use Rattle.adf_model.specs.declared.tree.NodeId.{NodeId}
use Rattle.adf_model.specs.Slots.{Files, AreTrees}
use Rattle.sids_tables.specs.declared.labels.LabelKind.{LabelKind}
use Rattle.sids_tables.specs.contracts.labels.LabelKindPartialEq.TheImpl as kind_eq
use Rattle.sids_views.specs.declared.child.SeenChild.{SeenChild}
use Rattle.sids_views.specs.Asks.{IsThere, IsPlain, IsValueOr}
use Rattle.sids_views.specs.Views.{target_of, kind_there, seen_child, first_of, first_called, of_that_kind}
use Rattle.sids_views.proofs.Plain.{target_plain}

abbrev pub ArePlain : Files → List SeenChild → Type 0
ArePlain files children = AllByRecursion (λ (child : SeenChild). IsPlain files child.target) children

plain_child : (files : Files) → AreTrees files → (entry : Child) → IsThere files entry.node → (rest : List SeenChild) → ArePlain files rest → (o : Option NodeId) → target_of files entry.node ≡ o
    → ArePlain files (cons_option (option_map (λ target. record { node = entry.node; name = entry.name; target = target; kind = kind_there files target }) o) rest)
plain_child files sound entry there rest h None e = h
plain_child files sound entry there rest h (Some at) e = (target_plain files sound entry.node at there e, h)

pub seen_plain : (files : Files) → AreTrees files → (entries : List Child) → AllByRecursion (λ (entry : Child). IsThere files entry.node) entries → ArePlain files (filter_map (seen_child files) entries)
seen_plain files sound [] h = tt
seen_plain files sound (entry ∷ entries) h = plain_child files sound entry h.0 _ (seen_plain files sound entries h.1) (target_of files entry.node) refl

pub answered_children : (files : Files) (wanted : List SeenChild) → ArePlain files wanted → (r : Result (List SeenChild) AdfError) → IsValueOr wanted r → IfOk r (ArePlain files)
answered_children files wanted h (Ok children) e = subst (ArePlain files) (sym e) h
answered_children files wanted h (Err error) e = tt

first_or : {A : Type 0} (P : A → Type 0) (b : Bool) (a : A) (o : Option A) → P a → IfSome o P → IfSome (if b then Some a else o) P
first_or P true a o h other = h
first_or P false a o h other = other

-- the first child of a kind, and the first of a name
pub first_plain : (files : Files) (kind : LabelKind) (children : List SeenChild) → ArePlain files children → IfSome (first_of kind children) (IsPlain files)
first_plain files kind [] h = tt
first_plain files kind (child ∷ children) h = first_or (IsPlain files) (kind_eq.ghosts.eq child.kind kind) child.target _ h.0 (first_plain files kind children h.1)

pub called_plain : (files : Files) (name : List ℕ) (children : List SeenChild) → ArePlain files children → IfSome (first_called name children) (λ found. IsPlain files found.0)
called_plain files name [] h = tt
called_plain files name (child ∷ children) h = first_or (λ found. IsPlain files found.0) (bytes_eq child.name name) (child.target, child.kind) _ h.0 (called_plain files name children h.1)

that_kind : (files : Files) (kind : LabelKind) (o : Option (NodeId × LabelKind)) → IfSome o (λ found. IsPlain files found.0) → IfSome (of_that_kind kind o) (IsPlain files)
that_kind files kind None h = tt
that_kind files kind (Some child) h = first_or (IsPlain files) (kind_eq.ghosts.eq child.1 kind) child.0 None h tt

pub kind_plain : (files : Files) (name : List ℕ) (kind : LabelKind) (children : List SeenChild) → ArePlain files children → IfSome (of_that_kind kind (first_called name children)) (IsPlain files)
kind_plain files name kind children h = that_kind files kind (first_called name children) (called_plain files name children h)
