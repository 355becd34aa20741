-- What is answered of a node, from what its header says.
use Rattle.std.proofs.Common.{◌≡◌, ℕ, ◌-◌, List, ◌++◌, length, replicate, sym, ◌∙◌, ap, subst, refl, Bool, true, Option, None, Some}
use Rattle.std.specs.Prelude.{Result, Ok, Err}
use Rattle.adf_format.specs.declared.types.DataType.{DataType}
use Rattle.adf_format.specs.Fields.{trimmed}
use Rattle.adf_format.specs.Tree.{Tree, Node, node_at}
use Rattle.adf_model.specs.declared.error.AdfError.{AdfError}
use Rattle.adf_model.specs.declared.error.AdfError.TheVariants as error
use Rattle.adf_model.specs.declared.tree.NodeId.{NodeId}
use Rattle.adf_model.specs.declared.tree.Query.{Query}
use Rattle.adf_model.specs.declared.tree.Reply.{Reply}
use Rattle.adf_model.specs.declared.tree.Shape.{Shape}
use Rattle.adf_model.specs.Answers.{field_of, field_within}
use Rattle.adf_model.specs.Tests.{if_there}
use Rattle.adf_records.specs.declared.NodeHeader.{NodeHeader}
use Rattle.layout_laws.proofs.NodeRead.{name_again, label_again}
use Rattle.node_reads.specs.Reads.{IsUnread}
use Rattle.tree_edits.specs.declared.memory.Core.{Core}
use Rattle.tree_edits.specs.Causes.{HeaderBreaks}
use Rattle.tree_asks.specs.Told.{OfEach, IsWanted, Tells, IsFree}
use Rattle.tree_asks.specs.Headers.{IsItsHeader, shape_of}
use Rattle.tree_asks.specs.Causes.{IsHeaderCause}

-- ---- refusals that no tree decides

pub free_wanted : {A : Type 0} (wanted : Result A AdfError) (e : AdfError) → IsFree e → IsWanted wanted (Err e)
free_wanted wanted error.Memory h = tt
free_wanted wanted error.ReadFault h = tt
free_wanted wanted other h = absurd h

pub tells_free : {A : Type 0} (core : Core) (held : Option (List ℕ)) (wanted : Tree → Result A AdfError) (e : AdfError) → OfEach core held (λ image tree p. IsFree e) → Tells core held wanted (Err e)
tells_free core None wanted e h = tt
tells_free core (Some image) wanted e h = λ tree p m. free_wanted (wanted tree) e (h tree p m)

pub tells_memory : {A : Type 0} (core : Core) (held : Option (List ℕ)) (wanted : Tree → Result A AdfError) (e : AdfError) → e ≡ AdfError.Memory → Tells core held wanted (Err e)
tells_memory core None wanted e is = tt
tells_memory core (Some image) wanted e is = λ tree p m. subst (λ x. IsWanted (wanted tree) (Err x)) (sym is) tt

-- why a header is not read, with a text of it or without
pub header_cause : (takes : Bool) (core : Core) (held : Option (List ℕ)) (place before now : ℕ) (e : AdfError) → IsUnread (HeaderBreaks core.wide held place) before now e → IsHeaderCause takes core.wide held place before now e
header_cause takes core held place before now error.ReadFault h = h
header_cause takes core held place before now (error.Layout rule at) h = h
header_cause takes core held place before now other h = absurd h

pub memory_cause : (core : Core) (held : Option (List ℕ)) (place before now : ℕ) (e : AdfError) → e ≡ AdfError.Memory → IsHeaderCause true core.wide held place before now e
memory_cause core held place before now e is = subst (λ x. IsHeaderCause true core.wide held place before now x) (sym is) refl

-- ---- what is told of a node that is there

pub within_is : (tree : Tree) (at : NodeId) (query : Query) (node : Node) → node_at tree at.serial ≡ Some node → field_within tree at query ≡ field_of tree at node query
within_is tree at query node live = ap (λ o. if_there o AdfError.NoSuchNode (λ (n : Node). field_of tree at n query)) live

module _ (core : Core) (at : NodeId) (place : ℕ) (header : NodeHeader) where
  abbrev Its : Option (List ℕ) → Type 0
  Its held = OfEach core held (λ image tree p. IsItsHeader image tree p at.serial place header)

  pub name_told : (held : Option (List ℕ)) (text : List ℕ) → Its held → text ≡ trimmed header.name → Tells core held (λ tree. field_within tree at (Query.Name at)) (Ok (Reply.Bytes text))
  name_told None text its is = tt
  name_told (Some image) text its is = λ tree p m.
      let i = its tree p m in
      let named = (m.laid_out.is_tree.each at.serial i.node i.is.live).named in
      within_is tree at (Query.Name at) i.node i.is.live
      ∙ ap (λ t. Ok (Reply.Bytes t)) (sym (is ∙ ap trimmed i.fields.name ∙ name_again i.node.name named))

  pub label_told : (held : Option (List ℕ)) (text : List ℕ) → Its held → text ≡ trimmed header.label → Tells core held (λ tree. field_within tree at (Query.LabelOf at)) (Ok (Reply.Bytes text))
  label_told None text its is = tt
  label_told (Some image) text its is = λ tree p m.
      let i = its tree p m in
      let labelled = (m.laid_out.is_tree.each at.serial i.node i.is.live).labelled in
      within_is tree at (Query.LabelOf at) i.node i.is.live
      ∙ ap (λ t. Ok (Reply.Bytes t)) (sym (is ∙ ap trimmed i.fields.label ∙ label_again i.node.label labelled))

  pub shape_told : (held : Option (List ℕ)) (shape : Shape) → Its held → shape ≡ shape_of header → Tells core held (λ tree. field_within tree at (Query.ShapeOf at)) (Ok (Reply.Shape shape))
  shape_told None shape its is = tt
  shape_told (Some image) shape its is = λ tree p m.
      let i = its tree p m in
      within_is tree at (Query.ShapeOf at) i.node i.is.live
      ∙ ap (λ s. Ok (Reply.Shape s)) (sym (is ∙ same header.kind i.node.kind header.rank _ i.node.dims i.fields.kind i.fields.rank i.dims))
    where
      same : (k l : DataType) (r : ℕ) (ds es : List ℕ) → k ≡ l → r ≡ length es → ds ≡ es
          → ◌≡◌ {A = Shape} (record { kind = k; rank = r; dims = ds ++ replicate (12 - r) 0 }) (record { kind = l; rank = length es; dims = es ++ replicate (12 - length es) 0 })
      same k l r ds es e f g = ap (λ x. record { kind = x; rank = r; dims = ds ++ replicate (12 - r) 0 }) e ∙ ap (λ x. record { kind = l; rank = x; dims = ds ++ replicate (12 - x) 0 }) f ∙ ap (λ x. record { kind = l; rank = length es; dims = x ++ replicate (12 - length es) 0 }) g
