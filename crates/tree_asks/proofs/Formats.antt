-- The letter of the format in the header of a file that lays out a tree.
use Rattle.std.proofs.Common.{◌≡◌, ◌≢◌, ℕ, ◌+◌, ◌≤◌, List, length, get_or, refl, sym, ◌∙◌, ap, arith, Bool, true, false, Option, None, Some}
use Rattle.std.specs.Prelude.{Ok, Err}
use Rattle.adf_format.specs.declared.types.Format.{Format}
use Rattle.adf_format.specs.Parts.{format_letter}
use Rattle.adf_format.specs.RecordFields.{node_length}
use Rattle.adf_format.specs.Tree.{Tree}
use Rattle.adf_format.specs.Placement.{Placement}
use Rattle.adf_format.proofs.FieldLaws.{inner_field}
use Rattle.field_access.proofs.FieldLaws.{field_given}
use Rattle.adf_model.specs.declared.error.AdfError.{AdfError}
use Rattle.adf_model.specs.declared.tree.NodeId.{NodeId}
use Rattle.adf_model.specs.declared.tree.Query.{Query}
use Rattle.adf_model.specs.declared.tree.Reply.{Reply}
use Rattle.adf_model.specs.Answers.{field_within}
use Rattle.cg_io.specs.Device.{GivesAt}
use Rattle.node_reads.proofs.LaidOut.{header_within}
use Rattle.tree_edits.specs.declared.memory.Core.{Core}
use Rattle.tree_edits.specs.declared.rows.Row.{Row}
use Rattle.tree_edits.specs.Rows.{Means, row_of}
use Rattle.tree_edits.specs.Edits.{memory_of}
use Rattle.tree_edits.proofs.Nodes.{TheNode, the_node}
use Rattle.tree_asks.specs.Told.{Tells}
use Rattle.tree_asks.proofs.Answered.{within_is}

long_header : (wide : Bool) → 101 ≤ node_length wide
long_header false = omega arith
long_header true = omega arith

same_format : (f g : Format) → get_or (format_letter f) 0 0 ≡ get_or (format_letter g) 0 0 → f ≡ g
same_format Format.Little Format.Little e = refl
same_format Format.Little Format.Big e = absurd (omega (arith, e))
same_format Format.Big Format.Little e = absurd (omega (arith, e))
same_format Format.Big Format.Big e = refl

neither : (f : Format) → get_or (format_letter f) 0 0 ≢ 76 → get_or (format_letter f) 0 0 ≢ 66 → ⊥
neither Format.Little e h = e refl
neither Format.Big e h = h refl

module _ (core : Core) (at : NodeId) (row : Row) (found : row_of core.rows.items at.serial ≡ Some row) (letter : List ℕ) (long : length letter ≡ 1) where
  module _ (image : List ℕ) (given : GivesAt (Some image) 100 letter) (tree : Tree) (p : Placement) (m : Means image tree p (memory_of core)) where
    abbrev n : TheNode image tree p at.serial row.place
    n = the_node image (memory_of core) at.serial row found tree p m

    within : 100 + 1 ≤ length image
    within =
        let h = header_within image tree p at.serial n.node n.parts n.is in
        let l = long_header tree.wide in omega (arith, h, l)

    says : letter ≡ format_letter tree.format
    says =
        field_given (Some image) 100 1 letter long given within
        ∙ sym (inner_field image 0 186 100 1 (omega arith))
        ∙ m.laid_out.header.2.numbers

    first : get_or letter 0 0 ≡ get_or (format_letter tree.format) 0 0
    first = ap (λ (xs : List ℕ). get_or xs 0 0) says

    told : (f : Format) → tree.format ≡ f → field_within tree at (Query.FormatOf at) ≡ Ok (Reply.Format f)
    told f e = within_is tree at (Query.FormatOf at) n.node n.is.live ∙ ap (λ x. Ok (Reply.Format x)) e

  pub format_told : (held : Option (List ℕ)) (f : Format) → GivesAt held 100 letter → get_or (format_letter f) 0 0 ≡ get_or letter 0 0 → Tells core held (λ tree. field_within tree at (Query.FormatOf at)) (Ok (Reply.Format f))
  format_told None f given e = tt
  format_told (Some image) f given e = λ tree p m. told image given tree p m f (sym (same_format f tree.format (e ∙ first image given tree p m)))

  pub neither_told : (held : Option (List ℕ)) → GivesAt held 100 letter → get_or letter 0 0 ≢ 76 → get_or letter 0 0 ≢ 66 → Tells core held (λ tree. field_within tree at (Query.FormatOf at)) (Err (AdfError.Layout 4 100))
  neither_told None given e h = tt
  neither_told (Some image) given e h = λ tree p m. absurd (neither tree.format (λ k. e (first image given tree p m ∙ k)) (λ k. h (first image given tree p m ∙ k)))
