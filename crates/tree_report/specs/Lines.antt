-- The lines of a tree.
use Rattle.std.specs.Prelude.{ℕ, Bool, if◌then◌else◌, List, [], ◌∷◌, ◌++◌, map, codes}
use Rattle.std.specs.List.{flat_map}
use Rattle.adf_format.specs.Tree.{Tree, node_at}
use Rattle.call_script.specs.Replies.{text_field, shape_text}
use Rattle.sids_views.specs.Views.{node_or_none}
use Rattle.tree_report.specs.declared.fields.Fields.{Fields}
use Rattle.tree_report.specs.declared.fields.Fields.TheVariants as tells
use Rattle.tree_report.specs.Fields.{fields_of}
use Rattle.tree_report.specs.Places.{Place, tree_places}

-- a way as it is printed: a slash for the root
abbrev pub printed_way : List ℕ → List ℕ
printed_way [] = 47 ∷ []
printed_way (b ∷ way) = b ∷ way

abbrev pub state_word : Bool → List ℕ
state_word has_data = if has_data then codes " data" else codes " none"

-- what stands behind the path: ` LK FILE PATH` for a link, and ` LABEL TYPE DIMS STATE` for another node
abbrev pub fields_text : Fields → List ℕ
fields_text (tells.Link link) = codes " LK" ++ text_field link.file ++ text_field link.path
fields_text (tells.Node label shape has_data) = text_field label ++ (32 ∷ shape_text shape) ++ state_word has_data

-- the line of a node of a tree
abbrev pub line_at : Tree → Place → List ℕ
line_at tree place = printed_way place.way ++ fields_text (fields_of (node_or_none (node_at tree place.serial)))

-- the lines of a tree: one for each node, in tree order
abbrev pub tree_lines : Tree → List (List ℕ)
tree_lines tree = map (line_at tree) (tree_places tree)

-- lines as they are printed, each with a line feed
abbrev pub printed_lines : List (List ℕ) → List ℕ
printed_lines lines = flat_map (λ line. line ++ 10 ∷ []) lines
