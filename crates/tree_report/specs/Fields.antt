-- What a line tells of a node, and how the text of a link is asked for.
use Rattle.std.specs.Prelude.{ℕ, if◌then◌else◌, List, Option, Some, None, option_map, is_some, Result, Ok, Err, ⊤}
use Rattle.adf_format.specs.Links.{file_part, path_part}
use Rattle.adf_format.specs.Tree.{Node, is_link}
use Rattle.adf_model.specs.declared.error.AdfError.{AdfError}
use Rattle.adf_model.specs.declared.error.AdfError.TheVariants.{NotALink, Syntax}
use Rattle.adf_model.specs.declared.tree.Reply.{Reply}
use Rattle.adf_model.specs.Answers.{shape_of}
use Rattle.tree_report.specs.declared.fields.Fields.{Fields}
use Rattle.tree_report.specs.declared.fields.Fields.TheVariants as tells
use Rattle.tree_report.specs.declared.fields.Link.{Link}

-- the file and the path in the text of a link
abbrev pub link_in : List ℕ → Link
link_in text = record { file = file_part text; path = path_part text }

-- where a node leads: none where it is no link
abbrev pub link_of : Node → Option Link
link_of node = if is_link node then option_map link_in node.bytes else None

-- what is told of a node that is no link
abbrev pub plain_fields : Node → Fields
plain_fields node = tells.Node node.label (shape_of node) (is_some node.bytes)

abbrev pub fields_by : Node → Option Link → Fields
fields_by node (Some link) = tells.Link link
fields_by node None = plain_fields node

-- what is told of a node
abbrev pub fields_of : Node → Fields
fields_of node = fields_by node (link_of node)

-- ---- the question for the text of a link

abbrev pub IsLinkReply : Reply → Type 0
IsLinkReply (Reply.LinkText file path) = ⊤
IsLinkReply other = ⊥

-- where a link leads; none where the answer is that it is no link. No other kind of reply comes
abbrev pub as_link : Result Reply AdfError → Result (Option Link) AdfError
as_link (Ok (Reply.LinkText file path)) = Ok (Some (record { file = file; path = path }))
as_link (Ok other) = Err Syntax
as_link (Err NotALink) = Ok None
as_link (Err error) = Err error
