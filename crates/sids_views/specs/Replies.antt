-- What a reply is read as.
use Rattle.std.specs.Prelude.{ℕ, Bool, true, false, List, Option, Some, None, Result, Ok, Err, ⊤}
use Rattle.adf_model.specs.declared.error.AdfError.{AdfError}
use Rattle.adf_model.specs.declared.error.AdfError.TheVariants.{NoData, BadRange, LinkMissing, LinkChain, TooLarge, Layout}
use Rattle.adf_model.specs.declared.tree.Child.{Child}
use Rattle.adf_model.specs.declared.tree.NodeId.{NodeId}
use Rattle.adf_model.specs.declared.tree.Reply.{Reply}
use Rattle.adf_model.specs.declared.tree.Shape.{Shape}
use Rattle.adf_format.specs.declared.types.Format.{Format}

-- ---- a reply is of the kind of its query

abbrev pub IsBytes : Reply → Type 0
IsBytes (Reply.Bytes text) = ⊤
IsBytes other = ⊥

abbrev pub IsShape : Reply → Type 0
IsShape (Reply.Shape shape) = ⊤
IsShape other = ⊥

abbrev pub AreChildren : Reply → Type 0
AreChildren (Reply.Children children) = ⊤
AreChildren other = ⊥

abbrev pub IsNodeReply : Reply → Type 0
IsNodeReply (Reply.Node node) = ⊤
IsNodeReply other = ⊥

abbrev pub IsFormat : Reply → Type 0
IsFormat (Reply.Format format) = ⊤
IsFormat other = ⊥

-- ---- what it says

-- what stands for a reply of another kind, which none is
abbrev pub unusable : AdfError
unusable = Layout 30 0

abbrev pub as_bytes : Reply → Result (List ℕ) AdfError
as_bytes (Reply.Bytes text) = Ok text
as_bytes other = Err unusable

abbrev pub as_shape : Reply → Result Shape AdfError
as_shape (Reply.Shape shape) = Ok shape
as_shape other = Err unusable

abbrev pub as_children : Reply → Result (List Child) AdfError
as_children (Reply.Children children) = Ok children
as_children other = Err unusable

abbrev pub as_node : Reply → Result NodeId AdfError
as_node (Reply.Node node) = Ok node
as_node other = Err unusable

abbrev pub as_format : Reply → Result Format AdfError
as_format (Reply.Format format) = Ok format
as_format other = Err unusable

-- the followed node; none where its link cannot be followed
abbrev pub as_target : Result Reply AdfError → Result (Option NodeId) AdfError
as_target (Ok (Reply.Node node)) = Ok (Some node)
as_target (Ok other) = Err unusable
as_target (Err LinkMissing) = Ok None
as_target (Err LinkChain) = Ok None
as_target (Err AdfError.Broken) = Ok None
as_target (Err error) = Err error

-- whether a node has data, by the answer to a question for a part of them: that there are none is told before anything else
abbrev pub as_presence : Result Reply AdfError → Result Bool AdfError
as_presence (Ok reply) = Ok true
as_presence (Err NoData) = Ok false
as_presence (Err BadRange) = Ok true
as_presence (Err TooLarge) = Ok true
as_presence (Err error) = Err error
