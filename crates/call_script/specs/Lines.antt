-- Which lines make which call.
use Rattle.std.specs.Prelude.{◌≡◌, ◌⊎◌, ℕ, List, [], ◌∷◌, codes}
use Rattle.adf_format.specs.declared.types.DataType.{DataType}
use Rattle.adf_model.specs.declared.tree.Edit.{Edit}
use Rattle.adf_model.specs.declared.tree.Edit.TheVariants.{Create, Delete, Rename, Move, SetLabel, SetDims, PutAll, PutPart, Link}
use Rattle.adf_model.specs.declared.tree.Query.{Query}
use Rattle.adf_model.specs.declared.tree.Query.TheVariants.{Name, LabelOf, ShapeOf, ChildrenOf, LinkText, ReadAll, ReadPart, Find, Next, FormatOf, Parent, Target}
use Rattle.adf_model.specs.declared.tree.Shape.{Shape}
use Rattle.call_script.specs.declared.calls.Call.{Call}
use Rattle.call_script.specs.declared.dims.Dims.{Dims}
use Rattle.call_script.specs.declared.words.CallWord.{CallWord}
use Rattle.call_script.specs.declared.words.CallWord.TheVariants as calls
use Rattle.call_script.specs.declared.words.EditWord.{EditWord}
use Rattle.call_script.specs.declared.words.EditWord.TheVariants as edits
use Rattle.call_script.specs.declared.words.QueryWord.{QueryWord}
use Rattle.call_script.specs.declared.words.QueryWord.TheVariants as queries
use Rattle.call_script.specs.Fields.{Kind, Values, Reads}
use Rattle.call_script.specs.Fields.Kind.{a_file, a_mode, a_limit, a_node, a_text, some_bytes, a_type, some_dims, a_selection}
use Rattle.call_script.specs.Tokens.{line_of}

-- ---- queries

-- the word of a query
abbrev pub query_word : QueryWord → List ℕ
query_word queries.Name = codes "name"
query_word queries.LabelOf = codes "label"
query_word queries.ShapeOf = codes "shape"
query_word queries.ChildrenOf = codes "children"
query_word queries.LinkText = codes "link"
query_word queries.ReadAll = codes "read"
query_word queries.ReadPart = codes "part"
query_word queries.Find = codes "find"
query_word queries.Next = codes "next"
query_word queries.FormatOf = codes "format"
query_word queries.Parent = codes "parent"
query_word queries.Target = codes "target"

-- what stands behind the node of a query
abbrev pub behind_asked : QueryWord → List Kind
behind_asked queries.ReadPart = a_selection ∷ []
behind_asked queries.Find = a_text ∷ []
behind_asked queries.Name = []
behind_asked queries.LabelOf = []
behind_asked queries.ShapeOf = []
behind_asked queries.ChildrenOf = []
behind_asked queries.LinkText = []
behind_asked queries.ReadAll = []
behind_asked queries.Next = []
behind_asked queries.FormatOf = []
behind_asked queries.Parent = []
behind_asked queries.Target = []

-- what stands behind the word of a query
abbrev pub query_fields : QueryWord → List Kind
query_fields word = a_node ∷ behind_asked word

-- the query of these values
abbrev pub query_of : (word : QueryWord) → Values (query_fields word) → Query
query_of queries.Name values = Name values.0
query_of queries.LabelOf values = LabelOf values.0
query_of queries.ShapeOf values = ShapeOf values.0
query_of queries.ChildrenOf values = ChildrenOf values.0
query_of queries.LinkText values = LinkText values.0
query_of queries.ReadAll values = ReadAll values.0
query_of queries.ReadPart values = ReadPart values.0 values.1.0
query_of queries.Find values = Find values.0 values.1.0
query_of queries.Next values = Next values.0
query_of queries.FormatOf values = FormatOf values.0
query_of queries.Parent values = Parent values.0
query_of queries.Target values = Target values.0

-- ---- edits

-- the word of an edit
abbrev pub edit_word : EditWord → List ℕ
edit_word edits.Create = codes "create"
edit_word edits.Delete = codes "delete"
edit_word edits.Rename = codes "rename"
edit_word edits.Move = codes "move"
edit_word edits.SetLabel = codes "setlabel"
edit_word edits.SetDims = codes "dims"
edit_word edits.PutAll = codes "put"
edit_word edits.PutPart = codes "putpart"
edit_word edits.Link = codes "link"

-- what stands behind the node of an edit
abbrev pub behind_edited : EditWord → List Kind
behind_edited edits.Create = a_text ∷ a_text ∷ []
behind_edited edits.Delete = []
behind_edited edits.Rename = a_text ∷ []
behind_edited edits.Move = a_node ∷ []
behind_edited edits.SetLabel = a_text ∷ []
behind_edited edits.SetDims = a_type ∷ some_dims ∷ []
behind_edited edits.PutAll = some_bytes ∷ []
behind_edited edits.PutPart = a_selection ∷ some_bytes ∷ []
behind_edited edits.Link = a_text ∷ a_text ∷ a_text ∷ []

-- what stands behind the word of an edit
abbrev pub edit_fields : EditWord → List Kind
edit_fields word = a_node ∷ behind_edited word

-- a type and dimensions
abbrev pub shape_with : DataType → Dims → Shape
shape_with kind dims = record { kind = kind; rank = dims.rank; dims = dims.sizes }

-- the edit of these values
abbrev pub edit_of : (word : EditWord) → Values (edit_fields word) → Edit
edit_of edits.Create values = Create values.0 values.1.0 values.1.1.0
edit_of edits.Delete values = Delete values.0
edit_of edits.Rename values = Rename values.0 values.1.0
edit_of edits.Move values = Move values.0 values.1.0
edit_of edits.SetLabel values = SetLabel values.0 values.1.0
edit_of edits.SetDims values = SetDims values.0 (shape_with values.1.0 values.1.1.0)
edit_of edits.PutAll values = PutAll values.0 values.1.0
edit_of edits.PutPart values = PutPart values.0 values.1.0 values.1.1.0
edit_of edits.Link values = Link values.0 values.1.0 values.1.1.0 values.1.1.1.0

-- ---- calls

-- the word that begins a group of edits
abbrev pub group_word : List ℕ
group_word = codes "edit"

-- the word that begins another call
abbrev pub call_word : CallWord → List ℕ
call_word calls.Open = codes "open"
call_word calls.Close = codes "close"
call_word calls.Discard = codes "discard"
call_word (calls.Ask query) = query_word query

-- what stands behind the word of a call
abbrev pub call_fields : CallWord → List Kind
call_fields calls.Open = a_file ∷ a_mode ∷ a_limit ∷ []
call_fields calls.Close = a_file ∷ []
call_fields calls.Discard = a_file ∷ []
call_fields (calls.Ask query) = query_fields query

-- the call of these values
abbrev pub call_of : (word : CallWord) → Values (call_fields word) → Call
call_of calls.Open values = Call.Open values.0 values.1.0 values.1.1.0
call_of calls.Close values = Call.Close values.0
call_of calls.Discard values = Call.Discard values.0
call_of (calls.Ask query) values = Call.Ask (query_of query values)

-- ---- lines

-- a word and its fields stand first, and make this
pub record Makes {Word Made : Type 0} (spelling : Word → List ℕ) (fields : Word → List Kind) (made_of : (word : Word) → Values (fields word) → Made) (before : List (List ℕ)) (made : Made) (after : List (List ℕ)) : Type 0 where
  pub word : Word
  pub values : Values (fields word)
  pub behind : List (List ℕ)
  pub word_is : before ≡ spelling word ∷ behind
  pub reads : Reads behind (fields word) values after
  pub made_is : made ≡ made_of word values

-- an edit stands first
abbrev pub IsEdit : List (List ℕ) → Edit → List (List ℕ) → Type 0
IsEdit before edit after = Makes edit_word edit_fields edit_of before edit after

-- the tokens of a group: one edit or more, with the token `;` between two of them
abbrev pub AreEdits : List (List ℕ) → List Edit → Type 0
AreEdits tokens [] = ⊥
AreEdits tokens (edit ∷ []) = IsEdit tokens edit []
AreEdits tokens (edit ∷ next ∷ edits) = (rest : List (List ℕ)) × IsEdit tokens edit (codes ";" ∷ rest) × AreEdits rest (next ∷ edits)

-- the tokens of a group of edits
abbrev pub IsGroupCall : List (List ℕ) → Call → Type 0
IsGroupCall tokens call = (edits : List Edit) × (rest : List (List ℕ)) × (tokens ≡ group_word ∷ rest) × AreEdits rest edits × (call ≡ Call.Edit edits)

-- the tokens of another call
abbrev pub IsPlainCall : List (List ℕ) → Call → Type 0
IsPlainCall tokens call = Makes call_word call_fields call_of tokens call []

-- the tokens of a call
abbrev pub AreTokens : List (List ℕ) → Call → Type 0
AreTokens tokens call = IsPlainCall tokens call ⊎ IsGroupCall tokens call

-- the line makes the call
pub record IsLine (line : List ℕ) (call : Call) : Type 0 where
  pub tokens : List (List ℕ)
  pub line_is : line ≡ line_of tokens
  pub call_is : AreTokens tokens call
