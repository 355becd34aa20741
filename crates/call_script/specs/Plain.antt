-- How the writer spells the fields of calls: one spelling for each value.
use Rattle.std.specs.Prelude.{◌≢◌, ℕ, ◌<◌, ◌≤◌, List, [], ◌∷◌, ◌++◌, take, All, codes, decimal, ⊤}
use Rattle.hex.specs.Hex.{encode_lower, IsBytes}
use Rattle.adf_format.specs.Parts.{type_word}
use Rattle.adf_model.specs.declared.tree.Edit.{Edit}
use Rattle.adf_model.specs.Spelling.{spelled}
use Rattle.call_script.specs.declared.dims.Dims.{Dims}
use Rattle.call_script.specs.declared.words.EditWord.{EditWord}
use Rattle.call_script.specs.Fields.{Kind, Value, Values, dims}
use Rattle.call_script.specs.Lines.{edit_word, edit_fields, edit_of}
use Rattle.call_script.specs.Tokens.{mode_word, node_text, dims_text, IsFileNumber, IsLimit, IsId, HoldsSizes}

-- dimensions that a token can spell
abbrev pub AreDims : Dims → Type 0
AreDims dims = (sizes : List ℕ) × HoldsSizes dims sizes

-- a value that tokens can spell
abbrev pub IsValue : (kind : Kind) → Value kind → Type 0
IsValue Kind.a_file number = IsFileNumber number
IsValue Kind.a_mode mode = ⊤
IsValue Kind.a_limit limit = IsLimit limit
IsValue Kind.a_node node = IsId node
IsValue Kind.a_text text = All (λ b. b < 256) text
IsValue Kind.some_bytes bytes = (bytes ≢ []) × IsBytes bytes
IsValue Kind.a_type kind = ⊤
IsValue Kind.some_dims sizes = AreDims sizes
IsValue Kind.a_selection selection =
    (1 ≤ selection.rank) × AreDims (dims selection.rank selection.start) × AreDims (dims selection.rank selection.end) × AreDims (dims selection.rank selection.stride)

-- values that tokens can spell
abbrev pub AreValues : (kinds : List Kind) → Values kinds → Type 0
AreValues [] values = ⊤
AreValues (kind ∷ kinds) values = IsValue kind values.0 × AreValues kinds values.1

-- dimensions as the writer spells them
abbrev pub plain_dims : Dims → List ℕ
plain_dims sizes = dims_text (take sizes.rank sizes.sizes)

-- the tokens of a value as the writer spells it
abbrev pub plain : (kind : Kind) → Value kind → List (List ℕ)
plain Kind.a_file number = decimal number ∷ []
plain Kind.a_mode mode = mode_word mode ∷ []
plain Kind.a_limit limit = decimal limit ∷ []
plain Kind.a_node node = node_text node ∷ []
plain Kind.a_text text = spelled text ∷ []
plain Kind.some_bytes bytes = encode_lower bytes ∷ []
plain Kind.a_type kind = type_word kind ∷ []
plain Kind.some_dims sizes = plain_dims sizes ∷ []
plain Kind.a_selection selection =
    plain_dims (dims selection.rank selection.start) ∷ plain_dims (dims selection.rank selection.end) ∷ plain_dims (dims selection.rank selection.stride) ∷ []

-- the tokens of many values
abbrev pub all_plain : (kinds : List Kind) → Values kinds → List (List ℕ)
all_plain [] values = []
all_plain (kind ∷ kinds) values = plain kind values.0 ++ all_plain kinds values.1

-- an edit by its word and its values
pub record WordedEdit : Type 0 where
  pub word : EditWord
  pub values : Values (edit_fields word)
  pub are : AreValues (edit_fields word) values

-- the edit itself
abbrev pub worded : WordedEdit → Edit
worded edit = edit_of edit.word edit.values

-- the tokens of an edit as the writer spells it
abbrev pub plain_edit : WordedEdit → List (List ℕ)
plain_edit edit = edit_word edit.word ∷ all_plain (edit_fields edit.word) edit.values

-- the tokens of a group as the writer spells it
abbrev pub plain_edits : WordedEdit → List WordedEdit → List (List ℕ)
plain_edits edit [] = plain_edit edit
plain_edits edit (next ∷ edits) = plain_edit edit ++ (codes ";" ∷ plain_edits next edits)
