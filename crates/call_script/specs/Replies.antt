-- How answers are printed: one line for each, without its line feed.
use Rattle.std.specs.Prelude.{ℕ, ◌+◌, ◌/◌, ◌%◌, ◌≤◌, List, [], ◌∷◌, ◌++◌, length, codes, decimal, flat_map, ⊤}
use Rattle.adf_model.specs.declared.error.AdfError.{AdfError}
use Rattle.adf_model.specs.declared.error.AdfError.TheVariants.{Memory, ReadFault, WriteFault, Broken, NotOpen, NoSuchFile, AlreadyOpen, ReadOnly, NoSuchNode, NotAChild, BadName, Duplicate, BadLabel, BadShape, NoData, BadRange, WrongLength, IntoItself, TooDeep, LinkMissing, LinkChain, NotALink, BadLink, Layout, NotEmpty, TooLarge, TooManyChildren, Full, NotFound, Syntax, LineTooLong, OtherFile}
use Rattle.adf_model.specs.declared.tree.Child.{Child}
use Rattle.adf_model.specs.declared.tree.NodeId.{NodeId}
use Rattle.adf_model.specs.Spelling.{spelled}
use Rattle.call_script.specs.declared.calls.Answer.{Answer}
use Rattle.call_script.specs.declared.calls.Answer.TheVariants as answer
use Rattle.call_script.specs.Tokens.{node_text, dims_text}
use Rattle.adf_format.specs.declared.types.Format.{Format}
use Rattle.adf_format.specs.declared.types.Format.TheVariants.{Little, Big}
use Rattle.adf_format.specs.Parts.{type_word}
use Rattle.adf_model.specs.declared.tree.Shape.{Shape}
use Rattle.adf_model.specs.Shapes.{dims_of}
use Rattle.hex.specs.Hex.{encode_lower}

-- a refusal's number and word
abbrev pub refusal_word : AdfError → List ℕ
refusal_word Memory = codes "E01 Memory"
refusal_word ReadFault = codes "E02 ReadFault"
refusal_word WriteFault = codes "E03 WriteFault"
refusal_word Broken = codes "E04 Broken"
refusal_word NotOpen = codes "E05 NotOpen"
refusal_word NoSuchFile = codes "E06 NoSuchFile"
refusal_word AlreadyOpen = codes "E07 AlreadyOpen"
refusal_word ReadOnly = codes "E08 ReadOnly"
refusal_word NoSuchNode = codes "E09 NoSuchNode"
refusal_word NotAChild = codes "E10 NotAChild"
refusal_word BadName = codes "E11 BadName"
refusal_word Duplicate = codes "E12 Duplicate"
refusal_word BadLabel = codes "E13 BadLabel"
refusal_word BadShape = codes "E14 BadShape"
refusal_word NoData = codes "E15 NoData"
refusal_word BadRange = codes "E16 BadRange"
refusal_word (WrongLength want got) = codes "E17 WrongLength"
refusal_word IntoItself = codes "E18 IntoItself"
refusal_word TooDeep = codes "E19 TooDeep"
refusal_word LinkMissing = codes "E20 LinkMissing"
refusal_word LinkChain = codes "E21 LinkChain"
refusal_word NotALink = codes "E22 NotALink"
refusal_word BadLink = codes "E23 BadLink"
refusal_word (Layout rule place) = codes "E24 Layout"
refusal_word NotEmpty = codes "E25 NotEmpty"
refusal_word TooLarge = codes "E26 TooLarge"
refusal_word TooManyChildren = codes "E27 TooManyChildren"
refusal_word (Full asked end) = codes "E28 Full"
refusal_word NotFound = codes "E29 NotFound"
refusal_word Syntax = codes "E30 Syntax"
refusal_word LineTooLong = codes "E31 LineTooLong"
refusal_word OtherFile = codes "E32 OtherFile"

-- a rule of the layout: its two digits
abbrev pub rule_text : ℕ → List ℕ
rule_text rule = codes "L" ++ (48 + rule / 10) ∷ (48 + rule % 10) ∷ []

-- a space and a number behind it
abbrev pub number_field : ℕ → List ℕ
number_field number = 32 ∷ decimal number

-- a refusal's fields
abbrev pub refusal_fields : AdfError → List ℕ
refusal_fields (WrongLength want got) = number_field want ++ number_field got
refusal_fields (Layout rule place) = (32 ∷ rule_text rule) ++ number_field place
refusal_fields (Full asked end) = number_field asked ++ number_field end
refusal_fields _ = []

abbrev pub refusal_text : AdfError → List ℕ
refusal_text error = refusal_word error ++ refusal_fields error

-- where in its group a refused edit stands. A line that is no call line, or too long, has no edits
abbrev pub place_text : AdfError → ℕ → List ℕ
place_text Syntax at = []
place_text LineTooLong at = []
place_text _ at = codes " at " ++ decimal at

-- a space and a node behind it
abbrev pub node_field : NodeId → List ℕ
node_field node = 32 ∷ node_text node

-- a child: its node, and its name as a text
abbrev pub child_field : Child → List ℕ
child_field child = node_field child.node ++ (32 ∷ spelled child.name)

-- a space and a text behind it
abbrev pub text_field : List ℕ → List ℕ
text_field text = 32 ∷ spelled text

-- the word for the byte order of numbers
abbrev pub format_word : Format → List ℕ
format_word Little = codes "L"
format_word Big = codes "B"

-- a type and its dimensions
abbrev pub shape_text : Shape → List ℕ
shape_text shape = type_word shape.kind ++ (32 ∷ dims_text (dims_of shape))

-- what stands behind `ok`
abbrev pub told : Answer → List ℕ
told (answer.Text text) = text_field text
told (answer.Shape shape) = 32 ∷ shape_text shape
told (answer.Children children) = number_field (length children) ++ flat_map child_field children
told (answer.Link file path) = text_field file ++ text_field path
told (answer.Hex bytes) = 32 ∷ encode_lower bytes
told (answer.Node node) = node_field node
told (answer.Format format) = 32 ∷ format_word format
told (answer.Created nodes) = flat_map node_field nodes
told given = []

-- the line that is printed for an answer; bytes of data are spelled in lower case
abbrev pub reply_line : Answer → List ℕ
reply_line (answer.Refused error) = refusal_text error
reply_line (answer.EditRefused error) = refusal_text error.error ++ place_text error.error error.at
reply_line given = codes "ok" ++ told given

-- a rule has two digits
abbrev pub HasRule : AdfError → Type 0
HasRule (Layout rule place) = (1 ≤ rule) × (rule ≤ 99)
HasRule _ = ⊤

-- each field of the answer has a spelling: a rule has two digits
abbrev pub HasSpelling : Answer → Type 0
HasSpelling (answer.Refused error) = HasRule error
HasSpelling (answer.EditRefused error) = HasRule error.error
HasSpelling _ = ⊤
