-- The fields of calls: what each kind of field holds, and which tokens spell it.
use Rattle.std.specs.Prelude.{◌≡◌, ℕ, ◌≤◌, List, [], ◌∷◌, ◌++◌, Result, Ok, Err, decimal, ⊤}
use Rattle.adf_format.specs.declared.types.DataType.{DataType}
use Rattle.adf_format.specs.Parts.{type_word}
use Rattle.adf_model.specs.declared.error.AdfError.{AdfError}
use Rattle.adf_model.specs.declared.error.AdfError.TheVariants.{Syntax}
use Rattle.adf_model.specs.declared.tree.NodeId.{NodeId}
use Rattle.adf_model.specs.declared.tree.Selection.{Selection}
use Rattle.call_script.specs.declared.calls.OpenMode.{OpenMode}
use Rattle.call_script.specs.declared.dims.Dims.{Dims}
use Rattle.call_script.specs.Causes.{IsRefusal}
use Rattle.call_script.specs.Tokens.{mode_word, node_text, IsFileNumber, IsLimit, IsId, IsText, IsHex, IsDims}

-- the kinds of fields. A selection is three tokens, and each other field is one
pub data Kind : Type 0 where
  a_file : Kind
  a_mode : Kind
  a_limit : Kind
  a_node : Kind
  a_text : Kind
  some_bytes : Kind
  a_type : Kind
  some_dims : Kind
  a_selection : Kind

-- what a field holds
abbrev pub Value : Kind → Type 0
Value Kind.a_file = ℕ
Value Kind.a_mode = OpenMode
Value Kind.a_limit = ℕ
Value Kind.a_node = NodeId
Value Kind.a_text = List ℕ
Value Kind.some_bytes = List ℕ
Value Kind.a_type = DataType
Value Kind.some_dims = Dims
Value Kind.a_selection = Selection

-- what fields hold
abbrev pub Values : List Kind → Type 0
Values [] = ⊤
Values (kind ∷ kinds) = Value kind × Values kinds

-- one token of which this holds
abbrev pub IsOne : (List ℕ → Type 0) → List (List ℕ) → Type 0
IsOne Spells tokens = (token : List ℕ) × (tokens ≡ token ∷ []) × Spells token

-- a rank and the sizes of an array
abbrev pub dims : ℕ → List ℕ → Dims
dims rank sizes = record { rank = rank; sizes = sizes }

-- start, end and stride, with one number of dimensions each, which is not 0
pub record IsSelection (tokens : List (List ℕ)) (selection : Selection) : Type 0 where
  pub start : List ℕ
  pub end : List ℕ
  pub stride : List ℕ
  pub tokens_are : tokens ≡ start ∷ end ∷ stride ∷ []
  pub some : 1 ≤ selection.rank
  pub start_is : IsDims start (dims selection.rank selection.start)
  pub end_is : IsDims end (dims selection.rank selection.end)
  pub stride_is : IsDims stride (dims selection.rank selection.stride)

-- the tokens spell the value
abbrev pub Spells : (kind : Kind) → List (List ℕ) → Value kind → Type 0
Spells Kind.a_file tokens number = IsOne (λ token. (token ≡ decimal number) × IsFileNumber number) tokens
Spells Kind.a_mode tokens mode = IsOne (λ token. token ≡ mode_word mode) tokens
Spells Kind.a_limit tokens limit = IsOne (λ token. (token ≡ decimal limit) × IsLimit limit) tokens
Spells Kind.a_node tokens node = IsOne (λ token. (token ≡ node_text node) × IsId node) tokens
Spells Kind.a_text tokens text = IsOne (λ token. IsText token text) tokens
Spells Kind.some_bytes tokens bytes = IsOne (λ token. IsHex token bytes) tokens
Spells Kind.a_type tokens kind = IsOne (λ token. token ≡ type_word kind) tokens
Spells Kind.some_dims tokens dims = IsOne (λ token. IsDims token dims) tokens
Spells Kind.a_selection tokens selection = IsSelection tokens selection

-- the tokens begin with a field that holds the value; the others are left
pub record Takes (before : List (List ℕ)) (kind : Kind) (value : Value kind) (after : List (List ℕ)) : Type 0 where
  pub tokens : List (List ℕ)
  pub split : before ≡ tokens ++ after
  pub spelled : Spells kind tokens value

-- the tokens begin with fields that hold the values
abbrev pub Reads : List (List ℕ) → (kinds : List Kind) → Values kinds → List (List ℕ) → Type 0
Reads before [] values after = before ≡ after
Reads before (kind ∷ kinds) values after = (middle : List (List ℕ)) × Takes before kind values.0 middle × Reads middle kinds values.1 after

-- reading fields was refused: the tokens begin with no such fields, or memory is wanting
pub record IsNoRead (kinds : List Kind) (before : List (List ℕ)) (error : AdfError) : Type 0 where
  pub why : IsRefusal error
  pub none : error ≡ Syntax → (values : Values kinds) (after : List (List ℕ)) → Reads before kinds values after → ⊥

-- a field was read, or there is none
abbrev pub IsFieldRead : (kind : Kind) → List (List ℕ) → Result (Value kind) AdfError → List (List ℕ) → Type 0
IsFieldRead kind before (Ok value) after = Takes before kind value after
IsFieldRead kind before (Err error) after = IsNoRead (kind ∷ []) before error

-- what is made of fields was read, or there are no such fields
abbrev pub IsMadeRead : {Made : Type 0} (kinds : List Kind) → (Values kinds → Made) → List (List ℕ) → Result Made AdfError → List (List ℕ) → Type 0
IsMadeRead kinds made before (Ok value) after = (values : Values kinds) × (value ≡ made values) × Reads before kinds values after
IsMadeRead kinds made before (Err error) after = IsNoRead kinds before error
