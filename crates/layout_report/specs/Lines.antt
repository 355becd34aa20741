-- The lines of a report.
use Rattle.std.specs.Prelude.{ℕ, nat_lt, cond, List, [], ◌∷◌, ◌++◌, length, codes, decimal}
use Rattle.adf_format.specs.declared.types.Extent.{Extent}
use Rattle.adf_format.specs.declared.types.ExtentKind.{ExtentKind}
use Rattle.layout_lint.specs.declared.verdict.Verdict.{Verdict}
use Rattle.layout_lint.specs.declared.verdict.Verdict.TheVariants as says

-- a number below 100 with two digits
abbrev pub rule_text : ℕ → List ℕ
rule_text rule = cond (nat_lt rule 10) (48 ∷ decimal rule) (decimal rule)

abbrev pub fault_line : ℕ → ℕ → List ℕ
fault_line rule place = 76 ∷ rule_text rule ++ 32 ∷ decimal place ++ 10 ∷ []

abbrev pub verdict_line : Verdict → List ℕ
verdict_line (says.Sound nodes gaps end format wide) = codes "sound nodes " ++ decimal (length nodes) ++ codes " gaps " ++ decimal (length gaps) ++ codes " end " ++ decimal end ++ 10 ∷ []
verdict_line (says.Unsound rule place) = fault_line rule place

abbrev pub kind_word : ExtentKind → List ℕ
kind_word ExtentKind.Header = codes "header"
kind_word ExtentKind.FreeTable = codes "free-table"
kind_word ExtentKind.Node = codes "node"
kind_word ExtentKind.SubNodes = codes "subnodes"
kind_word ExtentKind.DataChunk = codes "data"
kind_word ExtentKind.ChunkTable = codes "chunks"
kind_word ExtentKind.FreeChunk = codes "free"
kind_word ExtentKind.Filler = codes "filler"

-- place, length and kind
abbrev pub extent_text : Extent → List ℕ
extent_text e = decimal e.place ++ 32 ∷ decimal e.length ++ 32 ∷ kind_word e.kind

abbrev pub extent_line : Extent → List ℕ
extent_line e = extent_text e ++ 10 ∷ []

-- with the path of the node that it is a part of
abbrev pub part_line : Extent → List ℕ → List ℕ
part_line e path = extent_text e ++ 32 ∷ path ++ 10 ∷ []

abbrev pub end_line : ℕ → List ℕ
end_line end = codes "end " ++ decimal end ++ 10 ∷ []
