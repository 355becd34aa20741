-- What each refusal of a question about one node is, whatever its cause.
use Rattle.std.specs.Prelude.{◌≡◌, ℕ, true, List, Option, ⊤}
use Rattle.adf_format.specs.RuleNumbers.{IsRule}
use Rattle.adf_model.specs.declared.error.AdfError.{AdfError}
use Rattle.adf_model.specs.declared.error.AdfError.TheVariants as error
use Rattle.adf_model.specs.declared.tree.NodeId.{NodeId}
use Rattle.adf_model.specs.declared.tree.Query.{Query}
use Rattle.adf_model.specs.Answers.{may_refuse}
use Rattle.cg_io.specs.Cause.{Rose}
use Rattle.tree_edits.specs.declared.memory.Core.{Core}
use Rattle.tree_asks.specs.Causes.{IsAskCause}

-- want of memory, a failed read, one of the thirty rules, or an error of the query that is of no file and of no link
abbrev pub IsAskRefusal : Query → ℕ → ℕ → AdfError → Type 0
IsAskRefusal query before now error.Memory = ⊤
IsAskRefusal query before now error.ReadFault = Rose before now
IsAskRefusal query before now (error.Layout rule place) = IsRule rule
IsAskRefusal query before now error.Broken = ⊥
IsAskRefusal query before now error.NotOpen = ⊥
IsAskRefusal query before now error.NoSuchFile = ⊥
IsAskRefusal query before now error.LinkMissing = ⊥
IsAskRefusal query before now error.LinkChain = ⊥
IsAskRefusal query before now other = may_refuse query other ≡ true

abbrev pub CausesAreOfQueries : Type 0
CausesAreOfQueries =
    (core : Core) (held : Option (List ℕ)) (at : NodeId) (query : Query) (before now : ℕ) (e : AdfError)
    → IsAskCause core held at query before now e → IsAskRefusal query before now e
