-- What is answered of the tree in work, and why nothing is.
use Rattle.std.specs.Prelude.{◌≡◌, ℕ, Bool, true, false, List, if◌then◌else◌, Result, Ok, Err, IfOk, IfErr, ⊤}
use Rattle.adf_format.specs.RuleNumbers.{IsRule}
use Rattle.adf_format.specs.Tree.{Tree, node_at, is_link_in}
use Rattle.adf_model.specs.Answers.{asked_node, may_refuse}
use Rattle.adf_model.specs.Counts.{Rose}
use Rattle.adf_model.specs.Follow.{child_within, stay}
use Rattle.adf_model.specs.Steps.{IsFileAnswer}
use Rattle.adf_model.specs.Tests.{and_then, if_there}
use Rattle.adf_model.specs.declared.error.AdfError.{AdfError}
use Rattle.adf_model.specs.declared.error.AdfError.TheVariants as error
use Rattle.adf_model.specs.declared.tree.NodeId.{NodeId}
use Rattle.adf_model.specs.declared.tree.Query.{Query}
use Rattle.adf_model.specs.declared.tree.Reply.{Reply}
use Rattle.tree_asks.specs.Known.{IsKnown}
use Rattle.tree_asks.specs.Told.{OfEach, Tells}
use Rattle.adf_tree.specs.Files.{FileState}

-- ---- looks

-- a node that is no link stays where it is, and a link leads nowhere
abbrev pub stays_if : Bool → Result (Unit {0}) AdfError
stays_if link = if link then Err error.LinkMissing else Ok tt

abbrev pub stays_at : Tree → ℕ → Result (Unit {0}) AdfError
stays_at tree serial = stays_if (is_link_in (node_at tree serial))

-- the same where links would be followed
abbrev pub enters_at : Bool → Tree → ℕ → Result (Unit {0}) AdfError
enters_at through tree serial = if through then stays_at tree serial else Ok tt

-- the child of a name of a node that is no link
abbrev pub next_along : Tree → NodeId → List ℕ → Result NodeId AdfError
next_along tree node wanted =
    and_then (stay tree node 100) (λ here. if_there (child_within tree here.node wanted) error.NotFound (λ next. Ok next))

-- ---- causes

-- why a look fails: want of memory, a failed read, or a rule that bytes break
abbrev pub IsLookCause : ℕ → ℕ → AdfError → Type 0
IsLookCause before now error.Memory = ⊤
IsLookCause before now error.ReadFault = Rose before now
IsLookCause before now (error.Layout rule at) = IsRule rule
IsLookCause before now other = ⊥

-- the same where the node may be a link
abbrev pub IsStayCause : ℕ → ℕ → AdfError → Type 0
IsStayCause before now error.LinkMissing = ⊤
IsStayCause before now other = IsLookCause before now other

-- and along a path on which a name may be missing
abbrev pub IsPathCause : ℕ → ℕ → AdfError → Type 0
IsPathCause before now error.NotFound = ⊤
IsPathCause before now other = IsStayCause before now other

-- of a query: the same, or an error that the query may have, and none of other files
abbrev pub IsAskedCause : Query → ℕ → ℕ → AdfError → Type 0
IsAskedCause query before now error.Memory = ⊤
IsAskedCause query before now error.ReadFault = Rose before now
IsAskedCause query before now (error.Layout rule at) = IsRule rule
IsAskedCause query before now error.Broken = ⊥
IsAskedCause query before now error.NotOpen = ⊥
IsAskedCause query before now error.NoSuchFile = ⊥
IsAskedCause query before now error.LinkChain = ⊥
IsAskedCause query before now other = may_refuse query other ≡ true

-- ---- of an open file

-- A broken file refuses at once. Else the answer is the one wanted of each tree and placement that bytes and memory mean, and a
-- refusal has its cause.
pub record LookEnds {A : Type 0} (wanted : Tree → Result A AdfError) (Cause : ℕ → ℕ → AdfError → Type 0) (old new : FileState)
    (result : Result A AdfError) : Type 0 where
  pub broken : old.broken ≡ true → result ≡ Err error.Broken
  pub told : old.broken ≡ false → Tells old.core old.image wanted result
  pub cause : old.broken ≡ false → IfErr result (Cause old.device.faults new.device.faults)

-- A query: the answer is that of the model, of one file by itself; what memory alone knows is answered also where bytes are not
-- told.
pub record AskEnds (query : Query) (old new : FileState) (result : Result Reply AdfError) : Type 0 where
  pub broken : old.broken ≡ true → result ≡ Err error.Broken
  pub told : OfEach old.core old.image (λ image tree p. IsFileAnswer old.broken tree query result)
  pub known : IfOk result (IsKnown old.core (asked_node query) query)
  pub cause : old.broken ≡ false → IfErr result (IsAskedCause query old.device.faults new.device.faults)
