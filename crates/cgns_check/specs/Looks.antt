-- What is seen at a node, and what waits below it.
use Rattle.std.specs.Prelude.{◌≡◌, ℕ, Bool, not, ◌&&◌, ◌||◌, if◌then◌else◌, List, [], Option, Some, None, is_some, is_none, Result, Ok, Err}
use Rattle.std.specs.List.{AllByRecursion}
use Rattle.adf_model.specs.declared.error.AdfError.{AdfError}
use Rattle.adf_model.specs.declared.error.AdfError.TheVariants.{Memory, ReadFault}
use Rattle.adf_model.specs.declared.tree.Child.{Child}
use Rattle.adf_model.specs.declared.tree.NodeId.{NodeId}
use Rattle.adf_model.specs.Slots.{Files}
use Rattle.sids_tables.specs.declared.labels.LabelKind.{LabelKind}
use Rattle.sids_tables.specs.declared.labels.LabelKind.TheVariants.{CgnsBase, Zone, Other}
use Rattle.sids_tables.specs.contracts.labels.LabelKindPartialEq.TheImpl as kind_eq
use Rattle.sids_views.specs.Views.{given, is_same_node}
use Rattle.sids_rules.specs.SeenNodes.{IsSeen}
use Rattle.sids_rules.specs.Walk.{Visit, has_note, visits_below}
use Rattle.cgns_check.specs.declared.frame.Stop.{Stop}
use Rattle.cgns_check.specs.declared.look.Sight.{Sight}
use Rattle.cgns_check.specs.Level.{Level}
use Rattle.cgns_check.specs.Levels.{visit_at, waiting_in}

-- a node that is followed to itself is no link
abbrev pub is_link_to : NodeId → Option NodeId → Bool
is_link_to node target = not (given target (is_same_node node))

-- what waits on a level, where there is one
abbrev pub waiting_below : Files → List (List ℕ) → Option Level → List Visit
waiting_below files path None = []
waiting_below files path (Some level) = waiting_in files path level

-- what waits below a node are the nodes below its visit, whatever its path is
abbrev pub IsBelow : Files → Stop → Option Level → Type 0
IsBelow files stop below = (path : List (List ℕ)) → waiting_below files path below ≡ visits_below files (visit_at files path stop)

abbrev pub AreBelowSeen : Files → Option Level → Type 0
AreBelowSeen files below = (path : List (List ℕ)) → AllByRecursion (λ (visit : Visit). IsSeen files visit.seen) (waiting_below files path below)

-- what is seen at a node that stands so
pub record IsSeenAs (files : Files) (stop : Stop) (look : Sight) : Type 0 where
  pub seen : look.seen ≡ (visit_at files [] stop).seen
  pub note : look.note ≡ has_note files (visit_at files [] stop)
  pub below : IsBelow files stop look.below
  pub stand : AreBelowSeen files look.below

-- that, or want of memory, or a failed read
abbrev pub IsSight : Files → Stop → Result Sight AdfError → Type 0
IsSight files stop (Ok look) = IsSeenAs files stop look
IsSight files stop (Err Memory) = Unit {0}
IsSight files stop (Err ReadFault) = Unit {0}
IsSight files stop (Err error) = ⊥

-- the children of a node are entered: of the first node, and of those of the profile
abbrev pub is_entered_by : Option NodeId → LabelKind → Bool
is_entered_by parent kind = is_none parent || not (kind_eq.ghosts.eq kind Other)

-- ---- what is above the children of a node

-- the nearest node of a kind: the followed node of that kind, where it has a parent
abbrev pub nearest_by : LabelKind → LabelKind → Option NodeId → NodeId → Option NodeId → Option NodeId
nearest_by wanted kind parent at above = if is_some parent && kind_eq.ghosts.eq kind wanted then Some at else above

-- a level below a node that stands so, and is followed to a node of a kind
pub record StandsUnder (stop : Stop) (at : NodeId) (kind : LabelKind) (level : Level) : Type 0 where
  pub own : level.at ≡ at
  pub base : level.base ≡ nearest_by CgnsBase kind stop.parent at stop.base
  pub zone : level.zone ≡ nearest_by Zone kind stop.parent at stop.zone
  pub inside : level.inside ≡ (stop.inside || is_link_to stop.node (Some at))

-- the children that wait on an answered level
abbrev pub rest_of : Result Level AdfError → Result (List Child) AdfError
rest_of (Ok level) = Ok level.rest
rest_of (Err error) = Err error
