-- Where a survey of the nodes of a damaged file stands.
use Rattle.std.specs.Prelude.{◌≡◌, ℕ, ◌+◌, ◌-◌, ◌<◌, ◌≤◌, ◌==◌, Bool, cond, true, List, [], ◌∷◌, ◌++◌, length, map, slice_get, take, Some, None, ⊤}
use Rattle.std.specs.List.{All}
use Rattle.std.specs.Ordering.{nat_cmp}
use Rattle.adf_format.specs.Checks.{Fault, first_broken}
use Rattle.adf_format.specs.Fields.{trimmed}
use Rattle.adf_format.specs.FirstFault.{Visit, root_visit, is_wide}
use Rattle.adf_format.specs.SoundPart.{last_byte}
use Rattle.adf_format.specs.Tiles.{total_length}
use Rattle.layout_laws.specs.NodePass.{Waiting, is_known, met_extents, named_node}
use Rattle.layout_lint.specs.declared.look.Next.{Next}
use Rattle.layout_lint.specs.declared.node.Met.{Met}
use Rattle.layout_lint.specs.declared.stack.Family.{Family}
use Rattle.layout_lint.specs.declared.verdict.Broken.{Broken}
use Rattle.layout_lint.specs.declared.verdict.Halt.{Halt}
use Rattle.layout_lint.specs.declared.verdict.Halt.TheVariants as halt
use Rattle.layout_lint.specs.declared.verdict.Span.{Span}
use Rattle.layout_lint.specs.Halts.{fault}
use Rattle.layout_lint.specs.Keys.{contains}
use Rattle.layout_lint.specs.Shapes.{AreLinked, AreWithin, IsFamilyOf, met_place}
use Rattle.layout_lint.specs.Walks.{waiting_of, waiting_in, node_place, left_in, IsOpen, AreStepped}
use Rattle.salvage_laws.specs.Surveys.{IsSurveying}
use Rattle.adf_salvage.specs.declared.head.Start.{Start}
use Rattle.adf_salvage.specs.declared.list.Left.{Left}
use Rattle.adf_salvage.specs.declared.progress.Progress.{Progress}
use Rattle.adf_salvage.specs.LeftOut.{way_text, HasRule}
use Rattle.adf_salvage.specs.Parts.{start_rows, HasNoPart}

-- ---- the head

-- the version, and the last byte that can be one of the file
pub record IsReach (image : List ℕ) (span : Span) : Type 0 where
  pub wide : span.wide ≡ is_wide image
  pub end : span.end ≡ last_byte image
  pub inside : span.end < length image

-- no rule of the head is broken, and it says this
pub record IsStart (image : List ℕ) (start : Start) : Type 0 where
  pub kept : first_broken (start_rows image) ≡ None
  pub root : start.root ≡ (root_visit image).place
  pub span : IsReach image start.span

-- ---- the ways to nodes

-- Names that lead from the root to one of the nodes that are kept: those in the entries of the nodes on the way.
pub data IsWayTo (kept : List Waiting) : ℕ → List (List ℕ) → Type 0 where
  to_root : {number : ℕ} {m : Waiting} → slice_get kept number ≡ Some m → m.entry ≡ None → m.depth ≡ 0 → IsWayTo kept number []
  to_child : {number : ℕ} {m : Waiting} {name : List ℕ} {names : List (List ℕ)} → slice_get kept number ≡ Some m → m.entry ≡ Some name → 0 < m.depth → IsWayTo kept m.parent names
      → IsWayTo kept number (names ++ trimmed name ∷ [])

-- the name fields of the nodes on the way lead to the node of each family
abbrev pub AreWays : List Waiting → List Family → List (List ℕ) → Type 0
AreWays kept families names = (k : ℕ) (f : Family) → slice_get families k ≡ Some f → IsWayTo kept f.number (map trimmed (take k names))

-- a node that is left out is told by the way to it, and by its fault
pub record IsTold (kept : List Waiting) (m : Waiting) (fault : Fault) (left : Left) : Type 0 where
  pub name : List ℕ
  pub names : List (List ℕ)
  pub entry : m.entry ≡ Some name
  pub below : 0 < m.depth
  pub way : IsWayTo kept m.parent names
  pub path : left.path ≡ way_text (names ++ trimmed name ∷ [])
  pub rule : left.rule ≡ fault.rule
  pub place : left.place ≡ fault.place

-- and so one by one
abbrev pub AreTold : List Waiting → List Waiting → List (Visit × Fault) → List Left → Type 0
AreTold kept [] [] [] = ⊤
AreTold kept (m ∷ out) (o ∷ faults) (l ∷ left) = IsTold kept m o.1 l × AreTold kept out faults left
AreTold kept [] (o ∷ faults) left = ⊥
AreTold kept [] [] (l ∷ left) = ⊥
AreTold kept (m ∷ out) [] left = ⊥
AreTold kept (m ∷ out) (o ∷ faults) [] = ⊥

-- ---- steps

-- nothing is kept or left out, and nothing waits
pub record IsEmpty (p : Progress) : Type 0 where
  pub families : p.families.items ≡ []
  pub names : p.names.items ≡ []
  pub nodes : p.nodes.items ≡ []
  pub places : p.places ≡ []
  pub used : p.used ≡ 266
  pub left : p.left.items ≡ []

-- a node is put behind those that are kept, and its children wait
pub record Keeps (m : Met) (next : Next) (old new : Progress) : Type 0 where
  pub families : new.families.items ≡ old.families.items ++ record { number = length old.nodes.items; depth = m.depth; table = next.table; children = next.children; next = 0 } ∷ []
  pub names : new.names ≡ old.names
  pub nodes : map node_place new.nodes.items ≡ map node_place old.nodes.items ++ met_place m ∷ []
  pub places : (q : ℕ) → contains nat_cmp new.places q ≡ cond (m.place == q) true (contains nat_cmp old.places q)
  pub used : new.used ≡ next.used
  pub left : new.left ≡ old.left

-- one more node stands on the way
pub record Enters (name : List ℕ) (old new : Progress) : Type 0 where
  pub names : new.names.items ≡ old.names.items ++ name ∷ []
  pub families : new.families ≡ old.families
  pub nodes : new.nodes ≡ old.nodes
  pub places : new.places ≡ old.places
  pub used : new.used ≡ old.used
  pub left : new.left ≡ old.left

-- a node of this name is put behind those that are left out
pub record Omits (name : List ℕ) (b : Broken) (old new : Progress) : Type 0 where
  pub left : new.left.items ≡ old.left.items ++ record { path = way_text (map trimmed old.names.items ++ trimmed name ∷ []); rule = b.rule; place = b.place } ∷ []
  pub families : new.families ≡ old.families
  pub names : new.names ≡ old.names
  pub nodes : new.nodes ≡ old.nodes
  pub places : new.places ≡ old.places
  pub used : new.used ≡ old.used

-- ---- what holds between two steps

-- The nodes that are kept are linked and lie within the file; the children that wait can be read, one name stands for each node on the way, and what is left out breaks a rule.
pub record IsGoing (wide : Bool) (end : ℕ) (p : Progress) : Type 0 where
  pub readable : All (IsOpen end) p.families.items
  pub stepped : AreStepped p.families.items
  pub families : All (IsFamilyOf (map node_place p.nodes.items)) p.families.items
  pub linked : AreLinked (map node_place p.nodes.items)
  pub headers : AreWithin wide end (map node_place p.nodes.items)
  pub named : length p.families.items ≤ length p.names.items + 1
  pub room : p.used ≤ end + 1
  pub some : 0 < length p.nodes.items
  pub rules : All HasRule p.left.items

-- how far a survey is from its end: the bytes that are not used yet, and the children that wait
abbrev pub ahead : ℕ → Progress → ℕ
ahead end p = end + 1 - p.used + left_in p.families.items

-- The nodes kept and left out so far, with the ways to them; the survey goes on with these nodes, the next one last.
pub record IsSurvey (image : List ℕ) (stack : List Waiting) (p : Progress) : Type 0 where
  pub kept : List Waiting
  pub out : List Waiting
  pub left : List (Visit × Fault)
  pub surveying : IsSurveying image stack kept out left
  pub named : map node_place p.nodes.items ≡ map named_node kept
  pub places : (q : ℕ) → contains nat_cmp p.places q ≡ is_known kept q
  pub used : p.used ≡ 266 + total_length (met_extents image (is_wide image) kept)
  pub ways : AreWays kept p.families.items p.names.items
  pub told : AreTold kept out left p.left.items

-- The next node is this one, of this name, and the names lead to its parent.
pub record IsNextIn (image : List ℕ) (m : Met) (name : List ℕ) (p : Progress) : Type 0 where
  pub survey : IsSurvey image (waiting_in image p.families.items ++ waiting_of m ∷ []) p
  pub entry : m.entry ≡ Some name
  pub below : 0 < m.depth
  pub way : IsWayTo survey.kept m.parent (map trimmed p.names.items)

-- where the root breaks a rule, the file has no sound part
abbrev pub EndsSurvey : List ℕ → Halt → Type 0
EndsSurvey image (halt.Broken b) = HasNoPart image (fault b)
EndsSurvey image halt.Memory = ⊤
EndsSurvey image halt.Read = ⊤
