-- What is seen of a node is what stands in the tree.
use Rattle.std.proofs.Common.{◌≡◌, ◌∙◌, sym, ap, subst, refl, ℕ, Bool, true, false, List, [], ◌∷◌, ◌++◌, length}
use Rattle.std.specs.Prelude.{map, nat_lt, if◌then◌else◌, Option, Some, None, Result}
use Rattle.std.specs.List.{AllByRecursion}
use Rattle.adf_format.specs.Tree.{Node, node_at, name_of, children_of}
use Rattle.adf_model.specs.declared.error.AdfError.{AdfError}
use Rattle.adf_model.specs.declared.tree.Child.{Child}
use Rattle.adf_model.specs.declared.tree.NodeId.{NodeId}
use Rattle.adf_model.specs.Slots.{Open, Slot, Files, AreTrees, slot_at, open_of, open_at, is_open, is_broken}
use Rattle.adf_model.specs.Slots.Slot.{Gone, Raw, Saved, Live}
use Rattle.adf_model.specs.Spelling.{spelled}
use Rattle.adf_model.specs.Calls.{is_live_in}
use Rattle.adf_model.proofs.Basics.{not_true}
use Rattle.sids_views.specs.Asks.{IsThere, IsValueOr}
use Rattle.sids_views.specs.Views.{node_there, node_of_open, node_or_none, entry_of, entries_there}
use Rattle.tree_report.specs.declared.fields.Fields.{Fields}
use Rattle.tree_report.specs.declared.fields.Fields.TheVariants as tells
use Rattle.tree_report.specs.declared.fields.Link.{Link}
use Rattle.tree_report.specs.declared.sight.Sight.{Sight}
use Rattle.tree_report.specs.Fields.{link_of, fields_by, fields_of}
use Rattle.tree_report.specs.Level.{Level}
use Rattle.tree_report.specs.Levels.{place_in, waiting_in, waiting, put_below}
use Rattle.tree_report.specs.Places.{Place, child_place, places_below}
use Rattle.tree_report.specs.Sights.{tree_of_open, tree_in, node_in, sight_of, plain_sight, AllThere}
use Rattle.tree_report.proofs.FieldLaws.{link_alone}

abbrev pub seen : Fields → List Child → Sight
seen fields below = record { fields = fields; below = below }

-- a link is seen with no children
pub link_seen : (files : Files) → AreTrees files → (at : NodeId) → IsThere files at → (link : Link) → Some link ≡ link_of (node_there files at) → seen (tells.Link link) [] ≡ sight_of files at
link_seen files sound at there link leads =
    ap (λ (o : Option Link). seen (fields_by (node_there files at) o) []) leads
    ∙ ap (seen (fields_of (node_there files at))) (sym (link_alone files sound at there link (sym leads)))

-- a node that leads nowhere is seen as it is
pub plain_seen : (files : Files) (at : NodeId) → None ≡ link_of (node_there files at) → plain_sight files at ≡ sight_of files at
plain_seen files at leads = ap (λ (o : Option Link). seen (fields_by (node_there files at) o) (entries_there files at)) leads

pub value_as : {A : Type 0} (a b : A) → a ≡ b → (r : Result A AdfError) → IsValueOr a r → IsValueOr b r
value_as a b e r h = subst (λ x. IsValueOr x r) e h

-- both parts of what is seen
pub sight_made : (files : Files) (at : NodeId) (fields wanted : Fields) (below : List Child) → fields ≡ wanted → below ≡ entries_there files at → seen fields below ≡ seen wanted (entries_there files at)
sight_made files at fields wanted below f b = ap (λ x. seen x below) f ∙ ap (seen wanted) b

-- ---- by the tree of a file

node_here : (o : Option Open) (serial : ℕ) → node_of_open o serial ≡ node_or_none (node_at (tree_of_open o) serial)
node_here None serial = refl
node_here (Some opened) serial = refl

pub node_of_tree : (files : Files) (file serial : ℕ) → node_there files (node_in file serial) ≡ node_or_none (node_at (tree_in files file) serial)
node_of_tree files file serial = node_here (open_at files file) serial

named : (o : Option Node) → (node_or_none o).name ≡ name_of o
named None = refl
named (Some node) = refl

parted : (o : Option Node) → (node_or_none o).children ≡ children_of o
parted None = refl
parted (Some node) = refl

module _ (files : Files) (file : ℕ) (way : List ℕ) where
  abbrev placed : ℕ → List ℕ → Place
  placed serial name = record { way = way ++ 47 ∷ spelled name; serial = serial }

  child_stands : (serial child : ℕ) → place_in way (entry_of files file child) ≡ child_place (tree_in files file) (record { way = way; serial = serial }) child
  child_stands serial child = ap (placed child) (ap (λ (n : Node). n.name) (node_of_tree files file child) ∙ named (node_at (tree_in files file) child))

  children_stand : (serial : ℕ) (children : List ℕ) → map (place_in way) (map (entry_of files file) children) ≡ map (child_place (tree_in files file) (record { way = way; serial = serial })) children
  children_stand serial [] = refl
  children_stand serial (child ∷ children) =
      ap (λ p. p ∷ map (place_in way) (map (entry_of files file) children)) (child_stands serial child)
      ∙ ap (λ ps. child_place (tree_in files file) (record { way = way; serial = serial }) child ∷ ps) (children_stand serial children)

  -- the children that are seen are those of the tree
  pub below_stand : (serial : ℕ) (below : List Child) → below ≡ entries_there files (node_in file serial) → map (place_in way) below ≡ places_below (tree_in files file) (record { way = way; serial = serial })
  below_stand serial below is =
      ap (map (place_in way)) is
      ∙ children_stand serial (node_there files (node_in file serial)).children
      ∙ ap (map (child_place (tree_in files file) (record { way = way; serial = serial }))) (ap (λ (n : Node). n.children) (node_of_tree files file serial) ∙ parted (node_at (tree_in files file) serial))

  children_there : (children : List ℕ) → AllByRecursion (λ (entry : Child). IsThere files entry.node) (map (entry_of files file) children)
      → AllByRecursion (λ (place : Place). IsThere files (node_in file place.serial)) (map (place_in way) (map (entry_of files file) children))
  children_there [] h = tt
  children_there (child ∷ children) h = (h.0, children_there children h.1)

  -- and they may be looked at
  pub below_there : (serial : ℕ) (below : List Child) → below ≡ entries_there files (node_in file serial) → AllByRecursion (λ (entry : Child). IsThere files entry.node) below
      → AllByRecursion (λ (place : Place). IsThere files (node_in file place.serial)) (map (place_in way) below)
  below_there serial below is h =
      let there = children_there (node_there files (node_in file serial)).children (subst (λ cs. AllByRecursion (λ (entry : Child). IsThere files entry.node) cs) is h) in
      subst (λ cs. AllByRecursion (λ (place : Place). IsThere files (node_in file place.serial)) (map (place_in way) cs)) (sym is) there

all_append : {A : Type 0} (P : A → Type 0) (xs ys : List A) → AllByRecursion P xs → AllByRecursion P ys → AllByRecursion P (xs ++ ys)
all_append P [] ys h k = k
all_append P (x ∷ xs) ys h k = (h.0, all_append P xs ys h.1 k)

put_or : (files : Files) (file : ℕ) (level : Level) (levels : List Level) → AllByRecursion (λ (place : Place). IsThere files (node_in file place.serial)) (waiting_in level) → AllThere files file levels
    → (b : Bool) → AllThere files file (if b then level ∷ levels else levels)
put_or files file level levels h k true = all_append (λ (place : Place). IsThere files (node_in file place.serial)) (waiting_in level) (waiting levels) h k
put_or files file level levels h k false = k

-- what waits on one more level may be looked at too
pub put_there : (files : Files) (file : ℕ) (level : Level) (levels : List Level) → AllByRecursion (λ (place : Place). IsThere files (node_in file place.serial)) (waiting_in level) → AllThere files file levels
    → AllThere files file (put_below level levels)
put_there files file level levels h k = put_or files file level levels h k (nat_lt (length levels) 255)

-- ---- the root

open_live : (slot : Slot) → is_open slot ≡ true → is_broken slot ≡ false → (opened : Open) × (open_of slot ≡ Some opened)
open_live Gone h k = absurd (not_true h)
open_live Raw h k = absurd (not_true h)
open_live (Saved tree) h k = absurd (not_true h)
open_live (Live opened) h k = (opened, refl)
open_live Slot.Broken h k = absurd (not_true (sym k))

-- a file that is open and not broken has a root
pub root_there : (files : Files) (file : ℕ) → AreTrees files → is_open (slot_at files file) ≡ true → is_broken (slot_at files file) ≡ false → IsThere files (node_in file 0)
root_there files file trees opens whole =
    let live = open_live (slot_at files file) opens whole in
    ap (λ o. is_live_in o 0) live.1 ∙ (trees file live.0 live.1).root
