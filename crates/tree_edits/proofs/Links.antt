-- Whether a node may get a link: the tests of a link are those of a node without a label, and two more.
use Rattle.std.proofs.Common.{◌≡◌, inl, inr, ℕ, refl, sym, ◌∙◌, ap, arith, List, [], ◌∷◌, length, ◌^◌, ◌<◌, ◌≤◌, Bool, true, false, not, ◌||◌, Option, None, Some}
use Rattle.std.proofs.lemmas.Bool.Decides.{nat_tests}
use Rattle.std.specs.Prelude.{is_some, nat_le, nat_lt, if◌then◌else◌, IfSome, Result, Ok, Err, ◌↔◌}
use Rattle.adf_format.specs.Links.{link_text}
use Rattle.adf_format.specs.Names.{is_name}
use Rattle.adf_format.specs.Tree.{Tree, node_at, children_at, depth_of, is_link_in}
use Rattle.adf_links.specs.LinkParts.{IsJoinRefusal}
use Rattle.adf_model.specs.declared.error.AdfError.{AdfError}
use Rattle.adf_model.specs.declared.error.AdfError.TheVariants as error
use Rattle.adf_model.specs.declared.tree.Edit.{Edit}
use Rattle.adf_model.specs.declared.tree.NodeId.{NodeId}
use Rattle.adf_model.specs.Tests.{checked}
use Rattle.adf_model.specs.Edits.{file_step, has_named, with_new, new_node, new_link, serials_used_up}
use Rattle.adf_model.proofs.Following.StepTests.{step_tests}
use Rattle.tree_edits.specs.declared.memory.Core.{Core}
use Rattle.tree_edits.specs.declared.room.Parent.{Parent}
use Rattle.tree_edits.specs.Edits.{Refuses}
use Rattle.tree_edits.specs.Room.{MayCreate, IsRoomCause}
use Rattle.tree_edits.specs.Linkable.{are_linked, link_error, HasPlace, IsLinkRoomCause}
use Rattle.tree_edits.proofs.Creates.{made}

-- ---- the tests

-- all tests of a node without a label, and of a link, by what is known of the parent and its children
abbrev as_node : Bool → Bool → Bool → Bool → Bool → Bool → Bool → Bool → Tree → Result Tree AdfError
as_node there link writable good taken many deep used x =
    checked ((not there || false, AdfError.NoSuchNode) ∷ (link, AdfError.LinkMissing) ∷ (not writable, AdfError.ReadOnly) ∷ [])
    (checked ((not good, AdfError.BadName) ∷ (false, AdfError.BadLabel) ∷ (taken, AdfError.Duplicate) ∷ (many, AdfError.TooManyChildren) ∷ (deep, AdfError.TooDeep) ∷ (used, AdfError.TooLarge) ∷ []) (Ok x))

abbrev as_link : Bool → Bool → Bool → Bool → Bool → Bool → Bool → Bool → Bool → Bool → Tree → Result Tree AdfError
as_link there link writable good taken many deep linked long used y =
    checked ((not there || false, AdfError.NoSuchNode) ∷ (link, AdfError.LinkMissing) ∷ (not writable, AdfError.ReadOnly) ∷ [])
    (checked ((not good, AdfError.BadName) ∷ (taken, AdfError.Duplicate) ∷ (many, AdfError.TooManyChildren) ∷ (deep, AdfError.TooDeep) ∷ (not linked, AdfError.BadLink) ∷ (long || used, AdfError.TooLarge) ∷ []) (Ok y))

-- the answer for a link, from that for a node
abbrev link_of : Result Tree AdfError → Bool → Bool → Tree → Result Tree AdfError
link_of (Ok x) linked long y = if linked then (if long then Err AdfError.TooLarge else Ok y) else Err AdfError.BadLink
link_of (Err e) linked long y = Err (link_error e linked)

same_tests : (there link writable good taken many deep linked long used : Bool) (x y : Tree)
    → as_link there link writable good taken many deep linked long used y ≡ link_of (as_node there link writable good taken many deep used x) linked long y
same_tests false link writable good taken many deep linked long used x y = refl
same_tests true true writable good taken many deep linked long used x y = refl
same_tests true false false good taken many deep linked long used x y = refl
same_tests true false true false taken many deep linked long used x y = refl
same_tests true false true true true many deep linked long used x y = refl
same_tests true false true true false true deep linked long used x y = refl
same_tests true false true true false false true linked long used x y = refl
same_tests true false true true false false false false long true x y = refl
same_tests true false true true false false false false long false x y = refl
same_tests true false true true false false false true true true x y = refl
same_tests true false true true false false false true false true x y = refl
same_tests true false true true false false false true true false x y = refl
same_tests true false true true false false false true false false x y = refl

module _ (tree : Tree) (at : NodeId) (name file path : List ℕ) (writable : Bool) where
  abbrev pub its : Tree
  its = with_new tree at.serial (new_link name (link_text file path))

  abbrev long : Bool
  long = nat_lt 4096 (length (link_text file path))

  link_step : file_step writable tree (Edit.Link at name file path) ≡ link_of (file_step writable tree (Edit.Create at name [])) (are_linked file path) long its
  link_step =
      step_tests writable tree (Edit.Link at name file path)
      ∙ same_tests (is_some (node_at tree at.serial)) (is_link_in (node_at tree at.serial)) writable (is_name name) (has_named tree (children_at tree at.serial) name) (nat_le (2 ^ 20) (length (children_at tree at.serial))) (nat_le 255 (depth_of tree at.serial)) (are_linked file path) long (serials_used_up tree) (with_new tree at.serial (new_node name [])) its
      ∙ ap (λ (r : Result Tree AdfError). link_of r (are_linked file path) long its) (sym (step_tests writable tree (Edit.Create at name [])))

  refused_too : (e : AdfError) → file_step writable tree (Edit.Create at name []) ≡ Err e → (linked : Bool) → are_linked file path ≡ linked → file_step writable tree (Edit.Link at name file path) ≡ Err (link_error e linked)
  refused_too e r linked is = link_step ∙ ap (λ (r : Result Tree AdfError). link_of r (are_linked file path) long its) r ∙ ap (λ (b : Bool). link_of (Err e) b long its) is

  module _ (x : Tree) (r : file_step writable tree (Edit.Create at name []) ≡ Ok x) where
    by_tests : (linked too_long : Bool) → are_linked file path ≡ linked → long ≡ too_long → file_step writable tree (Edit.Link at name file path) ≡ link_of (Ok x) linked too_long its
    by_tests linked too_long is so =
        link_step ∙ ap (λ (r : Result Tree AdfError). link_of r (are_linked file path) long its) r
        ∙ ap (λ (b : Bool). link_of (Ok x) b long its) is ∙ ap (λ (b : Bool). link_of (Ok x) linked b its) so

    pub no_link : are_linked file path ≡ false → file_step writable tree (Edit.Link at name file path) ≡ Err AdfError.BadLink
    no_link is = by_tests false long is refl

    pub too_long : are_linked file path ≡ true → 4096 < length (link_text file path) → file_step writable tree (Edit.Link at name file path) ≡ Err AdfError.TooLarge
    too_long is lt = by_tests true true is (is_less 4096 (length (link_text file path)) lt)
      where
        is_less : (a b : ℕ) → a < b → nat_lt a b ≡ true
        is_less a b lt = grind (arith, nat_tests)

    pub linked_there : are_linked file path ≡ true → length (link_text file path) ≤ 4096 → file_step writable tree (Edit.Link at name file path) ≡ Ok its
    linked_there is le = by_tests true false is (not_less 4096 (length (link_text file path)) le)
      where
        not_less : (a b : ℕ) → b ≤ a → nat_lt a b ≡ false
        not_less a b le = grind (arith, nat_tests)

-- ---- what is found where a node would be refused

module _ (core : Core) (at : NodeId) (name file path : List ℕ) where
  abbrev RefusedIn : AdfError → Option (List ℕ) → Type 0
  RefusedIn e held = IfSome held (Refuses (Edit.Link at name file path) core e)

  pub refused_room : (held : Option (List ℕ)) (before now : ℕ) (e : AdfError) (linked : Bool) → are_linked file path ≡ linked → IsRoomCause core at name [] held before now e
      → IfSome held (Refuses (Edit.Create at name []) core e) → RefusedIn (link_error e linked) held
  refused_room None before now e linked is c r = tt
  refused_room (Some image) before now error.Memory linked is c r = absurd c
  refused_room (Some image) before now error.ReadFault linked is c r = λ tree p m. r tree p m
  refused_room (Some image) before now (error.Full asked end) linked is c r = absurd c
  refused_room (Some image) before now error.TooLarge true is c r = λ tree p m. refused_too tree at name file path core.writable AdfError.TooLarge (r tree p m) true is
  refused_room (Some image) before now error.TooLarge false is c r = λ tree p m. refused_too tree at name file path core.writable AdfError.TooLarge (r tree p m) false is
  refused_room (Some image) before now other linked is c r = λ tree p m. refused_too tree at name file path core.writable other (r tree p m) linked is

  pub room_cause : (held : Option (List ℕ)) (before now : ℕ) (e : AdfError) (linked : Bool) → are_linked file path ≡ linked → IsRoomCause core at name [] held before now e
      → IsLinkRoomCause core at name file path held before now (link_error e linked)
  room_cause held before now error.Memory linked is c = absurd c
  room_cause held before now error.BadLink linked is c = absurd c
  room_cause held before now error.TooLarge true is c = (record { row = c.row; table = c.table; asked = c.asked; few = c.lacks.0; shallow = c.lacks.1 }, is, inr c.lacks.2)
  room_cause held before now error.TooLarge false is c = (record { row = c.row; table = c.table; asked = c.asked; few = c.lacks.0; shallow = c.lacks.1 }, is)
  room_cause held before now other linked is c = c

  -- ---- what is found where a text is not joined

  has_place : (held : Option (List ℕ)) (parent : Parent) → MayCreate core at name [] held parent → HasPlace core at name held
  has_place held parent may = record { row = parent.row; table = parent.table; asked = may.asked; few = may.room.few; shallow = may.room.shallow }

  module _ (parent : Parent) where
    pub refused_join : (held : Option (List ℕ)) → MayCreate core at name [] held parent → (e : AdfError) → IsJoinRefusal e → (e ≡ AdfError.BadLink → are_linked file path ≡ false)
        → (e ≡ AdfError.TooLarge → (are_linked file path ≡ true) × (4096 < length (link_text file path))) → RefusedIn e held
    refused_join None may e is bad large = tt
    refused_join (Some image) may error.Memory is bad large = λ tree p m. tt
    refused_join (Some image) may error.BadLink is bad large = λ tree p m. no_link tree at name file path core.writable _ (made image core at name [] parent may tree p m) (bad refl)
    refused_join (Some image) may error.TooLarge is bad large = λ tree p m. too_long tree at name file path core.writable _ (made image core at name [] parent may tree p m) (large refl).0 (large refl).1
    refused_join (Some image) may other is bad large = absurd is

    pub join_cause : (held : Option (List ℕ)) → MayCreate core at name [] held parent → (before now : ℕ) (e : AdfError) → IsJoinRefusal e → (e ≡ AdfError.BadLink → are_linked file path ≡ false)
        → (e ≡ AdfError.TooLarge → (are_linked file path ≡ true) × (4096 < length (link_text file path))) → (e ≡ AdfError.Memory → are_linked file path ≡ true)
        → IsLinkRoomCause core at name file path held before now e
    join_cause held may before now error.Memory is bad large none = (has_place held parent may, none refl)
    join_cause held may before now error.BadLink is bad large none = (has_place held parent may, bad refl)
    join_cause held may before now error.TooLarge is bad large none = (has_place held parent may, (large refl).0, inl (large refl).1)
    join_cause held may before now other is bad large none = absurd is

-- ---- what joining says

-- two tests of one thing
pub same_test : {P : Type 0} (a b : Bool) → (a ≡ false) ↔ P → P ↔ (b ≡ false) → b ≡ a
same_test true true f g = refl
same_test false false f g = refl
same_test true false f g = sym (f.1 (g.1 refl))
same_test false true f g = g.0 (f.0 refl)
