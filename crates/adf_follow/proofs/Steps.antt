-- Steps of a walk, in the words of the definitions.
use Rattle.std.proofs.Common.{◌≡◌, ◌⊎◌, inl, inr, ℕ, zero, suc, ◌-◌, ◌<◌, ◌≤◌, true, List, [], ◌∷◌, refl, sym, ◌∙◌, ap, subst, arith}
use Rattle.std.specs.Prelude.{Option, Some, None, IsSome, Result, Ok, Err}
use Rattle.adf_format.specs.Links.{file_part, path_part, components}
use Rattle.adf_model.specs.declared.error.AdfError.{AdfError}
use Rattle.adf_model.specs.declared.error.AdfError.TheVariants.{LinkMissing, LinkChain}
use Rattle.adf_model.specs.declared.tree.NodeId.{NodeId}
use Rattle.adf_model.specs.Tests.{and_then, if_there}
use Rattle.adf_model.specs.Slots.{Files, Slot, slot_at, open_at, open_of, is_broken, number_of}
use Rattle.adf_model.specs.Causes.{SomeBroken}
use Rattle.adf_model.proofs.Basics.{same_Ok}
use Rattle.adf_model.specs.Slots.Slot.{Gone, Raw, Saved, Live}
use Rattle.adf_model.specs.Follow.{Spot, walk, child_in, linked_file, follow_text, follow, link_text_at, open_file}
use Rattle.adf_model.proofs.Following.FollowLaws.{follow-step}

module _ (files : Files) where
  -- the walk of a link's path, from the root of its file
  abbrev pub along : List ℕ → ℕ → ℕ → Result Spot AdfError
  along text number left = walk (follow files) (child_in files) LinkMissing (components (path_part text)) (record { node = record { file = number; serial = 0 }; left = left })

  -- a node that is no link is itself
  pub at_node : (node : NodeId) (left : ℕ) → left ≤ 100 → link_text_at files node ≡ None → follow files node left ≡ Ok (record { node = node; left = left })
  at_node node left few e = follow-step files node left few ∙ ap (λ t. follow_text (follow files) files node t node left) e

  -- no link is left
  pub at_last : (node : NodeId) (left : ℕ) (text : List ℕ) → left ≡ 0 → link_text_at files node ≡ Some text → follow files node left ≡ Err LinkChain
  at_last node left text none e =
      follow-step files node left (omega (arith, none)) ∙ ap (λ t. follow_text (follow files) files node t node left) e ∙ ap (λ n. follow_text (follow files) files node (Some text) node n) none

  -- a link is followed
  pub at_link : (node : NodeId) (left : ℕ) (text : List ℕ) → left ≤ 100 → 0 < left → link_text_at files node ≡ Some text
      → follow files node left ≡ and_then (linked_file files node.file (file_part text)) (λ number. and_then (along text number (left - 1)) (λ last. follow files last.node last.left))
  at_link node zero text few some e = absurd (omega (arith, some))
  at_link node (suc left) text few some e =
      let back : left ≡ suc left - 1 = omega arith in
      follow-step files node (suc left) few
      ∙ ap (λ t. follow_text (follow files) files node t node (suc left)) e
      ∙ ap (λ n. and_then (linked_file files node.file (file_part text)) (λ number. and_then (along text number n) (λ last. follow files last.node last.left))) back

  -- to a file that is open
  pub at_file : (node : NodeId) (left number : ℕ) (text : List ℕ) → left ≤ 100 → 0 < left → link_text_at files node ≡ Some text → Ok number ≡ linked_file files node.file (file_part text)
      → follow files node left ≡ and_then (along text number (left - 1)) (λ last. follow files last.node last.left)
  at_file node left number text few some e f = at_link node left text few some e ∙ ap (λ r. and_then r (λ number. and_then (along text number (left - 1)) (λ last. follow files last.node last.left))) (sym f)

  pub no_file : (node : NodeId) (left : ℕ) (text : List ℕ) (error : AdfError) → left ≤ 100 → 0 < left → link_text_at files node ≡ Some text → Err error ≡ linked_file files node.file (file_part text)
      → follow files node left ≡ Err error
  no_file node left text error few some e f = at_link node left text few some e ∙ ap (λ r. and_then r (λ number. and_then (along text number (left - 1)) (λ last. follow files last.node last.left))) (sym f)

  -- along its path
  pub at_path : (node : NodeId) (left number : ℕ) (text : List ℕ) (last : Spot) → left ≤ 100 → 0 < left → link_text_at files node ≡ Some text → Ok number ≡ linked_file files node.file (file_part text)
      → along text number (left - 1) ≡ Ok last → follow files node left ≡ follow files last.node last.left
  at_path node left number text last few some e f w = at_file node left number text few some e f ∙ ap (λ r. and_then r (λ (last : Spot). follow files last.node last.left)) w

  pub no_path : (node : NodeId) (left number : ℕ) (text : List ℕ) (error : AdfError) → left ≤ 100 → 0 < left → link_text_at files node ≡ Some text → Ok number ≡ linked_file files node.file (file_part text)
      → along text number (left - 1) ≡ Err error → follow files node left ≡ Err error
  no_path node left number text error few some e f w = at_file node left number text few some e f ∙ ap (λ r. and_then r (λ (last : Spot). follow files last.node last.left)) w

  -- along a path, name by name
  pub one_name : (missing : AdfError) (wanted : List ℕ) (names : List (List ℕ)) (spot here : Spot) (next : NodeId)
      → follow files spot.node spot.left ≡ Ok here → child_in files here.node wanted ≡ Some next
      → walk (follow files) (child_in files) missing (wanted ∷ names) spot ≡ walk (follow files) (child_in files) missing names (record { node = next; left = here.left })
  one_name missing wanted names spot here next e f =
      ap (λ r. and_then r (λ (here : Spot). if_there (child_in files here.node wanted) missing (λ next. walk (follow files) (child_in files) missing names (record { node = next; left = here.left })))) e
      ∙ ap (λ o. if_there o missing (λ next. walk (follow files) (child_in files) missing names (record { node = next; left = here.left }))) f

  pub no_name : (missing : AdfError) (wanted : List ℕ) (names : List (List ℕ)) (spot here : Spot)
      → follow files spot.node spot.left ≡ Ok here → child_in files here.node wanted ≡ None
      → walk (follow files) (child_in files) missing (wanted ∷ names) spot ≡ Err missing
  no_name missing wanted names spot here e f =
      ap (λ r. and_then r (λ (here : Spot). if_there (child_in files here.node wanted) missing (λ next. walk (follow files) (child_in files) missing names (record { node = next; left = here.left })))) e
      ∙ ap (λ o. if_there o missing (λ next. walk (follow files) (child_in files) missing names (record { node = next; left = here.left }))) f

  pub no_follow : (missing : AdfError) (wanted : List ℕ) (names : List (List ℕ)) (spot : Spot) (error : AdfError)
      → follow files spot.node spot.left ≡ Err error
      → walk (follow files) (child_in files) missing (wanted ∷ names) spot ≡ Err error
  no_follow missing wanted names spot error e =
      ap (λ r. and_then r (λ (here : Spot). if_there (child_in files here.node wanted) missing (λ next. walk (follow files) (child_in files) missing names (record { node = next; left = here.left })))) e

  -- a link that names no open file
  pub unlinked : (own : ℕ) (wanted : List ℕ) (error : AdfError) → Err error ≡ linked_file files own wanted → (error ≡ LinkMissing) ⊎ (error ≡ AdfError.Broken)
  unlinked own [] error e = absurd (no_value own error e)
    where
      no_value : (own : ℕ) (error : AdfError) → ◌≡◌ {A = Result ℕ AdfError} (Err error) (Ok own) → ⊥
      no_value own error e = cc
  unlinked own (b ∷ wanted) error e = by_number (number_of files (b ∷ wanted)) e
    where
      same : (other : AdfError) → ◌≡◌ {A = Result ℕ AdfError} (Err error) (Err other) → error ≡ other
      same other e = cc

      no_value : (number : ℕ) → ◌≡◌ {A = Result ℕ AdfError} (Err error) (Ok number) → ⊥
      no_value number e = cc

      by_slot : (slot : Slot) (number : ℕ) → Err error ≡ open_file slot number → (error ≡ LinkMissing) ⊎ (error ≡ AdfError.Broken)
      by_slot Gone number e = inl (same LinkMissing e)
      by_slot Raw number e = inl (same LinkMissing e)
      by_slot (Saved tree) number e = inl (same LinkMissing e)
      by_slot (Live opened) number e = absurd (no_value number e)
      by_slot Slot.Broken number e = inr (same AdfError.Broken e)

      by_number : (o : Option ℕ) → Err error ≡ if_there o LinkMissing (λ number. open_file (slot_at files number) number) → (error ≡ LinkMissing) ⊎ (error ≡ AdfError.Broken)
      by_number None e = inl (same LinkMissing e)
      by_number (Some number) e = by_slot (slot_at files number) number e

  -- one that names a broken file
  pub broken_link : (own : ℕ) (wanted : List ℕ) → Err AdfError.Broken ≡ linked_file files own wanted → SomeBroken files
  broken_link own [] e = absurd (no_value own e)
    where
      no_value : (own : ℕ) → ◌≡◌ {A = Result ℕ AdfError} (Err AdfError.Broken) (Ok own) → ⊥
      no_value own e = cc
  broken_link own (b ∷ wanted) e = by_number (number_of files (b ∷ wanted)) e
    where
      other : (x : AdfError) → x ≡ LinkMissing → ◌≡◌ {A = Result ℕ AdfError} (Err AdfError.Broken) (Err x) → ⊥
      other x is e = cc

      no_value : (number : ℕ) → ◌≡◌ {A = Result ℕ AdfError} (Err AdfError.Broken) (Ok number) → ⊥
      no_value number e = cc

      by_slot : (slot : Slot) (number : ℕ) → Err AdfError.Broken ≡ open_file slot number → is_broken slot ≡ true
      by_slot Gone number e = absurd (other LinkMissing refl e)
      by_slot Raw number e = absurd (other LinkMissing refl e)
      by_slot (Saved tree) number e = absurd (other LinkMissing refl e)
      by_slot (Live opened) number e = absurd (no_value number e)
      by_slot Slot.Broken number e = refl

      by_number : (o : Option ℕ) → Err AdfError.Broken ≡ if_there o LinkMissing (λ number. open_file (slot_at files number) number) → SomeBroken files
      by_number None e = absurd (other LinkMissing refl e)
      by_number (Some number) e = (number, by_slot (slot_at files number) number e)

  -- the file of a link is open: its own, or the one that it names
  pub link_opens : (own number : ℕ) (wanted : List ℕ) → Ok number ≡ linked_file files own wanted → IsSome (open_at files own) → IsSome (open_at files number)
  link_opens own number [] e there = subst (λ n. IsSome (open_at files n)) (sym (same_Ok e)) there
  link_opens own number (b ∷ wanted) e there = by_number (number_of files (b ∷ wanted)) e
    where
      no_error : (x : AdfError) → ◌≡◌ {A = Result ℕ AdfError} (Ok number) (Err x) → ⊥
      no_error x e = cc

      by_slot : (slot : Slot) (k : ℕ) → Ok number ≡ open_file slot k → (number ≡ k) × IsSome (open_of slot)
      by_slot Gone k e = absurd (no_error LinkMissing e)
      by_slot Raw k e = absurd (no_error LinkMissing e)
      by_slot (Saved tree) k e = absurd (no_error LinkMissing e)
      by_slot (Live opened) k e = (same_Ok e, refl)
      by_slot Slot.Broken k e = absurd (no_error AdfError.Broken e)

      by_number : (o : Option ℕ) → Ok number ≡ if_there o LinkMissing (λ number. open_file (slot_at files number) number) → IsSome (open_at files number)
      by_number None e = absurd (no_error LinkMissing e)
      by_number (Some k) e = let at = by_slot (slot_at files k) k e in subst (λ n. IsSome (open_at files n)) (sym at.0) at.1
