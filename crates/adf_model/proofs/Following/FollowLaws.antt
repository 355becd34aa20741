-- Following spends links and never gains any, and its bound is the links that are left and no other.
use Rattle.std.proofs.Common.{◌≡◌, ℕ, zero, suc, ◌<◌, ◌≤◌, List, [], ◌∷◌, refl, sym, ◌∙◌, ap, subst, arith, le_trans, le_refl}
use Rattle.std.specs.Prelude.{Option, Some, None, IsSome, Ok, Err}
use Rattle.adf_model.specs.declared.error.AdfError.{AdfError}
use Rattle.adf_model.specs.declared.error.AdfError.TheVariants.{LinkMissing, LinkChain}
use Rattle.adf_model.specs.declared.tree.NodeId.{NodeId}
use Rattle.adf_model.specs.Tests.{and_then, if_there}
use Rattle.adf_format.specs.Links.{file_part, path_part, components}
use Rattle.adf_model.specs.Slots.{Files}
use Rattle.adf_model.specs.Follow.{Spot, Follower, ChildLookup, walk, child_in, linked_file, follow_text, follow_within, follow, link_text_at}
use Rattle.adf_model.proofs.Basics.{not_true, same_Ok, not_Err, done, found, and_then-agree, if_there-agree}

-- a follower gains no links
abbrev Spends : Follower → Type 0
Spends f = (node : NodeId) (left : ℕ) (spot : Spot) → f node left ≡ Ok spot → spot.left ≤ left

-- two followers agree with up to so many links left
abbrev AgreeTo : ℕ → Follower → Follower → Type 0
AgreeTo most f g = (node : NodeId) (left : ℕ) → left ≤ most → f node left ≡ g node left

walk_spends : (f : Follower) → Spends f → (child : ChildLookup) (missing : AdfError) (names : List (List ℕ)) (spot end : Spot) → walk f child missing names spot ≡ Ok end → end.left ≤ spot.left
walk_spends f spends child missing [] spot end e = subst (λ (s : Spot). s.left ≤ spot.left) (same_Ok e) (le_refl spot.left)
walk_spends f spends child missing (wanted ∷ names) spot end e =
    let here = done (f spot.node spot.left) _ end e in
    let next = found (child here.0.node wanted) missing _ end here.2 in
    le_trans (walk_spends f spends child missing names (record { node = next.0; left = here.0.left }) end next.2) (spends spot.node spot.left here.0 here.1)

walk_agrees : (f g : Follower) → Spends f → (most : ℕ) → AgreeTo most f g → (child : ChildLookup) (missing : AdfError) (names : List (List ℕ)) (spot : Spot) → spot.left ≤ most → walk f child missing names spot ≡ walk g child missing names spot
walk_agrees f g spends most agree child missing [] spot h = refl
walk_agrees f g spends most agree child missing (wanted ∷ names) spot h =
    and_then-agree (f spot.node spot.left) _ _ (λ here e.
    if_there-agree (child here.node wanted) missing _ _ (λ next.
    walk_agrees f g spends most agree child missing names (record { node = next; left = here.left }) (le_trans (spends spot.node spot.left here e) h)))
    ∙ ap (λ r. and_then r (λ (here : Spot). if_there (child here.node wanted) missing (λ next. walk g child missing names (record { node = next; left = here.left })))) (agree spot.node spot.left h)

module _ (files : Files) where
  -- where a link is followed a link is spent
  link_spends : (f : Follower) → Spends f → (own : NodeId) (text : List ℕ) (node : NodeId) (left : ℕ) (spot : Spot) → follow_text f files own (Some text) node left ≡ Ok spot → spot.left < left
  link_spends f spends own text node zero spot e = absurd (not_Err e)
  link_spends f spends own text node (suc left) spot e =
      let number = done (linked_file files own.file (file_part text)) _ spot e in
      let start : Spot = record { node = record { file = number.0; serial = 0 }; left = left } in
      let last = done (walk f (child_in files) LinkMissing (components (path_part text)) start) _ spot number.2 in
      let along = walk_spends f spends (child_in files) LinkMissing (components (path_part text)) start last.0 last.1 in
      let on = spends last.0.node last.0.left spot last.2 in
      omega (arith, along, on)

  text_spends : (f : Follower) → Spends f → (own : NodeId) (text : Option (List ℕ)) (node : NodeId) (left : ℕ) (spot : Spot) → follow_text f files own text node left ≡ Ok spot → spot.left ≤ left
  text_spends f spends own None node left spot e = subst (λ (s : Spot). s.left ≤ left) (same_Ok e) (le_refl left)
  text_spends f spends own (Some text) node left spot e = let h = link_spends f spends own text node left spot e in omega (arith, h)

  within_spends : (nesting : ℕ) → Spends (follow_within nesting files)
  within_spends zero node left spot e = text_spends (λ node left. Err LinkChain) (λ node left spot e. absurd (not_Err e)) node (link_text_at files node) node left spot e
  within_spends (suc nesting) node left spot e = text_spends (follow_within nesting files) (within_spends nesting) node (link_text_at files node) node left spot e

  text_agrees : (f g : Follower) → Spends f → (most : ℕ) → AgreeTo most f g → (own : NodeId) (text : Option (List ℕ)) (node : NodeId) (left : ℕ) → left ≤ suc most → follow_text f files own text node left ≡ follow_text g files own text node left
  text_agrees f g spends most agree own None node left h = refl
  text_agrees f g spends most agree own (Some text) node zero h = refl
  text_agrees f g spends most agree own (Some text) node (suc left) h =
      let names = components (path_part text) in
      let within : left ≤ most = omega arith in
      and_then-agree (linked_file files own.file (file_part text)) _ _ (λ number found.
      let start : Spot = record { node = record { file = number; serial = 0 }; left = left } in
      and_then-agree (walk f (child_in files) LinkMissing (components (path_part text)) start) _ _ (λ last e.
      agree last.node last.left (le_trans (walk_spends f spends (child_in files) LinkMissing (components (path_part text)) start last e) within))
      ∙ ap (λ r. and_then r (λ (last : Spot). g last.node last.left)) (walk_agrees f g spends most agree (child_in files) LinkMissing (components (path_part text)) start within))

  none_left : (f g : Follower) (own : NodeId) (text : Option (List ℕ)) (node : NodeId) → follow_text f files own text node 0 ≡ follow_text g files own text node 0
  none_left f g own None node = refl
  none_left f g own (Some text) node = refl

  within_agrees : (one other : ℕ) (left : ℕ) → left ≤ one → left ≤ other → (node : NodeId) → follow_within one files node left ≡ follow_within other files node left
  within_agrees zero zero left h k node = refl
  within_agrees zero (suc other) zero h k node = none_left (λ node left. Err LinkChain) (follow_within other files) node (link_text_at files node) node
  within_agrees zero (suc other) (suc left) h k node = absurd (omega arith)
  within_agrees (suc one) zero zero h k node = none_left (follow_within one files) (λ node left. Err LinkChain) node (link_text_at files node) node
  within_agrees (suc one) zero (suc left) h k node = absurd (omega arith)
  within_agrees (suc one) (suc other) zero h k node = none_left (follow_within one files) (follow_within other files) node (link_text_at files node) node
  within_agrees (suc one) (suc other) (suc left) h k node =
      text_agrees (follow_within one files) (follow_within other files) (within_spends one) left (λ at fewer le. within_agrees one other fewer (omega (arith, le, h)) (omega (arith, le, k)) at)
      node (link_text_at files node) node (suc left) (le_refl (suc left))

  one_more : (nesting left : ℕ) → left ≤ nesting → (node : NodeId) → follow_within nesting files node left ≡ follow_text (follow_within nesting files) files node (link_text_at files node) node left
  one_more nesting left h node = within_agrees nesting (suc nesting) left h (omega (arith, h)) node

  -- following a node is one step, and following on from there
  pub follow-step : (node : NodeId) (left : ℕ) → left ≤ 100 → follow files node left ≡ follow_text (follow files) files node (link_text_at files node) node left
  unfolding follow
  follow-step node left h = one_more 100 left h node

  -- it gains no links
  pub follow_spends : (node : NodeId) (left : ℕ) (spot : Spot) → follow files node left ≡ Ok spot → spot.left ≤ left
  unfolding follow
  follow_spends node left spot e = within_spends 100 node left spot e

  -- and spends one where it begins at a link
  pub follow_spends_link : (node : NodeId) (left : ℕ) (spot : Spot) → IsSome (link_text_at files node) → follow files node left ≡ Ok spot → spot.left < left
  unfolding follow
  follow_spends_link node left spot link e = by_text (link_text_at files node) link (sym (one_more_at 99) ∙ e)
    where
      one_more_at : (nesting : ℕ) → follow_within (suc nesting) files node left ≡ follow_text (follow_within nesting files) files node (link_text_at files node) node left
      one_more_at nesting = refl

      by_text : (text : Option (List ℕ)) → IsSome text → follow_text (follow_within 99 files) files node text node left ≡ Ok spot → spot.left < left
      by_text None link e = absurd (not_true link)
      by_text (Some text) link e = link_spends (follow_within 99 files) (within_spends 99) node text node left spot e
