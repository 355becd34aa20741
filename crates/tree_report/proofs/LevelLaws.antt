-- Levels on which nodes wait: the next node is taken, and its children wait.
use Rattle.std.proofs.Common.{◌≡◌, ◌∙◌, sym, ap, subst, refl, arith, ℕ, zero, suc, ◌-◌, ◌≤◌, Bool, true, false, List, [], ◌∷◌, ◌++◌, length, append_assoc}
use Rattle.std.specs.Prelude.{map, reverse, nat_lt, if◌then◌else◌}
use Rattle.std.specs.List.{flat_map, AllByRecursion}
use Rattle.std.proofs.lemmas.List.{map-append, reverse-append, length-reverse}
use Rattle.adf_format.specs.Tree.{Tree, children_at, tree_order, descend}
use Rattle.adf_model.specs.declared.tree.Child.{Child}
use Rattle.adf_model.specs.Slots.{Files}
use Rattle.adf_model.specs.Spelling.{spelled}
use Rattle.sids_views.specs.Asks.{IsThere}
use Rattle.tree_report.specs.declared.stack.Stop.{Stop}
use Rattle.tree_report.specs.Level.{Level}
use Rattle.tree_report.specs.Levels.{place_in, waiting_in, waiting, to_come, place_of, still_to_come, TakesNext, put_below}
use Rattle.tree_report.specs.Places.{Place, root_place, child_place, places_below, places_from, tree_places}
use Rattle.tree_report.specs.Sights.{node_in, AllThere, MayGoOn}

-- ---- a node whose children wait

module _ (tree : Tree) where
  none_down : (places : List Place) → flat_map (λ below. places_from 0 tree below) places ≡ []
  none_down [] = refl
  none_down (place ∷ places) = none_down places

  put_or : (level : Level) (levels : List Level) → length levels ≤ 255 → (b : Bool) → nat_lt (length levels) 255 ≡ b
      → flat_map (λ below. places_from (255 - length levels) tree below) (waiting_in level) ++ to_come tree levels ≡ to_come tree (if b then level ∷ levels else levels)
  put_or level levels h true e = refl
  put_or level levels h false e =
      let n : 255 - length levels ≡ 0 = grind arith in
      ap (λ k. flat_map (λ below. places_from k tree below) (waiting_in level) ++ to_come tree levels) n
      ∙ ap (λ (ps : List Place). ps ++ to_come tree levels) (none_down (waiting_in level))

  -- what is to come behind a node is what waits with its children
  pub visited : (stop : Stop) (levels : List Level) (level : Level) → length levels ≤ 255 → waiting_in level ≡ places_below tree (place_of stop)
      → still_to_come tree stop levels ≡ place_of stop ∷ to_come tree (put_below level levels)
  visited stop levels level h below =
      let n : 256 - length levels ≡ suc (255 - length levels) = omega arith in
      ap (λ k. places_from k tree (place_of stop) ++ to_come tree levels) n
      ∙ ap (λ (ps : List Place). place_of stop ∷ (flat_map (λ below. places_from (255 - length levels) tree below) ps ++ to_come tree levels)) (sym below)
      ∙ ap (λ (ps : List Place). place_of stop ∷ ps) (put_or level levels h (nat_lt (length levels) 255) refl)

-- ---- the next node

module _ (level after : Level) (levels : List Level) (child : Child) (rest : level.rest ≡ child ∷ after.rest) (same : after.way ≡ level.way) (stop : Stop)
    (way : stop.way ≡ after.way ++ 47 ∷ spelled child.name) (serial : stop.serial ≡ child.node.serial) where
  abbrev placed : List ℕ → ℕ → Place
  placed w s = record { way = w; serial = s }

  stands : place_in after.way child ≡ place_of stop
  stands = ap (λ w. placed w child.node.serial) (sym way) ∙ ap (placed stop.way) (sym serial)

  taken : waiting_in level ≡ place_of stop ∷ waiting_in after
  taken =
      ap (map (place_in level.way)) rest
      ∙ ap (λ w. map (place_in w) (child ∷ after.rest)) (sym same)
      ∙ ap (λ p. p ∷ waiting_in after) stands

  comes : (tree : Tree) → to_come tree (level ∷ levels) ≡ still_to_come tree stop (after ∷ levels)
  comes tree =
      let walk : Place → List Place = λ place. places_from (255 - length levels) tree place in
      let n : 255 - length levels ≡ 256 - length (after ∷ levels) = omega arith in
      ap (λ (ps : List Place). flat_map walk ps ++ to_come tree levels) taken
      ∙ append_assoc (walk (place_of stop)) (flat_map walk (waiting_in after)) (to_come tree levels)
      ∙ ap (λ k. places_from k tree (place_of stop) ++ to_come tree (after ∷ levels)) n

  pub takes : TakesNext (level ∷ levels) stop (after ∷ levels)
  takes = record { first = ap (λ (ps : List Place). ps ++ waiting levels) taken; comes = comes }

-- ---- levels on which none waits

-- what waits is the same, and so is what is to come
pub record SameWait (one two : List Level) : Type 0 where
  pub first : waiting one ≡ waiting two
  pub comes : (tree : Tree) → to_come tree one ≡ to_come tree two

pub wait_refl : (levels : List Level) → SameWait levels levels
wait_refl levels = record { first = refl; comes = λ tree. refl }

pub dropped : (level : Level) (levels old : List Level) → level.rest ≡ [] → SameWait (level ∷ levels) old → SameWait levels old
dropped level levels old none h = record {
  first = sym (ap (λ (r : List Child). map (place_in level.way) r ++ waiting levels) none) ∙ h.first;
  comes = λ tree. sym (ap (λ (r : List Child). flat_map (λ place. places_from (255 - length levels) tree place) (map (place_in level.way) r) ++ to_come tree levels) none) ∙ h.comes tree;
}

pub takes_of : (before old : List Level) (stop : Stop) (after : List Level) → SameWait before old → TakesNext before stop after → TakesNext old stop after
takes_of before old stop after h t = record { first = sym h.first ∙ t.first; comes = λ tree. sym (h.comes tree) ∙ t.comes tree }

-- the deepest level is the first of the levels
pub last_first : (frames : List Level) (level : Level) → reverse (frames ++ level ∷ []) ≡ level ∷ reverse frames
last_first frames level = reverse-append frames (level ∷ [])

pub few_back : (frames : List Level) → length frames ≤ 255 → length (reverse frames) ≤ 255
few_back frames few = let e : length (reverse frames) ≡ length frames = length-reverse frames in omega arith

-- ---- nodes that may be looked at

pub next_there : (files : Files) (file : ℕ) (before : List Level) (stop : Stop) (after : List Level) → TakesNext before stop after → AllThere files file before → MayGoOn files file stop after
next_there files file before stop after t h =
    subst (λ (ps : List Place). AllByRecursion (λ (place : Place). IsThere files (node_in file place.serial)) ps) t.first h

-- ---- tree order

module _ (tree : Tree) where
  abbrev serial_of : Place → ℕ
  serial_of place = place.serial

  below_in_order : (n : ℕ) → ((place : Place) → map serial_of (places_from n tree place) ≡ descend n tree place.serial)
      → (place : Place) (children : List ℕ) → map serial_of (flat_map (λ below. places_from n tree below) (map (child_place tree place) children)) ≡ flat_map (λ child. descend n tree child) children
  below_in_order n each place [] = refl
  below_in_order n each place (child ∷ children) =
      map-append serial_of (places_from n tree (child_place tree place child)) (flat_map (λ below. places_from n tree below) (map (child_place tree place) children))
      ∙ ap (λ (ss : List ℕ). ss ++ map serial_of (flat_map (λ below. places_from n tree below) (map (child_place tree place) children))) (each (child_place tree place child))
      ∙ ap (λ (ss : List ℕ). descend n tree child ++ ss) (below_in_order n each place children)

  in_order : (n : ℕ) (place : Place) → map serial_of (places_from n tree place) ≡ descend n tree place.serial
  in_order zero place = refl
  in_order (suc n) place = ap (λ ss. place.serial ∷ ss) (below_in_order n (in_order n) place (children_at tree place.serial))

-- the nodes that lines tell of stand in tree order
pub places_in_order : (tree : Tree) → map (λ (place : Place). place.serial) (tree_places tree) ≡ tree_order tree
unfolding tree_places tree_order
places_in_order tree = in_order tree 256 root_place
