-- What a walk gives is the next of the nodes to come, and what then waits are the others.
use Rattle.std.proofs.Common.{◌≡◌, ◌≢◌, ◌∙◌, sym, ap, subst, refl, arith, ℕ, suc, ◌-◌, ◌≤◌, Bool, true, false, List, [], ◌∷◌, ◌++◌, length, length-append}
use Rattle.std.specs.Prelude.{map, reverse, nat_lt, if◌then◌else◌, Option, Some, None, Result, Ok, Err, OnErr}
use Rattle.std.specs.List.{AllByRecursion, flat_map}
use Rattle.std.proofs.lemmas.Grind.{flat_map-append}
use Rattle.std.proofs.lemmas.List.{length-reverse}
use Rattle.adf_model.specs.declared.error.AdfError.{AdfError}
use Rattle.adf_model.specs.declared.error.AdfError.TheVariants.{Memory, ReadFault}
use Rattle.adf_model.specs.declared.tree.Child.{Child}
use Rattle.adf_model.specs.Slots.{Files}
use Rattle.sids_rules.specs.SeenNodes.{IsSeen}
use Rattle.sids_rules.specs.Walk.{Visit, root_visit, visits_below, walk_from, to_come}
use Rattle.sids_rules.specs.Findings.{printed_path}
use Rattle.cgns_check.specs.declared.frame.Stop.{Stop}
use Rattle.cgns_check.specs.declared.item.WalkItem.{WalkItem}
use Rattle.cgns_check.specs.declared.look.Sight.{Sight}
use Rattle.cgns_check.specs.declared.stack.Next.{Next}
use Rattle.cgns_check.specs.Level.{Level}
use Rattle.cgns_check.specs.Levels.{Starts, Goes, visit_at, visit_of, stop_of, root_stop, waiting_in, advanced, path_to, waiting_at, without_done, put_below, after_giving}
use Rattle.cgns_check.specs.Nexts.{LastWaits, IsNextIn, IsNextOf}
use Rattle.cgns_check.specs.Looks.{waiting_below, IsBelow, AreBelowSeen, IsSeenAs, IsSight}
use Rattle.cgns_check.specs.Checked.{IsNext, still_to_come}
use Rattle.cgns_check.proofs.LevelLaws.{path_length, path_given, same_wait, no_more, given_few, front, all_append}

-- each visit may be asked of rules
abbrev pub AllSeen : Files → List Visit → Type 0
AllSeen files visits = AllByRecursion (λ (visit : Visit). IsSeen files visit.seen) visits

-- ---- where the next node stands

not_next : (next : Next) → Some next ≢ None
not_next next e = cc

-- where it stands, by the levels
pub record NextAt (levels : List Level) (next : Next) : Type 0 where
  pub level : Level
  pub above : List Level
  pub child : Child
  pub rest : List Child
  pub is : levels ≡ level ∷ above
  pub waits : level.rest ≡ child ∷ rest
  pub stop : next.stop ≡ stop_of level child.node
  pub path : next.path ≡ printed_path (path_to above ++ child.name ∷ [])

next_in : (level : Level) (above : List Level) (rest : List Child) → level.rest ≡ rest → (next : Next) → IsNextIn level above rest (Some next) → NextAt (level ∷ above) next
next_in level above [] e next h = absurd (not_next next h)
next_in level above (child ∷ rest) e next h = record { level = level; above = above; child = child; rest = rest; is = refl; waits = e; stop = h.stop; path = h.path }

next_at : (levels : List Level) (next : Next) → IsNextOf levels (Some next) → NextAt levels next
next_at [] next h = absurd (not_next next h)
next_at (level ∷ above) next h = next_in level above level.rest refl next h

module _ (files : Files) where
  one_down : (path : List (List ℕ)) (level : Level) (child : Child) → walk_from (511 - length (path ++ child.name ∷ [])) files (visit_of files path level child) ≡ walk_from (510 - length path) files (visit_of files path level child)
  one_down path level child =
      let e = length-append path (child.name ∷ []) in
      let n : 511 - length (path ++ child.name ∷ []) ≡ 510 - length path = omega arith in
      ap (λ k. walk_from k files (visit_of files path level child)) n

  -- the children of a node are walked one level less than it
  level_down : (path : List (List ℕ)) (level : Level) (children : List Child) → to_come files (map (visit_of files path level) children) ≡ flat_map (λ below. walk_from (510 - length path) files below) (map (visit_of files path level) children)
  level_down path level [] = refl
  level_down path level (child ∷ children) =
      ap (λ (vs : List Visit). vs ++ to_come files (map (visit_of files path level) children)) (one_down path level child)
      ∙ ap (λ (vs : List Visit). walk_from (510 - length path) files (visit_of files path level child) ++ vs) (level_down path level children)

  none_down : (visits : List Visit) → flat_map (λ below. walk_from 0 files below) visits ≡ []
  none_down [] = refl
  none_down (visit ∷ visits) = none_down visits

  -- a node, then those below it, then those that wait
  comes : (visit : Visit) (rest : List Visit) → length visit.path ≤ 510 → to_come files (visit ∷ rest) ≡ visit ∷ (flat_map (λ below. walk_from (510 - length visit.path) files below) (visits_below files visit) ++ to_come files rest)
  comes visit rest h =
      let n : 511 - length visit.path ≡ suc (510 - length visit.path) = omega arith in
      ap (λ k. walk_from k files visit ++ to_come files rest) n

  put_comes : (path : List (List ℕ)) (level : Level) (levels : List Level) → path ≡ path_to levels → length levels ≤ 510 → (b : Bool) → nat_lt (length levels) 510 ≡ b
      → flat_map (λ below. walk_from (510 - length path) files below) (waiting_in files path level) ++ to_come files (waiting_at files levels) ≡ to_come files (waiting_at files (if b then level ∷ levels else levels))
  put_comes path level levels p h true e =
      ap (λ (vs : List Visit). vs ++ to_come files (waiting_at files levels)) (sym (level_down path level level.rest))
      ∙ sym (flat_map-append _ (waiting_in files path level) (waiting_at files levels))
      ∙ ap (λ q. to_come files (waiting_in files q level ++ waiting_at files levels)) p
  put_comes path level levels p h false e =
      let l : length path ≡ length levels = ap length p ∙ path_length levels in
      let n : 510 - length path ≡ 0 = grind arith in
      ap (λ k. flat_map (λ below. walk_from k files below) (waiting_in files path level) ++ to_come files (waiting_at files levels)) n
      ∙ ap (λ (vs : List Visit). vs ++ to_come files (waiting_at files levels)) (none_down (waiting_in files path level))

  below_comes : (path : List (List ℕ)) (below : Option Level) (levels : List Level) → path ≡ path_to levels → length levels ≤ 510
      → flat_map (λ visit. walk_from (510 - length path) files visit) (waiting_below files path below) ++ to_come files (waiting_at files levels) ≡ to_come files (waiting_at files (put_below below levels))
  below_comes path None levels p h = refl
  below_comes path (Some level) levels p h = put_comes path level levels p h (nat_lt (length levels) 510) refl

  -- what is to come behind a node is what waits when it is given
  behind : (stop : Stop) (below : Option Level) (levels : List Level) → IsBelow files stop below → length levels ≤ 510
      → to_come files (visit_at files (path_to levels) stop ∷ waiting_at files levels) ≡ visit_at files (path_to levels) stop ∷ to_come files (waiting_at files (put_below below levels))
  behind stop below levels is h =
      let path = path_to levels in
      let visit = visit_at files path stop in
      let short : length path ≤ 510 = subst (λ k. k ≤ 510) (sym (path_length levels)) h in
      comes visit (waiting_at files levels) short
      ∙ ap (λ (vs : List Visit). visit ∷ (flat_map (λ v. walk_from (510 - length path) files v) vs ++ to_come files (waiting_at files levels))) (sym (is path))
      ∙ ap (λ (vs : List Visit). visit ∷ vs) (below_comes path below levels refl h)

  -- ---- the first node

  pub root_gives : (file : ℕ) (sight : Sight) → IsSeenAs files (root_stop file) sight → (path : List ℕ) → path ≡ 47 ∷ []
      → IsNext files (to_come files (root_visit files file ∷ [])) (Ok (Some (record { seen = sight.seen; path = path; note = sight.note }))) (to_come files (waiting_at files (after_giving sight.below [])))
  root_gives file sight is path p = (
    root_visit files file,
    behind (root_stop file) sight.below [] is.below (omega arith),
    record { seen = is.seen; path = p; note = is.note },
  )

  put_seen : (level : Level) (levels : List Level) → AllSeen files (waiting_in files (path_to levels) level) → AllSeen files (waiting_at files levels) → (b : Bool) → AllSeen files (waiting_at files (if b then level ∷ levels else levels))
  put_seen level levels h k true = all_append (λ (visit : Visit). IsSeen files visit.seen) (waiting_in files (path_to levels) level) (waiting_at files levels) h k
  put_seen level levels h k false = k

  below_seen : (below : Option Level) (levels : List Level) → AreBelowSeen files below → AllSeen files (waiting_at files levels) → AllSeen files (waiting_at files (put_below below levels))
  below_seen None levels h k = k
  below_seen (Some level) levels h k = put_seen level levels (h (path_to levels)) k (nat_lt (length levels) 510)

  pub root_stands : (file : ℕ) (sight : Sight) → IsSeenAs files (root_stop file) sight → AllSeen files (waiting_at files (after_giving sight.below []))
  root_stands file sight is = below_seen sight.below [] is.stand tt

  -- ---- the next node

  pub may_look : (levels : List Level) (next : Next) → IsNextOf levels (Some next) → AllSeen files (waiting_at files levels) → IsSeen files (visit_at files [] next.stop).seen
  may_look levels next h seen =
      let n = next_at levels next h in
      let all = subst (AllSeen files) (ap (waiting_at files) n.is ∙ front files n.level n.above n.child n.rest n.waits) seen in
      subst (λ s. IsSeen files (visit_at files [] s).seen) (sym n.stop) all.0

  pub gives : (levels : List Level) (next : Next) → IsNextOf levels (Some next) → length levels ≤ 510 → (sight : Sight) → IsSeenAs files next.stop sight
      → IsNext files (to_come files (waiting_at files levels)) (Ok (Some (record { seen = sight.seen; path = next.path; note = sight.note }))) (to_come files (waiting_at files (after_giving sight.below levels)))
  gives levels next h few sight is =
      let n = next_at levels next h in
      let stop = stop_of n.level n.child.node in
      let short : length (n.level ∷ n.above) ≤ 510 = subst (λ ls. length ls ≤ 510) n.is few in
      let at = subst (λ s. IsSeenAs files s sight) n.stop is in
      let told : to_come files (waiting_at files (n.level ∷ n.above)) ≡ visit_at files (path_to (advanced n.level ∷ n.above)) stop ∷ to_come files (waiting_at files (after_giving sight.below (n.level ∷ n.above))) =
      ap (to_come files) (front files n.level n.above n.child n.rest n.waits) ∙ behind stop sight.below (advanced n.level ∷ n.above) at.below short in
      subst (λ ls. IsNext files (to_come files (waiting_at files ls)) (Ok (Some (record { seen = sight.seen; path = next.path; note = sight.note }))) (to_come files (waiting_at files (after_giving sight.below ls)))) (sym n.is)
      (visit_at files (path_to (advanced n.level ∷ n.above)) stop, told, record { seen = at.seen; path = n.path ∙ ap printed_path (sym (path_given n.above n.level n.child n.rest n.waits)); note = at.note })

  pub stands : (levels : List Level) (next : Next) → IsNextOf levels (Some next) → AllSeen files (waiting_at files levels) → (sight : Sight) → IsSeenAs files next.stop sight
      → AllSeen files (waiting_at files (after_giving sight.below levels))
  stands levels next h seen sight is =
      let n = next_at levels next h in
      let all = subst (AllSeen files) (ap (waiting_at files) n.is ∙ front files n.level n.above n.child n.rest n.waits) seen in
      subst (λ ls. AllSeen files (waiting_at files (after_giving sight.below ls))) (sym n.is) (below_seen sight.below (advanced n.level ∷ n.above) is.stand all.1)

-- ---- the end

ends_in : (level : Level) (above : List Level) (rest : List Child) → level.rest ≡ rest → level.rest ≢ [] → IsNextIn level above rest None → ⊥
ends_in level above [] e some h = some e
ends_in level above (child ∷ rest) e some h = h

pub ends : (levels : List Level) → LastWaits levels → IsNextOf levels None → levels ≡ []
ends [] last h = refl
ends (level ∷ above) last h = absurd (ends_in level above level.rest refl last h)

-- ---- by the stage of a walk

abbrev pub item_of : Sight → List ℕ → WalkItem
item_of sight path = record { seen = sight.seen; path = path; note = sight.note }

pub begun : (files : Files) (file : ℕ) (sight : Sight) → IsSeenAs files (root_stop file) sight → (path : List ℕ) → path ≡ 47 ∷ []
    → IsNext files (still_to_come files (Starts file)) (Ok (Some (item_of sight path))) (still_to_come files (Goes (after_giving sight.below [])))
unfolding still_to_come
begun files file sight is path p = root_gives files file sight is path p

pub gone_on : (files : Files) (levels : List Level) (next : Next) → IsNextOf levels (Some next) → length levels ≤ 510 → (sight : Sight) → IsSeenAs files next.stop sight
    → IsNext files (still_to_come files (Goes levels)) (Ok (Some (item_of sight next.path))) (still_to_come files (Goes (after_giving sight.below levels)))
unfolding still_to_come
gone_on files levels next h few sight is = gives files levels next h few sight is

pub none_comes : (files : Files) → still_to_come files (Goes []) ≡ []
unfolding still_to_come
none_comes files = refl

pub same_come : (files : Files) (levels : List Level) → still_to_come files (Goes (without_done levels)) ≡ still_to_come files (Goes levels)
unfolding still_to_come
same_come files levels = ap (to_come files) (same_wait files levels)

-- ---- by the frames of a walk, the deepest last

pub dropped_few : (old new : List Level) → reverse new ≡ without_done (reverse old) → length old ≤ 510 → length new ≤ 510
dropped_few old new is few =
    let e : length (reverse new) ≡ length (without_done (reverse old)) = ap length is in
    let h = no_more (reverse old) in
    let m : length (reverse old) ≡ length old = length-reverse old in
    let n : length (reverse new) ≡ length new = length-reverse new in
    omega arith

pub few_back : (frames : List Level) → length frames ≤ 510 → length (reverse frames) ≤ 510
few_back frames few = let e : length (reverse frames) ≡ length frames = length-reverse frames in omega arith

pub left_few : (old new : List Level) (below : Option Level) → reverse new ≡ after_giving below (reverse old) → length old ≤ 510 → length new ≤ 510
left_few old new below is few =
    let e : length (reverse new) ≡ length (after_giving below (reverse old)) = ap length is in
    let h = given_few below (reverse old) (few_back old few) in
    let n : length (reverse new) ≡ length new = length-reverse new in
    omega arith

pub drop_waits : (files : Files) (old new : List Level) → reverse new ≡ without_done (reverse old) → waiting_at files (reverse new) ≡ waiting_at files (reverse old)
drop_waits files old new is = ap (waiting_at files) is ∙ same_wait files (reverse old)

pub drop_comes : (files : Files) (old new : List Level) → reverse new ≡ without_done (reverse old) → still_to_come files (Goes (reverse new)) ≡ still_to_come files (Goes (reverse old))
drop_comes files old new is = ap (λ (ls : List Level). still_to_come files (Goes ls)) is ∙ same_come files (reverse old)

-- a refusal says the same where what it says is so
pub refused_as : {A E : Type 0} (P Q : Type 0) → (P → Q) → (r : Result A E) → OnErr r P → OnErr r Q
refused_as P Q f (Ok a) h = tt
refused_as P Q f (Err e) h = f h

-- what is seen is refused for want of memory or a failed read
pub sight_refused : (files : Files) (stop : Stop) (before : List Visit) (e : AdfError) → IsSight files stop (Err e) → IsNext files before (Err e) before
sight_refused files stop before Memory h = refl
sight_refused files stop before ReadFault h = refl
sight_refused files stop before e h = absurd h

-- the first node is given
pub begins_with : (files : Files) (file : ℕ) → IsSeen files (visit_at files [] (root_stop file)).seen → (sight : Sight) → IsSeenAs files (root_stop file) sight → (path : List ℕ) → path ≡ 47 ∷ []
    → (frames : List Level) → reverse frames ≡ after_giving sight.below []
    → AllSeen files (waiting_at files (reverse frames)) × IsSeen files sight.seen × IsNext files (still_to_come files (Starts file)) (Ok (Some (item_of sight path))) (still_to_come files (Goes (reverse frames)))
begins_with files file seen sight is path p frames given = (
  subst (λ ls. AllSeen files (waiting_at files ls)) (sym given) (root_stands files file sight is),
  subst (IsSeen files) (sym is.seen) seen,
  subst (λ ls. IsNext files (still_to_come files (Starts file)) (Ok (Some (item_of sight path))) (still_to_come files (Goes ls))) (sym given) (begun files file sight is path p),
)
