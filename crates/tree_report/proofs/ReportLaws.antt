-- The lines of a tree, node by node.
use Rattle.std.proofs.Common.{◌≡◌, ◌∙◌, sym, ap, subst, refl, arith, ℕ, suc, List, [], ◌∷◌, ◌++◌, ◌≤◌, length, take, drop, append_assoc}
use Rattle.std.specs.Prelude.{map, reverse, Option, Result, Ok, Err}
use Rattle.std.specs.List.{AllByRecursion}
use Rattle.std.specs.Io.KnownBytes.{Appends}
use Rattle.std.proofs.KnownBytes.{Appends-nil, Appends-trans}
use Rattle.std.proofs.lemmas.List.{append-nil, take-append-drop}
use Rattle.std.proofs.lemmas.Grind.{flat_map-append}
use Rattle.adf_model.specs.declared.error.AdfError.{AdfError}
use Rattle.adf_model.specs.declared.error.AdfError.TheVariants.{Memory, ReadFault}
use Rattle.adf_model.specs.declared.tree.Child.{Child}
use Rattle.adf_model.specs.Causes.{OnlyAsks}
use Rattle.adf_model.specs.Slots.{Files, Devices}
use Rattle.sids_views.specs.Asks.{IsThere, IsValueOr}
use Rattle.sids_views.specs.Views.{node_there, entries_there}
use Rattle.sids_views.proofs.Gathered.{later_cause}
use Rattle.tree_report.specs.declared.fault.TreeFault.{TreeFault}
use Rattle.tree_report.specs.declared.fault.TreeFault.TheVariants as fault
use Rattle.tree_report.specs.declared.fields.Fields.{Fields}
use Rattle.tree_report.specs.declared.sight.Sight.{Sight}
use Rattle.tree_report.specs.declared.stack.Stop.{Stop}
use Rattle.tree_report.specs.Fields.{fields_of}
use Rattle.tree_report.specs.Level.{Level}
use Rattle.tree_report.specs.Levels.{to_come, place_of, still_to_come, TakesNext, put_below}
use Rattle.tree_report.specs.Places.{Place, root_place, places_from, tree_places}
use Rattle.tree_report.specs.Lines.{printed_way, fields_text, line_at, tree_lines, printed_lines}
use Rattle.tree_report.specs.Reports.{fault_of, AreFirstOf, IsReport, Reports, HasTreeCause, Says, Visits}
use Rattle.tree_report.specs.Sights.{tree_in, node_in, sight_of, AllThere}
use Rattle.tree_report.proofs.LevelLaws.{visited}
use Rattle.tree_report.proofs.SightLaws.{seen, node_of_tree, below_stand, below_there, put_there}

-- ---- one node

-- what a visit prints and leaves
abbrev pub Told : Files → ℕ → Stop → List Level → Result Unit TreeFault → List Level → Option (List ℕ) → Option (List ℕ) → Type 0
Told files file stop before result after taken now = (text : List ℕ) × Appends taken now text × Visits files file stop before result after text

abbrev text_of : List ℕ → Fields → List ℕ
text_of way fields = printed_way way ++ fields_text fields ++ 10 ∷ []

-- the line of a node, as it is printed
line_printed : (files : Files) (file : ℕ) (stop : Stop) (fields : Fields) → fields ≡ fields_of (node_there files (node_in file stop.serial))
    → text_of stop.way fields ≡ printed_lines (line_at (tree_in files file) (place_of stop) ∷ [])
line_printed files file stop fields is =
    ap (λ (fs : Fields). (printed_way stop.way ++ fields_text fs) ++ 10 ∷ []) (is ∙ ap fields_of (node_of_tree files file stop.serial))
    ∙ sym (append-nil (line_at (tree_in files file) (place_of stop) ++ 10 ∷ []))

module _ (files : Files) (file : ℕ) (stop : Stop) (before after : List Level) where
  abbrev lines : List (List ℕ)
  lines = map (line_at (tree_in files file)) (still_to_come (tree_in files file) stop before)

  none_printed : (e : AdfError) → {A : Type 0} (a : A) → IsValueOr a (Err e) → IsReport lines (Err (fault_of e)) []
  none_printed Memory a h = (printed_lines lines, refl)
  none_printed ReadFault a h = (0, refl)
  none_printed e a h = absurd h

  -- nothing is printed where a question is refused
  pub unseen : (e : AdfError) → {A : Type 0} (a : A) → IsValueOr a (Err e) → (taken : Option (List ℕ)) → Told files file stop before (Err (fault_of e)) after taken taken
  unseen e a h taken = ([], Appends-nil taken, none_printed e a h)

  module _ (fields : Fields) (is : fields ≡ fields_of (node_there files (node_in file stop.serial))) (rest : List Place)
      (comes : still_to_come (tree_in files file) stop before ≡ place_of stop ∷ rest) where
    behind : printed_lines lines ≡ text_of stop.way fields ++ printed_lines (map (line_at (tree_in files file)) rest)
    behind =
        ap (λ (ps : List Place). printed_lines (map (line_at (tree_in files file)) ps)) comes
        ∙ ap (λ (t : List ℕ). t ++ printed_lines (map (line_at (tree_in files file)) rest)) (sym (line_printed files file stop fields is ∙ append-nil (line_at (tree_in files file) (place_of stop) ++ 10 ∷ [])))

    -- the line was not printed whole
    pub unsaid : (refused : TreeFault) (taken now : Option (List ℕ)) (faults later : ℕ) → Says stop.way fields (Err refused) taken now faults later → Told files file stop before (Err refused) after taken now
    unsaid fault.Memory taken now faults later h = ([], subst (λ t. Appends taken t []) (sym h) (Appends-nil taken), (printed_lines lines, refl))
    unsaid fault.Sink taken now faults later h =
        let text = text_of stop.way fields in
        let n = h.1.0 in (
          take n text,
          h.1.2,
          (
            drop n text ++ printed_lines (map (line_at (tree_in files file)) rest),
            behind
                ∙ ap (λ (t : List ℕ). t ++ printed_lines (map (line_at (tree_in files file)) rest)) (sym (take-append-drop n text))
                ∙ append_assoc (take n text) (drop n text) (printed_lines (map (line_at (tree_in files file)) rest)),
          ),
        )
    unsaid e taken now faults later h = absurd h

    -- it was, and then there was no memory
    pub crowded : (taken now : Option (List ℕ)) → Appends taken now (text_of stop.way fields) → Told files file stop before (Err fault.Memory) after taken now
    crowded taken now h = (text_of stop.way fields, h, (printed_lines (map (line_at (tree_in files file)) rest), behind))

-- what is seen of a node, and what waits then
module _ (files : Files) (file : ℕ) (stop : Stop) (before : List Level) (few : length before ≤ 255) (fields : Fields) (below : List Child)
    (is : seen fields below ≡ sight_of files (node_in file stop.serial)) where
  abbrev own_level : Level
  own_level = record { way = stop.way; rest = below }

  fields_are : fields ≡ fields_of (node_there files (node_in file stop.serial))
  fields_are = ap (λ (s : Sight). s.fields) is

  below_are : below ≡ entries_there files (node_in file stop.serial)
  below_are = ap (λ (s : Sight). s.below) is

  comes_then : still_to_come (tree_in files file) stop before ≡ place_of stop ∷ to_come (tree_in files file) (put_below own_level before)
  comes_then = visited (tree_in files file) stop before own_level few (below_stand files file stop.way stop.serial below below_are)

  pub not_said : (after : List Level) (refused : TreeFault) (way : List ℕ) → way ≡ stop.way → (taken now : Option (List ℕ)) (faults later : ℕ) → Says way fields (Err refused) taken now faults later
      → Told files file stop before (Err refused) after taken now
  not_said after refused way w taken now faults later h =
      unsaid files file stop before after fields fields_are _ comes_then refused taken now faults later (subst (λ (v : List ℕ). Says v fields (Err refused) taken now faults later) w h)

  pub not_kept : (after : List Level) (way : List ℕ) → way ≡ stop.way → (taken now : Option (List ℕ)) → Appends taken now (text_of way fields) → Told files file stop before (Err fault.Memory) after taken now
  not_kept after way w taken now h =
      crowded files file stop before after fields fields_are _ comes_then taken now (subst (λ (v : List ℕ). Appends taken now (text_of v fields)) w h)

  pub was_said : AllThere files file before → AllByRecursion (λ (entry : Child). IsThere files entry.node) below → (level : Level) → level.way ≡ stop.way → level.rest ≡ below
      → (after : List Level) → after ≡ put_below level before → (way : List ℕ) → way ≡ stop.way → (taken now : Option (List ℕ)) → Appends taken now (text_of way fields)
      → Told files file stop before (Ok tt) after taken now
  was_said there live level lw lr after left way w taken now h =
      let leveled : List ℕ → List Child → Level = λ v r. record { way = v; rest = r } in
      let own : level ≡ own_level = ap (λ v. leveled v level.rest) lw ∙ ap (leveled stop.way) lr in
      let left_is : after ≡ put_below own_level before = left ∙ ap (λ (l : Level). put_below l before) own in (
        text_of way fields,
        h,
        (
          subst (AllThere files file) (sym left_is) (put_there files file own_level before (below_there files file stop.way stop.serial below below_are live) there),
          comes_then ∙ ap (λ (ls : List Level). place_of stop ∷ to_come (tree_in files file) ls) (sym left_is),
          ap (λ (v : List ℕ). text_of v fields) w ∙ line_printed files file stop fields fields_are,
        ),
      )

-- ---- the whole tree

-- whole first items, and then first ones of the others, are first ones of all
take_behind : {A : Type 0} (xs ys : List A) (n : ℕ) → (k : ℕ) × (take k (xs ++ ys) ≡ xs ++ take n ys)
take_behind [] ys n = (n, refl)
take_behind (x ∷ xs) ys n = let h = take_behind xs ys n in (suc h.0, ap (λ zs. x ∷ zs) h.1)

-- the lines so far, and those to come
pub record SoFar (all left : List (List ℕ)) (taken now : Option (List ℕ)) : Type 0 where
  pub done : List (List ℕ)
  pub put : Appends taken now (printed_lines done)
  pub lines : all ≡ done ++ left

pub begins : (files : Files) (file : ℕ) (stop : Stop) → stop.serial ≡ 0 → stop.way ≡ [] → (taken : Option (List ℕ))
    → SoFar (tree_lines (tree_in files file)) (map (line_at (tree_in files file)) (still_to_come (tree_in files file) stop [])) taken taken
unfolding tree_places
begins files file stop serial way taken =
    let tree = tree_in files file in
    let placed : List ℕ → ℕ → Place = λ w s. record { way = w; serial = s } in
    let root : place_of stop ≡ root_place = ap (λ w. placed w stop.serial) way ∙ ap (placed []) serial in
    record {
      done = [];
      put = Appends-nil taken;
      lines = ap (map (line_at tree)) (sym (append-nil (places_from 256 tree root_place)) ∙ ap (λ (p : Place). places_from 256 tree p ++ []) (sym root));
    }

module _ (all left : List (List ℕ)) (taken now : Option (List ℕ)) (so : SoFar all left taken now) where
  pub goes_on : (line : List ℕ) (after : List (List ℕ)) → left ≡ line ∷ after → (later : Option (List ℕ)) (text : List ℕ) → Appends now later text → text ≡ printed_lines (line ∷ []) → SoFar all after taken later
  goes_on line after is later text put one = record {
    done = so.done ++ line ∷ [];
    put = subst (Appends taken later)
        (ap (λ (t : List ℕ). printed_lines so.done ++ t) one ∙ sym (flat_map-append (λ (line : List ℕ). line ++ 10 ∷ []) so.done (line ∷ [])))
        (Appends-trans taken now later (printed_lines so.done) text so.put put);
    lines = so.lines ∙ ap (λ (ls : List (List ℕ)). so.done ++ ls) is ∙ sym (append_assoc so.done (line ∷ []) after);
  }

  pub ends : left ≡ [] → Reports all (Ok tt) taken now
  ends none = (printed_lines so.done, so.put, ap printed_lines (sym (so.lines ∙ ap (λ (ls : List (List ℕ)). so.done ++ ls) none ∙ append-nil so.done)))

  printed : (text rest : List ℕ) → printed_lines left ≡ text ++ rest → printed_lines all ≡ (printed_lines so.done ++ text) ++ rest
  printed text rest e =
      ap printed_lines so.lines
      ∙ flat_map-append (λ (line : List ℕ). line ++ 10 ∷ []) so.done left
      ∙ ap (λ (t : List ℕ). printed_lines so.done ++ t) e
      ∙ sym (append_assoc (printed_lines so.done) text rest)

  -- want of memory ends a report behind whole lines
  pub lacks : Reports all (Err fault.Memory) taken now
  lacks = (printed_lines so.done, so.put, (printed_lines left, ap printed_lines so.lines ∙ flat_map-append (λ (line : List ℕ). line ++ 10 ∷ []) so.done left))

  first_of : (n : ℕ) → (text : List ℕ) → text ≡ printed_lines (take n left) → AreFirstOf all (printed_lines so.done ++ text)
  first_of n text e =
      let k = take_behind so.done left n in (
        k.0,
        ap (λ (t : List ℕ). printed_lines so.done ++ t) e
            ∙ sym (flat_map-append (λ (line : List ℕ). line ++ 10 ∷ []) so.done (take n left))
            ∙ ap printed_lines (sym k.1 ∙ ap (take k.0) (sym so.lines)),
      )

  stopped : (refused : TreeFault) (text : List ℕ) → IsReport left (Err refused) text → IsReport all (Err refused) (printed_lines so.done ++ text)
  stopped fault.Memory text h = (h.0, printed text h.0 h.1)
  stopped fault.Read text h = first_of h.0 text h.1
  stopped fault.Sink text h = (h.0, printed text h.0 h.1)
  stopped (fault.Core error) text h = absurd h

  pub stops : (refused : TreeFault) (later : Option (List ℕ)) (text : List ℕ) → Appends now later text → IsReport left (Err refused) text → Reports all (Err refused) taken later
  stops refused later text put h = (printed_lines so.done ++ text, Appends-trans taken now later (printed_lines so.done) text so.put put, stopped refused text h)

-- ---- by the nodes that wait

module _ (files : Files) (file : ℕ) where
  abbrev lines_to : List Place → List (List ℕ)
  lines_to places = map (line_at (tree_in files file)) places

  module _ (all : List (List ℕ)) (taken now : Option (List ℕ)) where
    -- the next node is taken
    pub taken_next : (before : List Level) (stop : Stop) (after : List Level) → TakesNext before stop after → SoFar all (lines_to (to_come (tree_in files file) before)) taken now
        → SoFar all (lines_to (still_to_come (tree_in files file) stop after)) taken now
    taken_next before stop after t so = subst (λ (ps : List Place). SoFar all (lines_to ps) taken now) (t.comes (tree_in files file)) so

    -- its line is printed
    pub went_on : (stop : Stop) (before after : List Level) (later : Option (List ℕ)) → SoFar all (lines_to (still_to_come (tree_in files file) stop before)) taken now
        → Told files file stop before (Ok tt) after now later → SoFar all (lines_to (to_come (tree_in files file) after)) taken later
    went_on stop before after later so h =
        goes_on all (lines_to (still_to_come (tree_in files file) stop before)) taken now so (line_at (tree_in files file) (place_of stop)) (lines_to (to_come (tree_in files file) after)) (ap lines_to h.2.1) later h.0 h.1 h.2.2

    -- or it is not
    pub broke_off : (stop : Stop) (before after : List Level) (refused : TreeFault) (later : Option (List ℕ)) → SoFar all (lines_to (still_to_come (tree_in files file) stop before)) taken now
        → Told files file stop before (Err refused) after now later → Reports all (Err refused) taken later
    broke_off stop before after refused later so h = stops all (lines_to (still_to_come (tree_in files file) stop before)) taken now so refused later h.0 h.1 h.2

    -- no node waits any more
    pub came_out : (before : List Level) → to_come (tree_in files file) before ≡ [] → SoFar all (lines_to (to_come (tree_in files file) before)) taken now → Reports all (Ok tt) taken now
    came_out before none so = ends all (lines_to (to_come (tree_in files file) before)) taken now so (ap lines_to none)

    pub ran_out : (before : List Level) → SoFar all (lines_to (to_come (tree_in files file) before)) taken now → Reports all (Err fault.Memory) taken now
    ran_out before so = lacks all (lines_to (to_come (tree_in files file) before)) taken now so

-- nothing is printed before the root
pub begins_with : (files : Files) (file : ℕ) (stop : Stop) → stop.serial ≡ 0 → stop.way ≡ [] → (frames : List Level) → frames ≡ [] → (taken : Option (List ℕ))
    → SoFar (tree_lines (tree_in files file)) (lines_to files file (still_to_come (tree_in files file) stop (reverse frames))) taken taken
begins_with files file stop serial way frames none taken =
    subst (λ (fs : List Level). SoFar (tree_lines (tree_in files file)) (lines_to files file (still_to_come (tree_in files file) stop (reverse fs))) taken taken) (sym none)
    (begins files file stop serial way taken)

-- the cause of a later end
pub later_cause_of : (one two : Files) (a b c : Devices) (f g h : ℕ) (refused : TreeFault) → OnlyAsks one a b two → f ≤ g → HasTreeCause two b c g h (Err refused) → HasTreeCause one a c f h (Err refused)
later_cause_of one two a b c f g h fault.Memory only le cause = tt
later_cause_of one two a b c f g h fault.Read only le cause = later_cause Unit Unit one two a b c ReadFault only cause
later_cause_of one two a b c f g h fault.Sink only le cause = omega (arith, le, cause)
later_cause_of one two a b c f g h (fault.Core e) only le cause = cause
