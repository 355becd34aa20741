-- A check, node by node.
use Rattle.std.proofs.Common.{◌≡◌, ◌∙◌, sym, ap, subst, refl, ℕ, suc, ◌+◌, List, [], ◌∷◌, ◌++◌, length, take, drop, append_assoc, length-append, add_assoc, add-zero, zero-add}
use Rattle.std.specs.Prelude.{Option, Some, None, Result, Ok, Err}
use Rattle.std.specs.List.{flat_map}
use Rattle.std.specs.Io.KnownBytes.{Appends}
use Rattle.std.proofs.KnownBytes.{Appends-nil, Appends-trans}
use Rattle.std.proofs.lemmas.List.{append-nil, take-append-drop}
use Rattle.std.proofs.lemmas.Grind.{flat_map-append}
use Rattle.adf_model.specs.declared.error.AdfError.{AdfError}
use Rattle.adf_model.specs.declared.error.AdfError.TheVariants.{Memory, ReadFault}
use Rattle.adf_model.specs.Slots.{Files}
use Rattle.sids_views.specs.Asks.{IsValueOr}
use Rattle.sids_rules.specs.declared.seen.Seen.{Seen}
use Rattle.sids_rules.specs.Rules.{Rule, broken_numbers}
use Rattle.sids_rules.specs.Walk.{Visit, root_visit, seen_nodes, walk_from}
use Rattle.sids_rules.specs.Findings.{findings_at, findings_by, lines_at, lines_by, printed_lines}
use Rattle.cgns_check.specs.declared.fault.CheckFault.{CheckFault}
use Rattle.cgns_check.specs.declared.fault.CheckFault.TheVariants as fault
use Rattle.cgns_check.specs.declared.item.WalkItem.{WalkItem}
use Rattle.cgns_check.specs.Levels.{Stage, Starts}
use Rattle.cgns_check.specs.Words.{AreWorded}
use Rattle.cgns_check.specs.Lines.{node_lines}
use Rattle.cgns_check.specs.Checked.{IsNext, fault_of, AreFirstOf, IsCheck, IsTurn, Says, Checks, still_to_come, lines_of, count_of}
use Rattle.cgns_check.proofs.LineLaws.{lines_are, counted}

-- what a turn prints and answers
abbrev pub TurnTells : List Rule → Files → List Visit → Result (Option ℕ) CheckFault → List Visit → Option (List ℕ) → Option (List ℕ) → Type 0
TurnTells rules files before result after taken now = (text : List ℕ) × Appends taken now text × IsTurn rules files before result after text

none_printed : (rules : List Rule) (files : Files) (before after : List Visit) (e : AdfError) (A : Type 0) → IsValueOr {A = Unit {0}} tt (Err e) → IsTurn rules files before (Err (fault_of e)) after []
none_printed rules files before after Memory A h = (printed_lines (lines_of rules files before), refl)
none_printed rules files before after ReadFault A h = (0, refl)
none_printed rules files before after e A h = absurd h

refused_next : (files : Files) (before after : List Visit) (e : AdfError) → IsNext files before (Err e) after → IsValueOr {A = Unit {0}} tt (Err e)
refused_next files before after Memory h = tt
refused_next files before after ReadFault h = tt
refused_next files before after e h = absurd h

refused_value : {A : Type 0} (a : A) (e : AdfError) → IsValueOr a (Err e) → IsValueOr {A = Unit {0}} tt (Err e)
refused_value a Memory h = tt
refused_value a ReadFault h = tt
refused_value a e h = absurd h

module _ (rules : List Rule) (files : Files) (before after : List Visit) where
  -- nothing is printed where the walk or the finder is refused
  pub walk_refused : (e : AdfError) (taken : Option (List ℕ)) → IsNext files before (Err e) after → TurnTells rules files before (Err (fault_of e)) after taken taken
  walk_refused e taken h = ([], Appends-nil taken, none_printed rules files before after e Unit (refused_next files before after e h))

  pub finder_refused : {A : Type 0} (a : A) (e : AdfError) (taken : Option (List ℕ)) → IsValueOr a (Err e) → TurnTells rules files before (Err (fault_of e)) after taken taken
  finder_refused a e taken h = ([], Appends-nil taken, none_printed rules files before after e Unit (refused_value a e h))

  pub walk_ends : (taken : Option (List ℕ)) → IsNext files before (Ok None) after → TurnTells rules files before (Ok None) after taken taken
  walk_ends taken h = ([], Appends-nil taken, (h.0, refl))

  -- the lines of a node
  module _ (worded : AreWorded rules) (item : WalkItem) (next : IsNext files before (Ok (Some item)) after) (numbers : List ℕ) (is : IsValueOr (broken_numbers rules files item.seen) (Ok numbers)) where
    visit : Visit
    visit = next.0

    numbers_are : numbers ≡ broken_numbers rules files next.0.seen
    numbers_are = is ∙ ap (broken_numbers rules files) next.2.seen

    lines : node_lines item.path item.note numbers ≡ lines_at rules files next.0
    lines = lines_are files next.0 rules worded item.path item.note numbers next.2.path next.2.note numbers_are

    pub said : (taken now : Option (List ℕ)) (faults later : ℕ) → Says (node_lines item.path item.note numbers) (Ok tt) taken now faults later → TurnTells rules files before (Ok (Some (length numbers))) after taken now
    said taken now faults later h = (
      printed_lines (node_lines item.path item.note numbers),
      h,
      (next.0, next.1, ap length numbers_are ∙ counted files next.0 rules, ap printed_lines lines),
    )

    part_of : (text rest : List ℕ) → printed_lines (lines_at rules files next.0) ≡ text ++ rest → (more : List ℕ) × (printed_lines (lines_of rules files before) ≡ text ++ more)
    part_of text rest e = (
      rest ++ printed_lines (lines_of rules files after),
      ap (λ (vs : List Visit). printed_lines (lines_of rules files vs)) next.1
          ∙ flat_map-append (λ (line : List ℕ). line ++ 10 ∷ []) (lines_at rules files next.0) (lines_of rules files after)
          ∙ ap (λ (t : List ℕ). t ++ printed_lines (lines_of rules files after)) e
          ∙ append_assoc text rest (printed_lines (lines_of rules files after)),
    )

    pub unsaid : (refused : CheckFault) (taken now : Option (List ℕ)) (faults later : ℕ) → Says (node_lines item.path item.note numbers) (Err refused) taken now faults later → TurnTells rules files before (Err refused) after taken now
    unsaid fault.Memory taken now faults later h = ([], subst (λ t. Appends taken t []) (sym h) (Appends-nil taken), (printed_lines (lines_of rules files before), refl))
    unsaid fault.Sink taken now faults later h =
        let text = printed_lines (node_lines item.path item.note numbers) in
        (take h.1.0 text, h.1.2, part_of (take h.1.0 text) (drop h.1.0 text) (sym (ap printed_lines lines) ∙ sym (take-append-drop h.1.0 text)))
    unsaid e taken now faults later h = absurd h

-- what a turn tells, by rules and files that stayed
pub told_turn : (rules tested : List Rule) (files asked : Files) → tested ≡ rules → asked ≡ files → (walk left : Stage) (r : Result (Option ℕ) CheckFault) (taken now : Option (List ℕ))
    → TurnTells tested asked (still_to_come asked walk) r (still_to_come asked left) taken now → TurnTells rules files (still_to_come files walk) r (still_to_come files left) taken now
told_turn rules tested files asked p q walk left r taken now h =
    subst (λ rs. TurnTells rs files (still_to_come files walk) r (still_to_come files left) taken now) p
    (subst (λ fs. TurnTells tested fs (still_to_come fs walk) r (still_to_come fs left) taken now) q h)

-- the numbers of the rules, by files that stayed
pub numbers_told : (rules : List Rule) (one two : Files) → two ≡ one → (seen : Seen) (numbers items : List ℕ) → items ≡ numbers → numbers ≡ broken_numbers rules two seen → items ≡ broken_numbers rules one seen
numbers_told rules one two stay seen numbers items same is = same ∙ is ∙ ap (λ fs. broken_numbers rules fs seen) stay

-- ---- the whole check

-- whole first items, and then first ones of the others, are first ones of all
take_behind : {A : Type 0} (xs ys : List A) (n : ℕ) → (k : ℕ) × (take k (xs ++ ys) ≡ xs ++ take n ys)
take_behind [] ys n = (n, refl)
take_behind (x ∷ xs) ys n = let h = take_behind xs ys n in (suc h.0, ap (λ zs. x ∷ zs) h.1)

-- the lines and findings of the nodes so far, and those of the nodes to come
pub record SoFar (rules : List Rule) (files : Files) (file found : ℕ) (left : List Visit) (taken now : Option (List ℕ)) : Type 0 where
  pub done : List (List ℕ)
  pub put : Appends taken now (printed_lines done)
  pub lines : lines_by rules files file ≡ done ++ lines_of rules files left
  pub count : length (findings_by rules files file) ≡ found + count_of rules files left

first_come : (files : Files) (file n : ℕ) → walk_from n files (root_visit files file) ++ [] ≡ walk_from n files (root_visit files file)
first_come files file n = append-nil (walk_from n files (root_visit files file))

pub begins : (rules : List Rule) (files : Files) (file : ℕ) (taken : Option (List ℕ)) → SoFar rules files file 0 (still_to_come files (Starts file)) taken taken
unfolding seen_nodes still_to_come
begins rules files file taken = record {
  done = [];
  put = Appends-nil taken;
  lines = ap (lines_of rules files) (sym (first_come files file 511));
  count = ap (count_of rules files) (sym (first_come files file 511)) ∙ sym (zero-add (count_of rules files (walk_from 511 files (root_visit files file) ++ [])));
}

module _ (rules : List Rule) (files : Files) (file found : ℕ) (before : List Visit) (taken now later : Option (List ℕ)) (so : SoFar rules files file found before taken now) where
  pub goes_on : (n sum : ℕ) (after : List Visit) → TurnTells rules files before (Ok (Some n)) after now later → sum ≡ found + n → SoFar rules files file sum after taken later
  goes_on n sum after h is =
      let visit = h.2.0 in
      let lines = lines_at rules files visit in
      let findings = findings_at rules files visit in
      let fs = flat_map (λ visit. findings_at rules files visit) after in
      let e = length-append findings fs in
      let split : count_of rules files before ≡ length (findings_at rules files visit) + count_of rules files after = ap (count_of rules files) h.2.1 ∙ e in
      record {
        done = so.done ++ lines;
        put = subst (Appends taken later)
            (ap (λ (t : List ℕ). printed_lines so.done ++ t) h.2.3 ∙ sym (flat_map-append (λ (line : List ℕ). line ++ 10 ∷ []) so.done lines))
            (Appends-trans taken now later (printed_lines so.done) h.0 so.put h.1);
        lines = so.lines ∙ ap (λ (vs : List Visit). so.done ++ lines_of rules files vs) h.2.1 ∙ sym (append_assoc so.done lines (lines_of rules files after));
        count = so.count ∙ ap (λ k. found + k) (split ∙ ap (λ k. k + count_of rules files after) (sym h.2.2)) ∙ sym (add_assoc found n (count_of rules files after)) ∙ ap (λ k. k + count_of rules files after) (sym is);
      }

  printed : (text rest : List ℕ) → printed_lines (lines_of rules files before) ≡ text ++ rest → printed_lines (lines_by rules files file) ≡ (printed_lines so.done ++ text) ++ rest
  printed text rest e =
      ap printed_lines so.lines
      ∙ flat_map-append (λ (line : List ℕ). line ++ 10 ∷ []) so.done (lines_of rules files before)
      ∙ ap (λ (t : List ℕ). printed_lines so.done ++ t) e
      ∙ sym (append_assoc (printed_lines so.done) text rest)

  -- want of memory ends a check behind whole lines
  pub lacks : Checks rules files file (Err fault.Memory) taken now
  lacks = (
    printed_lines so.done,
    so.put,
    (printed_lines (lines_of rules files before), ap printed_lines so.lines ∙ flat_map-append (λ (line : List ℕ). line ++ 10 ∷ []) so.done (lines_of rules files before)),
  )

  pub ends : (after : List Visit) → TurnTells rules files before (Ok None) after now later → Checks rules files file (Ok found) taken later
  ends after h =
      let all : lines_by rules files file ≡ so.done = so.lines ∙ ap (λ (vs : List Visit). so.done ++ lines_of rules files vs) h.2.0 ∙ append-nil so.done in
      let none : count_of rules files before ≡ 0 = ap (count_of rules files) h.2.0 in (
        printed_lines so.done ++ h.0,
        Appends-trans taken now later (printed_lines so.done) h.0 so.put h.1,
        (
          sym (so.count ∙ ap (λ k. found + k) none ∙ add-zero found),
          ap (λ (t : List ℕ). printed_lines so.done ++ t) h.2.1 ∙ append-nil (printed_lines so.done) ∙ ap printed_lines (sym all),
        ),
      )

  first_of : (n : ℕ) → (text : List ℕ) → text ≡ printed_lines (take n (lines_of rules files before)) → AreFirstOf (lines_by rules files file) (printed_lines so.done ++ text)
  first_of n text e =
      let k = take_behind so.done (lines_of rules files before) n in (
        k.0,
        ap (λ (t : List ℕ). printed_lines so.done ++ t) e
            ∙ sym (flat_map-append (λ (line : List ℕ). line ++ 10 ∷ []) so.done (take n (lines_of rules files before)))
            ∙ ap printed_lines (sym k.1 ∙ ap (take k.0) (sym so.lines)),
      )

  stopped : (refused : CheckFault) (text : List ℕ) → IsCheck (lines_of rules files before) 0 (Err refused) text → IsCheck (lines_by rules files file) (length (findings_by rules files file)) (Err refused) (printed_lines so.done ++ text)
  stopped fault.Memory text h = (h.0, printed text h.0 h.1)
  stopped fault.Read text h = first_of h.0 text h.1
  stopped fault.Sink text h = (h.0, printed text h.0 h.1)
  stopped (fault.Core error) text h = absurd h

  pub stops : (refused : CheckFault) (after : List Visit) → TurnTells rules files before (Err refused) after now later → Checks rules files file (Err refused) taken later
  stops refused after h = (printed_lines so.done ++ h.0, Appends-trans taken now later (printed_lines so.done) h.0 so.put h.1, stopped refused h.0 h.2)
