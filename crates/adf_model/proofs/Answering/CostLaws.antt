-- No run of calls writes a device more often than its calls cost.
use Rattle.std.proofs.Common.{◌≡◌, ◌≢◌, ℕ, suc, ◌+◌, ◌≤◌, Bool, not, List, [], ◌∷◌, refl, sym, ◌∙◌, ap, subst, arith, inl, inr, le_refl}
use Rattle.std.specs.Prelude.{Option, Some, None, IsSome, is_some, IfSome, IfOk, ◌==◌, Result, Ok, Err, unwrap_or, if◌then◌else◌}
use Rattle.std.specs.List.{list_any}
use Rattle.std.proofs.lemmas.Bool.Decides.{eqb_tells}
use Rattle.adf_model.specs.declared.error.AdfError.{AdfError}
use Rattle.adf_model.specs.declared.error.AdfError.TheVariants.{Memory, WriteFault}
use Rattle.adf_model.specs.declared.error.EditError.{EditError}
use Rattle.adf_model.specs.declared.tree.Edit.{Edit}
use Rattle.adf_model.specs.declared.tree.NodeId.{NodeId}
use Rattle.adf_model.specs.Edits.{apply, named_nodes}
use Rattle.adf_model.specs.Counts.{DeviceState}
use Rattle.adf_model.specs.Slots.{Open, Files, Devices, open_at, device_at, IsTold}
use Rattle.adf_model.specs.Calls.{Group, tests_at_entry, resolve, group_of, file_of, file_of_group, group_after, edit_reached, group_step, group_from, edit_group}
use Rattle.adf_model.specs.Steps.{OthersOnlyRead, Opening, Fresh, Stored, WritesOnce, RefusalWrites, IsOpening, IsEdit, IsGroupRefusal, IsPlacedGroup, IsPlacedRefusal, OfGroup, IsPlaced, IsWithinCost, DropsOne, Call, Opened, Closed, Discarded, Asked, Changed, Skipped, Misread, Step}
use Rattle.adf_model.specs.Runs.{Run}
use Rattle.adf_model.specs.Costs.{is_write_fault, opening_cost, cost_from, cost_for, edits_cost, call_cost, RunCosts}
use Rattle.adf_model.proofs.Basics.{not_true, not_there, same_Some, same_Ok, passed, found, done}
use Rattle.adf_model.proofs.Keeping.GroupKeeps.{one_step}
use Rattle.adf_model.proofs.Answering.RunLaws.{told_for}

-- ---- the file of a group is open before it

-- as long as a group has no file it has changed none, and its file was open from the start
record IsBegun (files : Files) (group : Group) : Type 0 where
  none : group.file ≡ None → group.files ≡ files
  some : (number : ℕ) → group.file ≡ Some number → IsSome (open_at files number)

is_there : {A : Type 0} (o : Option A) (a : A) → o ≡ Some a → IsSome o
is_there o a e = ap is_some e

begun_next : (files : Files) (group : Group) (edit : Edit) (opened : Open) (file : Option ℕ) → group.file ≡ file → IsBegun files group → open_at group.files (unwrap_or file (file_of (named_nodes edit))) ≡ Some opened → IsSome (open_at files (unwrap_or file (file_of (named_nodes edit))))
begun_next files group edit opened None e begun here = is_there (open_at files (file_of (named_nodes edit))) opened (ap (λ (f : Files). open_at f (file_of (named_nodes edit))) (sym (begun.none e)) ∙ here)
begun_next files group edit opened (Some number) e begun here = begun.some number e

begun_step : (files : Files) (group next : Group) (edit : Edit) → IsBegun files group → group_step group edit ≡ Ok next → IsBegun files next
begun_step files group next edit begun e =
    let entry = passed (tests_at_entry group.files (named_nodes edit)) _ next e in
    let reached = done (resolve group.files edit) (λ reached. edit_reached group reached) next entry.1 in
    let number = file_of_group group reached.0 in
    let at = found (open_at group.files number) AdfError.NotOpen _ next reached.2 in
    let tests = passed ((list_any (λ (node : NodeId). not (node.file == number)) (named_nodes reached.0), AdfError.OtherFile) ∷ (not at.0.writable, AdfError.ReadOnly) ∷ []) _ next at.2 in
    let tree = done (apply at.0.tree reached.0) (λ tree. Ok (group_after group number at.0 reached.0 tree)) next tests.1 in
    let stood = begun_next files group reached.0 at.0 group.file refl begun at.1 in
    subst (IsBegun files) (same_Ok tree.2) (record { none = λ e. absurd (some_none number e); some = λ n e. subst (λ k. IsSome (open_at files k)) (same_Some number n e) stood })
  where
    some_none : (n : ℕ) → ◌≡◌ {A = Option ℕ} (Some n) None → ⊥
    some_none n e = cc

begun_from : (files : Files) (at : ℕ) (group last : Group) (edits : List Edit) → IsBegun files group → group_from at group edits ≡ Ok last → IsBegun files last
begun_from files at group last [] begun e = subst (IsBegun files) (same_Ok e) begun
begun_from files at group last (edit ∷ edits) begun e =
    let s = one_step (group_step group edit) at (λ next. group_from (suc at) next edits) last e in
    begun_from files (suc at) s.0 last edits (begun_step files group s.0 edit begun s.1) s.2

-- the file that a group changes was open before it
pub file_was_open : (files : Files) (edits : List Edit) (group : Group) (number : ℕ) → edit_group files edits ≡ Ok group → group.file ≡ Some number → IsSome (open_at files number)
file_was_open files edits group number e f = (begun_from files 0 (group_of files) group edits (record { none = λ e. refl; some = λ n e. absurd (not_there n e) }) e).some number f

-- ---- one call

module _ (one : ℕ) (before now : Devices) where
  abbrev Within : ℕ → Type 0
  Within cost = (device_at now one).writes ≤ (device_at before one).writes + cost

  unwritten : (cost : ℕ) → OthersOnlyRead None before now → Within cost
  unwritten cost others = let same = (others.others one (λ e. not_some e)).writes in omega (arith, same)
    where
      not_some : ◌≡◌ {A = Option ℕ} (Some one) None → ⊥
      not_some e = cc

  other : (number cost : ℕ) → one ≢ number → OthersOnlyRead (Some number) before now → Within cost
  other number cost apart others = let same = (others.others one (λ e. apart (same_Some one number e))).writes in omega (arith, same)

  at_one : (P : ℕ → Type 0) (number here : ℕ) → (number ≡ one → P here) → (one ≢ number → P 0) → P (if number == one then here else 0)
  at_one P number here same apart = elim (eqb_tells number one) [ inl e ↦ subst P (ap (λ b. if b then here else 0) (sym e.0)) (same e.1) | inr e ↦ subst P (ap (λ b. if b then here else 0) (sym e.0)) (apart (λ f. e.1 (sym f))) ]

  written_once : (number cost : ℕ) → (device_at now number).writes ≤ (device_at before number).writes + cost → number ≡ one → Within cost
  written_once number cost h e = subst (λ k. (device_at now k).writes ≤ (device_at before k).writes + cost) e h

  fresh_cost : (number cost : ℕ) (wide : Bool) → 1 ≤ cost → WritesOnce (Fresh wide) number before now → Within (if number == one then cost else 0)
  fresh_cost number cost wide some h = at_one Within number cost (λ e. let w = written_once number 1 h.1 e in omega (arith, w)) (λ apart. other number 0 apart h.0)

  if_any : (number cost : ℕ) → Within 0 → Within (if number == one then cost else 0)
  if_any number cost h = omega (arith, h)

  refusal_cost : (number : ℕ) (opening : Opening) (error : AdfError) → RefusalWrites error opening number before now → Within (if number == one then opening_cost opening (Err error) else 0)
  refusal_cost number (Fresh wide) WriteFault h = fresh_cost number 1 wide (le_refl 1) h
  refusal_cost number (Stored writable) WriteFault h = if_any number 0 (unwritten 0 h.0)
  refusal_cost number opening error h = if_any number _ (unwritten 0 h)

  opening_within : (files after : Files) (number : ℕ) (opening : Opening) (limit : ℕ) (result : Result Unit AdfError) → IsOpening files before number opening limit result now after → Within (if number == one then opening_cost opening result else 0)
  opening_within files after number (Fresh wide) limit (Ok done) h = fresh_cost number 1 wide (le_refl 1) h.5
  opening_within files after number (Stored writable) limit (Ok done) h = if_any number 0 (unwritten 0 h.5.0)
  opening_within files after number opening limit (Err Memory) h = if_any number _ (unwritten 0 h.1)
  opening_within files after number opening limit (Err error) h = refusal_cost number opening error h.2

  dropped_within : (number : ℕ) (result : Result Unit AdfError) → DropsOne number result before now → Within 0
  dropped_within number (Ok done) h = elim (eqb_tells one number) [ inl e ↦ subst (λ k. (device_at now k).writes ≤ (device_at before k).writes + 0) (sym e.1) (same (ap (λ (s : DeviceState). s.writes) h.1)) | inr e ↦ other number 0 e.1 h.0 ]
    where
      same : (device_at now number).writes ≡ (device_at before number).writes → (device_at now number).writes ≤ (device_at before number).writes + 0
      same e = omega (arith, e)
  dropped_within number (Err error) h = unwritten 0 h

  -- the cost of a group that has written its file
  group_within : (files : Files) (edits : List Edit) (group : Group) → edit_group files edits ≡ Ok group → OthersOnlyRead group.file before now → OfGroup files edits (IsWithinCost before now) → Within (edits_cost one files before (edit_group files edits))
  group_within files edits group through others within =
      subst (λ r. Within (edits_cost one files before r)) (sym through) (by_file group.file refl others (subst (λ r. IfOk r Fact) through within))
    where
      Fact : Group → Type 0
      Fact g = IfSome g.file (λ number. IfSome (open_at files number) (λ opened. IsWithinCost before now number opened g))

      by_open : (number : ℕ) (o : Option Open) → IsSome o → IfSome o (λ opened. IsWithinCost before now number opened group) → (device_at now number).writes ≤ (device_at before number).writes + cost_from o (device_at before number).placement group
      by_open number None there h = absurd (not_true there)
      by_open number (Some opened) there h = h

      by_file : (file : Option ℕ) → group.file ≡ file → OthersOnlyRead file before now → IfSome file (λ number. IfSome (open_at files number) (λ opened. IsWithinCost before now number opened group)) → Within (cost_for one files before group file)
      by_file None e others h = unwritten 0 others
      by_file (Some number) e others h =
          at_one Within number (cost_from (open_at files number) (device_at before number).placement group)
          (λ same. written_once number _ (by_open number (open_at files number) (file_was_open files edits group number through e) h) same)
          (λ apart. other number 0 apart others)

  refused_within : (files after : Files) (edits : List Edit) (at : ℕ) (error : AdfError) → IsGroupRefusal files before edits at error now after → IsPlacedRefusal files before edits at error now → Within (if is_write_fault error then edits_cost one files before (edit_group files edits) else 0)
  refused_within files after edits at WriteFault h placed = group_within files edits h.stop.group h.stop.through (subst (λ f. OthersOnlyRead f before now) (sym h.stop.file) h.stop.others) placed.0
  refused_within files after edits at error h placed = unwritten 0 h.devices_stay

  edit_within : (files after : Files) (edits : List Edit) (result : Result (List NodeId) EditError) → IsEdit files before edits result now after → IsPlacedGroup files before edits result now → Within (call_cost one files before (Changed edits result))
  edit_within files after edits (Ok created) h placed = group_within files edits h.group h.through h.others (each_within (edit_group files edits) placed)
    where
      by_open : (number : ℕ) (g : Group) (o : Option Open) → IfSome o (λ opened. IsPlaced before now number opened g) → IfSome o (λ opened. IsWithinCost before now number opened g)
      by_open number g None h = tt
      by_open number g (Some opened) h = h.1

      by_file : (g : Group) (file : Option ℕ) → IfSome file (λ number. IfSome (open_at files number) (λ opened. IsPlaced before now number opened g)) → IfSome file (λ number. IfSome (open_at files number) (λ opened. IsWithinCost before now number opened g))
      by_file g None h = tt
      by_file g (Some number) h = by_open number g (open_at files number) h

      each_within : (r : Result Group EditError) → IfOk r (λ g. IfSome g.file (λ number. IfSome (open_at files number) (λ opened. IsPlaced before now number opened g))) → IfOk r (λ g. IfSome g.file (λ number. IfSome (open_at files number) (λ opened. IsWithinCost before now number opened g)))
      each_within (Ok g) h = by_file g g.file h
      each_within (Err e) h = tt
  edit_within files after edits (Err refusal) h placed = refused_within files after edits refusal.at refusal.error h placed

  -- no call writes a device more often than it costs
  pub step_within : (files after : Files) (call : Call) → Step files before call now after → Within (call_cost one files before call)
  step_within files after (Opened number opening limit result) h = opening_within files after number opening limit result h.0
  step_within files after (Closed number result) h = unwritten 0 h.1
  step_within files after (Discarded number result) h = dropped_within number result h.1
  step_within files after (Asked query result) h = unwritten 0 h.3
  step_within files after (Changed edits result) h = edit_within files after edits result h.0 h.1
  step_within files after Skipped h = same_devices h.0
    where
      same_devices : now ≡ before → Within 0
      same_devices e = let same = ap (λ (d : Devices). (device_at d one).writes) e in omega (arith, same)
  step_within files after (Misread error) h = same_devices h.1
    where
      same_devices : now ≡ before → Within 0
      same_devices e = let same = ap (λ (d : Devices). (device_at d one).writes) e in omega (arith, same)

-- and no run does
pub run_within : (one : ℕ) (files : Files) (before : Devices) (calls : List Call) (now : Devices) (after : Files) (cost : ℕ) → IsTold files before → RunCosts one files before calls now after cost → (device_at now one).writes ≤ (device_at before one).writes + cost
run_within one files before [] now after cost told h = let same = ap (λ (d : Devices). (device_at d one).writes) h.0 in omega (arith, same)
run_within one files before (call ∷ calls) now after cost told h =
    let first = step_within one before h.1 files h.0 call (h.3.step (told_for files before call told)) in
    let rest = run_within one h.0 h.1 calls now after h.2 (λ number. h.3.layouts.told number (told number)) h.5 in
    omega (arith, first, rest, h.4)

-- each run has a cost
pub run_costs : (one : ℕ) (files : Files) (before : Devices) (calls : List Call) (now : Devices) (after : Files) → Run files before calls now after → (cost : ℕ) × RunCosts one files before calls now after cost
run_costs one files before [] now after h = (0, (h.0, h.1, refl))
run_costs one files before (call ∷ calls) now after h =
    let rest = run_costs one h.0 h.1 calls now after h.3 in
    (call_cost one files before call + rest.0, (h.0, h.1, rest.0, h.2, refl, rest.1))
