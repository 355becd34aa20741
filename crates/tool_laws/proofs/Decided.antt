-- How a run ends where nothing fails, command by command.
use Rattle.std.specs.Prelude.{IfSome, IsSome}
use Rattle.adf_model.proofs.Basics.{same_Some}
use Rattle.std.proofs.Common.{◌≡◌, ◌≢◌, ◌⊎◌, inl, inr, ℕ, ◌^◌, ◌<◌, List, [], ◌∷◌, length, Option, Some, None, Result, Ok, Err, Bool, refl, sym, ◌∙◌, ap, subst, arith}
use Rattle.std.proofs.lemmas.List.{length-append}
use Rattle.std.specs.Io.KnownBytes.{Appends, Consumes}
use Rattle.adf_library.specs.Shelf.{SlotState, device_at, with_device}
use Rattle.adf_model.specs.Counts.{Rose}
use Rattle.adf_model.specs.declared.error.AdfError.{AdfError}
use Rattle.adf_model.specs.declared.error.AdfError.TheVariants as error
use Rattle.cg_io.specs.Answers.{Told}
use Rattle.adf_repack.specs.Measures.{HoldsNone, HoldsSome}
use Rattle.adf_repack.specs.Repacks.{IsLicensed, wants_memory, unread, unasked, unwritten, not_laid_out, too_long_dimension, not_empty, too_long, IsRepackRefusal, IsRefused}
use Rattle.adf_repack.specs.declared.whole.Target.{Target}
use Rattle.adf_tree.specs.Making.{MakesFresh}
use Rattle.cg_io.specs.Device.{DeviceState}
use Rattle.layout_lint.specs.Verdicts.{IsVerdict}
use Rattle.layout_lint.specs.declared.verdict.Verdict.TheVariants as says
use Rattle.layout_report.specs.Reports.{Linted, Mapped, Says}
use Rattle.layout_report.specs.declared.Report.{Report}
use Rattle.session.specs.declared.session.Ended.{Ended}
use Rattle.session.specs.declared.session.Ended.TheVariants as ended
use Rattle.std.specs.Prelude.{map}
use Rattle.adf_format.specs.Checks.{Fault}
use Rattle.adf_format.specs.FirstFault.{Visit, is_wide}
use Rattle.adf_format.specs.SoundPart.{IsSoundPart, tree_of}
use Rattle.adf_format.specs.Tree.{Tree}
use Rattle.adf_repack.specs.Repacks.{width_for}
use Rattle.adf_salvage.specs.LeftOut.{left_of}
use Rattle.adf_salvage.specs.Salvages.{IsSalvaged, IsSalvageRefusal}
use Rattle.adf_salvage.specs.declared.list.Left.{Left}
use Rattle.tool_commands.specs.Salvages.{IsSalvage, TellsSalvage, saved_status, salvage_status, salvage_text}
use Rattle.tool_commands.specs.declared.salvages.Saved.{Saved}
use Rattle.std.specs.List.{list_any}
use Rattle.std.specs.Prelude.{true, false, if◌then◌else◌}
use Rattle.adf_library.specs.Library.{shelf_devices, shelf_files}
use Rattle.adf_model.specs.Slots.{Files, Devices, IsTold}
use Rattle.adf_model.specs.Steps.{SomeFault}
use Rattle.call_script.specs.Replies.{refusal_text}
use Rattle.cgns_check.specs.Checked.{Checks}
use Rattle.cgns_check.specs.declared.fault.CheckFault.{CheckFault}
use Rattle.cgns_check.specs.declared.fault.CheckFault.TheVariants as fault
use Rattle.session.specs.Printed.{AppendsPart}
use Rattle.sids_readings.specs.RuleSets.{rules_of}
use Rattle.sids_rules.specs.Rules.{Rule}
use Rattle.tool_commands.specs.Checks.{ChecksFile, EndsAnswer, EndsBehind, Output, closed_text, found_status, status_over}
use Rattle.tool_commands.specs.Openings.{Outcome, AreOpened, Opens, first_number, is_fault, is_refused}
use Rattle.tool_commands.specs.declared.named_files.NamedFile.{NamedFile}
use Rattle.tool_laws.specs.Given.GivesCheck.{closed, checked, silent}
use Rattle.tool_commands.specs.Copies.{IsCopy, Tells, copy_line, copy_status}
use Rattle.tool_commands.specs.Printed.{line, EndsWith}
use Rattle.tool_commands.specs.Tool.{IsOnShelf, OnDevice, OnDevices, Reports, RunEnds, SessionEnds, Streams, init_line, output_of, init_status, report_status, session_status}
use Rattle.tool_commands.specs.declared.status.Status.{Status}
use Rattle.tool_commands.specs.declared.status.Status.TheVariants as status
use Rattle.tool_commands.specs.declared.words.Wanted.{Wanted}
use Rattle.tool_commands.specs.declared.words.Wanted.TheVariants as asks
use Rattle.tool_laws.specs.Given.{IsQuiet, IsDecided, OfDevice, HasTree, GivesFresh, GivesReport, HasNoRoom, HasNoCopy, GivesCopy, HasWholePart, HasNoWholePart, GivesSalvage, GivesCheck, GivesSession, Gives}
use Rattle.tool_laws.specs.Given.HasNoRoom.{long, full, large}
use Rattle.tool_laws.specs.Given.HasNoWholePart.{lost, roomless, left_out}
use Rattle.tool_laws.proofs.Devices.{device_put, other_put, quiet_there}
use Rattle.tool_laws.proofs.Ends.{Ends, fault_not_no, memory_not_no, printed_whole}
use Rattle.tool_laws.proofs.Listed.{some_device, tree_given}

-- ---- init

fresh_given : (wide : Bool) (made : Result Unit AdfError) (result : Status) (old new : DeviceState) → (Rose old.faults new.faults → ⊥) → MakesFresh wide made old new
    → result ≡ init_status made → GivesFresh result old
fresh_given wide (Ok done) result old new quiet made is = inl (is, λ image e. held_none old.held made.0.0.empty image e)
  where
    held_none : (held : Option (List ℕ)) → IfSome held (λ (bytes : List ℕ). bytes ≡ []) → HoldsNone held
    held_none None h image e = absurd cc
    held_none (Some bytes) h image e = sym (same_Some bytes image e) ∙ h
fresh_given wide (Err error.NotEmpty) result old new quiet made is = inr (is, λ image e. held_some old.held made.0.0 image e)
  where
    held_some : (held : Option (List ℕ)) → IfSome held (λ (bytes : List ℕ). bytes ≢ []) → HoldsSome held
    held_some None h image e = absurd cc
    held_some (Some bytes) h image e = λ none. h (same_Some bytes image e ∙ none)
fresh_given wide (Err error.ReadFault) result old new quiet made is = absurd (quiet made.0.0)
fresh_given wide (Err error.WriteFault) result old new quiet made is = absurd (quiet made.0.1)
fresh_given wide (Err other) result old new quiet made is = absurd made.0

-- ---- reports

lint_given : (old new : DeviceState) (how : Report) (text : List ℕ) → (Rose old.faults new.faults → ⊥) → Linted old new how text → Ends (report_status how) (GivesReport (report_status how) old)
lint_given old new how text quiet (Linted.said (says.Sound nodes gaps end format wide) named is) = inr (inl (refl, λ image e. tree_of (is image e)))
  where
    tree_of : {image : List ℕ} → IsVerdict image (says.Sound nodes gaps end format wide) → HasTree image
    tree_of h = (h.tree, h.placement, h.laid_out)
lint_given old new how text quiet (Linted.said (says.Unsound rule place) named is) = inr (inr (refl, λ image e. (record { rule = rule; place = place }, is image e)))
lint_given old new how text quiet (Linted.failed rose) = absurd (quiet rose)
lint_given old new how text quiet Linted.lacking = inl refl

map_given : (old new : DeviceState) (how : Report) (text : List ℕ) → (Rose old.faults new.faults → ⊥) → Mapped old new how text → Ends (report_status how) (GivesReport (report_status how) old)
map_given old new how text quiet (Mapped.whole is) = inr (inl (refl, λ image e. ((is image e).tree, (is image e).placement, (is image e).laid_out)))
map_given old new how text quiet (Mapped.broken rule place named is) = inr (inr (refl, λ image e. (record { rule = rule; place = place }, is image e)))
map_given old new how text quiet (Mapped.changed rule place named none) = inr (inr (refl, λ image e. absurd (none image e)))
map_given old new how text quiet (Mapped.failed rose) = absurd (quiet rose)
map_given old new how text quiet (Mapped.lacking is) = inl refl

report_given : (says : DeviceState → DeviceState → Report → List ℕ → Type 0) (result : Status) (old new : DeviceState) (taken now : Option (List ℕ)) (faults later : ℕ) → (Rose faults later → ⊥)
    → ((how : Report) (text : List ℕ) → says old new how text → Ends (report_status how) (GivesReport (report_status how) old))
    → Reports says result old new taken now faults later → Ends result (GivesReport result old)
report_given says result old new taken now faults later quiet given r =
    subst (λ (s : Status). Ends s (GivesReport s old)) (sym r.status) (by_how r.how r.said)
  where
    by_how : (how : Report) → Says (says old new) taken now faults later how → Ends (report_status how) (GivesReport (report_status how) old)
    by_how how (Says.whole text is appended) = given how text is
    by_how how (Says.torn report text is rose part) = absurd (quiet rose)

-- ---- copies

-- a refusal that says no is none for want of memory, nor of a failed read
not_early : (e : AdfError) → copy_status (Err e) ≡ status.No → (e ≡ error.Memory) ⊎ (e ≡ error.ReadFault) → ⊥
not_early e says (inl is) = absurd (memory_not_no (subst (λ (x : AdfError). copy_status (Err x) ≡ status.No) is says))
not_early e says (inr is) = absurd (fault_not_no (subst (λ (x : AdfError). copy_status (Err x) ≡ status.No) is says))

-- an end that is no want of memory
not_lacking : {result : Status} {P : Type 0} → result ≡ status.No → Ends result P → P
not_lacking says (inl memory) = absurd (memory_not_no (sym memory ∙ says))
not_lacking says (inr p) = p

module _ (source source_after target target_after : DeviceState) (quiet : Rose source.faults source_after.faults → ⊥) (quiet_target : Rose target.faults target_after.faults → ⊥) where
  -- a refusal of a copy of a tree
  refused_tree : (wide : Bool) (tree : Tree) (e : AdfError) → IsLicensed source source_after target target_after e → IsRefused wide tree e → Ends (copy_status (Err e)) (HasNoRoom wide tree target)
  refused_tree wide tree e wants_memory h = inl refl
  refused_tree wide tree e (unread rose) h = absurd (quiet rose)
  refused_tree wide tree e (unasked rose same) h = absurd (quiet_target rose)
  refused_tree wide tree e (unwritten rose more) h = absurd (quiet_target rose)
  refused_tree wide tree e (not_laid_out rule place named) h = absurd (h.sound rule place refl)
  refused_tree wide tree e too_long_dimension h = inr (long (h.shape refl))
  refused_tree wide tree e (not_empty some) h = inr (full (h.bytes refl) some)
  refused_tree wide tree e (too_long asked far none) h = let room = h.room asked 0 refl in inr (large room.0 (subst (λ (n : ℕ). 2 ^ 44 < n) room.1 far))

  -- a refusal is one for want of memory, or says no
  says_no : (e : AdfError) → IsLicensed source source_after target target_after e → (copy_status (Err e) ≡ status.Memory) ⊎ (copy_status (Err e) ≡ status.No)
  says_no e wants_memory = inl refl
  says_no e (unread rose) = absurd (quiet rose)
  says_no e (unasked rose same) = absurd (quiet_target rose)
  says_no e (unwritten rose more) = absurd (quiet_target rose)
  says_no e (not_laid_out rule place named) = inr refl
  says_no e too_long_dimension = inr refl
  says_no e (not_empty some) = inr refl
  says_no e (too_long asked far none) = inr refl

  refused_ends : (e : AdfError) (Yes : Type 0) (No : Type 0) → IsLicensed source source_after target target_after e → (copy_status (Err e) ≡ status.No → No) → Ends (copy_status (Err e)) (IsDecided (copy_status (Err e)) Yes No)
  refused_ends e Yes No licensed given = by_status (says_no e licensed)
    where
      by_status : (copy_status (Err e) ≡ status.Memory) ⊎ (copy_status (Err e) ≡ status.No) → Ends (copy_status (Err e)) (IsDecided (copy_status (Err e)) Yes No)
      by_status (inl memory) = inl memory
      by_status (inr says) = inr (inr (says, given says))

  no_copy : (wanted : Target) (e : AdfError) → copy_status (Err e) ≡ status.No → IsLicensed source source_after target target_after e → (image : List ℕ) → IsRepackRefusal wanted image target target_after e → HasNoCopy wanted target image
  no_copy wanted e says licensed image (inl early) = absurd (not_early e says early)
  no_copy wanted e says licensed image (inr (inl h)) = inl (record { rule = h.rule; place = h.place }, h.fault)
  no_copy wanted e says licensed image (inr (inr h)) = inr (h.tree, h.placement, h.laid_out, not_lacking says (refused_tree (width_for wanted h.tree.wide) h.tree e licensed h.refused))

  copy_given : (wanted : Target) (made : Result ℕ AdfError) → IsCopy wanted made source source_after target target_after → Ends (copy_status made) (GivesCopy wanted (copy_status made) source target)
  copy_given wanted (Ok end) copy = inr (inl (refl, (copy.none, λ image e. let p = copy.packed image e in (p.tree, p.placement, p.laid_out, (p.copied.fits, p.copied.near)))))
  copy_given wanted (Err e) copy = refused_ends e _ _ copy.licensed (λ says image told. no_copy wanted e says copy.licensed image (copy.refused image told))

  told_copy : (wanted : Target) (made : Result ℕ AdfError) (result : Status) (taken now : Option (List ℕ)) (faults later : ℕ) → (Rose faults later → ⊥)
      → Tells made result taken now faults later → Ends (copy_status made) (GivesCopy wanted (copy_status made) source target) → Ends result (GivesCopy wanted result source target)
  told_copy wanted made result taken now faults later still (Tells.said some ends) given =
      subst (λ (s : Status). Ends s (GivesCopy wanted s source target)) (sym (printed_whole (copy_status made) (copy_line made) result taken now faults later still ends)) given
  told_copy wanted made result taken now faults later still (Tells.lacking memory same kept) given = inl memory

  -- ---- salvages

  no_part : (e : AdfError) → copy_status (Err e) ≡ status.No → IsLicensed source source_after target target_after e → (image : List ℕ) → IsSalvageRefusal image target target_after e → HasNoWholePart target image
  no_part e says licensed image (inl early) = absurd (not_early e says early)
  no_part e says licensed image (inr (inl h)) = lost (record { rule = h.rule; place = h.place }) h.fault
  no_part e says licensed image (inr (inr h)) = roomless h.kept h.out h.sound (not_lacking says (refused_tree (is_wide image) (tree_of image h.kept) e licensed h.refused))

  some_left : (image : List ℕ) (first : Left) (others : List Left) (held : Option (List ℕ)) (end : ℕ) → IsSalvaged image held end (first ∷ others) → HasNoWholePart target image
  some_left image first others held end s = left_out s.kept s.out s.sound (λ none. absurd (nothing (s.told ∙ ap (map (left_of s.kept)) none)))
    where
      nothing : (first ∷ others) ≡ [] → ⊥
      nothing same = absurd cc

  none_left : (image : List ℕ) (held : Option (List ℕ)) (end : ℕ) → IsSalvaged image held end [] → HasWholePart image
  none_left image held end s = by_out s.out s.sound s.told
    where
      by_out : (out : List (Visit × Fault)) → IsSoundPart image s.kept out → [] ≡ map (left_of s.kept) out → HasWholePart image
      by_out [] sound told = (s.kept, sound, (s.copied.fits, s.copied.near))
      by_out (o ∷ os) sound told = absurd cc

  salvage_given : (made : Result Saved AdfError) → IsSalvage made source source_after target target_after → Ends (salvage_status made) (GivesSalvage (salvage_status made) source target)
  salvage_given (Ok saved) h = by_left saved.left h.packed
    where
      by_left : (left : List Left) → Told source.held (λ image. IsSalvaged image target_after.held saved.end left) → Ends (saved_status left) (GivesSalvage (saved_status left) source target)
      by_left [] packed = inr (inl (refl, (h.none, λ image e. none_left image target_after.held saved.end (packed image e))))
      by_left (first ∷ others) packed = inr (inr (refl, λ image e. some_left image first others target_after.held saved.end (packed image e)))
  salvage_given (Err e) h = refused_ends e _ _ h.licensed (λ says image told. no_part e says h.licensed image (h.refused image told))

  told_salvage : (made : Result Saved AdfError) (result : Status) (taken now : Option (List ℕ)) (faults later : ℕ) → (Rose faults later → ⊥)
      → TellsSalvage made result taken now faults later → Ends (salvage_status made) (GivesSalvage (salvage_status made) source target) → Ends result (GivesSalvage result source target)
  told_salvage made result taken now faults later still (TellsSalvage.said some ends) given =
      subst (λ (s : Status). Ends s (GivesSalvage s source target)) (sym (printed_whole (salvage_status made) (salvage_text made) result taken now faults later still ends)) given
  told_salvage made result taken now faults later still (TellsSalvage.lacking count memory part rises) given = inl memory

-- ---- sessions

session_given : (how : Ended) (result : Status) (old new : List SlotState) (before now : Streams) → result ≡ session_status how → SessionEnds how old new before now → IsQuiet old new before now
    → Ends result (GivesSession result before.left)
session_given ended.Done result old new before now is s quiet = inr (inl is, λ text told short. is)
session_given ended.SourceFault result old new before now is s quiet = absurd (quiet.source (s.source refl))
session_given ended.SinkFault result old new before now is s quiet = absurd (quiet.sink (s.sink refl))
session_given ended.Memory result old new before now is s quiet = inl is
session_given ended.TooLong result old new before now is s quiet = inr (inr is, λ text told short. absurd (too_many before.left now.left s.bound.0 s.bound.1 s.bound.2 text told short))
  where
    too_many : (left after : Option (List ℕ)) (bytes : List ℕ) → Consumes left after bytes → length bytes ≡ 2 ^ 40 → (text : List ℕ) → left ≡ Some text → length text < 2 ^ 40 → ⊥
    too_many None after bytes taken many text told short = absurd cc
    too_many (Some all) None bytes taken many text told short = absurd taken
    too_many (Some all) (Some rest) bytes taken many text told short =
        let whole = ap length (sym (same_Some all text told) ∙ taken) in
        let sum = length-append bytes rest in
        omega (arith, whole, sum, many, short)

-- ---- checks

-- where no device failed no fault stands among the openings, so they say no or leave the status as it is
status_apart : (outcomes : List Outcome) (ended result : Status) → (result ≡ status.DeviceFault → ⊥) → result ≡ status_over outcomes ended → result ≡ (if list_any is_refused outcomes then status.No else ended)
status_apart outcomes ended result apart is = by_fault (list_any is_fault outcomes) is
  where
    by_fault : (b : Bool) → result ≡ (if b then status.DeviceFault else if list_any is_refused outcomes then status.No else ended) → result ≡ (if list_any is_refused outcomes then status.No else ended)
    by_fault true is = absurd (apart is)
    by_fault false is = is

no_anyway : (outcomes : List Outcome) (result : Status) → (result ≡ status.DeviceFault → ⊥) → result ≡ status_over outcomes status.No → result ≡ status.No
no_anyway outcomes result apart is = by_refused (list_any is_refused outcomes) (status_apart outcomes status.No result apart is)
  where
    by_refused : (b : Bool) → result ≡ (if b then status.No else status.No) → result ≡ status.No
    by_refused true is = is
    by_refused false is = is

module _ (rules : List Rule) (named : List NamedFile) (slots : List SlotState) (result : Status) (before now : Output) (apart : result ≡ status.DeviceFault → ⊥) (quiet : result ≡ status.SinkFault → ⊥) (still : Rose before.faults now.faults → ⊥) where
  checked_given : (outcomes : List Outcome) (files : Files) (devices after : Devices) (between : Output) → (Rose between.faults now.faults → ⊥) → Opens named outcomes (shelf_files slots) (shelf_devices slots) devices files → AreOpened named outcomes
      → ChecksFile rules (first_number named) outcomes files devices after result between now → Ends result (GivesCheck rules named slots result)
  checked_given outcomes files devices after between calm opens opened c = by_answer c.answer c.ends c.told
    where
      by_answer : (answer : Result ℕ CheckFault) → EndsAnswer outcomes answer result c.said now → (IsTold files devices → Checks rules files (first_number named) answer between.taken c.said.taken) → Ends result (GivesCheck rules named slots result)
      by_answer (Ok found) ends told = inr (checked outcomes files devices opens opened found (λ t. (told t).2.0) (status_apart outcomes (found_status found) result apart ends.0))
      by_answer (Err fault.Memory) ends told = inl ends.0
      by_answer (Err fault.Sink) ends told = absurd (quiet ends.0)
      by_answer (Err fault.Read) ends told = by_print ends.1
        where
          by_print : ((result ≡ status.DeviceFault) × Appends c.said.taken now.taken (line (refusal_text error.ReadFault))) ⊎ ((result ≡ status.SinkFault) × Rose c.said.faults now.faults × AppendsPart c.said.taken now.taken (line (refusal_text error.ReadFault))) → Ends result (GivesCheck rules named slots result)
          by_print (inl e) = absurd (apart e.0)
          by_print (inr e) = absurd (quiet e.0)
      by_answer (Err (fault.Core error)) (inr ends) told = inl ends.0
      by_answer (Err (fault.Core error)) (inl ends) told = inr (silent outcomes files devices opens opened (λ t. (told t).2) (no_anyway outcomes result apart (by_print ends.1)))
        where
          by_print : ((result ≡ status_over outcomes status.No) × Appends c.said.taken now.taken (line (refusal_text error))) ⊎ ((result ≡ status.SinkFault) × Rose c.said.faults now.faults × AppendsPart c.said.taken now.taken (line (refusal_text error))) → result ≡ status_over outcomes status.No
          by_print (inl e) = e.0
          by_print (inr e) = absurd (quiet e.0)

  behind_given : (outcomes : List Outcome) (files : Files) (devices after : Devices) → Opens named outcomes (shelf_files slots) (shelf_devices slots) devices files
      → EndsBehind rules named outcomes files devices after result before now → Ends result (GivesCheck rules named slots result)
  behind_given outcomes files devices after opens (EndsBehind.lacks memory same kept) = inl memory
  behind_given outcomes files devices after opens (EndsBehind.closed first memory same ends) = inr (closed outcomes files devices opens first memory (no_anyway outcomes result apart (printed_whole (status_over outcomes status.No) (closed_text outcomes named) result before.taken now.taken before.faults now.faults still ends)))
  behind_given outcomes files devices after opens (EndsBehind.fails opened failed same f) = absurd (quiet failed)
  behind_given outcomes files devices after opens (EndsBehind.checks opened between takes c) = checked_given outcomes files devices after between (λ rose. still (let low = takes.later in omega (arith, low, rose))) opens opened c

-- ---- all commands

module _ (result : Status) (old new : List SlotState) (before now : Streams) (quiet : IsQuiet old new before now) where
  of_device : (n : ℕ) (Did : DeviceState → DeviceState → Type 0) (P : DeviceState → Type 0) → OnDevice n Did old new
      → ((device after : DeviceState) → (Rose device.faults after.faults → ⊥) → Did device after → Ends result (P device)) → Ends result (OfDevice old n P)
  of_device n Did P (device, after, there, left, did) each =
      by_end (each device after (quiet_there old new n device after quiet.devices there (ap (λ (l : List SlotState). device_at l n) left ∙ device_put old n device after there)) did)
    where
      by_end : Ends result (P device) → Ends result (OfDevice old n P)
      by_end (inl memory) = inl memory
      by_end (inr h) = inr (device, there, h)

  of_devices : (from to : ℕ) (Did : DeviceState → DeviceState → DeviceState → DeviceState → Type 0) (P : DeviceState → DeviceState → Type 0) → from ≢ to → OnDevices from to Did old new
      → ((source source_after target target_after : DeviceState) → (Rose source.faults source_after.faults → ⊥) → (Rose target.faults target_after.faults → ⊥)
      → Did source source_after target target_after → Ends result (P source target))
      → Ends result (OfDevice old from (λ source. OfDevice old to (λ target. P source target)))
  of_devices from to Did P apart h each = by_end (each h.source h.source_after h.target h.target_after first second h.did)
    where
      source_now : device_at new from ≡ Some h.source_after
      source_now = ap (λ (l : List SlotState). device_at l from) h.left ∙ other_put (with_device old from h.source_after) to from h.target_after (λ is. apart (sym is))
          ∙ device_put old from h.source h.source_after h.source_there

      target_now : device_at new to ≡ Some h.target_after
      target_now = ap (λ (l : List SlotState). device_at l to) h.left
          ∙ device_put (with_device old from h.source_after) to h.target h.target_after (other_put old from to h.source_after apart ∙ h.target_there)

      first : Rose h.source.faults h.source_after.faults → ⊥
      first = quiet_there old new from h.source h.source_after quiet.devices h.source_there source_now

      second : Rose h.target.faults h.target_after.faults → ⊥
      second = quiet_there old new to h.target h.target_after quiet.devices h.target_there target_now

      by_end : Ends result (P h.source h.target) → Ends result (OfDevice old from (λ source. OfDevice old to (λ target. P source target)))
      by_end (inl memory) = inl memory
      by_end (inr given) = inr (h.source, h.source_there, (h.target, h.target_there, given))

  pub run_given : (wanted : Wanted) → IsOnShelf wanted old → RunEnds wanted result old new before now → Ends result (Gives wanted old before result)
  run_given asks.Nothing on (same, ends, input) = inr (printed_whole status.Usage _ result before.taken now.taken before.sink_faults now.sink_faults quiet.sink ends)
  run_given (asks.Init wide n) on (did, input) = of_device n _ (GivesFresh result) did
      (λ device after still h. inr (fresh_given wide h.0 result device after still h.1
      (printed_whole (init_status h.0) (init_line wide h.0) result before.taken now.taken before.sink_faults now.sink_faults quiet.sink h.3)))
  run_given (asks.Lint n) on (did, input) = of_device n _ (GivesReport result) did
      (λ device after still h. report_given Linted result device after before.taken now.taken before.sink_faults now.sink_faults quiet.sink (λ how text. lint_given device after how text still) h)
  run_given (asks.Map n) on (did, input) = of_device n _ (GivesReport result) did
      (λ device after still h. report_given Mapped result device after before.taken now.taken before.sink_faults now.sink_faults quiet.sink (λ how text. map_given device after how text still) h)
  run_given (asks.Copy version from to) on (did, input) = of_devices from to _ (GivesCopy version result) on.0 did
      (λ source source_after target target_after still still_there h. told_copy source source_after target target_after still still_there version h.made result before.taken now.taken before.sink_faults now.sink_faults quiet.sink h.told
      (copy_given source source_after target target_after still still_there version h.made h.copy))
  run_given (asks.Salvage from to) on (did, input) = of_devices from to _ (GivesSalvage result) on.0 did
      (λ source source_after target target_after still still_there h. told_salvage source source_after target target_after still still_there h.made result before.taken now.taken before.sink_faults now.sink_faults quiet.sink h.told
      (salvage_given source source_after target target_after still still_there h.made h.salvage))
  run_given (asks.Tree n) on (ends, input) =
      by_device (there n on)
    where
      there : (k : ℕ) → IsSome (device_at old k) → (device : DeviceState) × (device_at old k ≡ Some device)
      there k on = some_device (device_at old k) on

      by_device : ((device : DeviceState) × (device_at old n ≡ Some device)) → Ends result (Gives (asks.Tree n) old before result)
      by_device (device, there) = tree_given old n device there result (λ is. no_fault (ends.fault is)) (λ is. quiet.sink (ends.sink is)) (output_of before) (output_of now) quiet.sink ends.files ends.devices ends.prints
        where
          no_fault : SomeFault (shelf_devices old) (shelf_devices new) → ⊥
          no_fault some = quiet.devices some.0 some.1
  run_given (asks.Check set files) on (ends, input) =
      behind_given (rules_of set) files old result (output_of before) (output_of now) (λ is. no_fault (ends.fault is)) (λ is. quiet.sink (ends.sink is)) quiet.sink
      ends.checked.outcomes ends.files ends.checked.opened ends.devices ends.checked.opens ends.checked.ends
    where
      no_fault : SomeFault (shelf_devices old) (shelf_devices new) → ⊥
      no_fault some = quiet.devices some.0 some.1
  run_given asks.Session on (how, is, ends) = session_given how result old new before now is ends quiet
