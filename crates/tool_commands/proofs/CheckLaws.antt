-- What a check prints of its openings, and how it ends behind them.
use Rattle.std.proofs.Common.{◌≡◌, ◌≢◌, inl, inr, ℕ, zero, suc, ◌+◌, ◌<◌, ◌≤◌, Bool, true, false, List, [], ◌∷◌, ◌++◌, drop, get_or, length, refl, sym, ◌∙◌, ap, subst, arith, append_assoc, append-nil}
use Rattle.std.specs.Prelude.{Some, Ok, Err, IfErr, slice_get}
use Rattle.std.specs.List.{AllByRecursion}
use Rattle.std.specs.Io.KnownBytes.{Appends}
use Rattle.std.proofs.lemmas.Grind.{flat_map-append}
use Rattle.adf_model.specs.Counts.{Rose}
use Rattle.adf_model.specs.NamedRules.{NamesRule}
use Rattle.adf_model.specs.Slots.{Files, Devices, is_broken, is_open, slot_at}
use Rattle.sids_readings.specs.RuleSets.{rules_of}
use Rattle.sids_readings.specs.declared.rule_sets.RuleSet.{RuleSet}
use Rattle.sids_rules.specs.Findings.{printed_lines}
use Rattle.session.specs.Printed.{AppendsPart}
use Rattle.tool_commands.specs.Checks.{Checked, ChecksFile, EndsBehind, Output, all_closed_lines, closed_lines, closed_text, status_over}
use Rattle.tool_commands.specs.Checks.EndsBehind.{lacks, closed, fails, checks}
use Rattle.tool_commands.specs.Openings.{HaveEnded, IsFirstClosed, Opens, Outcome, first_number, is_first_open}
use Rattle.tool_commands.specs.declared.named_files.NamedFile.{NamedFile}
use Rattle.tool_commands.specs.declared.status.Status.{Status}
use Rattle.tool_commands.specs.declared.status.Status.TheVariants as status
use Rattle.tool_commands.proofs.OpeningLaws.{first_is_open, openings_named}

-- ---- the lines of files that are not opened

lines_at : (outcomes : List Outcome) (files : List NamedFile) (at : ℕ) (outcome : Outcome) (file : NamedFile) → slice_get outcomes at ≡ Some outcome → slice_get files at ≡ Some file
    → all_closed_lines (drop at outcomes) (drop at files) ≡ closed_lines outcome file ++ all_closed_lines (drop (suc at) outcomes) (drop (suc at) files)
lines_at [] files at outcome file here there = absurd cc
lines_at (one ∷ outcomes) [] at outcome file here there = absurd cc
lines_at (one ∷ outcomes) (other ∷ files) zero outcome file here there = cc
lines_at (one ∷ outcomes) (other ∷ files) (suc at) outcome file here there = lines_at outcomes files at outcome file here there

printed_append : (lines more : List (List ℕ)) → printed_lines (lines ++ more) ≡ printed_lines lines ++ printed_lines more
printed_append lines more = flat_map-append (λ (line : List ℕ). line ++ 10 ∷ []) lines more

-- the lines of one more file are appended
text_more : (outcomes : List Outcome) (files : List NamedFile) (at : ℕ) (outcome : Outcome) (file : NamedFile) (text longer whole : List ℕ)
    → slice_get outcomes at ≡ Some outcome → slice_get files at ≡ Some file → longer ≡ text ++ printed_lines (closed_lines outcome file)
    → text ++ closed_text (drop at outcomes) (drop at files) ≡ whole → longer ++ closed_text (drop (suc at) outcomes) (drop (suc at) files) ≡ whole
text_more outcomes files at outcome file text longer whole here there is so =
    let rest = closed_text (drop (suc at) outcomes) (drop (suc at) files) in
    ap (λ (l : List ℕ). l ++ rest) is
    ∙ append_assoc text (printed_lines (closed_lines outcome file)) rest
    ∙ ap (λ (l : List ℕ). text ++ l)
    (sym (ap printed_lines (lines_at outcomes files at outcome file here there) ∙ printed_append (closed_lines outcome file) (all_closed_lines (drop (suc at) outcomes) (drop (suc at) files))))
    ∙ so

pub text_goes_on : (outcomes : List Outcome) (files : List NamedFile) (at : ℕ) (outcome : Outcome) (file : NamedFile) (text longer whole : List ℕ)
    → slice_get outcomes at ≡ Some outcome → slice_get files at ≡ Some file → longer ≡ text ++ printed_lines (closed_lines outcome file)
    → text ++ closed_text (drop at outcomes) (drop at files) ≡ whole → longer ++ closed_text (drop (at + 1) outcomes) (drop (at + 1) files) ≡ whole
text_goes_on outcomes files at outcome file text longer whole here there is so =
    let next : suc at ≡ at + 1 = omega arith in
    subst (λ (k : ℕ). longer ++ closed_text (drop k outcomes) (drop k files) ≡ whole) next (text_more outcomes files at outcome file text longer whole here there is so)

drop_all : (outcomes : List Outcome) (n : ℕ) → length outcomes ≤ n → drop n outcomes ≡ []
drop_all [] zero long = refl
drop_all [] (suc n) long = refl
drop_all (one ∷ outcomes) zero long = absurd (omega (arith, long))
drop_all (one ∷ outcomes) (suc n) long = drop_all outcomes n (omega (arith, long))

-- all lines are there
pub text_is_whole : (outcomes : List Outcome) (files : List NamedFile) (at : ℕ) (text whole : List ℕ) → length outcomes ≤ at → text ++ closed_text (drop at outcomes) (drop at files) ≡ whole → text ≡ whole
text_is_whole outcomes files at text whole long so =
    sym (append-nil text) ∙ ap (λ (os : List Outcome). text ++ closed_text os (drop at files)) (sym (drop_all outcomes at long)) ∙ so

-- a refusal names a rule of the layout
pub rule_at : (outcomes : List Outcome) (k : ℕ) (outcome : Outcome) → k < length outcomes → outcome ≡ get_or outcomes k outcome → AllByRecursion (λ (o : Outcome). IfErr o NamesRule) outcomes → IfErr outcome NamesRule
rule_at [] k outcome less is all = absurd (omega (arith, less))
rule_at (one ∷ outcomes) zero outcome less is all = subst (λ (o : Outcome). IfErr o NamesRule) (sym is) all.0
rule_at (one ∷ outcomes) (suc k) outcome less is all = rule_at outcomes k outcome (omega (arith, less)) is all.1

-- ---- how a check ends

module _ (set : RuleSet) (named : List NamedFile) (files : Files) (before : Devices) (after : Files) (opened : Devices) (outcomes : List Outcome) (opens : Opens named outcomes files before opened after) where
  ends_so : (now : Devices) (result : Status) (taken later : Output) → EndsBehind (rules_of set) named outcomes after opened now result taken later → Checked set named result files before now after taken later
  ends_so now result taken later ends = record { outcomes = outcomes; opened = opened; opens = opens; ends = ends }

  -- memory was wanting before anything was printed
  pub lacked : (taken : Output) → Checked set named status.Memory files before opened after taken taken
  lacked taken = ends_so opened status.Memory taken taken (lacks refl refl refl)

  -- the output failed in the lines of files that are not opened
  pub print_failed : HaveEnded named outcomes → (text : List ℕ) (taken later : Output) → text ≡ closed_text outcomes named → AppendsPart taken.taken later.taken text → Rose taken.faults later.faults
      → taken.faults ≤ later.faults → Checked set named status.SinkFault files before opened after taken later
  print_failed (inl all) text taken later is part rose rises =
      ends_so opened status.SinkFault taken later (fails all refl refl (record { part = subst (AppendsPart taken.taken later.taken) is part; rose = rose; later = rises }))
  print_failed (inr none) text taken later is part rose rises =
      ends_so opened status.SinkFault taken later (closed none.0 none.1 refl (rises, inr (refl, rose, subst (AppendsPart taken.taken later.taken) is part)))

  -- the first file is not opened
  pub first_closed : HaveEnded named outcomes → is_first_open outcomes ≡ false → (text : List ℕ) (taken later : Output) → text ≡ closed_text outcomes named → Appends taken.taken later.taken text
      → taken.faults ≤ later.faults → Checked set named (status_over outcomes status.No) files before opened after taken later
  first_closed (inl all) shut text taken later is whole rises = absurd (never (is_first_open outcomes) all.first shut)
    where
      never : (b : Bool) → b ≡ true → b ≡ false → ⊥
      never true first not = cc
      never false first not = cc
  first_closed (inr none) shut text taken later is whole rises =
      ends_so opened (status_over outcomes status.No) taken later (closed none.0 none.1 refl (rises, inl (refl, subst (Appends taken.taken later.taken) is whole)))

  -- the first file is checked
  pub first_checked : HaveEnded named outcomes → is_first_open outcomes ≡ true → (text : List ℕ) (now : Devices) (result : Status) (taken between later : Output) → text ≡ closed_text outcomes named
      → Appends taken.taken between.taken text → taken.faults ≤ between.faults → ChecksFile (rules_of set) (first_number named) outcomes after opened now result between later
      → Checked set named result files before now after taken later
  first_checked (inl all) done text now result taken between later is whole rises checked =
      ends_so now result taken later (checks all between (record { whole = subst (Appends taken.taken between.taken) is whole; later = rises }) checked)
  first_checked (inr none) done text now result taken between later is whole rises checked = absurd (never outcomes none.0 done)
    where
      never : (os : List Outcome) → IsFirstClosed os → is_first_open os ≡ true → ⊥
      never [] shut first = shut
      never (Ok done ∷ os) shut first = shut
      never (Err error ∷ os) shut first = cc

  -- the outcomes, the number and the devices as the check has them
  pub check_told : HaveEnded named outcomes → (known : List Outcome) (number : ℕ) (text : List ℕ) (now : Devices) (left : Files) (result : Status) (taken between later : Output) → known ≡ outcomes
      → is_first_open known ≡ true → number ≡ first_number named → text ≡ closed_text known named → Appends taken.taken between.taken text → taken.faults ≤ between.faults
      → left ≡ after → ChecksFile (rules_of set) number known after opened now result between later → Checked set named result files before now left taken later
  check_told ended known number text now left result taken between later is done first told whole rises stay checked =
      subst (λ (fs : Files). Checked set named result files before now fs taken later) (sym stay)
      (first_checked ended (ap is_first_open (sym is) ∙ done) text now result taken between later (told ∙ ap (λ (os : List Outcome). closed_text os named) is) whole rises
      (subst (λ (n : ℕ). ChecksFile (rules_of set) n outcomes after opened now result between later) first
      (subst (λ (os : List Outcome). ChecksFile (rules_of set) number os after opened now result between later) is checked)))

  -- the refusals name rules of the layout
  pub refusals_named : (known : List Outcome) → known ≡ outcomes → AllByRecursion (λ (o : Outcome). IfErr o NamesRule) known
  refusals_named known is = subst (AllByRecursion (λ (o : Outcome). IfErr o NamesRule)) (sym is) (openings_named files after before opened named outcomes opens.few opens.run)

  -- the first file is open
  pub first_told : named ≢ [] → (known : List Outcome) (number : ℕ) → known ≡ outcomes → is_first_open known ≡ true → number ≡ first_number named
      → (is_open (slot_at after number) ≡ true) × (is_broken (slot_at after number) ≡ false)
  first_told some known number is done first =
      subst (λ (n : ℕ). (is_open (slot_at after n) ≡ true) × (is_broken (slot_at after n) ≡ false)) (sym first)
      (first_is_open files after before opened named outcomes some (ap is_first_open (sym is) ∙ done) opens.run)
