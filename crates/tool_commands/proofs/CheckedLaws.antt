-- What a check of files leaves of them and of their devices, and what its status tells.
use Rattle.std.proofs.Common.{◌≡◌, ◌≢◌, inl, inr, ℕ, zero, suc, ◌≤◌, cond, Bool, true, false, List, refl, sym, ◌∙◌, ap, subst, arith, le_trans}
use Rattle.std.specs.Prelude.{None, Result, Ok, Err}
use Rattle.std.specs.List.{list_any}
use Rattle.adf_model.specs.Counts.{Rose}
use Rattle.adf_model.specs.Slots.{Files, Devices, names_there}
use Rattle.adf_model.specs.Steps.{OthersOnlyRead, SomeFault}
use Rattle.adf_model.proofs.Answering.AskLaws.{asks_none}
use Rattle.adf_model.proofs.Answering.Asking.{stays-trans}
use Rattle.cgns_check.specs.Checked.{HasCheckCause}
use Rattle.cgns_check.specs.declared.fault.CheckFault.{CheckFault}
use Rattle.cgns_check.specs.declared.fault.CheckFault.TheVariants as fault
use Rattle.sids_readings.specs.RuleSets.{rules_of}
use Rattle.sids_readings.specs.declared.rule_sets.RuleSet.{RuleSet}
use Rattle.sids_rules.specs.Rules.{Rule}
use Rattle.tool_commands.specs.Checks.{Checked, ChecksFile, EndsAnswer, EndsBehind, Output, Prints, closed_text, found_status, status_over}
use Rattle.tool_commands.specs.Checks.EndsBehind.{lacks, closed, fails, checks}
use Rattle.tool_commands.specs.Openings.{Outcome, first_number, is_fault, is_refused}
use Rattle.tool_commands.specs.declared.named_files.NamedFile.{NamedFile}
use Rattle.tool_commands.specs.declared.status.Status.{Status}
use Rattle.tool_commands.specs.declared.status.Status.TheVariants as status
use Rattle.tool_commands.proofs.OpeningLaws.{openings_fail, openings_keep, openings_read, fault_then, then_fault, then_rose}

-- ---- statuses

over_fault : (outcomes : List Outcome) (ended : Status) → ended ≢ status.DeviceFault → status_over outcomes ended ≡ status.DeviceFault → list_any is_fault outcomes ≡ true
over_fault outcomes ended other is = by_tests (list_any is_fault outcomes) (list_any is_refused outcomes) is
  where
    by_tests : (a b : Bool) → cond a status.DeviceFault (cond b status.No ended) ≡ status.DeviceFault → a ≡ true
    by_tests true b is = refl
    by_tests false true is = absurd cc
    by_tests false false is = absurd (other is)

over_sink : (outcomes : List Outcome) (ended : Status) → ended ≢ status.SinkFault → status_over outcomes ended ≡ status.SinkFault → ⊥
over_sink outcomes ended other is = by_tests (list_any is_fault outcomes) (list_any is_refused outcomes) is
  where
    by_tests : (a b : Bool) → cond a status.DeviceFault (cond b status.No ended) ≡ status.SinkFault → ⊥
    by_tests true b is = cc
    by_tests false true is = cc
    by_tests false false is = other is

found_fault : (found : ℕ) → found_status found ≢ status.DeviceFault
found_fault zero is = cc
found_fault (suc found) is = cc

found_sink : (found : ℕ) → found_status found ≢ status.SinkFault
found_sink zero is = cc
found_sink (suc found) is = cc

no_fault : status.No ≢ status.DeviceFault
no_fault is = cc

no_sink : status.No ≢ status.SinkFault
no_sink is = cc

-- a status that is not that of a failed output comes behind the whole text
pub printed_fault : (wanted : Status) (text : List ℕ) (result : Status) (before after : Output) → Prints wanted text result before after → result ≡ status.DeviceFault → wanted ≡ status.DeviceFault
printed_fault wanted text result before after prints is =
    elim prints.1 [ inl whole ↦ sym whole.0 ∙ is | inr part ↦ absurd (apart (sym part.0 ∙ is)) ]
  where
    apart : status.SinkFault ≡ status.DeviceFault → ⊥
    apart e = cc

pub printed_sink : (wanted : Status) (text : List ℕ) (result : Status) (before after : Output) → Prints wanted text result before after → wanted ≢ status.SinkFault → result ≡ status.SinkFault → Rose before.faults after.faults
printed_sink wanted text result before after prints other is =
    elim prints.1 [ inl whole ↦ absurd (other (sym whole.0 ∙ is)) | inr part ↦ part.1 ]

-- ---- the check of the first file

module _ (rules : List Rule) (number : ℕ) (outcomes : List Outcome) (files : Files) (devices now : Devices) (result : Status) (before after : Output) where
  answer_fault : (answer : Result ℕ CheckFault) (said : Output) → EndsAnswer outcomes answer result said after → result ≡ status.DeviceFault → {Fault : Type 0} → (answer ≡ Err fault.Read → Fault)
      → (list_any is_fault outcomes ≡ true → Fault) → Fault
  answer_fault (Ok found) said ends is read opened = opened (over_fault outcomes (found_status found) (found_fault found) (sym ends.0 ∙ is))
  answer_fault (Err fault.Memory) said ends is read opened = absurd (apart (sym ends.0 ∙ is))
    where
      apart : status.Memory ≡ status.DeviceFault → ⊥
      apart e = cc
  answer_fault (Err fault.Sink) said ends is read opened = absurd (apart (sym ends.0 ∙ is))
    where
      apart : status.SinkFault ≡ status.DeviceFault → ⊥
      apart e = cc
  answer_fault (Err fault.Read) said ends is read opened = read refl
  answer_fault (Err (fault.Core error)) said ends is read opened =
      elim ends [
        | inl prints ↦ opened (over_fault outcomes status.No no_fault (printed_fault _ _ result said after prints is))
        | inr lack ↦ absurd (apart (sym lack.0 ∙ is))
      ]
    where
      apart : status.Memory ≡ status.DeviceFault → ⊥
      apart e = cc

  answer_sink : (answer : Result ℕ CheckFault) (said : Output) → EndsAnswer outcomes answer result said after → result ≡ status.SinkFault → (answer ≡ Err fault.Sink → Rose before.faults said.faults)
      → before.faults ≤ said.faults → Rose before.faults after.faults
  answer_sink (Ok found) said ends is sink later = absurd (over_sink outcomes (found_status found) (found_sink found) (sym ends.0 ∙ is))
  answer_sink (Err fault.Memory) said ends is sink later = absurd (apart (sym ends.0 ∙ is))
    where
      apart : status.Memory ≡ status.SinkFault → ⊥
      apart e = cc
  answer_sink (Err fault.Sink) said ends is sink later = subst (λ (o : Output). Rose before.faults o.faults) (sym ends.1) (sink refl)
  answer_sink (Err fault.Read) said ends is sink later = then_rose _ _ _ later (printed_sink _ _ result said after ends apart is)
    where
      apart : status.DeviceFault ≡ status.SinkFault → ⊥
      apart e = cc
  answer_sink (Err (fault.Core error)) said ends is sink later =
      elim ends [
        | inl prints ↦ then_rose _ _ _ later (printed_sink _ _ result said after prints (over_sink outcomes status.No no_sink) is)
        | inr lack ↦ absurd (apart (sym lack.0 ∙ is))
      ]
    where
      apart : status.Memory ≡ status.SinkFault → ⊥
      apart e = cc

  answer_later : (answer : Result ℕ CheckFault) (said : Output) → EndsAnswer outcomes answer result said after → said.faults ≤ after.faults
  answer_later (Ok found) said ends = let e = ap (λ (o : Output). o.faults) ends.1 in omega (arith, e)
  answer_later (Err fault.Memory) said ends = let e = ap (λ (o : Output). o.faults) ends.1 in omega (arith, e)
  answer_later (Err fault.Sink) said ends = let e = ap (λ (o : Output). o.faults) ends.1 in omega (arith, e)
  answer_later (Err fault.Read) said ends = ends.0
  answer_later (Err (fault.Core error)) said ends =
      elim ends [ inl prints ↦ prints.0 | inr lack ↦ same_later (ap (λ (o : Output). o.faults) lack.1) ]
    where
      same_later : after.faults ≡ said.faults → said.faults ≤ after.faults
      same_later e = omega (arith, e)

  read_fault : (checked : ChecksFile rules number outcomes files devices now result before after) → checked.answer ≡ Err fault.Read → SomeFault devices now
  read_fault checked is = by_answer checked.answer is checked.cause
    where
      by_answer : (answer : Result ℕ CheckFault) → answer ≡ Err fault.Read → HasCheckCause files devices now before.faults checked.said.faults answer → SomeFault devices now
      by_answer (Err fault.Read) is cause = (cause.0, cause.2)
      by_answer (Ok found) is cause = absurd cc
      by_answer (Err fault.Memory) is cause = absurd cc
      by_answer (Err fault.Sink) is cause = absurd cc
      by_answer (Err (fault.Core error)) is cause = absurd cc

  sink_fault : (checked : ChecksFile rules number outcomes files devices now result before after) → checked.answer ≡ Err fault.Sink → Rose before.faults checked.said.faults
  sink_fault checked is = by_answer checked.answer is checked.cause
    where
      by_answer : (answer : Result ℕ CheckFault) → answer ≡ Err fault.Sink → HasCheckCause files devices now before.faults checked.said.faults answer → Rose before.faults checked.said.faults
      by_answer (Err fault.Sink) is cause = cause
      by_answer (Ok found) is cause = absurd cc
      by_answer (Err fault.Memory) is cause = absurd cc
      by_answer (Err fault.Read) is cause = absurd cc
      by_answer (Err (fault.Core error)) is cause = absurd cc

-- ---- the whole check

module _ (set : RuleSet) (named : List NamedFile) (result : Status) (files : Files) (before now : Devices) (after : Files) (taken later : Output) (c : Checked set named result files before now after taken later) where
  behind : OthersOnlyRead None c.opened now
  behind = by_end c.ends
    where
      same : now ≡ c.opened → OthersOnlyRead None c.opened now
      same is = subst (λ (ds : Devices). OthersOnlyRead None c.opened ds) (sym is) (asks_none after c.opened).devices_stay

      by_end : EndsBehind (rules_of set) named c.outcomes after c.opened now result taken later → OthersOnlyRead None c.opened now
      by_end (lacks is stay none) = same stay
      by_end (closed shut memory stay prints) = same stay
      by_end (fails all is stay part) = same stay
      by_end (checks all between whole checked) = checked.asks.devices_stay

  first_read : OthersOnlyRead None before c.opened
  first_read = openings_read files after before c.opened named c.outcomes c.opens.run

  pub checked_reads : OthersOnlyRead None before now
  checked_reads = stays-trans before c.opened now first_read behind

  pub checked_names : names_there after ≡ names_there files
  checked_names = openings_keep files after before c.opened named c.outcomes c.opens.run

  openings_failed : list_any is_fault c.outcomes ≡ true → SomeFault before now
  openings_failed any = fault_then before c.opened now (openings_fail files after before c.opened named c.outcomes c.opens.few c.opens.run any) behind

  pub checked_fault : result ≡ status.DeviceFault → SomeFault before now
  checked_fault is = by_end c.ends
    where
      by_end : EndsBehind (rules_of set) named c.outcomes after c.opened now result taken later → SomeFault before now
      by_end (lacks so stay none) = absurd (apart (sym so ∙ is))
        where
          apart : status.Memory ≡ status.DeviceFault → ⊥
          apart e = cc
      by_end (closed shut memory stay prints) = openings_failed (over_fault c.outcomes status.No no_fault (printed_fault (status_over c.outcomes status.No) (closed_text c.outcomes named) result taken later prints is))
      by_end (fails all so stay part) = absurd (apart (sym so ∙ is))
        where
          apart : status.SinkFault ≡ status.DeviceFault → ⊥
          apart e = cc
      by_end (checks all between whole checked) =
          answer_fault (rules_of set) (first_number named) c.outcomes after c.opened now result between later checked.answer checked.said checked.ends is
          (λ read. then_fault before c.opened now first_read (read_fault (rules_of set) (first_number named) c.outcomes after c.opened now result between later checked read)) openings_failed

  pub checked_sink : result ≡ status.SinkFault → Rose taken.faults later.faults
  checked_sink is = by_end c.ends
    where
      by_end : EndsBehind (rules_of set) named c.outcomes after c.opened now result taken later → Rose taken.faults later.faults
      by_end (lacks so stay none) = absurd (apart (sym so ∙ is))
        where
          apart : status.Memory ≡ status.SinkFault → ⊥
          apart e = cc
      by_end (closed shut memory stay prints) = printed_sink (status_over c.outcomes status.No) (closed_text c.outcomes named) result taken later prints (over_sink c.outcomes status.No no_sink) is
      by_end (fails all so stay part) = part.rose
      by_end (checks all between whole checked) =
          then_rose taken.faults between.faults later.faults whole.later
          (answer_sink (rules_of set) (first_number named) c.outcomes after c.opened now result between later checked.answer checked.said checked.ends is
          (sink_fault (rules_of set) (first_number named) c.outcomes after c.opened now result between later checked) checked.later)

  pub checked_later : taken.faults ≤ later.faults
  checked_later = by_end c.ends
    where
      by_end : EndsBehind (rules_of set) named c.outcomes after c.opened now result taken later → taken.faults ≤ later.faults
      by_end (lacks so stay none) = let e = ap (λ (o : Output). o.faults) none in omega (arith, e)
      by_end (closed shut memory stay prints) = prints.0
      by_end (fails all so stay part) = part.later
      by_end (checks all between whole checked) =
          le_trans whole.later (le_trans checked.later (answer_later (rules_of set) (first_number named) c.outcomes after c.opened now result between later checked.answer checked.said checked.ends))
