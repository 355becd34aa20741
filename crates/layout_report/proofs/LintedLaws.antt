-- What is said of a verdict.
use Rattle.std.proofs.Common.{◌≡◌, ◌⊎◌, ℕ, List, [], Option, subst, arith}
use Rattle.std.proofs.KnownBytes.{Appends-nil}
use Rattle.cg_io.specs.Device.{DeviceState}
use Rattle.adf_model.specs.declared.error.AdfError.{AdfError}
use Rattle.cg_io.specs.Answers.{Told}
use Rattle.layout_lint.specs.Owners.{IsNoLayout}
use Rattle.layout_lint.specs.Verdicts.{IsVerdict, NamesRule, MayFail}
use Rattle.layout_lint.specs.declared.verdict.Verdict.{Verdict}
use Rattle.layout_report.specs.Lines.{verdict_line}
use Rattle.layout_report.specs.Reports.{Ends, Refuses, Says, Linted, verdict_report}
use Rattle.layout_report.specs.Reports.Linted.{said, failed, lacking}
use Rattle.layout_report.specs.declared.Report.{Report}
use Rattle.layout_report.specs.declared.Report.TheVariants as ended
use Rattle.layout_report.proofs.ReportLaws.{ends_or_lacks, refuses_behind, failure_refuses, failure_breaks_none}

pub verdict_said : (old new : DeviceState) (O : Type 0) (takes : O → Option (List ℕ)) (counts : O → ℕ) (verdict : Verdict) (result : Report) (before after : O)
    → NamesRule verdict → Told old.held (λ image. IsVerdict image verdict)
    → Ends (verdict_report verdict) (verdict_line verdict) result (takes before) (takes after) (counts before) (counts after) ⊎ ((result ≡ ended.Memory) × (after ≡ before))
    → Says (Linted old new) (takes before) (takes after) (counts before) (counts after) result
verdict_said old new O takes counts verdict result before after names is ends =
    ends_or_lacks (Linted old new) O takes counts (verdict_report verdict) (verdict_line verdict) result before after (said verdict names is) lacking ends

pub failure_said : (old new : DeviceState) (O : Type 0) (takes : O → Option (List ℕ)) (counts : O → ℕ) (failure : AdfError) (result : Report) (before after : O)
    → MayFail old.faults new.faults failure
    → Refuses failure result (takes before) (takes after) (counts before) (counts after) ⊎ ((result ≡ ended.Memory) × (after ≡ before))
    → Says (Linted old new) (takes before) (takes after) (counts before) (counts after) result
failure_said old new O takes counts failure result before after may told =
    refuses_behind (Linted old new) O takes counts failure [] result (takes before) (counts before) before after old.faults new.faults
    (λ rule place rules is. absurd (subst IsNoLayout is (failure_breaks_none old.faults new.faults failure may)))
    (λ rose. failed rose) lacking (failure_refuses old.faults new.faults failure may) (Appends-nil (takes before)) (omega arith) told
