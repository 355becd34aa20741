-- The map of a file, from what was said of its extents.
use Rattle.std.proofs.Common.{◌≡◌, ◌⊎◌, inl, inr, ℕ, ◌≤◌, Bool, List, [], ◌++◌, take, map, Option, refl, sym, ap, subst, ◌∙◌, arith}
use Rattle.std.specs.Prelude.{⊤}
use Rattle.std.proofs.KnownBytes.{Appends-nil}
use Rattle.cg_io.specs.Device.{DeviceState}
use Rattle.adf_format.specs.RuleNumbers.{IsRule}
use Rattle.adf_format.specs.FirstFault.{FirstFault}
use Rattle.adf_format.specs.Verdict.{IsLaidOutAs}
use Rattle.adf_format.specs.declared.types.Extent.{Extent}
use Rattle.adf_format.specs.declared.types.Format.{Format}
use Rattle.adf_model.specs.declared.error.AdfError.{AdfError}
use Rattle.layout_lint.specs.declared.verdict.NodePlace as code
use Rattle.layout_lint.specs.declared.owners.Owned.{Owned}
use Rattle.layout_lint.specs.Walks.{node_place}
use Rattle.layout_lint.specs.Verdicts.{MayFail}
use Rattle.cg_io.specs.Answers.{IsRefusal, Told}
use Rattle.layout_lint.specs.Owners.{IsNoLayout, OwnsAll}
use Rattle.layout_lint.specs.Paths.{AreNames}
use Rattle.layout_report.specs.Lines.{fault_line, end_line}
use Rattle.layout_report.specs.Reports.{Ends, Says, TellsLines, Listed, Mapped, StartsMap, IsMap, Refuses}
use Rattle.layout_report.specs.Reports.Says.{whole}
use Rattle.layout_report.specs.declared.Report.{Report}
use Rattle.layout_report.specs.declared.Report.TheVariants as ended
use Rattle.layout_report.proofs.ReportLaws.{ends_or_lacks, refuses_behind, said_as, failure_refuses, failure_breaks_none}

-- a sound file, by its verdict
abbrev pub IsSoundFile : List code.NodePlace → List Extent → ℕ → List ℕ → Type 0
IsSoundFile nodes gaps end image = (format : Format) × (wide : Bool) × IsLaidOutAs image (map node_place nodes) gaps end format wide

abbrev pub OwnsEach : List code.NodePlace → List Extent → List Owned → List ℕ → Type 0
OwnsEach nodes gaps owned image = (end : ℕ) (format : Format) (wide : Bool) (laid : IsLaidOutAs image (map node_place nodes) gaps end format wide) → OwnsAll laid.tree laid.placement owned

abbrev pub NamesEach : List code.NodePlace → List Extent → List (List ℕ) → List ℕ → Type 0
NamesEach nodes gaps names image = (end : ℕ) (format : Format) (wide : Bool) (laid : IsLaidOutAs image (map node_place nodes) gaps end format wide) → AreNames laid.tree names

module _ (nodes : List code.NodePlace) (names : List (List ℕ)) (gaps : List Extent) (end : ℕ) (owned : List Owned) where
  -- the first lines are those of a map
  begins : (k : ℕ) (lines image : List ℕ) → IsSoundFile nodes gaps end image → OwnsEach nodes gaps owned image → NamesEach nodes gaps names image → TellsLines nodes names (take k owned) lines → StartsMap image lines
  begins k lines image (format, wide, laid) all named tells = inr (record {
    tree = laid.tree;
    placement = laid.placement;
    laid_out = laid.laid_out;
    in_order = laid.in_order;
    owned = owned;
    all = all end format wide laid;
    count = k;
    each = tells laid.tree laid.placement laid.laid_out.is_tree laid.in_order laid.listed (named end format wide laid);
  })

  maps : (lines image : List ℕ) → IsSoundFile nodes gaps end image → OwnsEach nodes gaps owned image → NamesEach nodes gaps names image → TellsLines nodes names owned lines → IsMap image (lines ++ end_line end)
  maps lines image (format, wide, laid) all named tells = record {
    tree = laid.tree;
    placement = laid.placement;
    laid_out = laid.laid_out;
    in_order = laid.in_order;
    owned = owned;
    all = all end format wide laid;
    lines = lines;
    each = tells laid.tree laid.placement laid.laid_out.is_tree laid.in_order laid.listed (named end format wide laid);
    whole = ap (λ (last : ℕ). lines ++ end_line last) (sym laid.same_end);
  }

  -- what is said of the extents of a sound file is what is said of the file
  pub listed_mapped : (old new : DeviceState) → Told old.held (IsSoundFile nodes gaps end) → Told old.held (OwnsEach nodes gaps owned) → Told old.held (NamesEach nodes gaps names)
      → (report : Report) (text : List ℕ) → Listed nodes names owned end report text → Mapped old new report text
  listed_mapped old new sound all named _ _ (Listed.whole lines tells) = Mapped.whole (λ image held. maps lines image (sound image held) (all image held) (named image held) tells)
  listed_mapped old new sound all named _ _ (Listed.lacking k {lines = lines} tells) = Mapped.lacking (λ image held. begins k lines image (sound image held) (all image held) (named image held) tells)

-- what is said after some reads
pub mapped_before : (old mid new : DeviceState) → mid.held ≡ old.held → old.faults ≤ mid.faults → (report : Report) (text : List ℕ) → Mapped mid new report text → Mapped old new report text
mapped_before old mid new same rises _ _ (Mapped.whole is) = Mapped.whole (λ image held. is image (same ∙ held))
mapped_before old mid new same rises _ _ (Mapped.broken rule place rules is) = Mapped.broken rule place rules (λ image held. is image (same ∙ held))
mapped_before old mid new same rises _ _ (Mapped.changed rule place rules is) = Mapped.changed rule place rules (λ image held. is image (same ∙ held))
mapped_before old mid new same rises _ _ (Mapped.failed rose) = Mapped.failed (omega (arith, rose))
mapped_before old mid new same rises _ _ (Mapped.lacking is) = Mapped.lacking (λ image held. is image (same ∙ held))

-- nothing was said before the work ended
pub refuses_at_once : (old new : DeviceState) (O : Type 0) (takes : O → Option (List ℕ)) (counts : O → ℕ) (given : AdfError) (result : Report) (before after : O)
    → IsRefusal ⊤ old.faults new.faults given → Told old.held (λ image. IsNoLayout given)
    → Refuses given result (takes before) (takes after) (counts before) (counts after) ⊎ ((result ≡ ended.Memory) × (after ≡ before))
    → Says (Mapped old new) (takes before) (takes after) (counts before) (counts after) result
refuses_at_once old new O takes counts given result before after cause lawful told =
    refuses_behind (Mapped old new) O takes counts given [] result (takes before) (counts before) before after old.faults new.faults
    (λ rule place rules is. Mapped.changed rule place rules (λ image held. subst IsNoLayout is (lawful image held)))
    (λ rose. Mapped.failed rose) (Mapped.lacking (λ image held. inl refl)) cause (Appends-nil (takes before)) (omega arith) told

-- the extents of a sound file are said
pub extents_said : (nodes : List code.NodePlace) (names : List (List ℕ)) (gaps : List Extent) (end : ℕ) (owned said : List Owned) (old new : DeviceState) (taken now : Option (List ℕ)) (faults later : ℕ) (result : Report)
    → Told old.held (IsSoundFile nodes gaps end) → Told old.held (OwnsEach nodes gaps owned) → Told old.held (NamesEach nodes gaps names) → said ≡ owned
    → Says (Listed nodes names said end) taken now faults later result → Says (Mapped old new) taken now faults later result
extents_said nodes names gaps end owned said old new taken now faults later result sound all named same is =
    said_as (Listed nodes names owned end) (Mapped old new) taken now faults later result (listed_mapped nodes names gaps end owned old new sound all named)
    (subst (λ (os : List Owned). Says (Listed nodes names os end) taken now faults later result) same is)

-- the linter found a broken rule
pub fault_said : (old new : DeviceState) (O : Type 0) (takes : O → Option (List ℕ)) (counts : O → ℕ) (rule place : ℕ) (result : Report) (before after : O)
    → IsRule rule → Told old.held (λ image. FirstFault image (record { rule = rule; place = place }))
    → Ends ended.Broken (fault_line rule place) result (takes before) (takes after) (counts before) (counts after) ⊎ ((result ≡ ended.Memory) × (after ≡ before))
    → Says (Mapped old new) (takes before) (takes after) (counts before) (counts after) result
fault_said old new O takes counts rule place result before after rules is told =
    ends_or_lacks (Mapped old new) O takes counts ended.Broken (fault_line rule place) result before after (Mapped.broken rule place rules is) (Mapped.lacking (λ image held. inl refl)) told

-- no memory before the first line
pub lacks_at_once : (old new : DeviceState) (taken : Option (List ℕ)) (faults : ℕ) → Says (Mapped old new) taken taken faults faults ended.Memory
lacks_at_once old new taken faults = whole [] (Mapped.lacking (λ image held. inl refl)) (Appends-nil taken)

-- the linter found the file sound
pub sound_said : (old mid new : DeviceState) (taken now : Option (List ℕ)) (faults later : ℕ) (result : Report) → mid.held ≡ old.held → old.faults ≤ mid.faults
    → Says (Mapped mid new) taken now faults later result → Says (Mapped old new) taken now faults later result
sound_said old mid new taken now faults later result same rises is = said_as (Mapped mid new) (Mapped old new) taken now faults later result (mapped_before old mid new same rises) is

-- the linter failed
pub failure_said : (old new : DeviceState) (O : Type 0) (takes : O → Option (List ℕ)) (counts : O → ℕ) (given : AdfError) (result : Report) (before after : O)
    → MayFail old.faults new.faults given
    → Refuses given result (takes before) (takes after) (counts before) (counts after) ⊎ ((result ≡ ended.Memory) × (after ≡ before))
    → Says (Mapped old new) (takes before) (takes after) (counts before) (counts after) result
failure_said old new O takes counts given result before after may told =
    refuses_at_once old new O takes counts given result before after (failure_refuses old.faults new.faults given may) (λ image held. failure_breaks_none old.faults new.faults given may) told
