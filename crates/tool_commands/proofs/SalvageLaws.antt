-- Salvages: why none was made, and the lines that were taken.
use Rattle.std.proofs.Common.{◌≡◌, inl, inr, ℕ, ◌+◌, ◌<◌, ◌≤◌, List, [], ◌∷◌, ◌++◌, length, take, drop, get_or, Option, Result, Ok, Err, refl, sym, ap, subst, ◌∙◌, arith, append_assoc, append-nil, length-append}
use Rattle.std.proofs.lemmas.Grind.{flat_map-append}
use Rattle.std.proofs.lemmas.List.{take_more, take_all, take-append-le, take-append-drop}
use Rattle.std.specs.Io.KnownBytes.{Appends}
use Rattle.std.proofs.KnownBytes.{Appends-nil, Appends-trans}
use Rattle.adf_model.specs.declared.error.AdfError.{AdfError}
use Rattle.adf_model.specs.declared.error.AdfError.TheVariants as error
use Rattle.adf_repack.proofs.SourceLaws.{reads_none}
use Rattle.cg_io.specs.Answers.{Told}
use Rattle.adf_repack.specs.Repacks.{IsLicensed, wants_memory, LeavesDevice}
use Rattle.adf_salvage.specs.Salvages.{IsSalvageRefusal}
use Rattle.adf_salvage.specs.declared.list.Left.{Left}
use Rattle.cg_io.specs.Cause.{Rose}
use Rattle.cg_io.specs.Device.{DeviceState}
use Rattle.layout_report.proofs.ReportLaws.{part_behind}
use Rattle.session.specs.Printed.{AppendsPart}
use Rattle.tool_commands.specs.Copies.{Tells, copy_line}
use Rattle.tool_commands.specs.Printed.{EndsWith}
use Rattle.tool_commands.specs.Salvages.{IsNotSaved, TellsSalvage, left_line, left_lines, saved_status, salvage_text}
use Rattle.tool_commands.specs.declared.salvages.Saved.{Saved}
use Rattle.tool_commands.specs.declared.status.Status.{Status}
use Rattle.tool_commands.specs.declared.status.Status.TheVariants as status

-- ---- no salvage

-- none was begun, for want of memory
pub not_begun : (e : AdfError) (source source_after target : DeviceState) → e ≡ error.Memory → source_after ≡ source → IsNotSaved e source source_after target target
not_begun e source source_after target is same = record {
  licensed = subst (IsLicensed source source_after target target) (sym is) wants_memory;
  left = inl (reads_none target);
  refused = λ image told. inl (inl is);
}

-- it was refused, over blocks of the device of the file
pub not_saved : (e : AdfError) (source opened left source_after target target_after : DeviceState) → opened ≡ source → source_after ≡ left
    → IsLicensed opened left target target_after e → LeavesDevice target target_after e → Told opened.held (λ image. IsSalvageRefusal image target target_after e)
    → IsNotSaved e source source_after target target_after
not_saved e source opened left source_after target target_after first last licensed leaves refused =
    subst (λ (s : DeviceState). IsNotSaved e source s target target_after) (sym last)
    (subst (λ (s : DeviceState). IsNotSaved e s left target target_after) first (record { licensed = licensed; left = leaves; refused = refused }))

-- what is said of a refusal
pub refusal_told : (made : Result Saved AdfError) (e : AdfError) (result : Status) (taken now : Option (List ℕ)) (faults later : ℕ) → made ≡ Err e → Tells (Err e) result taken now faults later → TellsSalvage made result taken now faults later
refusal_told made e result taken now faults later refused tells = subst (λ (m : Result Saved AdfError). TellsSalvage m result taken now faults later) (sym refused) (told tells)
  where
    told : Tells (Err e) result taken now faults later → TellsSalvage (Err e) result taken now faults later
    told (Tells.said there ends) = TellsSalvage.said there ends
    told (Tells.lacking is same less) = TellsSalvage.lacking 0 is (subst (λ (t : Option (List ℕ)). Appends taken t []) (sym same) (Appends-nil taken)) (omega (arith, less))

-- ---- lines

-- a line more
line_more : (all : List Left) (k : ℕ) (left other : Left) → k < length all → left ≡ get_or all k other → left_lines (take (k + 1) all) ≡ left_lines (take k all) ++ left_line left
line_more all k left other below is =
    ap left_lines (take_more all k other below ∙ ap (λ (x : Left). take k all ++ x ∷ []) (sym is))
    ∙ flat_map-append left_line (take k all) (left ∷ [])
    ∙ ap (λ (l : List ℕ). left_lines (take k all) ++ l) (append-nil (left_line left))

-- the lines of the first nodes begin the text
first_lines : (all : List Left) (k : ℕ) → left_lines all ≡ left_lines (take k all) ++ left_lines (drop k all)
first_lines all k = ap left_lines (sym (take-append-drop k all)) ∙ flat_map-append left_line (take k all) (drop k all)

-- some first bytes of a text are some of a longer one
part_longer : (taken now : Option (List ℕ)) (text more : List ℕ) → AppendsPart taken now text → AppendsPart taken now (text ++ more)
part_longer taken now text more part = (part.0, omega (arith, part.1, length-append text more), subst (Appends taken now) (sym (take-append-le part.0 text more part.1)) part.2)

-- no line was taken yet
pub begins : (all : List Left) (taken : Option (List ℕ)) → Appends taken taken (left_lines (take 0 all))
begins all taken = Appends-nil taken

-- the lines of the first nodes were taken
pub goes_on : (all : List Left) (k : ℕ) (start taken now : Option (List ℕ)) (line text : List ℕ) (left other : Left) → k < length all → left ≡ get_or all k other → line ≡ left_line left → text ≡ line
    → Appends start taken (left_lines (take k all)) → Appends taken now text → Appends start now (left_lines (take (k + 1) all))
goes_on all k start taken now line text left other below is its same front took =
    subst (Appends start now) (sym (line_more all k left other below is)) (Appends-trans start taken now (left_lines (take k all)) (left_line left) front (subst (Appends taken now) (same ∙ its) took))

-- no memory for a line
pub lacks : (saved : Saved) (all : List Left) (k : ℕ) (start taken : Option (List ℕ)) (first faults : ℕ) → all ≡ saved.left → Appends start taken (left_lines (take k all)) → first ≤ faults
    → TellsSalvage (Ok saved) status.Memory start taken first faults
lacks saved all k start taken first faults is front rises = TellsSalvage.lacking k refl (subst (λ (l : List Left). Appends start taken (left_lines (take k l))) is front) rises

-- the sink fails within a line
pub tears : (saved : Saved) (all : List Left) (k : ℕ) (start taken now : Option (List ℕ)) (first faults later : ℕ) (line text : List ℕ) (left other : Left) → all ≡ saved.left → k < length all → left ≡ get_or all k other
    → line ≡ left_line left → text ≡ line → Appends start taken (left_lines (take k all)) → first ≤ faults → faults ≤ later → Rose faults later → AppendsPart taken now text
    → TellsSalvage (Ok saved) status.SinkFault start now first later
tears saved all k start taken now first faults later line text left other is_all below is its same front rises later_on rose cut =
    let front_line = left_lines (take k all) ++ left_line left in
    let rest = left_lines (drop (k + 1) all) ++ copy_line (Ok saved.end) in
    let whole : salvage_text (Ok saved) ≡ front_line ++ rest =
    ap (λ (l : List Left). left_lines l ++ copy_line (Ok saved.end)) (sym is_all)
    ∙ ap (λ (l : List ℕ). l ++ copy_line (Ok saved.end)) (first_lines all (k + 1))
    ∙ append_assoc (left_lines (take (k + 1) all)) (left_lines (drop (k + 1) all)) (copy_line (Ok saved.end))
    ∙ ap (λ (l : List ℕ). l ++ rest) (line_more all k left other below is) in
    let higher : Rose first later = omega (arith, rises, rose) in
    let part : AppendsPart start now front_line = part_behind start taken now (left_lines (take k all)) (left_line left) front (subst (AppendsPart taken now) (same ∙ its) cut) in
    TellsSalvage.said refl (omega (arith, rises, later_on), inr (refl, higher, subst (AppendsPart start now) (sym whole) (part_longer start now front_line rest part)))

-- all lines, and the last byte
pub ends : (saved : Saved) (all : List Left) (k : ℕ) (start taken now : Option (List ℕ)) (first faults later : ℕ) (line text : List ℕ) (wanted result : Status) → all ≡ saved.left → length all ≤ k
    → wanted ≡ saved_status saved.left → line ≡ copy_line (Ok saved.end) → text ≡ line → Appends start taken (left_lines (take k all)) → first ≤ faults → EndsWith wanted text result taken now faults later
    → TellsSalvage (Ok saved) result start now first later
ends saved all k start taken now first faults later line text wanted result is_all past how is same front rises told =
    TellsSalvage.said refl (
      omega (arith, rises, told.0),
      elim told.1 [
        | inl whole ↦ inl (whole.0 ∙ how, Appends-trans start taken now (left_lines saved.left) (copy_line (Ok saved.end)) lines (subst (Appends taken now) (same ∙ is) whole.1))
        | inr cut ↦ let higher : Rose first later = omega (arith, rises, cut.1) in
            inr (cut.0, higher, part_behind start taken now (left_lines saved.left) (copy_line (Ok saved.end)) lines (subst (AppendsPart taken now) (same ∙ is) cut.2))
      ],
    )
  where
    lines : Appends start taken (left_lines saved.left)
    lines = subst (λ (l : List Left). Appends start taken (left_lines l)) (take_all k all past ∙ is_all) front
