-- How often a refused opening reads.
use Rattle.std.proofs.Common.{◌≡◌, ℕ, ◌∙◌, ap, arith, List, [], ◌∷◌, length, ◌+◌, ◌*◌, ◌≤◌, Bool}
use Rattle.std.specs.Prelude.{Option, Result, Ok, Err, IfErr}
use Rattle.std.specs.List.{AllByRecursion}
use Rattle.adf_format.specs.declared.types.Extent.{Extent}
use Rattle.adf_format.specs.LaysOut.{AreGapsInOrder}
use Rattle.adf_format.specs.Tiles.{end_of}
use Rattle.adf_format.specs.Verdict.{NodePlace}
use Rattle.adf_model.specs.Counts.{DeviceState}
use Rattle.adf_model.specs.Steps.{Opening, Fresh, Stored}
use Rattle.cg_io.specs.Blocks.{ReadsFew}
use Rattle.layout_lint.specs.declared.verdict.NodePlace as code
use Rattle.layout_lint.specs.Shapes.{IsShaped}
use Rattle.cg_io.specs.Answers.{Told}
use Rattle.adf_tree.specs.declared.file.AdfFile.{AdfFile}
use Rattle.adf_tree.specs.declared.file.OpenRefused.{OpenRefused}
use Rattle.adf_tree.specs.Opening.{HasVerdict, ReadsWithin}

-- ---- gaps are no more than bytes

gaps_behind : (high : ℕ) (g : Extent) (gs : List Extent) → AreGapsInOrder (g ∷ gs) → AllByRecursion (λ (h : Extent). (266 ≤ h.place) × (end_of h ≤ high)) (g ∷ gs)
    → length (g ∷ gs) + g.place ≤ high
gaps_behind high g [] order within = (let some = order.0.0 in let le = within.0.1 in omega (arith, some, le))
gaps_behind high g (h ∷ gs) order within = (let some = order.0.0 in let le = order.1.0 in let rest = gaps_behind high h gs order.2 within.1 in omega (arith, some, le, rest))

few_gaps : (end : ℕ) (gaps : List Extent) → AreGapsInOrder gaps → AllByRecursion (λ (h : Extent). (266 ≤ h.place) × (end_of h ≤ end + 1)) gaps → length gaps ≤ end
few_gaps end [] order within = omega arith
few_gaps end (g ∷ gaps) order within = (let all = gaps_behind (end + 1) g gaps order within in let low = within.0.0 in omega (arith, all, low))

verdict_gaps : (held : Option (List ℕ)) (nodes : List code.NodePlace) (gaps : List Extent) (end : ℕ) (wide : Bool) → HasVerdict held nodes gaps end wide
    → (ns : List NodePlace) → IsShaped ns gaps end wide → Told held (λ image. length gaps ≤ length image)
verdict_gaps held nodes gaps end wide verdict ns shape image told = (
    let w = (verdict image told).1 in
    let inside = w.laid_out.end in
    let same = w.same_end in
    let few = few_gaps end gaps shape.order shape.within in
    omega (arith, inside, same, few)
    )

-- ---- openings

-- where nothing is read
pub unread_within : (opening : Opening) (old there : DeviceState) → there ≡ old → ReadsWithin opening old there
unread_within (Fresh wide) old there same = (let e = ap (λ (d : DeviceState). d.reads) same in omega (arith, e))
unread_within (Stored writable) old there same = λ image told. (let e = ap (λ (d : DeviceState). d.reads) same in omega (arith, e))

pub fresh_within : (wide : Bool) (old new there : DeviceState) → there ≡ new → new.reads ≤ old.reads + 8 → ReadsWithin (Fresh wide) old there
fresh_within wide old new there same few = (let e = ap (λ (d : DeviceState). d.reads) same in omega (arith, e, few))

-- where the linter has read
pub linted_within : (writable : Bool) (old new there : DeviceState) → there ≡ new → Told old.held (λ image. ReadsFew (8 * length image + 16) old new) → ReadsWithin (Stored writable) old there
linted_within writable old new there same few image told =
    (let e = ap (λ (d : DeviceState). d.reads) same in let n = (few image told).few in omega (arith, e, n))

-- where the lists are not read
pub none_listed : (old there : DeviceState) → there ≡ old → Told old.held (λ image. there.reads ≤ old.reads + 2 * (length image + 3))
none_listed old there same image told = (let e = ap (λ (d : DeviceState). d.reads) same in omega (arith, e))

pub some_listed : (old new there : DeviceState) (nodes : List code.NodePlace) (gaps : List Extent) (end : ℕ) (wide : Bool) → HasVerdict old.held nodes gaps end wide
    → (ns : List NodePlace) → IsShaped ns gaps end wide → there ≡ new → ReadsFew (2 * (length gaps + 3)) old new → Told old.held (λ image. there.reads ≤ old.reads + 2 * (length image + 3))
some_listed old new there nodes gaps end wide verdict ns shape same reads image told = (
    let e = ap (λ (d : DeviceState). d.reads) same in
    let n = reads.few in
    let few = verdict_gaps old.held nodes gaps end wide verdict ns shape image told in
    omega (arith, e, n, few)
    )

-- an opening behind the reads of the linter
pub bound_later : {D : Type 0} (state : D → DeviceState) (writable : Bool) (a b : DeviceState) (result : Result (AdfFile D) (OpenRefused D)) → b.held ≡ a.held
    → Told a.held (λ image. ReadsFew (8 * length image + 16) a b) → IfErr result (λ r. Told b.held (λ image. (state r.device).reads ≤ b.reads + 2 * (length image + 3)))
    → IfErr result (λ r. ReadsWithin (Stored writable) a (state r.device))
bound_later state writable a b (Ok file) same few bound = tt
bound_later state writable a b (Err r) same few bound = λ image told. (let n = (few image told).few in let m = bound image (same ∙ told) in omega (arith, n, m))
