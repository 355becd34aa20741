use Rattle.std.proofs.Common.{◌≡◌, refl, ap, ◌∙◌, Bool, true, false, not}
use Rattle.std.proofs.lemmas.Bool.Decides.{same_from_decides, Decides-not}
use Rattle.sids_rules.specs.OffsetRules.{are_offsets}
use Rattle.sids_rules.proofs.OffsetsDecided.{offsets_decided}
use Rattle.sids_offset_rules.proofs.offset_lists.are_offsets.Goals as goal

twice : (b : Bool) → not (not b) ≡ b
twice true = refl
twice false = refl

pub returns : goal.returns
returns c =
    let offsets = c.args.numbers.now in
    let hold = are_offsets offsets c.args.entries in
    ap not (same_from_decides c.breaks_k37.result (not hold) c.breaks_k37.ensures.broken (Decides-not hold (offsets_decided offsets c.args.entries))) ∙ twice hold
