-- What a failed write of a fresh file may leave.
use Rattle.std.proofs.Common.{◌≡◌, ℕ, ◌≤◌, Bool, List, [], length, ap, arith}
use Rattle.std.specs.Prelude.{Some}
use Rattle.adf_model.specs.declared.error.AdfError.TheVariants.{WriteFault}
use Rattle.adf_model.specs.Slots.{Slot, Device}
use Rattle.adf_model.specs.Steps.{Fresh, IsOpenRefusal}

pub fresh_stays_small : (wide : Bool) (slot : Slot) (before now : Device) (old new : List ℕ) → before.held ≡ Some old → now.held ≡ Some new → IsOpenRefusal (Fresh wide) slot before now WriteFault → length new ≤ 4096
fresh_stays_small wide slot before now old new told told_now h =
    let empty : old ≡ [] = h.1 old told in
    let grown = (h.2 old new told told_now).grown in
    let none = ap length empty in
    omega (arith, grown, none)
