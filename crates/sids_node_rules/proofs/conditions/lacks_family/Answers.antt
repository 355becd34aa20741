use Rattle.std.proofs.Common.{◌≡◌, refl, sym, Bool, true, false, not, Decides}
use Rattle.std.specs.Prelude.{codes, bytes_eq}
use Rattle.std.proofs.lemmas.Bool.{false≢true}
use Rattle.std.proofs.lemmas.Bool.Decides.{same_from_decides, Decides-and}
use Rattle.std.proofs.lemmas.Slice.Eq.{bytes_eq-Decides}
use Rattle.sids_rules.specs.Words.{without_padding}
use Rattle.sids_node_rules.proofs.conditions.lacks_family.Goals as goal

is_not : (b : Bool) → Decides (not b) (b ≡ false)
is_not true = (λ e. absurd (false≢true e), λ e. sym e)
is_not false = (λ e. refl, λ e. refl)

pub returns : goal.returns
returns c =
    same_from_decides _ _ c.breaks_k33.ensures
    (Decides-and (bytes_eq (without_padding c.args.text.now) (codes "FamilySpecified")) (not c.args.has_family) (bytes_eq-Decides _ _) (is_not c.args.has_family))
