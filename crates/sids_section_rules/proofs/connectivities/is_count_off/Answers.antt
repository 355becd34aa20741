use Rattle.std.proofs.Common.{subst, rules}
use Rattle.std.specs.Int.{w64}
use Rattle.std.proofs.lemmas.Int.{to_z-of_z}
use Rattle.std.specs.Bool.{Decides}
use Rattle.std.proofs.lemmas.Bool.Decides.{same_from_decides}
use Rattle.sids_rules.specs.Sections.{BreaksConnectivitySize}
use Rattle.sids_rules.proofs.Decided.{connectivity_size_decided}
use Rattle.sids_section_rules.proofs.connectivities.is_count_off.Goals as goal

pub returns : goal.returns
returns c =
    same_from_decides _ _
    (subst (λ code. Decides c.breaks_k28.result (BreaksConnectivitySize code c.args.elements c.args.length)) (to_z-of_z w64 c.args.code (search rules)) c.breaks_k28.ensures)
    (connectivity_size_decided c.args.code c.args.elements c.args.length)
