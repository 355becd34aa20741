use Rattle.std.proofs.Common.{sym, ap, rules}
use Rattle.std.specs.Prelude.{is_some}
use Rattle.std.proofs.lemmas.Int.{to_z-of_z}
use Rattle.sids_rules.proofs.Codes.{fixed_nodes-none}
use Rattle.sids_section_rules.proofs.connectivities.is_fixed.Goals as goal

pub returns-in-Err : goal.returns-in-Err
returns-in-Err c = sym (ap is_some (fixed_nodes-none c.args.code (search (rules, to_z-of_z))))
