use Rattle.std.proofs.Common.{subst, List, ℕ}
use Rattle.std.proofs.lemmas.List.{take-replicate}
use Rattle.adf_repack.specs.Copies.{Appends}
use Rattle.adf_repack.proofs.puts.put_zeros.Goals as goal

pub returns : goal.returns
returns g c = subst (λ (b : List ℕ). Appends {E = g.row.E.Denot} g.E.Device.state b c.args.writer.now c.put.new.writer c.put.result)
    (take-replicate c.args.count 12 0 c.requires.few) c.put.ensures
