use Rattle.std.proofs.Common.{◌∙◌, ap, subst, List, ℕ}
use Rattle.adf_format.specs.Pointer.{Pointer}
use Rattle.adf_format.specs.Records.{SubNodes, head_text}
use Rattle.adf_repack.specs.Copies.{Appends}
use Rattle.adf_repack.proofs.puts.put_table_head.Goals as goal

pub returns : goal.returns
returns g c = subst (λ (b : List ℕ). Appends {E = g.row.E.Denot} g.E.Device.state b c.args.writer.now c.put.new.writer c.put.result)
    (c.encode_head.ensures ∙ ap (λ (p : Pointer). head_text SubNodes p) c.pointer_to.ensures.says) c.put.ensures
