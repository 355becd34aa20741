use Rattle.std.proofs.Common.{◌≡◌, ◌+◌, ◌∙◌, ap, subst, arith, max, List, ℕ}
use Rattle.adf_format.specs.Pointer.{Pointer, To}
use Rattle.adf_format.specs.Records.{Data, head_text}
use Rattle.adf_repack.specs.Copies.{Appends}
use Rattle.adf_repack.proofs.puts.put_chunk_head.Goals as goal

pub returns : goal.returns
returns g c =
    let long : c.max.result ≡ max 12 c.args.size = omega (arith, c.max.ensures) in
    subst (λ (b : List ℕ). Appends {E = g.row.E.Denot} g.E.Device.state b c.args.writer.now c.put.new.writer c.put.result)
    (c.encode_head.ensures ∙ ap (λ (p : Pointer). head_text Data p) (c.pointer_to.ensures.says ∙ ap (λ (n : ℕ). To (c.args.place + 16 + n)) long)) c.put.ensures
