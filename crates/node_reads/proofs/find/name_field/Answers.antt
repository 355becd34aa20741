use Rattle.std.proofs.Common.{ℕ, length, ap, ◌∙◌, ◌++◌, drop, replicate}
use Rattle.std.proofs.lemmas.List.{drop-replicate}
use Rattle.node_reads.proofs.find.name_field.Goals as goal

pub returns : goal.returns
returns c = ap (λ t. t ++ drop (length c.args.name.now) (replicate {A = ℕ} 32 32)) c.copy_from_slice.ensures.after ∙ ap (λ t. c.args.name.now ++ t) (drop-replicate {X = ℕ} (length c.args.name.now) 32 32)
