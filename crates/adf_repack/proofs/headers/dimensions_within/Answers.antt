use Rattle.std.proofs.Common.{◌∙◌, ap, refl, take, replicate, min, ℕ}
use Rattle.layout_lint.specs.Nodes.{numbers_of}
use Rattle.adf_repack.proofs.CopyLaws.{first_of}
use Rattle.adf_repack.proofs.headers.dimensions_within.Goals as goal

pub returns : goal.returns
returns c = first_of (numbers_of c.args.header.now) c.copy_from_slice.new.self (replicate 12 0) c.args.header.now.rank c.min-rank.result refl (c.min-rank.ensures ∙ ap (λ (n : ℕ). min n 12) c.from.ensures) (c.copy_from_slice.ensures.after ∙ ap (take c.min-rank.result) c.dimensions_of-values.ensures) refl
