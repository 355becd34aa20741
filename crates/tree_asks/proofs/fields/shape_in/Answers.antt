use Rattle.std.proofs.Common.{◌-◌, ◌∙◌, ◌++◌, List, ℕ, ◌≡◌, ap, take, drop, replicate}
use Rattle.std.proofs.lemmas.List.{drop-replicate}
use Rattle.tree_asks.specs.Headers.{numbers_of}
use Rattle.tree_asks.proofs.fields.shape_in.Goals as goal

-- the first of twelve numbers, and zeros
first_of : (numbers copied : List ℕ) (r m : ℕ) → m ≡ r → copied ≡ take m numbers → copied ++ drop m (replicate 12 0) ≡ take r numbers ++ replicate (12 - r) 0
first_of numbers copied r m is first = ap (λ (l : List ℕ). l ++ drop m (replicate 12 0)) (first ∙ ap (λ k. take k numbers) is) ∙ ap (λ (l : List ℕ). take r numbers ++ l) (drop-replicate m 12 0 ∙ ap (λ k. replicate (12 - k) 0) is)

pub returns : goal.returns
returns c = ap (λ (dims : List ℕ). record { kind = c.args.header.now.kind; rank = c.args.header.now.rank; dims = dims }) (first_of (numbers_of c.args.header.now) c.copy_from_slice.new.self c.args.header.now.rank c.from-rank.result c.from-rank.ensures (c.copy_from_slice.ensures.after ∙ ap (take c.from-rank.result) c.dimensions_of-numbers.ensures))
