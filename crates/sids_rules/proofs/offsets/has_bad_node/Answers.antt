use Rattle.std.proofs.Common.{ℕ, arith, drop, ap, subst, ◌-◌, List, ℤ}
use Rattle.std.specs.Prelude.{Any}
use Rattle.std.proofs.lemmas.Bool.Decides.{not_from_Decides}
use Rattle.sids_rules.specs.Sections.{IsOutside}
use Rattle.sids_rules.specs.Offsets.{piece_at}
use Rattle.sids_rules.proofs.Decided.{never}
use Rattle.sids_rules.proofs.OffsetLaws.{one_more_below}
use Rattle.sids_rules.proofs.offsets.has_bad_node.Goals as goal

pub loop-k-preserved : goal.loop-k-preserved
loop-k-preserved c =
    let P : List ℤ → Type 0 = λ nodes. ¬ Any (IsOutside c.args.limit) nodes in
    let nodes : ℕ → List ℤ = λ j. drop c.args.skipped (piece_at c.args.connectivity.now c.args.offsets.now j) in
    let none : P c.without_first.result.now = not_from_Decides _ c.has_outside.ensures c.if-has_outside.false in
    let here : P (nodes (c.loop-k.k - 1)) = subst (λ piece. P (drop c.args.skipped piece)) c.piece_at.ensures (subst P c.without_first.ensures none) in
    one_more_below (λ j. P (nodes j)) c.loop-k.k (omega arith) c.loop-k.invariant here

pub returns : goal.returns
returns c = never (λ h. let lt = h.1 in c.loop-k.invariant h.0 (omega arith) h.2)
