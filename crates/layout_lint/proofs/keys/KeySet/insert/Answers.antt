use Rattle.std.proofs.Common.{◌∙◌}
use Rattle.std.specs.Ordering.{is_lt}
use Rattle.std.proofs.lemmas.List.Kept.{IsSortedBy-push}
use Rattle.layout_lint.proofs.KeyLaws.{more_others, sorted_in}
use Rattle.layout_lint.proofs.keys.KeySet.insert.Goals as goal

pub invariant_of-self-then-is_last : goal.invariant_of-self-then-is_last
invariant_of-self-then-is_last g c =
    rw c.in_ok-push.ensures.items (IsSortedBy-push (λ x y. is_lt (g.K.Ord.cmp x y)) _ _ c.self.invariant (rw c.deref.ensures.value at (c.is_last.ensures c.if-is_last.true)))

pub returns-in_ok-appended : goal.returns-in_ok-appended
returns-in_ok-appended g c = λ q.
    rw (← c.self.view_is) (sorted_in g.met.K.Ord.total c.self.inside.row.items c.insert.new.self.keys _ _ q (rw c.in_ok-appended.ensures at c.sort_unstable.ensures.permutation) c.clear.ensures.empty
    ∙ more_others g.met.K.Ord.total c.self.inside.row.items _ _ c.args.key q (c.in_ok-insert.ensures.updates.0 q))
