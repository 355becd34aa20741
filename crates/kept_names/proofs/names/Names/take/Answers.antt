use Rattle.std.proofs.Common.{arith, sym, ◌∙◌}
use Rattle.kept_names.proofs.Counts.{taken_counts, taken_fewer}
use Rattle.kept_names.proofs.names.Names.take.Goals as goal

pub overflow_sub-self : goal.overflow_sub-self
overflow_sub-self c =
    let left = taken_counts c.self.inside.lists.entries c.remove.new.self.entries c.args.node c.in-Some.kept (sym c.remove.ensures.value ∙ c.in-Some.is) c.remove.ensures.entries in
    let was = c.self.invariant.0 in
    let many = c.len.ensures in
    omega (arith, left, was, many)

pub invariant_of-self-2 : goal.invariant_of-self-2
invariant_of-self-2 c =
    let left = taken_counts c.self.inside.lists.entries c.remove.new.self.entries c.args.node c.in-Some.kept (sym c.remove.ensures.value ∙ c.in-Some.is) c.remove.ensures.entries in
    let was = c.self.invariant.0 in
    let few = c.self.invariant.1 in
    let many = c.len.ensures in
    (omega (arith, left, was, many), omega (arith, was, many, few))

pub returns-clause-fewer : goal.returns-clause-fewer
returns-clause-fewer c = rw (← c.self.view_is) (taken_counts c.self.inside.lists.entries c.remove.new.self.entries c.args.node c.in-Some.kept (sym c.remove.ensures.value ∙ c.in-Some.is) c.remove.ensures.entries)

pub returns-clause-most : goal.returns-clause-most
returns-clause-most c = rw (← c.self.view_is) (taken_fewer c.self.inside.lists.entries c.remove.new.self.entries c.args.node c.in-Some.kept (sym c.remove.ensures.value ∙ c.in-Some.is) c.remove.ensures.entries)
