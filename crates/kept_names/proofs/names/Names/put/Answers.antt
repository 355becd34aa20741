use Rattle.std.proofs.Common.{◌≡◌, ◌≤◌, ◌^◌, ◌+◌, None, arith, sym, subst, length}
use Rattle.kept_names.specs.Kept.{kept_at, total}
use Rattle.kept_names.proofs.Counts.{put_counts}
use Rattle.kept_names.proofs.names.Names.put.Goals as goal

pub invariant_of-self-2 : goal.invariant_of-self-2
invariant_of-self-2 c =
    let none = subst (λ n. kept_at n c.args.node ≡ None) (sym c.self.view_is) c.requires.none in
    let few = subst (λ n. total n + length c.args.list ≤ 2 ^ 20) (sym c.self.view_is) c.requires.few in
    let more = put_counts c.self.inside.lists c.insert.new.self c.args.node (record { list = c.args.list; group = c.self.inside.group }) c.in-Ok.field-0 c.in-Ok.ensures.old c.in-Ok.ensures.entries none in
    let was = c.self.invariant.0 in
    let many = c.len-many.ensures in
    (omega (arith, more, was, many), omega (arith, was, many, few))
