use Rattle.std.proofs.Common.{◌+◌, ◌∙◌, arith, refl, subst, get_or}
use Rattle.cg_io.specs.Blocks.{Both}
use Rattle.cg_io.proofs.ReadLaws.{only_none, only_then, refused_later}
use Rattle.tree_deletes.specs.declared.doomed.Doomed.{Doomed}
use Rattle.tree_deletes.specs.Given.{GivesNode, NodeMayNot, MayNotGive, NodeWaits}
use Rattle.tree_deletes.proofs.GiftRounds.{no_node, no_round, next_round, round_not, last_round, cost_one, cost_part}
use Rattle.tree_deletes.proofs.GiftWaits.{none_wait, more_wait}
use Rattle.std.specs.Prelude.{IfSome}
use Rattle.tree_deletes.proofs.gifts.give_nodes.Goals as goal

pub loop-node-init : goal.loop-node-init
loop-node-init g c = record {
  sound = c.requires.sound;
  effect = only_none _;
  waits = omega arith;
  threads = c.requires.threads;
  heap = record { kept = refl; limit = refl };
  rows = refl;
  wide = refl;
  writable = refl;
  given = no_round c.args.core.now.wide c.args.nodes.now c.args.core.now.heap.work (g.S.ReadBytes.image c.args.space.now) c.requires.threads;
  room = none_wait c.args.core.now.wide c.args.nodes.now c.args.core.now.heap.work.heap (g.S.ReadBytes.waiting c.args.space.now) (g.S.ReadBytes.image c.args.space.now);
}

pub returns-in-Err-clause-writes : goal.returns-in-Err-clause-writes
returns-in-Err-clause-writes g c =
    let nodes = c.args.nodes.now in
    let i = c.loop-node.node-index in
    let d : Doomed = get_or nodes i no_node in
    let told = g.S.ReadBytes.image c.args.space.now in
    let mid = g.S.ReadBytes.image c.loop-node.space in
    let w0 = c.args.core.now.heap.work in
    let wi = c.loop-node.core.heap.work in
    record {
      sound = c.in-Err.ensures.writes.sound;
      waits = (let w = c.loop-node.invariant.waits in let v = c.in-Err.ensures.writes.waits in let k = cost_one nodes i no_node c.loop-node-test.true in let p = cost_part nodes (i + 1) in omega (arith, w, v, k, p));
      effect = only_then _ _ _ c.loop-node.invariant.effect c.in-Err.ensures.writes.effect;
      cause = refused_later (NodeMayNot c.loop-node.core.wide d wi.heap mid) (MayNotGive c.args.core.now.wide nodes w0.heap told) _ _ _ c.in-Err.error c.loop-node.invariant.effect.faults
          (λ n. round_not c.args.core.now.wide nodes i no_node d c.loop-node-test.true refl w0 wi wi told mid c.loop-node.invariant.given (subst (λ w. NodeMayNot w d wi.heap mid) c.loop-node.invariant.wide n)) c.in-Err.ensures.writes.cause;
    }

pub loop-node-preserved : goal.loop-node-preserved
loop-node-preserved g c =
    let nodes = c.args.nodes.now in
    let i = c.loop-node.node-index in
    let d : Doomed = get_or nodes i no_node in
    let told = g.S.ReadBytes.image c.args.space.now in
    let mid = g.S.ReadBytes.image c.loop-node.space in
    let w0 = c.args.core.now.heap.work in
    let wi = c.loop-node.core.heap.work in
    let wj = c.give_node.new.heap.work in
    let new = g.S.ReadBytes.image c.give_node.new.space in
    record {
      sound = c.in-Ok.ensures.writes.sound;
      effect = only_then _ _ _ c.loop-node.invariant.effect c.in-Ok.ensures.writes.effect;
      waits = (let w = c.loop-node.invariant.waits in let v = c.in-Ok.ensures.writes.waits in let k = cost_one nodes i no_node c.loop-node-test.true in omega (arith, w, v, k));
      threads = c.in-Ok.ensures.threads;
      heap = record { kept = c.in-Ok.ensures.kept.kept ∙ c.loop-node.invariant.heap.kept; limit = c.in-Ok.ensures.kept.limit ∙ c.loop-node.invariant.heap.limit };
      rows = c.loop-node.invariant.rows;
      wide = c.loop-node.invariant.wide;
      writable = c.loop-node.invariant.writable;
      given = next_round c.args.core.now.wide nodes i no_node d c.loop-node-test.true refl w0 wi wj told mid new c.loop-node.invariant.given (subst (λ w. Both (GivesNode w d wi wj) mid new) c.loop-node.invariant.wide c.in-Ok.ensures.given);
      room = more_wait c.args.core.now.wide nodes i no_node d c.loop-node-test.true refl w0 wi wj (g.S.ReadBytes.waiting c.args.space.now) (g.S.ReadBytes.waiting c.loop-node.space) (g.S.ReadBytes.waiting c.give_node.new.space) told mid
          c.loop-node.invariant.given c.loop-node.invariant.room
          (subst (λ w. IfSome mid (NodeWaits w d wi.heap wj.heap (g.S.ReadBytes.waiting c.loop-node.space) (g.S.ReadBytes.waiting c.give_node.new.space))) c.loop-node.invariant.wide c.in-Ok.ensures.waits);
    }

pub returns-clause-given : goal.returns-clause-given
returns-clause-given g c =
    last_round c.args.core.now.wide c.args.nodes.now c.loop-node.node-index c.args.core.now.heap.work c.loop-node.core.heap.work (g.S.ReadBytes.image c.args.space.now) (g.S.ReadBytes.image c.loop-node.space) c.loop-node-test.false c.loop-node.invariant.given

pub returns-clause-waits : goal.returns-clause-waits
returns-clause-waits g c = c.loop-node.invariant.room
