use Rattle.std.proofs.Common.{◌≡◌, ◌<◌, ◌+◌, ◌∙◌, ◌++◌, ◌∷◌, [], List, ℕ, length, get_or, refl, sym, ap, subst, arith}
use Rattle.std.proofs.lemmas.List.Elements.{All-nil, All-cons, All-push, All-same}
use Rattle.std.specs.Prelude.{IsSome}
use Rattle.adf_format.specs.Tree.{children_at}
use Rattle.cg_io.proofs.ReadLaws.{only_none, only_then, refused_later}
use Rattle.tree_asks.specs.Told.{OfEach}
use Rattle.tree_edits.specs.Rows.{row_of}
use Rattle.tree_deletes.specs.declared.doomed.Doomed.{Doomed}
use Rattle.tree_deletes.specs.Doomed.{IsSane, IsDoomed, IsWalk, MeansNone}
use Rattle.tree_deletes.proofs.Walks.{walk_begins, walk_goes_on, walk_has_room, walk_whole, row_drawn, index_at, one_more}
use Rattle.tree_deletes.proofs.subtree.walk.Goals as goal

pub loop-found-init : goal.loop-found-init
loop-found-init g c =
    let core = c.args.core.now in
    let first : c.push.new.self.items ≡ c.args.top ∷ [] = c.in-Ok.ensures.items ∙ ap (λ (xs : List ℕ). xs ++ c.args.top ∷ []) c.new-found.ensures.items in
    let drawn = row_drawn core c.args.top c.requires.row in
    let one = ap length first in
    let none = ap length c.new-nodes.ensures.items in (
      c.requires.sound,
      refl,
      refl,
      only_none _,
      walk_begins core (g.S.ReadBytes.image c.args.space.now) c.args.top c.push.new.self.items c.new-nodes.result.items first c.new-nodes.ensures.items,
      All-same (λ k. IsSome (row_of core.rows.items k)) c.push.new.self.items (c.args.top ∷ []) first (All-cons (λ k. IsSome (row_of core.rows.items k)) c.args.top [] c.requires.row (All-nil (λ k. IsSome (row_of core.rows.items k)))),
      All-same (IsSane core) c.new-nodes.result.items [] c.new-nodes.ensures.items (All-nil (IsSane core)),
      omega (arith, drawn, one),
      omega (arith, none),
    )

pub returns-in-Err-visit-clause-reads : goal.returns-in-Err-visit-clause-reads
returns-in-Err-visit-clause-reads g c =
    let core = c.args.core.now in
    let told = g.S.ReadBytes.image c.args.space.now in
    let mid = g.S.ReadBytes.image c.loop-found.space in
    let found = c.loop-found.found.items in
    let nodes = c.loop-found.nodes.items in
    let lt : length nodes < length found = omega (arith, c.loop-found-test.true, c.len.ensures, c.len-in-loop-found.ensures) in
    let s : ℕ = c.index-serial.result.now in
    let at : s ≡ get_or found (length nodes) 0 = index_at found c.len-in-loop-found-2.result (length nodes) s c.index-serial.ensures (omega (arith, c.len-in-loop-found-2.ensures)) lt in
    record {
      sound = c.in-Err-visit.ensures.reads.sound;
      bytes = c.in-Err-visit.ensures.reads.bytes ∙ c.loop-found.invariant.1;
      waits = c.in-Err-visit.ensures.reads.waits ∙ c.loop-found.invariant.2;
      effect = only_then _ _ _ c.loop-found.invariant.3 c.in-Err-visit.ensures.reads.effect;
      cause = refused_later (OfEach core mid (λ image tree p. length core.rows.items < length found + length (children_at tree s))) (MeansNone core told) _ _ _ c.in-Err-visit.error c.loop-found.invariant.3.faults
          (λ over. walk_has_room core c.args.top found nodes s lt at told c.requires.row c.loop-found.invariant.4 (subst (λ x. OfEach core x (λ image tree p. length core.rows.items < length found + length (children_at tree s))) c.loop-found.invariant.1 over))
          c.in-Err-visit.ensures.reads.cause;
    }

pub loop-found-preserved : goal.loop-found-preserved
loop-found-preserved g c =
    let core = c.args.core.now in
    let told = g.S.ReadBytes.image c.args.space.now in
    let mid = g.S.ReadBytes.image c.loop-found.space in
    let found = c.loop-found.found.items in
    let nodes = c.loop-found.nodes.items in
    let new = c.visit.new.found.items in
    let d : Doomed = c.in-Ok-visit.node in
    let lt : length nodes < length found = omega (arith, c.loop-found-test.true, c.len.ensures, c.len-in-loop-found.ensures) in
    let s : ℕ = c.index-serial.result.now in
    let at : s ≡ get_or found (length nodes) 0 = index_at found c.len-in-loop-found-2.result (length nodes) s c.index-serial.ensures (omega (arith, c.len-in-loop-found-2.ensures)) lt in (
      c.in-Ok-visit.ensures.reads.sound,
      c.in-Ok-visit.ensures.reads.bytes ∙ c.loop-found.invariant.1,
      c.in-Ok-visit.ensures.reads.waits ∙ c.loop-found.invariant.2,
      only_then _ _ _ c.loop-found.invariant.3 c.in-Ok-visit.ensures.reads.effect,
      subst (λ ds. OfEach core told (λ image tree p. IsWalk image tree p c.args.top new ds)) (sym c.in-Ok-push.ensures.items)
          (walk_goes_on core c.args.top found nodes s lt at told d new c.loop-found.invariant.4 c.in-Ok-visit.ensures.serial (subst (λ x. OfEach core x (λ image tree p. IsDoomed image tree p d)) c.loop-found.invariant.1 c.in-Ok-visit.ensures.node)
          (subst (λ x. OfEach core x (λ image tree p. new ≡ found ++ children_at tree s)) c.loop-found.invariant.1 c.in-Ok-visit.ensures.added)),
      c.in-Ok-visit.ensures.rows,
      All-same (IsSane core) c.push-in-loop-found.new.self.items (nodes ++ d ∷ []) c.in-Ok-push.ensures.items (All-push (IsSane core) nodes d c.loop-found.invariant.6 c.in-Ok-visit.ensures.sane),
      c.in-Ok-visit.ensures.few,
      one_more nodes c.push-in-loop-found.new.self.items d found new c.in-Ok-visit.ensures.kept.0 lt c.in-Ok-push.ensures.items c.in-Ok-visit.ensures.kept.1,
    )

pub returns-clause-walked : goal.returns-clause-walked
returns-clause-walked g c =
    let le = c.loop-found.invariant.8 in
    walk_whole c.args.core.now (g.S.ReadBytes.image c.args.space.now) c.args.top c.loop-found.found.items c.loop-found.nodes.items c.loop-found.invariant.4 (omega (arith, c.loop-found-test.false, c.len.ensures, c.len-in-loop-found.ensures, le))
