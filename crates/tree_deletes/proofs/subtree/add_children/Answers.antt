use Rattle.std.proofs.Common.{◌+◌, ◌∙◌, ◌++◌, ◌∷◌, [], List, ℕ, length-append, refl, sym, ap, subst, arith, append-nil}
use Rattle.std.specs.Prelude.{IsSome}
use Rattle.std.proofs.lemmas.List.{append_assoc}
use Rattle.std.proofs.lemmas.List.Elements.{All-push, All-same}
use Rattle.cg_io.proofs.ReadLaws.{only_then, only_none, few_only, refused_later}
use Rattle.tree_edits.specs.Rows.{row_of}
use Rattle.tree_deletes.specs.Doomed.{IsChildAt, IsLost}
use Rattle.tree_deletes.proofs.Found.{adds_none, adds_one, adds_all}
use Rattle.tree_deletes.proofs.subtree.add_children.Goals as goal

pub loop-position-init : goal.loop-position-init
loop-position-init g c =
    (c.requires.sound, refl, refl, only_none _, adds_none c.args.core.now (g.S.ReadBytes.image c.args.space.now) c.args.table c.args.found.now.items, ([], sym (append-nil c.args.found.now.items), refl), c.requires.rows)

pub returns-in-Err-clause-reads : goal.returns-in-Err-clause-reads
returns-in-Err-clause-reads g c = record {
  sound = c.in-Err.ensures.reads.sound;
  bytes = c.in-Err.ensures.reads.bytes ∙ c.loop-position.invariant.1;
  waits = c.in-Err.ensures.reads.waits ∙ c.loop-position.invariant.2;
  effect = only_then _ _ _ c.loop-position.invariant.3 (few_only _ _ _ c.in-Err.ensures.reads.effect);
  cause = refused_later (IsLost c.args.core.now (g.S.ReadBytes.image c.loop-position.space) c.args.table) (IsLost c.args.core.now (g.S.ReadBytes.image c.args.space.now) c.args.table) _ _ _ c.in-Err.error
      c.loop-position.invariant.3.faults (λ h. subst (λ x. IsLost c.args.core.now x c.args.table) c.loop-position.invariant.1 h) c.in-Err.ensures.reads.cause;
}

pub loop-position-preserved : goal.loop-position-preserved
loop-position-preserved g c =
    let inv = c.loop-position.invariant in
    let s = c.in-Ok.serial in (
      c.in-Ok.ensures.reads.sound,
      c.in-Ok.ensures.reads.bytes ∙ c.loop-position.invariant.1,
      c.in-Ok.ensures.reads.waits ∙ c.loop-position.invariant.2,
      only_then _ _ _ c.loop-position.invariant.3 (few_only _ _ _ c.in-Ok.ensures.reads.effect),
      adds_one c.args.core.now (g.S.ReadBytes.image c.args.space.now) c.args.table c.loop-position.position s c.args.found.now.items c.loop-position.found.items c.push.new.self.items c.loop-position.invariant.4 c.in-Ok-push.ensures.items
          (subst (λ x. IsChildAt c.args.core.now x c.args.table c.loop-position.position s) c.loop-position.invariant.1 c.in-Ok.ensures.child),
      (
        c.loop-position.invariant.5.0 ++ s ∷ [],
        c.in-Ok-push.ensures.items ∙ ap (λ (xs : List ℕ). xs ++ s ∷ []) c.loop-position.invariant.5.1 ∙ append_assoc c.args.found.now.items c.loop-position.invariant.5.0 (s ∷ []),
        length-append c.loop-position.invariant.5.0 (s ∷ []) ∙ ap (λ k. k + 1) c.loop-position.invariant.5.2,
      ),
      All-same (λ k. IsSome (row_of c.args.core.now.rows.items k)) c.push.new.self.items (c.loop-position.found.items ++ s ∷ []) c.in-Ok-push.ensures.items
          (All-push (λ k. IsSome (row_of c.args.core.now.rows.items k)) c.loop-position.found.items s c.loop-position.invariant.6 c.in-Ok.ensures.row),
    )

pub returns-clause-added : goal.returns-clause-added
returns-clause-added g c = adds_all c.args.core.now (g.S.ReadBytes.image c.args.space.now) c.args.table c.loop-position.position c.args.found.now.items c.loop-position.found.items (omega arith) c.loop-position.invariant.4
