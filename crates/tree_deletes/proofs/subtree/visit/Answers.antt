use Rattle.std.proofs.Common.{◌≡◌, ◌<◌, ◌+◌, ◌++◌, ◌∙◌, length, sym, subst, arith}
use Rattle.adf_format.specs.Tree.{children_at}
use Rattle.cg_io.specs.Answers.{IsRefusal}
use Rattle.cg_io.proofs.ReadLaws.{only_then, few_only, refused_for, refused_later}
use Rattle.tree_asks.specs.Told.{OfEach}
use Rattle.tree_edits.specs.Listed.{NamesTable, IsTableOf}
use Rattle.tree_deletes.specs.Doomed.{MeansNone, IsLost}
use Rattle.tree_deletes.proofs.Found.{none_any, over_told}
use Rattle.tree_deletes.proofs.subtree.visit.Goals as goal

pub returns-in-Err-clause-reads : goal.returns-in-Err-clause-reads
returns-in-Err-clause-reads g c = record {
  sound = c.in-Err.ensures.reads.sound;
  bytes = c.in-Err.ensures.reads.bytes;
  waits = c.in-Err.ensures.reads.waits;
  effect = few_only _ _ _ c.in-Err.ensures.reads.effect;
  cause = refused_for (MeansNone c.args.core.now (g.S.ReadBytes.image c.args.space.now)) _ _ _ c.in-Err.error (none_any c.args.core.now (g.S.ReadBytes.image c.args.space.now) _) c.in-Err.ensures.reads.cause;
}

pub returns-then-len-node-clause-reads : goal.returns-then-len-node-clause-reads
returns-then-len-node-clause-reads g c =
    let told = g.S.ReadBytes.image c.args.space.now in
    let over : length c.args.core.now.rows.items < length c.args.found.now.items + c.in-Ok.node.table.count = omega (arith, c.if-len-node.true, c.len.ensures, c.count.ensures) in
    record {
      sound = c.in-Ok.ensures.reads.sound;
      bytes = c.in-Ok.ensures.reads.bytes;
      waits = c.in-Ok.ensures.reads.waits;
      effect = few_only _ _ _ c.in-Ok.ensures.reads.effect;
      cause = subst (IsRefusal (OfEach c.args.core.now told (λ image tree p. length c.args.core.now.rows.items < length c.args.found.now.items + length (children_at tree c.args.serial))) _ _) (sym c.unlisted-then-len-node.ensures) (
        (omega arith, omega arith),
        over_told c.args.core.now told c.args.serial (length c.args.found.now.items) c.in-Ok.node.table (record { above = c.in-Some.row; found = sym c.get.ensures ∙ c.in-Some.is; named = c.in-Ok.ensures.table }) over,
      );
    }

pub returns-in-Ok-add_children-clause-added : goal.returns-in-Ok-add_children-clause-added
returns-in-Ok-add_children-clause-added g c =
    let told = g.S.ReadBytes.image c.args.space.now in
    let mid = g.S.ReadBytes.image c.parts_of.new.space in
    let same : mid ≡ told = c.in-Ok.ensures.reads.bytes in
    let t : IsTableOf c.args.core.now mid c.args.serial c.in-Ok.node.table =
    record { above = c.in-Some.row; found = sym c.get.ensures ∙ c.in-Some.is; named = subst (λ x. NamesTable c.args.core.now.wide x c.in-Some.row.place c.in-Ok.node.table) (sym same) c.in-Ok.ensures.table } in
    subst (λ x. OfEach c.args.core.now x (λ image tree p. c.add_children.new.found.items ≡ c.args.found.now.items ++ children_at tree c.args.serial)) same (c.in-Ok-add_children.ensures.added c.args.serial t)

pub returns-in-Err-add_children-clause-reads : goal.returns-in-Err-add_children-clause-reads
returns-in-Err-add_children-clause-reads g c =
    let told = g.S.ReadBytes.image c.args.space.now in
    let mid = g.S.ReadBytes.image c.parts_of.new.space in
    let same : mid ≡ told = c.in-Ok.ensures.reads.bytes in
    let t : IsTableOf c.args.core.now mid c.args.serial c.in-Ok.node.table =
    record { above = c.in-Some.row; found = sym c.get.ensures ∙ c.in-Some.is; named = subst (λ x. NamesTable c.args.core.now.wide x c.in-Some.row.place c.in-Ok.node.table) (sym same) c.in-Ok.ensures.table } in
    record {
      sound = c.in-Err-add_children.ensures.reads.sound;
      bytes = c.in-Err-add_children.ensures.reads.bytes ∙ same;
      waits = c.in-Err-add_children.ensures.reads.waits ∙ c.in-Ok.ensures.reads.waits;
      effect = only_then _ _ _ (few_only _ _ _ c.in-Ok.ensures.reads.effect) c.in-Err-add_children.ensures.reads.effect;
      cause = refused_later (IsLost c.args.core.now mid c.in-Ok.node.table) (OfEach c.args.core.now told (λ image tree p. length c.args.core.now.rows.items < length c.args.found.now.items + length (children_at tree c.args.serial))) _ _ _ c.in-Err-add_children.error
          c.in-Ok.ensures.reads.effect.faults (λ lost. none_any c.args.core.now told _ (subst (MeansNone c.args.core.now) same (lost c.args.serial t))) c.in-Err-add_children.ensures.reads.cause;
    }
