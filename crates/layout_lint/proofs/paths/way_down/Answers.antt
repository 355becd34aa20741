use Rattle.std.proofs.Common.{◌-◌, arith}
use Rattle.std.proofs.lemmas.Option.{slice_get-get_or}
use Rattle.layout_lint.proofs.PathLaws.{way_step, way_start, way_end}
use Rattle.layout_lint.proofs.paths.way_down.Goals as goal

pub loop-k-init : goal.loop-k-init
loop-k-init c = record {
  low = omega arith;
  way = λ tree number are leads. way_start tree c.args.up.now _ c.new-text.ensures.items;
}

pub loop-k-preserved : goal.loop-k-preserved
loop-k-preserved c = record {
  low = omega arith;
  way = λ tree number are leads.
      way_step tree c.args.names.now are number (c.loop-k.k - 1) c.loop-k.k c.args.up.now c.loop-k.text.items c.add_name.new.text.items _ leads (omega arith) (omega arith)
      (slice_get-get_or c.args.names.now _ _ (c.requires.there (c.loop-k.k - 1) 0 (omega arith))) (c.loop-k.invariant.way tree number are leads) c.in_ok-add_name.ensures.added;
}

pub returns-clause-way : goal.returns-clause-way
returns-clause-way c = λ tree number are leads. way_end tree number c.loop-k.k c.args.up.now c.loop-k.text.items leads c.loop-k-test.false (c.loop-k.invariant.way tree number are leads)
