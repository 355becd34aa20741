use Rattle.std.proofs.Common.{◌∙◌, List, arith, subst, sym, ℕ}
use Rattle.std.specs.Prelude.{Option}
use Rattle.cg_io.proofs.ReadLaws.{only_then}
use Rattle.kept_asks.specs.Named.{HasNames}
use Rattle.tree_asks.proofs.Answered.{tells_memory}
use Rattle.adf_tree.proofs.AskWalks.{all_dropped, walk_ends, walk_goes_on, walk_stops}
use Rattle.adf_tree.proofs.asks.search.Goals as goal

pub returns-in-Err-clause-told : goal.returns-in-Err-clause-told
returns-in-Err-clause-told g c = tells_memory c.args.core.now (g.R.ReadBytes.image c.args.bytes.now) _ c.in-Err.error c.in-Err.ensures.memory

pub next_along-requires-clause-names : goal.next_along-requires-clause-names
next_along-requires-clause-names g c =
    subst (λ (held : Option (List ℕ)). HasNames c.args.core.now held c.args.names.now) (sym c.parts.invariant.bytes) c.requires.names

pub parts-preserved : goal.parts-preserved
parts-preserved g c =
    let inv = c.parts.invariant in
    let r = c.next_along.ensures.reads in
    record {
      sound = r.sound;
      bytes = r.bytes ∙ inv.bytes;
      waits = r.waits ∙ inv.waits;
      effect = only_then _ _ _ inv.effect r.effect;
      within = inv.within;
      along = walk_goes_on c.args.core.now (g.R.ReadBytes.image c.args.bytes.now) c.args.node c.args.path.now c.items-range-items.result.now c.parts.range-index (record { start = 0; end = 0 }) c.parts.at
          (g.R.ReadBytes.image c.parts.bytes) c.in-Ok-next_along.next inv.bytes (omega arith) inv.along c.in-Ok-next_along.ensures.told;
    }

pub returns-in-Err-next_along-clause-told : goal.returns-in-Err-next_along-clause-told
returns-in-Err-next_along-clause-told g c =
    let inv = c.parts.invariant in
    walk_stops c.args.core.now (g.R.ReadBytes.image c.args.bytes.now) c.args.node c.args.path.now c.items-range-items.result.now c.parts.range-index (record { start = 0; end = 0 }) c.parts.at
    (g.R.ReadBytes.image c.parts.bytes) c.in-Err-next_along.error inv.bytes (omega arith) inv.along c.in-Err-next_along.ensures.told

pub returns-clause-told : goal.returns-clause-told
returns-clause-told g c =
    let inv = c.parts.invariant in
    walk_ends c.args.core.now (g.R.ReadBytes.image c.args.bytes.now) c.args.node c.args.path.now c.items-range-items.result.now c.parts.range-index (record { start = 0; end = 0 }) c.parts.at
    (all_dropped c.items-range-items.result.now c.parts.range-index (omega arith)) inv.along
