use Rattle.std.specs.Prelude.{None, Some}
use Rattle.adf_tree.proofs.AskLooks.{child_looks, look_on_path, tells_on}
use Rattle.adf_tree.proofs.AskWalks.{child_found, never_refused}
use Rattle.tree_edits.proofs.TableReads.{table_reads}
use Rattle.adf_tree.proofs.asks.child_of.Goals as goal

pub returns-in-Ok-Some-clause-told : goal.returns-in-Ok-Some-clause-told
returns-in-Ok-Some-clause-told g c =
    child_found c.args.core.now c.args.node c.args.name.now (g.R.ReadBytes.image c.args.bytes.now) (Some c.in-Ok-Some.serial) (rw c.in-Ok-Some.field-0-is at c.in-Ok-Some.ensures.told)

pub returns-in-Ok-None-clause-told : goal.returns-in-Ok-None-clause-told
returns-in-Ok-None-clause-told g c =
    child_found c.args.core.now c.args.node c.args.name.now (g.R.ReadBytes.image c.args.bytes.now) None (rw c.in-Ok-None.field-0-is at c.in-Ok-None.ensures.told)

pub returns-in-Err-clause-told : goal.returns-in-Err-clause-told
returns-in-Err-clause-told g c =
    tells_on c.args.core.now (g.R.ReadBytes.image c.args.bytes.now) _ _ c.in-Err.error (λ tree. never_refused _ _ c.in-Err.error) c.in-Err.ensures.told

pub returns-in-Ok-Some-clause-reads : goal.returns-in-Ok-Some-clause-reads
returns-in-Ok-Some-clause-reads g c =
    let r = c.in-Ok-Some.ensures.reads in record { sound = r.sound; bytes = r.bytes; waits = r.waits; effect = table_reads _ 1 4 _ _ r.effect; cause = tt }

pub returns-in-Ok-None-clause-reads : goal.returns-in-Ok-None-clause-reads
returns-in-Ok-None-clause-reads g c =
    let r = c.in-Ok-None.ensures.reads in record { sound = r.sound; bytes = r.bytes; waits = r.waits; effect = table_reads _ 1 4 _ _ r.effect; cause = tt }

pub returns-in-Err-clause-reads : goal.returns-in-Err-clause-reads
returns-in-Err-clause-reads g c =
    let r = c.in-Err.ensures.reads in
    record {
      sound = r.sound;
      bytes = r.bytes;
      waits = r.waits;
      effect = table_reads _ 1 4 _ _ r.effect;
      cause = look_on_path _ _ c.in-Err.error (child_looks c.args.core.now (g.R.ReadBytes.image c.args.bytes.now) c.args.node.serial _ _ c.in-Err.error r.cause);
    }
