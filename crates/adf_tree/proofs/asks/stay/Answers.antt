use Rattle.std.proofs.Common.{◌∙◌, refl, sym}
use Rattle.cg_io.proofs.ReadLaws.{few_only}
use Rattle.tree_asks.proofs.Answered.{tells_free}
use Rattle.tree_asks.proofs.Nodes.{unread}
use Rattle.adf_tree.proofs.AskLooks.{look_stays, stays_gone, stays_said, unread_looks}
use Rattle.adf_tree.proofs.asks.stay.Goals as goal

pub returns-in-None-clause-told : goal.returns-in-None-clause-told
returns-in-None-clause-told g c = stays_gone c.args.core.now c.args.serial (g.R.ReadBytes.image c.args.bytes.now) (sym c.get.ensures ∙ c.in-None.is)

pub returns-in-Err-clause-told : goal.returns-in-Err-clause-told
returns-in-Err-clause-told g c =
    let held = g.R.ReadBytes.image c.args.bytes.now in
    tells_free c.args.core.now held _ c.in-Err.error (unread c.args.core.now c.args.serial c.in-Some.row (sym c.get.ensures ∙ c.in-Some.is) held _ _ c.in-Err.error c.in-Err.ensures.reads.cause)

pub returns-in-Err-clause-reads : goal.returns-in-Err-clause-reads
returns-in-Err-clause-reads g c =
    let r = c.in-Err.ensures.reads in
    record {
      sound = r.sound;
      bytes = r.bytes;
      waits = r.waits;
      effect = few_only _ _ _ r.effect;
      cause = look_stays _ _ c.in-Err.error (unread_looks c.args.core.now.wide (g.R.ReadBytes.image c.args.bytes.now) c.in-Some.row.place _ _ c.in-Err.error r.cause);
    }

pub returns-then-is_link-clause-told : goal.returns-then-is_link-clause-told
returns-then-is_link-clause-told g c =
    stays_said c.args.core.now c.args.serial c.in-Some.row (sym c.get.ensures ∙ c.in-Some.is) c.in-Ok.header _ (g.R.ReadBytes.image c.args.bytes.now) c.in-Ok.ensures.header (sym c.is_link.ensures ∙ c.if-is_link.true) _ refl

pub returns-then-is_link-clause-reads : goal.returns-then-is_link-clause-reads
returns-then-is_link-clause-reads g c =
    let r = c.in-Ok.ensures.reads in record { sound = r.sound; bytes = r.bytes; waits = r.waits; effect = few_only _ _ _ r.effect; cause = tt }

pub returns-else-is_link-clause-told : goal.returns-else-is_link-clause-told
returns-else-is_link-clause-told g c =
    stays_said c.args.core.now c.args.serial c.in-Some.row (sym c.get.ensures ∙ c.in-Some.is) c.in-Ok.header _ (g.R.ReadBytes.image c.args.bytes.now) c.in-Ok.ensures.header (sym c.is_link.ensures ∙ c.if-is_link.false) _ refl

pub returns-else-is_link-clause-reads : goal.returns-else-is_link-clause-reads
returns-else-is_link-clause-reads g c =
    let r = c.in-Ok.ensures.reads in record { sound = r.sound; bytes = r.bytes; waits = r.waits; effect = few_only _ _ _ r.effect; cause = tt }
