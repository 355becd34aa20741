use Rattle.std.proofs.Common.{◌≡◌, ◌+◌, ◌/◌, ℕ, arith, sym, ap, subst, Option, [], ◌++◌, List}
use Rattle.std.specs.Prelude.{OnOk, IfOk}
use Rattle.adf_format.specs.HeapRule.{grown_entries}
use Rattle.adf_format.specs.Parts.{table_length}
use Rattle.cg_io.specs.Blocks.{Both}
use Rattle.node_reads.specs.declared.header.ChildTable.{ChildTable}
use Rattle.tree_edits.specs.Linked.{FitsTable}
use Rattle.tree_moves.specs.Relisted.{OpensIn, open_cost, table_in}
use Rattle.tree_moves.proofs.Relinked.{opens_none}
use Rattle.field_access.specs.Fields.{WaitsWithin}
use Rattle.field_access.proofs.WaitLaws.{waits_none}
use Rattle.tree_edits.specs.Waiting.{table_room, parent_ranges}
use Rattle.tree_moves.proofs.lists.open_list.Goals as goal

pub open_longer-requires-clause-full : goal.open_longer-requires-clause-full
open_longer-requires-clause-full g c = (subst (FitsTable c.args.parent) c.in-Some.is c.requires.fits).0

pub open_longer-requires-clause-near : goal.open_longer-requires-clause-near
open_longer-requires-clause-near g c = (subst (FitsTable c.args.parent) c.in-Some.is c.requires.fits).1

pub returns-in-Some-clause-opened : goal.returns-in-Some-clause-opened
returns-in-Some-clause-opened g c =
    subst (λ (o : Option ℕ). OnOk c.open_longer.result (Both (OpensIn c.args.parent o c.args.entry.now) (g.S.ReadBytes.image c.args.space.now) (g.S.ReadBytes.image c.open_longer.new.space))) (sym c.in-Some.is) c.open_longer.ensures.opened

pub returns-in-Some-clause-table : goal.returns-in-Some-clause-table
returns-in-Some-clause-table g c = subst (λ (o : Option ℕ). IfOk c.open_longer.result (λ (t : ChildTable). t ≡ table_in c.args.parent o)) (sym c.in-Some.is) c.open_longer.ensures.table

pub returns-in-Some-clause-writes : goal.returns-in-Some-clause-writes
returns-in-Some-clause-writes g c =
    let w = c.open_longer.ensures.writes in
    record {
      sound = w.sound;
      waits = (let n = w.waits in let k : open_cost c.args.parent.table c.args.room ≡ 12 + table_length (grown_entries c.args.parent.table.count) / 4096 = ap (open_cost c.args.parent.table) c.in-Some.is in omega (arith, n, k));
      effect = w.effect;
      cause = w.cause;
    }

pub returns-in-None-clause-opened : goal.returns-in-None-clause-opened
returns-in-None-clause-opened g c = opens_none c.args.parent c.args.room c.args.entry.now (g.S.ReadBytes.image c.args.space.now) c.in-None.is

pub returns-in-None-clause-table : goal.returns-in-None-clause-table
returns-in-None-clause-table g c = sym (ap (table_in c.args.parent) c.in-None.is)

pub returns-in-Some-clause-waits : goal.returns-in-Some-clause-waits
returns-in-Some-clause-waits g c =
    subst (λ (o : Option ℕ). OnOk c.open_longer.result (WaitsWithin (table_room c.args.parent o ++ parent_ranges c.args.parent) (g.S.ReadBytes.waiting c.args.space.now) (g.S.ReadBytes.waiting c.open_longer.new.space))) (sym c.in-Some.is) c.open_longer.ensures.waits

pub returns-in-None-clause-waits : goal.returns-in-None-clause-waits
returns-in-None-clause-waits g c = waits_none (table_room c.args.parent c.args.room ++ parent_ranges c.args.parent) (g.S.ReadBytes.waiting c.args.space.now)
