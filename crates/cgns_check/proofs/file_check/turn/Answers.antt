use Rattle.std.proofs.Common.{sym, subst}
use Rattle.std.specs.Prelude.{Option, Ok, Err}
use Rattle.sids_views.proofs.Gathered.{told_after}
use Rattle.sids_rules.specs.Rules.{broken_numbers}
use Rattle.cgns_check.specs.declared.item.WalkItem.{WalkItem}
use Rattle.cgns_check.specs.declared.fault.CheckFault.{CheckFault}
use Rattle.cgns_check.specs.Checked.{IsNext, still_to_come}
use Rattle.cgns_check.proofs.CheckLaws.{TurnTells, walk_refused, finder_refused, said, unsaid, numbers_told}
use Rattle.cgns_check.proofs.file_check.turn.Goals as goal

pub returns-in-Err-clause-turn : goal.returns-in-Err-clause-turn
returns-in-Err-clause-turn g c told =
    let files = g.C.TreeCalls.files c.args.calls.now in
    let rules = g.F.Finder.rules c.args.finder.now in
    let before = still_to_come files c.args.walk.now in
    let after = still_to_come files c.next.new.self in
    let taken = g.O.Sink.taken c.args.sink.now in
    subst (λ (refused : CheckFault). TurnTells rules files before (Err refused) after taken taken) (sym c.fault_of.ensures)
    (walk_refused rules files before after c.in-Err.error taken (c.in-Err.ensures.next told))

pub returns-in-Err-find-clause-turn : goal.returns-in-Err-find-clause-turn
returns-in-Err-find-clause-turn g c told =
    let files = g.C.TreeCalls.files c.args.calls.now in
    let rules = g.F.Finder.rules c.args.finder.now in
    let before = still_to_come files c.args.walk.now in
    let after = still_to_come files c.next.new.self in
    let taken = g.O.Sink.taken c.args.sink.now in
    subst (λ (refused : CheckFault). TurnTells rules files before (Err refused) after taken taken) (sym c.fault_of-in-Err-find.ensures)
    (finder_refused rules files before after (broken_numbers rules (g.C.TreeCalls.files c.next.new.calls) c.in-Ok-Some.item.seen) c.in-Err-find.error taken (c.in-Err-find.ensures.found (told_after _ _ _ _ c.next.ensures.only told)))

pub returns-in-Ok-say_node-clause-turn : goal.returns-in-Ok-say_node-clause-turn
returns-in-Ok-say_node-clause-turn g c told =
    let files = g.C.TreeCalls.files c.args.calls.now in
    let rules = g.F.Finder.rules c.args.finder.now in
    let before = still_to_come files c.args.walk.now in
    let after = still_to_come files c.next.new.self in
    let taken = g.O.Sink.taken c.args.sink.now in
    let only = c.next.ensures.only in
    let item = c.in-Ok-Some.item in
    let next = subst (λ (o : Option WalkItem). IsNext files before (Ok o) after) c.in-Ok-Some.field-0-is (c.in-Ok-Some.ensures.next told) in
    let numbers = c.items-found.result.now in
    let is = numbers_told rules files (g.C.TreeCalls.files c.next.new.calls) only.files_stay item.seen c.in-Ok.numbers numbers c.items-found.ensures (c.in-Ok.ensures.found (told_after _ _ _ _ only told)) in
    let now = g.O.Sink.taken c.say_node.new.sink in
    said rules files before after c.requires.worded item next numbers is taken now (g.O.Sink.faults c.args.sink.now) (g.O.Sink.faults c.say_node.new.sink) c.in-Ok-say_node.ensures.said

pub returns-clause-turn : goal.returns-clause-turn
returns-clause-turn g c told =
    let files = g.C.TreeCalls.files c.args.calls.now in
    let rules = g.F.Finder.rules c.args.finder.now in
    let before = still_to_come files c.args.walk.now in
    let after = still_to_come files c.next.new.self in
    let taken = g.O.Sink.taken c.args.sink.now in
    let only = c.next.ensures.only in
    let item = c.in-Ok-Some.item in
    let next = subst (λ (o : Option WalkItem). IsNext files before (Ok o) after) c.in-Ok-Some.field-0-is (c.in-Ok-Some.ensures.next told) in
    let numbers = c.items-found.result.now in
    let is = numbers_told rules files (g.C.TreeCalls.files c.next.new.calls) only.files_stay item.seen c.in-Ok.numbers numbers c.items-found.ensures (c.in-Ok.ensures.found (told_after _ _ _ _ only told)) in
    let now = g.O.Sink.taken c.say_node.new.sink in
    unsaid rules files before after c.requires.worded item next numbers is c.in-Err-say_node.fault taken now (g.O.Sink.faults c.args.sink.now) (g.O.Sink.faults c.say_node.new.sink) c.in-Err-say_node.ensures.said
