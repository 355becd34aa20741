use Rattle.std.proofs.Common.{◌∙◌, ◌+◌, sym, subst, refl, arith, ℕ}
use Rattle.std.specs.Prelude.{Option, Some, None, Ok, Err}
use Rattle.adf_model.specs.Slots.{Files}
use Rattle.adf_model.proofs.Answering.AskLaws.{asks_none}
use Rattle.sids_views.proofs.Plain.{told_before}
use Rattle.sids_views.proofs.Gathered.{asks-trans, told_after}
use Rattle.cgns_check.specs.Levels.{Stage}
use Rattle.cgns_check.specs.Words.{AreWorded}
use Rattle.cgns_check.specs.Checked.{MayGoOn, still_to_come}
use Rattle.cgns_check.proofs.CheckLaws.{TurnTells, SoFar, begins, goes_on, lacks, ends, stops, told_turn}
use Rattle.cgns_check.proofs.file_check.check_by.Goals as goal

pub nodes-init : goal.nodes-init
nodes-init g c =
    let files = g.C.TreeCalls.files c.args.calls.now in
    let rules = g.F.Finder.rules c.args.finder.now in
    let taken = g.O.Sink.taken c.args.sink.now in
    record {
      ready = c.requires.ready;
      only = asks_none _ _;
      rules = refl;
      recalls = c.requires.recalls;
      stands = λ told. subst (MayGoOn files) (sym c.new-walk.ensures) (c.requires.open_file, c.requires.whole);
      later = omega arith;
      so = λ told. subst (λ (walk : Stage). SoFar rules files c.args.file 0 (still_to_come files walk) taken taken) (sym c.new-walk.ensures) (begins rules files c.args.file taken);
    }

pub turn-requires-clause-worded : goal.turn-requires-clause-worded
turn-requires-clause-worded g c = subst AreWorded (sym c.nodes.invariant.rules) c.requires.worded

pub turn-requires-clause-recalls : goal.turn-requires-clause-recalls
turn-requires-clause-recalls g c told =
    let only = c.nodes.invariant.only in
    subst (λ (fs : Files). g.F.Finder.recalls c.nodes.finder fs) (sym only.files_stay) (c.nodes.invariant.recalls (told_before _ _ _ _ only told))

pub turn-requires-clause-stands : goal.turn-requires-clause-stands
turn-requires-clause-stands g c told =
    let only = c.nodes.invariant.only in
    subst (λ (fs : Files). MayGoOn fs c.nodes.walk) (sym only.files_stay) (c.nodes.invariant.stands (told_before _ _ _ _ only told))

pub nodes-preserved : goal.nodes-preserved
nodes-preserved g c =
    let files = g.C.TreeCalls.files c.args.calls.now in
    let asked = g.C.TreeCalls.files c.nodes.calls in
    let rules = g.F.Finder.rules c.args.finder.now in
    let tested = g.F.Finder.rules c.nodes.finder in
    let inv = c.nodes.invariant in
    let taken = g.O.Sink.taken c.args.sink.now in
    let now = g.O.Sink.taken c.nodes.sink in
    let later = g.O.Sink.taken c.turn.new.sink in
    let before = still_to_come files c.nodes.walk in
    let after = still_to_come files c.turn.new.walk in
    record {
      ready = c.turn.ensures.ready;
      only = asks-trans _ _ _ _ _ _ inv.only c.turn.ensures.only;
      rules = c.turn.ensures.rules ∙ inv.rules;
      recalls = λ told. subst (λ (fs : Files). g.F.Finder.recalls c.turn.new.finder fs) inv.only.files_stay (c.turn.ensures.recalls (told_after _ _ _ _ inv.only told));
      stands = λ told. subst (λ (fs : Files). MayGoOn fs c.turn.new.walk) inv.only.files_stay (c.turn.ensures.stands (told_after _ _ _ _ inv.only told));
      later = omega (arith, inv.later, c.turn.ensures.sink);
      so = λ told.
          let counted : TurnTells tested asked (still_to_come asked c.nodes.walk) (Ok (Some c.in-Ok-Some.count)) (still_to_come asked c.turn.new.walk) now later =
          subst (λ (o : Option ℕ). TurnTells tested asked (still_to_come asked c.nodes.walk) (Ok o) (still_to_come asked c.turn.new.walk) now later) c.in-Ok-Some.field-0-is (c.in-Ok-Some.ensures.turn (told_after _ _ _ _ inv.only told)) in
          let tells = told_turn rules tested files asked inv.rules inv.only.files_stay c.nodes.walk c.turn.new.walk (Ok (Some c.in-Ok-Some.count)) now later counted in
          goes_on rules files c.args.file c.nodes.found before taken now later (inv.so told) c.in-Ok-Some.count c.in-Some.sum after tells c.in-Some.ensures.1;
    }

pub returns-in-None-clause-checks : goal.returns-in-None-clause-checks
returns-in-None-clause-checks g c told =
    let files = g.C.TreeCalls.files c.args.calls.now in
    let asked = g.C.TreeCalls.files c.nodes.calls in
    let rules = g.F.Finder.rules c.args.finder.now in
    let tested = g.F.Finder.rules c.nodes.finder in
    let inv = c.nodes.invariant in
    let taken = g.O.Sink.taken c.args.sink.now in
    let now = g.O.Sink.taken c.nodes.sink in
    let later = g.O.Sink.taken c.turn.new.sink in
    let before = still_to_come files c.nodes.walk in
    let after = still_to_come files c.turn.new.walk in
    let counted : TurnTells tested asked (still_to_come asked c.nodes.walk) (Ok (Some c.in-Ok-Some.count)) (still_to_come asked c.turn.new.walk) now later =
    subst (λ (o : Option ℕ). TurnTells tested asked (still_to_come asked c.nodes.walk) (Ok o) (still_to_come asked c.turn.new.walk) now later) c.in-Ok-Some.field-0-is (c.in-Ok-Some.ensures.turn (told_after _ _ _ _ inv.only told)) in
    let tells = told_turn rules tested files asked inv.rules inv.only.files_stay c.nodes.walk c.turn.new.walk (Ok (Some c.in-Ok-Some.count)) now later counted in
    let sum = c.nodes.found + c.in-Ok-Some.count in
    lacks rules files c.args.file sum after taken later later (goes_on rules files c.args.file c.nodes.found before taken now later (inv.so told) c.in-Ok-Some.count sum after tells refl)

pub returns-in-Ok-None-clause-checks : goal.returns-in-Ok-None-clause-checks
returns-in-Ok-None-clause-checks g c told =
    let files = g.C.TreeCalls.files c.args.calls.now in
    let asked = g.C.TreeCalls.files c.nodes.calls in
    let rules = g.F.Finder.rules c.args.finder.now in
    let tested = g.F.Finder.rules c.nodes.finder in
    let inv = c.nodes.invariant in
    let taken = g.O.Sink.taken c.args.sink.now in
    let now = g.O.Sink.taken c.nodes.sink in
    let later = g.O.Sink.taken c.turn.new.sink in
    let before = still_to_come files c.nodes.walk in
    let after = still_to_come files c.turn.new.walk in
    let ended : TurnTells tested asked (still_to_come asked c.nodes.walk) (Ok None) (still_to_come asked c.turn.new.walk) now later =
    subst (λ (o : Option ℕ). TurnTells tested asked (still_to_come asked c.nodes.walk) (Ok o) (still_to_come asked c.turn.new.walk) now later) c.in-Ok-None.field-0-is (c.in-Ok-None.ensures.turn (told_after _ _ _ _ inv.only told)) in
    let tells = told_turn rules tested files asked inv.rules inv.only.files_stay c.nodes.walk c.turn.new.walk (Ok None) now later ended in
    ends rules files c.args.file c.nodes.found before taken now later (inv.so told) after tells

pub returns-in-Err-clause-checks : goal.returns-in-Err-clause-checks
returns-in-Err-clause-checks g c told =
    let files = g.C.TreeCalls.files c.args.calls.now in
    let asked = g.C.TreeCalls.files c.nodes.calls in
    let rules = g.F.Finder.rules c.args.finder.now in
    let tested = g.F.Finder.rules c.nodes.finder in
    let inv = c.nodes.invariant in
    let taken = g.O.Sink.taken c.args.sink.now in
    let now = g.O.Sink.taken c.nodes.sink in
    let later = g.O.Sink.taken c.turn.new.sink in
    let before = still_to_come files c.nodes.walk in
    let after = still_to_come files c.turn.new.walk in
    let tells = told_turn rules tested files asked inv.rules inv.only.files_stay c.nodes.walk c.turn.new.walk (Err c.in-Err.fault) now later (c.in-Err.ensures.turn (told_after _ _ _ _ inv.only told)) in
    stops rules files c.args.file c.nodes.found before taken now later (inv.so told) c.in-Err.fault after tells

pub returns-clause-checks : goal.returns-clause-checks
returns-clause-checks g c told =
    let files = g.C.TreeCalls.files c.args.calls.now in
    let now = g.O.Sink.taken c.nodes.sink in
    lacks (g.F.Finder.rules c.args.finder.now) files c.args.file c.nodes.found (still_to_come files c.nodes.walk) (g.O.Sink.taken c.args.sink.now) now now (c.nodes.invariant.so told)
