-- Turns follow one another.
use Rattle.std.proofs.Common.{◌≡◌, ◌⊎◌, inl, inr, ℕ, List, [], ◌∷◌, ◌++◌, length, take, Option, Some, None, Result, Ok, Err, OnOk, IfErr, refl, sym, ap, subst, ◌∙◌, arith, append_assoc, append-nil, length-append}
use Rattle.std.specs.List.{AllByRecursion}
use Rattle.std.proofs.lemmas.List.{map-append}
use Rattle.std.proofs.lemmas.Grind.{flat_map-append}
use Rattle.std.specs.Io.KnownBytes.{Consumes, Appends, IsAtEnd, prepend_known}
use Rattle.std.proofs.KnownBytes.{Appends-nil, Appends-trans, Consumes-trans, Consumes-nil}
use Rattle.adf_model.specs.Slots.{Files, Devices}
use Rattle.adf_model.specs.Steps.{Call}
use Rattle.adf_model.specs.Runs.{Makes, Run}
use Rattle.session.specs.Input.{NoFeed, FirstLines, CutsLines, InputState, Uses, UsesLine, HasStopped, HasReason}
use Rattle.session.specs.Printed.{AppendsPart}
use Rattle.session.specs.Turns.{Says, Turn, IsSaid, Ran, calls_of, lines_of, replies_of, printed_reply}
use Rattle.session.specs.Session.{Scene, HasGoneOn, PrintsPart, Prints, IsBehind, IsBounded, IsCut, ending, HasRun}
use Rattle.session.specs.declared.reader.Stopped.{Stopped}
use Rattle.session.specs.declared.reader.Stopped.TheVariants as stopped
use Rattle.session.specs.declared.session.Ended.{Ended}
use Rattle.session.specs.declared.session.Ended.TheVariants as ended

-- ---- lines of a text

first_append : (text middle rest : List ℕ) (lines more : List (List ℕ)) → FirstLines text lines middle → FirstLines middle more rest → FirstLines text (lines ++ more) rest
first_append text middle rest [] more same then = subst (λ (l : List ℕ). FirstLines l more rest) same then
first_append text middle rest (line ∷ lines) more cut then = (cut.0, cut.1, first_append cut.0 middle rest lines more cut.2 then)

pub cuts_append : (a b c : Option (List ℕ)) (lines more : List (List ℕ)) → CutsLines a lines b → CutsLines b more c → CutsLines a (lines ++ more) c
cuts_append None b c lines more cut then = tt
cuts_append (Some x) None c lines more cut then = absurd cut
cuts_append (Some x) (Some y) None lines more cut then = absurd then
cuts_append (Some x) (Some y) (Some z) lines more cut then = first_append x y z lines more cut then

consumed_line : (a b : Option (List ℕ)) (line : List ℕ) → NoFeed line → Consumes a b (line ++ (10 ∷ [])) ⊎ ((line ≡ [] → ⊥) × Consumes a b line × IsAtEnd b) → CutsLines a (line ∷ []) b
consumed_line None b line plain used = tt
consumed_line (Some x) None line plain (inl used) = absurd used
consumed_line (Some x) None line plain (inr used) = absurd (used.1)
consumed_line (Some x) (Some y) line plain (inl used) = (y, (plain, inl (used ∙ append_assoc line (10 ∷ []) y)), refl)
consumed_line (Some x) (Some y) line plain (inr used) = (y, (plain, inr (used.1 ∙ ap (λ (l : List ℕ). line ++ l) (used.2) ∙ append-nil line, used.0, used.2)), refl)

pub line_cut : (old new : InputState) (before now : Option (List ℕ)) (line : List ℕ) → UsesLine old new before now line → CutsLines (prepend_known old.pending before) (line ∷ []) (prepend_known new.pending now)
line_cut old new before now line uses =
    consumed_line (prepend_known old.pending before) (prepend_known new.pending now) line uses.plain
    (elim uses.used [ inl whole ↦ inl whole.text | inr last ↦ inr (last.0, last.1.text, last.2) ])

pub held_cut : (old new : InputState) (before now : Option (List ℕ)) (line held : List ℕ) → line ≡ held → UsesLine old new before now held → CutsLines (prepend_known old.pending before) (line ∷ []) (prepend_known new.pending now)
held_cut old new before now line held is uses = line_cut old new before now line (subst (UsesLine old new before now) (sym is) uses)

consumed_cut : (a b : Option (List ℕ)) (used pending : List ℕ) → Consumes a (prepend_known pending b) used → CutsLines a [] (prepend_known (used ++ pending) b)
consumed_cut None b used pending consumes = tt
consumed_cut (Some x) None used pending consumes = absurd consumes
consumed_cut (Some x) (Some y) used pending consumes = append_assoc used pending y ∙ sym consumes

-- ---- one turn

one_ran : (files after : Files) (before now : Devices) (turn : Turn) → IsSaid turn → Makes files before turn.call now after → Ran files before (turn ∷ []) now after
one_ran files after before now turn said made = record { said = (said, tt); run = (after, now, made, (refl, refl)) }

one_reply : (turn : Turn) → replies_of (turn ∷ []) ≡ printed_reply turn.reply
one_reply turn = append-nil (printed_reply turn.reply)

pub went : (files after : Files) (before now : Devices) (line : List ℕ) (reply : Option (List ℕ)) (text later taken put : Option (List ℕ))
    → (made : Call) × Says line made reply × Makes files before made now after → CutsLines text (line ∷ []) later → Appends taken put (printed_reply reply)
    → HasGoneOn (record { files = files; devices = before; text = text; taken = taken }) (record { files = after; devices = now; text = later; taken = put })
went files after before now line reply text later taken put said cut printed =
    let turn : Turn = record { line = line; call = said.0; reply = reply } in
    record {
      turns = turn ∷ [];
      ran = one_ran files after before now turn said.1 said.2;
      cut = cut;
      printed = subst (Appends taken put) (sym (one_reply turn)) printed;
    }

cut_behind : (how : Ended) (ahead : List ℕ) (left : Option (List ℕ)) → IsCut how → IsBehind how ahead left
cut_behind ended.Done ahead left cut = absurd cut
cut_behind ended.SourceFault ahead left cut = absurd cut
cut_behind ended.TooLong ahead left cut = absurd cut
cut_behind ended.SinkFault ahead left cut = tt
cut_behind ended.Memory ahead left cut = tt

cut_prints : (how : Ended) (turns : List Turn) (printed : List ℕ) → IsCut how → PrintsPart turns printed → Prints how turns printed
cut_prints ended.Done turns printed cut part = absurd cut
cut_prints ended.SourceFault turns printed cut part = absurd cut
cut_prints ended.TooLong turns printed cut part = absurd cut
cut_prints ended.SinkFault turns printed cut part = part
cut_prints ended.Memory turns printed cut part = part

pub cut_short : (how : Ended) (files after : Files) (before now : Devices) (line pending : List ℕ) (reply : Option (List ℕ)) (text left taken put : Option (List ℕ))
    → (made : Call) × Says line made reply × Makes files before made now after → CutsLines text (line ∷ []) (prepend_known pending left)
    → IsCut how × AppendsPart taken put (printed_reply reply)
    → HasRun how (record { files = files; devices = before; text = text; taken = taken }) (record { files = after; devices = now; text = left; taken = put })
cut_short how files after before now line pending reply text left taken put said cut part =
    let turn : Turn = record { line = line; call = said.0; reply = reply } in
    record {
      turns = turn ∷ [];
      ran = one_ran files after before now turn said.1 said.2;
      ahead = pending;
      cut = cut;
      behind = cut_behind how pending left part.0;
      printed = take part.1.0 (printed_reply reply);
      replies = cut_prints how (turn ∷ []) (take part.1.0 (printed_reply reply)) part.0
          (record { before = []; last = turn ∷ []; split = refl; one = omega arith; count = part.1.0; replies = ap (take part.1.0) (sym (one_reply turn)) });
      put = part.1.2;
    }

-- nothing is put where memory was wanting
pub nothing_put : (result : Result Unit Ended) (how : Ended) (taken : Option (List ℕ)) (wanted : List ℕ) → result ≡ Err how → how ≡ ended.Memory → IfErr result (λ how. IsCut how × AppendsPart taken taken wanted)
nothing_put result how taken wanted e is = subst (λ (r : Result Unit Ended). IfErr r (λ how. IsCut how × AppendsPart taken taken wanted)) (sym (e ∙ ap Err is)) (tt, (0, omega arith, none taken))
  where
    none : (taken : Option (List ℕ)) → Appends taken taken (take 0 wanted)
    none None = tt
    none (Some bytes) = sym (append-nil bytes)

-- what may be cut short, of the results of a printing
pub short_of : (result : Result Unit Ended) (taken put : Option (List ℕ)) (line wanted : List ℕ) → line ≡ wanted
    → IfErr result (λ how. (how ≡ ended.SinkFault) × AppendsPart taken put line) → IfErr result (λ how. IsCut how × AppendsPart taken put wanted)
short_of (Ok done) taken put line wanted is part = part
short_of (Err how) taken put line wanted is part = (subst IsCut (sym (part.0)) tt, subst (AppendsPart taken put) is part.1)

pub by_ok : (result : Result Unit Ended) (P Q : Type 0) → (P → Q) → OnOk result P → OnOk result Q
by_ok (Ok done) P Q so holds = so holds
by_ok (Err how) P Q so holds = tt

pub by_err : (result : Result Unit Ended) (P Q : Ended → Type 0) → ((how : Ended) → P how → Q how) → IfErr result P → IfErr result Q
by_err (Ok done) P Q so holds = tt
by_err (Err how) P Q so holds = so how holds

-- ---- no turn

none_printed : PrintsPart [] []
none_printed = record { before = []; last = []; split = refl; one = omega arith; count = 0; replies = refl }

stops_behind : (why : Stopped) (new : InputState) (part : List ℕ) (left : Option (List ℕ)) → NoFeed part → HasReason why new → IsBehind (ending why) (part ++ new.pending) left
stops_behind stopped.Source new part left plain reason = subst NoFeed (sym (ap (λ (l : List ℕ). part ++ l) (reason.0) ∙ append-nil part)) plain
stops_behind stopped.Limit new part left plain reason = subst NoFeed (sym (ap (λ (l : List ℕ). part ++ l) (reason.0) ∙ append-nil part)) plain
stops_behind stopped.Memory new part left plain reason = tt

stops_printed : (why : Stopped) → Prints (ending why) [] []
stops_printed stopped.Source = refl
stops_printed stopped.Limit = refl
stops_printed stopped.Memory = none_printed

pub stops : (why : Stopped) (files : Files) (devices : Devices) (old new : InputState) (before now taken : Option (List ℕ)) → HasStopped why old new before now
    → HasRun (ending why) (record { files = files; devices = devices; text = prepend_known old.pending before; taken = taken }) (record { files = files; devices = devices; text = now; taken = taken })
stops why files devices old new before now taken stop = record {
  turns = [];
  ran = record { said = tt; run = (refl, refl) };
  ahead = stop.part ++ new.pending;
  cut = consumed_cut (prepend_known old.pending before) now stop.part new.pending stop.used.text;
  behind = stops_behind why new stop.part now stop.plain stop.reason;
  printed = [];
  replies = stops_printed why;
  put = Appends-nil taken;
}

-- ---- turns behind turns

said_append : (turns more : List Turn) → AllByRecursion IsSaid turns → AllByRecursion IsSaid more → AllByRecursion IsSaid (turns ++ more)
said_append [] more said then = then
said_append (turn ∷ turns) more said then = (said.0, said_append turns more said.1 then)

run_append : (files middle after : Files) (before between now : Devices) (calls more : List Call) → Run files before calls between middle → Run middle between more now after → Run files before (calls ++ more) now after
run_append files middle after before between now [] more same then = subst (λ (f : Files). Run f before more now after) same.1 (subst (λ (d : Devices). Run middle d more now after) same.0 then)
run_append files middle after before between now (call ∷ calls) more run then = (run.0, run.1, run.2, run_append run.0 middle after run.1 between now calls more run.3 then)

calls_append : (turns more : List Turn) → calls_of (turns ++ more) ≡ calls_of turns ++ calls_of more
calls_append turns more = map-append (λ (turn : Turn). turn.call) turns more

ran_append : (files middle after : Files) (before between now : Devices) (turns more : List Turn) → Ran files before turns between middle → Ran middle between more now after → Ran files before (turns ++ more) now after
ran_append files middle after before between now turns more ran then = record {
  said = said_append turns more ran.said then.said;
  run = subst (λ (calls : List Call). Run files before calls now after) (sym (calls_append turns more)) (run_append files middle after before between now (calls_of turns) (calls_of more) ran.run then.run);
}

replies_append : (turns more : List Turn) → replies_of (turns ++ more) ≡ replies_of turns ++ replies_of more
replies_append turns more = flat_map-append (λ (turn : Turn). printed_reply turn.reply) turns more

lines_append : (turns more : List Turn) → lines_of (turns ++ more) ≡ lines_of turns ++ lines_of more
lines_append turns more = map-append (λ (turn : Turn). turn.line) turns more

pub begun : (files : Files) (devices : Devices) (left taken : Option (List ℕ))
    → HasGoneOn (record { files = files; devices = devices; text = left; taken = taken }) (record { files = files; devices = devices; text = prepend_known [] left; taken = taken })
begun files devices left taken = record { turns = []; ran = record { said = tt; run = (refl, refl) }; cut = same left; printed = Appends-nil taken }
  where
    same : (left : Option (List ℕ)) → CutsLines left [] (prepend_known [] left)
    same None = tt
    same (Some bytes) = refl

pub then_on : (first middle now : Scene) → HasGoneOn first middle → HasGoneOn middle now → HasGoneOn first now
then_on first middle now went goes = record {
  turns = went.turns ++ goes.turns;
  ran = ran_append first.files middle.files now.files first.devices middle.devices now.devices went.turns goes.turns went.ran goes.ran;
  cut = subst (λ (l : List (List ℕ)). CutsLines first.text l now.text) (sym (lines_append went.turns goes.turns)) (cuts_append first.text middle.text now.text (lines_of went.turns) (lines_of goes.turns) went.cut goes.cut);
  printed = subst (Appends first.taken now.taken) (sym (replies_append went.turns goes.turns)) (Appends-trans _ _ _ (replies_of went.turns) (replies_of goes.turns) went.printed goes.printed);
}

part_append : (turns more : List Turn) (printed : List ℕ) → PrintsPart more printed → PrintsPart (turns ++ more) (replies_of turns ++ printed)
part_append turns more printed part = record {
  before = turns ++ part.before;
  last = part.last;
  split = ap (λ (l : List Turn). turns ++ l) part.split ∙ sym (append_assoc turns part.before part.last);
  one = part.one;
  count = part.count;
  replies = ap (λ (l : List ℕ). replies_of turns ++ l) part.replies ∙ sym (append_assoc (replies_of turns) (replies_of part.before) (take part.count (replies_of part.last)))
      ∙ ap (λ (l : List ℕ). l ++ take part.count (replies_of part.last)) (sym (replies_append turns part.before));
}

whole_append : (turns more : List Turn) (printed : List ℕ) → printed ≡ replies_of more → replies_of turns ++ printed ≡ replies_of (turns ++ more)
whole_append turns more printed is = ap (λ (l : List ℕ). replies_of turns ++ l) is ∙ sym (replies_append turns more)

prints_append : (how : Ended) (turns more : List Turn) (printed : List ℕ) → Prints how more printed → Prints how (turns ++ more) (replies_of turns ++ printed)
prints_append ended.Done turns more printed is = whole_append turns more printed is
prints_append ended.SourceFault turns more printed is = whole_append turns more printed is
prints_append ended.TooLong turns more printed is = whole_append turns more printed is
prints_append ended.SinkFault turns more printed part = part_append turns more printed part
prints_append ended.Memory turns more printed part = part_append turns more printed part

pub then_ends : (how : Ended) (first middle now : Scene) → HasGoneOn first middle → HasRun how middle now → HasRun how first now
then_ends how first middle now went run = record {
  turns = went.turns ++ run.turns;
  ran = ran_append first.files middle.files now.files first.devices middle.devices now.devices went.turns run.turns went.ran run.ran;
  ahead = run.ahead;
  cut = subst (λ (l : List (List ℕ)). CutsLines first.text l (prepend_known run.ahead now.text)) (sym (lines_append went.turns run.turns))
      (cuts_append first.text middle.text (prepend_known run.ahead now.text) (lines_of went.turns) (lines_of run.turns) went.cut run.cut);
  behind = run.behind;
  printed = replies_of went.turns ++ run.printed;
  replies = prints_append how went.turns run.turns run.printed run.replies;
  put = Appends-trans _ _ _ (replies_of went.turns) run.printed went.printed run.put;
}

-- ---- what was taken of the input

pub uses_none : (state : InputState) (left : Option (List ℕ)) → Uses state state left left []
uses_none state left = record { text = Consumes-nil _; count = omega arith }

pub uses_then : (a b c : InputState) (x y z : Option (List ℕ)) (used more : List ℕ) → Uses a b x y used → Uses b c y z more → Uses a c x z (used ++ more)
uses_then a b c x y z used more first then = record {
  text = Consumes-trans _ _ _ used more first.text then.text;
  count = omega (arith, first.count, then.count, length-append used more);
}

consumed_all : (a b : Option (List ℕ)) (used pending : List ℕ) → Consumes (prepend_known [] a) (prepend_known pending b) used → Consumes a b (used ++ pending)
consumed_all None b used pending consumes = tt
consumed_all (Some x) None used pending consumes = absurd consumes
consumed_all (Some x) (Some y) used pending consumes = consumes ∙ sym (append_assoc used pending y)

pub all_taken : (how : Ended) (new : InputState) (before now : Option (List ℕ)) (used : List ℕ) → Uses (record { pending = []; taken = 0 }) new before now used → IsBounded how new.taken
    → (bytes : List ℕ) × Consumes before now bytes × IsBounded how (length bytes)
all_taken how new before now used uses bounded =
    let count : new.taken ≡ length (used ++ new.pending) = omega (arith, uses.count, length-append used new.pending) in
    (used ++ new.pending, consumed_all before now used new.pending uses.text, subst (IsBounded how) count bounded)
