-- What openings of files for reading leave, one after another.
use Rattle.std.proofs.Common.{◌≡◌, ◌≢◌, ◌⊎◌, inl, inr, ℕ, zero, suc, ◌+◌, ◌-◌, ◌<◌, ◌≤◌, drop, take, get_or, true, false, not, List, [], ◌∷◌, ◌++◌, length, length-append, refl, sym, ◌∙◌, ap, subst, arith, le_trans}
use Rattle.std.specs.Prelude.{Some, None, Ok, Err, IfErr, slice_get}
use Rattle.std.proofs.Math.Seq.{take-length}
use Rattle.std.specs.List.{AllByRecursion, list_any}
use Rattle.adf_model.specs.declared.error.AdfError.{AdfError}
use Rattle.adf_model.specs.declared.error.AdfError.TheVariants as error
use Rattle.adf_model.specs.NamedRules.{NamesRule}
use Rattle.adf_model.specs.Tests.{first_refusal}
use Rattle.adf_model.specs.Slots.{Slot, Standing, Files, Device, Devices, device_at, is_broken, is_gone, is_open, names_there, slot_at, standing_of, standings}
use Rattle.adf_model.specs.Slots.Slot.{Gone, Raw, Saved, Live}
use Rattle.adf_model.specs.Counts.{Rose}
use Rattle.adf_model.specs.Steps.{IsFirstOr, OthersOnlyRead, SomeFault, Stored}
use Rattle.adf_model.specs.Causes.{OpeningWrites}
use Rattle.adf_model.specs.Runs.{Makes, Run}
use Rattle.adf_model.proofs.Answering.AskLaws.{asks_none}
use Rattle.adf_model.proofs.Answering.Asking.{stays-trans}
use Rattle.adf_model.proofs.Answering.RuleNames.{rules_named}
use Rattle.adf_model.proofs.Answering.StandingLaws.{opened_stands, others_stand, refused_stand}
use Rattle.adf_model.proofs.Basics.{same_Some}
use Rattle.tool_commands.specs.Openings.{Adds, HaveEnded, HaveMemory, IsFirstClosed, Opens, Outcome, StopsAtFirst, first_number, is_fault, is_first_open, is_refused, lacks_memory, opening_for, openings}
use Rattle.tool_commands.specs.declared.named_files.NamedFile.{NamedFile}

-- ---- one more opening

pub one_more : (files middle after : Files) (before between now : Devices) (named : List NamedFile) (outcomes : List Outcome) (file : NamedFile) (outcome : Outcome) → slice_get named (length outcomes) ≡ Some file
    → Run files before (openings outcomes named) between middle → Makes middle between (opening_for file.number outcome) now after → Run files before (openings (outcomes ++ outcome ∷ []) named) now after
one_more files middle after before between now [] outcomes file outcome at run made = absurd cc
one_more files middle after before between now (first ∷ named) [] file outcome at run made = (
  after,
  now,
  subst (λ (f : NamedFile). Makes files before (opening_for f.number outcome) now after) (sym (same_Some first file at))
      (subst (λ (fs : Files). Makes fs before (opening_for file.number outcome) now after) run.1
      (subst (λ (ds : Devices). Makes middle ds (opening_for file.number outcome) now after) run.0 made)),
  (refl, refl),
)
one_more files middle after before between now (first ∷ named) (known ∷ outcomes) file outcome at run made =
    (run.0, run.1, run.2, one_more run.0 middle after run.1 between now named outcomes file outcome at run.3 made)

-- ---- nothing is written

pub opening_reads : (number : ℕ) (outcome : Outcome) (before now : Devices) → OpeningWrites outcome (Stored false) number before now → OthersOnlyRead None before now
opening_reads number (Ok done) before now writes = writes.0
opening_reads number (Err error.WriteFault) before now writes = writes.0
opening_reads number (Err error) before now writes = writes

pub openings_read : (files after : Files) (before now : Devices) (named : List NamedFile) (outcomes : List Outcome) → Run files before (openings outcomes named) now after → OthersOnlyRead None before now
openings_read files after before now named [] run = subst (λ (ds : Devices). OthersOnlyRead None before ds) (sym run.0) (asks_none files before).devices_stay
openings_read files after before now [] (outcome ∷ outcomes) run = subst (λ (ds : Devices). OthersOnlyRead None before ds) (sym run.0) (asks_none files before).devices_stay
openings_read files after before now (file ∷ named) (outcome ∷ outcomes) run =
    stays-trans before run.1 now (opening_reads file.number outcome before run.1 run.2.anyway.writes) (openings_read run.0 after run.1 now named outcomes run.3)

-- ---- the first file stays open

no_refusal : (slot : Slot) → first_refusal ((is_gone slot, error.NoSuchFile) ∷ (is_open slot, error.AlreadyOpen) ∷ []) ≡ None → is_gone slot ≡ false
no_refusal Gone none = absurd cc
no_refusal Raw none = refl
no_refusal (Saved tree) none = refl
no_refusal (Live opened) none = refl
no_refusal Slot.Broken none = refl

abbrev StandsOpen : Files → ℕ → Type 0
StandsOpen files number = slice_get (standings files) number ≡ Some Standing.Reading

done_stands : (files after : Files) (before now : Devices) (number : ℕ) → Makes files before (opening_for number (Ok tt)) now after → StandsOpen after number
done_stands files after before now number made = opened_stands (Stored false) number files after made.anyway.standing (no_refusal (slot_at files number) made.anyway.cause)

opening_stands : (files after : Files) (before now : Devices) (number one : ℕ) (outcome : Outcome) → Makes files before (opening_for number outcome) now after → StandsOpen files one → StandsOpen after one
opening_stands files after before now number one (Err error) made stands = refused_stand (Stored false) number one error files after made.anyway.standing ∙ stands
opening_stands files after before now number one (Ok done) made stands =
    elim (decide one number) [
      | inl same ↦ subst (StandsOpen after) (sym same) (done_stands files after before now number made)
      | inr other ↦ others_stand (Stored false) number one (Ok tt) files after made.anyway.standing other ∙ stands
    ]
  where
    decide : (a b : ℕ) → (a ≡ b) ⊎ (a ≢ b)
    decide zero zero = inl refl
    decide zero (suc b) = inr (λ e. absurd cc)
    decide (suc a) zero = inr (λ e. absurd cc)
    decide (suc a) (suc b) = elim (decide a b) [ inl same ↦ inl (ap suc same) | inr other ↦ inr (λ e. other (omega (arith, e))) ]

openings_stand : (files after : Files) (before now : Devices) (named : List NamedFile) (outcomes : List Outcome) (one : ℕ) → Run files before (openings outcomes named) now after → StandsOpen files one → StandsOpen after one
openings_stand files after before now named [] one run stands = subst (λ (fs : Files). StandsOpen fs one) (sym run.1) stands
openings_stand files after before now [] (outcome ∷ outcomes) one run stands = subst (λ (fs : Files). StandsOpen fs one) (sym run.1) stands
openings_stand files after before now (file ∷ named) (outcome ∷ outcomes) one run stands =
    openings_stand run.0 after run.1 now named outcomes one run.3 (opening_stands files run.0 before run.1 file.number one outcome run.2 stands)

first_stands : (files after : Files) (before now : Devices) (named : List NamedFile) (outcomes : List Outcome) → named ≢ [] → is_first_open outcomes ≡ true → Run files before (openings outcomes named) now after → StandsOpen after (first_number named)
first_stands files after before now [] outcomes some done_first run = absurd (some refl)
first_stands files after before now (file ∷ named) [] some done_first run = absurd cc
first_stands files after before now (file ∷ named) (Err error ∷ outcomes) some done_first run = absurd cc
first_stands files after before now (file ∷ named) (Ok done ∷ outcomes) some done_first run =
    openings_stand run.0 after run.1 now named outcomes file.number run.3 (done_stands files run.0 before run.1 file.number run.2)

reading_open : (slot : Slot) → standing_of slot ≡ Standing.Reading → (is_open slot ≡ true) × (is_broken slot ≡ false)
reading_open Gone stands = absurd cc
reading_open Raw stands = absurd cc
reading_open (Saved tree) stands = absurd cc
reading_open (Live opened) stands = (refl, refl)
reading_open Slot.Broken stands = absurd cc

stands_at : (files : Files) (number : ℕ) → StandsOpen files number → standing_of (slot_at files number) ≡ Standing.Reading
stands_at [] number stands = absurd cc
stands_at (file ∷ files) zero stands = same_Some (standing_of file.slot) Standing.Reading stands
stands_at (file ∷ files) (suc number) stands = stands_at files number stands

pub first_is_open : (files after : Files) (before now : Devices) (named : List NamedFile) (outcomes : List Outcome) → named ≢ [] → is_first_open outcomes ≡ true → Run files before (openings outcomes named) now after
    → (is_open (slot_at after (first_number named)) ≡ true) × (is_broken (slot_at after (first_number named)) ≡ false)
first_is_open files after before now named outcomes some done_first run =
    reading_open (slot_at after (first_number named)) (stands_at after (first_number named) (first_stands files after before now named outcomes some done_first run))

-- ---- refusals

pub openings_named : (files after : Files) (before now : Devices) (named : List NamedFile) (outcomes : List Outcome) → length outcomes ≤ length named → Run files before (openings outcomes named) now after
    → AllByRecursion (λ (outcome : Outcome). IfErr outcome NamesRule) outcomes
openings_named files after before now named [] few run = tt
openings_named files after before now [] (outcome ∷ outcomes) few run = absurd (omega (arith, few))
openings_named files after before now (file ∷ named) (outcome ∷ outcomes) few run =
    (by_outcome outcome run.2, openings_named run.0 after run.1 now named outcomes (omega (arith, few)) run.3)
  where
    by_outcome : (one : Outcome) → Makes files before (opening_for file.number one) run.1 run.0 → IfErr one NamesRule
    by_outcome (Ok done) made = tt
    by_outcome (Err error) made = rules_named files run.0 before run.1 (opening_for file.number (Err error)) made.anyway

-- a failed read at an opening is one of its device
pub fault_rose : (slot : Slot) (before now : Device) → IsFirstOr (first_refusal ((is_gone slot, error.NoSuchFile) ∷ (is_open slot, error.AlreadyOpen) ∷ [])) error.ReadFault (Rose before.faults now.faults) → Rose before.faults now.faults
fault_rose Gone before now cause = absurd cc
fault_rose Raw before now cause = cause
fault_rose (Saved tree) before now cause = cause
fault_rose (Live opened) before now cause = absurd cc
fault_rose Slot.Broken before now cause = absurd cc

rose_then : (a b c : ℕ) → Rose a b → b ≤ c → Rose a c
rose_then a b c rose later = le_trans rose later

pub then_rose : (a b c : ℕ) → a ≤ b → Rose b c → Rose a c
then_rose a b c before rose = omega (arith, before, rose)

pub fault_then : (before between now : Devices) → SomeFault before between → OthersOnlyRead None between now → SomeFault before now
fault_then before between now fault reads = (fault.0, rose_then _ _ _ fault.1 (reads.counts fault.0).faults)

pub then_fault : (before between now : Devices) → OthersOnlyRead None before between → SomeFault between now → SomeFault before now
then_fault before between now reads fault = (fault.0, then_rose _ _ _ (reads.counts fault.0).faults fault.1)

pub openings_fail : (files after : Files) (before now : Devices) (named : List NamedFile) (outcomes : List Outcome) → length outcomes ≤ length named → Run files before (openings outcomes named) now after
    → list_any is_fault outcomes ≡ true → SomeFault before now
openings_fail files after before now named [] few run any = absurd cc
openings_fail files after before now [] (outcome ∷ outcomes) few run any = absurd (omega (arith, few))
openings_fail files after before now (file ∷ named) (outcome ∷ outcomes) few run any =
    by_outcome outcome run.2 any (λ later. openings_fail run.0 after run.1 now named outcomes (omega (arith, few)) run.3 later)
  where
    then_later : SomeFault run.1 now → (one : Outcome) → Makes files before (opening_for file.number one) run.1 run.0 → SomeFault before now
    then_later fault one made = then_fault before run.1 now (opening_reads file.number one before run.1 made.anyway.writes) fault

    by_outcome : (one : Outcome) → Makes files before (opening_for file.number one) run.1 run.0 → list_any is_fault (one ∷ outcomes) ≡ true → (list_any is_fault outcomes ≡ true → SomeFault run.1 now) → SomeFault before now
    by_outcome (Err error.ReadFault) made any later =
        fault_then before run.1 now (file.number, fault_rose (slot_at files file.number) (device_at before file.number) (device_at run.1 file.number) made.anyway.cause) (openings_read run.0 after run.1 now named outcomes run.3)
    by_outcome (Ok done) made any later = then_later (later any) (Ok done) made
    by_outcome (Err error) made any later = then_later (later any) (Err error) made

-- ---- names

pub openings_keep : (files after : Files) (before now : Devices) (named : List NamedFile) (outcomes : List Outcome) → Run files before (openings outcomes named) now after → names_there after ≡ names_there files
openings_keep files after before now named [] run = ap names_there run.1
openings_keep files after before now [] (outcome ∷ outcomes) run = ap names_there run.1
openings_keep files after before now (file ∷ named) (outcome ∷ outcomes) run = openings_keep run.0 after run.1 now named outcomes run.3 ∙ run.2.anyway.names

-- ---- openings in their order

-- an opening that is refused comes last only where it is the first
open_stops : (outcomes more : List Outcome) → is_first_open outcomes ≡ true → StopsAtFirst (outcomes ++ more)
open_stops [] more first = absurd cc
open_stops (Ok done ∷ outcomes) more first = tt
open_stops (Err error ∷ outcomes) more first = absurd cc

open_more : (outcomes more : List Outcome) → is_first_open outcomes ≡ true → is_first_open (outcomes ++ more) ≡ true
open_more [] more first = absurd cc
open_more (Ok done ∷ outcomes) more first = refl
open_more (Err error ∷ outcomes) more first = absurd cc

memory_more : (outcomes : List Outcome) (outcome : Outcome) → HaveMemory outcomes → lacks_memory outcome ≡ false → HaveMemory (outcomes ++ outcome ∷ [])
memory_more [] outcome have last = (last, tt)
memory_more (one ∷ outcomes) outcome have last = (have.0, memory_more outcomes outcome have.1 last)

-- the openings so far: the first file is open
pub record IsOnWay (named : List NamedFile) (number : ℕ) (outcomes : List Outcome) (files : Files) (before now : Devices) (after : Files) : Type 0 where
  pub opens : Opens named outcomes files before now after
  pub count : length outcomes ≡ number
  pub first : is_first_open outcomes ≡ true
  pub memory : HaveMemory outcomes

pub opens_none : (named : List NamedFile) (files : Files) (devices : Devices) → Opens named [] files devices devices files
opens_none named files devices = record { few = omega arith; stops = tt; run = (refl, refl) }

-- the first opening
pub first_opens : (file : NamedFile) (named : List NamedFile) (files after : Files) (before now : Devices) (outcome : Outcome) → Makes files before (opening_for file.number outcome) now after
    → Opens (file ∷ named) (outcome ∷ []) files before now after
first_opens file named files after before now outcome made = record { few = omega arith; stops = alone outcome; run = (after, now, made, (refl, refl)) }
  where
    alone : (one : Outcome) → StopsAtFirst (one ∷ [])
    alone (Ok done) = tt
    alone (Err error) = refl

-- an opening behind others
pub then_opens : (named : List NamedFile) (count : ℕ) (file : NamedFile) (outcomes : List Outcome) (files middle after : Files) (before between now : Devices) (outcome : Outcome)
    → IsOnWay named count outcomes files before between middle → slice_get named count ≡ Some file → count + 1 ≤ length named → Makes middle between (opening_for file.number outcome) now after
    → Opens named (outcomes ++ outcome ∷ []) files before now after
then_opens named count file outcomes files middle after before between now outcome way at more made = record {
  few = let long = length-append outcomes (outcome ∷ []) in let counted = way.count in omega (arith, long, counted, more);
  stops = open_stops outcomes (outcome ∷ []) way.first;
  run = one_more files middle after before between now named outcomes file outcome (subst (λ (k : ℕ). slice_get named k ≡ Some file) (sym way.count) at) way.opens.run made;
}

pub then_on_way : (named : List NamedFile) (count : ℕ) (file : NamedFile) (outcomes all : List Outcome) (files middle after : Files) (before between now : Devices) (outcome : Outcome)
    → IsOnWay named count outcomes files before between middle → slice_get named count ≡ Some file → count + 1 ≤ length named → Makes middle between (opening_for file.number outcome) now after
    → lacks_memory outcome ≡ false → all ≡ outcomes ++ outcome ∷ [] → IsOnWay named (count + 1) all files before now after
then_on_way named count file outcomes all files middle after before between now outcome way at more made memory is =
    subst (λ (os : List Outcome). IsOnWay named (count + 1) os files before now after) (sym is) (record {
      opens = then_opens named count file outcomes files middle after before between now outcome way at more made;
      count = let long = length-append outcomes (outcome ∷ []) in let counted = way.count in omega (arith, long, counted);
      first = open_more outcomes (outcome ∷ []) way.first;
      memory = memory_more outcomes outcome way.memory memory;
    })

-- ---- one outcome

pub adds_open : (outcome : Outcome) (before after : List Outcome) → outcome ≡ Ok tt → after ≡ before ++ outcome ∷ [] → Adds outcome true before after
adds_open outcome before after is behind = record {
  opened = ap (λ (o : Outcome). not (is_refused o)) (sym is);
  memory = ap lacks_memory is;
  behind = behind;
}

pub adds_refused : (outcome : Outcome) (refusal : AdfError) (before after : List Outcome) → outcome ≡ Err refusal → refusal ≢ error.Memory → after ≡ before ++ outcome ∷ [] → Adds outcome false before after
adds_refused outcome refusal before after is other behind = record {
  opened = ap (λ (o : Outcome). not (is_refused o)) (sym is);
  memory = ap lacks_memory is ∙ has_memory refusal other;
  behind = behind;
}
  where
    has_memory : (e : AdfError) → e ≢ error.Memory → lacks_memory (Err e) ≡ false
    has_memory error.Memory other = absurd (other refl)
    has_memory e other = refl

-- ---- places in lists

pub get_is : {X : Type 0} (xs : List X) (k : ℕ) (x : X) → k < length xs → x ≡ get_or xs k x → slice_get xs k ≡ Some x
get_is [] k x less is = absurd (omega (arith, less))
get_is (y ∷ xs) zero x less is = ap Some (sym is)
get_is (y ∷ xs) (suc k) x less is = get_is xs k x (omega (arith, less)) is

-- the place of one behind the first
pub next_is : {X : Type 0} (xs : List X) (k : ℕ) (x : X) → k + 1 < length xs → x ≡ get_or (take (length xs - 1) (drop 1 xs)) k x → slice_get xs (k + 1) ≡ Some x
next_is [] k x less is = absurd (omega (arith, less))
next_is (y ∷ xs) k x less is =
    let next : suc k ≡ k + 1 = omega arith in
    let count : suc (length xs) - 1 ≡ length xs = omega arith in
    let whole : take (suc (length xs) - 1) xs ≡ xs = ap (λ (n : ℕ). take n xs) count ∙ take-length xs in
    subst (λ (n : ℕ). slice_get (y ∷ xs) n ≡ Some x) next (get_is xs k x (omega (arith, less)) (is ∙ ap (λ (l : List _). get_or l k x) whole))

pub first_is : (named : List NamedFile) (file : NamedFile) → named ≢ [] → file ≡ get_or named 0 file → file.number ≡ first_number named
first_is [] file some is = absurd (some refl)
first_is (first ∷ named) file some is = ap (λ (f : NamedFile). f.number) is

-- the first opening, by the place of its file
pub first_at : (named : List NamedFile) (file : NamedFile) (files after : Files) (before now : Devices) (outcome : Outcome) → named ≢ [] → file ≡ get_or named 0 file
    → Makes files before (opening_for file.number outcome) now after → Opens named (outcome ∷ []) files before now after
first_at [] file files after before now outcome some is made = absurd (some refl)
first_at (first ∷ named) file files after before now outcome some is made =
    first_opens first named files after before now outcome (subst (λ (f : NamedFile). Makes files before (opening_for f.number outcome) now after) is made)

first_yes : (outcome : Outcome) → true ≡ not (is_refused outcome) → is_first_open (outcome ∷ []) ≡ true
first_yes (Ok done) is = refl
first_yes (Err error) is = absurd cc

first_no : (outcome : Outcome) → false ≡ not (is_refused outcome) → IsFirstClosed (outcome ∷ [])
first_no (Ok done) is = absurd cc
first_no (Err error) is = refl

-- the first file is open
pub first_on_way : (named : List NamedFile) (file : NamedFile) (files after : Files) (before now : Devices) (outcome : Outcome) (all : List Outcome) → named ≢ [] → file ≡ get_or named 0 file
    → Makes files before (opening_for file.number outcome) now after → Adds outcome true [] all → IsOnWay named 1 all files before now after
first_on_way named file files after before now outcome all some is made adds =
    subst (λ (os : List Outcome). IsOnWay named 1 os files before now after) (sym adds.behind) (record {
      opens = first_at named file files after before now outcome some is made;
      count = refl;
      first = first_yes outcome adds.opened;
      memory = (adds.memory, tt);
    })

-- or refused
pub first_ends : (named : List NamedFile) (file : NamedFile) (files after : Files) (before now : Devices) (outcome : Outcome) (all : List Outcome) → named ≢ [] → file ≡ get_or named 0 file
    → Makes files before (opening_for file.number outcome) now after → Adds outcome false [] all
    → (outcomes : List Outcome) × Opens named outcomes files before now after × (all ≡ outcomes) × HaveEnded named outcomes
first_ends named file files after before now outcome all some is made adds =
    (outcome ∷ [], first_at named file files after before now outcome some is made, adds.behind, inr (first_no outcome adds.opened, (adds.memory, tt)))

-- all files were opened or refused
pub way_ends : (named : List NamedFile) (number : ℕ) (outcomes : List Outcome) (files after : Files) (before now : Devices) → number ≡ length named → IsOnWay named number outcomes files before now after
    → (given : List Outcome) × Opens named given files before now after × (outcomes ≡ given) × HaveEnded named given
way_ends named number outcomes files after before now full way = (outcomes, way.opens, refl, inl (record { all = way.count ∙ full; first = way.first; memory = way.memory }))
