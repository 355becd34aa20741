-- A group of edits on one open file by itself is one over many files, also where its device tells nothing.
use Rattle.std.proofs.Common.{◌≡◌, ◌≢◌, ◌⊎◌, inl, inr, ℕ, ◌<◌, Bool, true, false, not, List, [], ◌∷◌, length, refl, sym, ◌∙◌, ap, subst, arith}
use Rattle.std.specs.Prelude.{Option, Some, None, IfErr, is_some, slice_get, slice_set, ◌||◌, Result, Ok, Err}
use Rattle.std.specs.List.{AllByRecursion, list_any}
use Rattle.std.proofs.lemmas.Bool.Decides.{eqb_tells}
use Rattle.adf_model.specs.declared.error.AdfError.{AdfError}
use Rattle.adf_model.specs.declared.error.AdfError.TheVariants.{Memory, ReadFault, WriteFault, NotOpen, NoSuchFile, Layout}
use Rattle.adf_model.specs.declared.error.EditError.{EditError}
use Rattle.adf_model.specs.declared.tree.Edit.{Edit}
use Rattle.adf_model.specs.declared.tree.NodeId.{NodeId}
use Rattle.adf_model.specs.Tests.{first_refusal}
use Rattle.adf_model.specs.Edits.{named_nodes, followed}
use Rattle.adf_model.specs.Slots.{Slot, Standing, standing_of, Files, Device, Devices, slot_at, is_gone, is_open, is_broken, with_slot, device_at, names_there, standings}
use Rattle.adf_model.specs.Slots.Standing.{Reading, Editing, Failed}
use Rattle.adf_model.specs.Calls.{tests_of_files}
use Rattle.adf_model.specs.OneFile.{StandsIn}
use Rattle.adf_model.specs.Steps.{OnlyRead, OthersOnlyRead, OthersStayPlaced, IsMemoryOr, IsRefusedBy, HasCauseOf}
use Rattle.adf_model.specs.Causes.{RefusalLeaves, IsIndex, ComesFromFiles, EntersFiles, ChangedAnyway}
use Rattle.adf_model.specs.FileGroup.{LeavesStanding, DoneAnyway, IsBrokenGroup, RefusedAnyway, FileGroupAnyway}
use Rattle.adf_model.proofs.Basics.{not_true, same_Some}
use Rattle.adf_model.proofs.Answering.StandingLaws.{standings_with, same_standings, names_with}
use Rattle.adf_model.specs.NamedRules.{NamesRule}
use Rattle.adf_follow.specs.Groups.{IsOfKind}
use Rattle.adf_follow.proofs.DoneAmong.{all_get}
use Rattle.adf_follow.proofs.DoneEdit.{first_of, first_has}
use Rattle.adf_follow.proofs.FileSteps.{own_first}
use Rattle.adf_follow.proofs.Standings.{gone_alike, stands_open, open_there}

-- ---- the nodes of one file

none_of : (test : ℕ → Bool) (number : ℕ) (nodes : List NodeId) → test number ≡ false → AllByRecursion (λ (node : NodeId). node.file ≡ number) nodes → list_any (λ (node : NodeId). test node.file) nodes ≡ false
none_of test number [] none all = refl
none_of test number (node ∷ nodes) none all = ap (λ b. b || list_any (λ (n : NodeId). test n.file) nodes) (ap test all.0 ∙ none) ∙ none_of test number nodes none all.1

tests_none : (gone shut broken : Bool) → gone ≡ false → shut ≡ false → broken ≡ false → first_refusal ((gone, NoSuchFile) ∷ (shut, NotOpen) ∷ (broken, AdfError.Broken) ∷ []) ≡ None
tests_none false false false a b c = refl
tests_none true shut broken a b c = absurd (not_true (sym a))
tests_none false true broken a b c = absurd (not_true (sym b))
tests_none false false true a b c = absurd (not_true (sym c))

tests_broken : (gone shut broken : Bool) → gone ≡ false → shut ≡ false → broken ≡ true → first_refusal ((gone, NoSuchFile) ∷ (shut, NotOpen) ∷ (broken, AdfError.Broken) ∷ []) ≡ Some AdfError.Broken
tests_broken false false true a b c = refl
tests_broken true shut broken a b c = absurd (not_true (sym a))
tests_broken false true broken a b c = absurd (not_true (sym b))
tests_broken false false false a b c = absurd (not_true c)

-- what a file that is not broken may answer and leave
abbrev IsWhole : Standing → Device → List Edit → Device → Standing → Result (List NodeId) EditError → Type 0
IsWhole standing before edits now after (Ok created) = DoneAnyway standing before edits now after
IsWhole standing before edits now after (Err refusal) = IsIndex edits refusal.at refusal.error × RefusedAnyway standing before edits refusal.error now after

abbrev fails_not : Standing → Bool
fails_not Failed = false
fails_not standing = true

-- the file of these nodes is broken
broken_nodes : (test : ℕ → Bool) (number : ℕ) (edit : Edit) → test number ≡ true → StandsIn number edit → list_any (λ (node : NodeId). test node.file) (named_nodes edit) ≡ true
broken_nodes test number edit is s =
    let first = first_of edit in
    ap (list_any (λ (node : NodeId). test node.file)) first.2
    ∙ ap (λ b. b || list_any (λ (node : NodeId). test node.file) first.1) (ap test (first_has (λ (node : NodeId). node.file ≡ number) edit s) ∙ is)

module _ (files : Files) (before now : Devices) (number : ℕ) (slot : Slot) (is_there : is_open (slot_at files number) ≡ true) (others : OthersOnlyRead (Some number) before now) (others_placed : OthersStayPlaced (Some number) before now) where
  abbrev after : Files
  after = with_slot files number slot

  abbrev was : Device
  was = device_at before number

  abbrev device : Device
  device = device_at now number

  apart_of : (n : ℕ) → n ≢ number → ◌≢◌ {A = Option ℕ} (Some n) (Some number)
  apart_of n apart e = apart (same_Some n number e)

  all_read : OnlyRead was device → OthersOnlyRead None before now
  all_read own = record {
    count = others.count;
    others = λ n apart. elim (eqb_tells n number) [
      | inl is ↦ subst (λ k. OnlyRead (device_at before k) (device_at now k)) (sym is.1) own
      | inr other ↦ others.others n (apart_of n other.1)
    ];
    counts = others.counts;
  }

  all_stay : device.placement ≡ was.placement → OthersStayPlaced None before now
  all_stay own = λ n apart. elim (eqb_tells n number) [
    | inl is ↦ subst (λ k. (device_at now k).placement ≡ (device_at before k).placement) (sym is.1) own
    | inr other ↦ others_placed n (apart_of n other.1)
  ]

  there : is_gone (slot_at files number) ≡ false
  there = open_there (slot_at files number) is_there

  -- a file that stands as it did
  stays : standing_of slot ≡ standing_of (slot_at files number) → (standings after ≡ standings files) × (names_there after ≡ names_there files)
  stays same = (same_standings files number slot (sym same), names_with files number slot (gone_alike slot (slot_at files number) same))

  -- a file that failed
  fails : standing_of slot ≡ Failed → (standings after ≡ slice_set (standings files) number Failed) × (names_there after ≡ names_there files)
  fails failed = (standings_with files number slot ∙ ap (slice_set (standings files) number) failed, names_with files number slot (gone_alike slot Slot.Broken failed ∙ sym there))

  -- ---- a file that is not broken

  module _ (edits : List Edit) (all : AllByRecursion (StandsIn number) edits) (still_placed : edits ≡ [] → device.placement ≡ was.placement) (whole : is_broken (slot_at files number) ≡ false) where
    pass : (edit : Edit) → StandsIn number edit → first_refusal (tests_of_files files (named_nodes edit)) ≡ None
    pass edit s = tests_none (list_any (λ (node : NodeId). is_gone (slot_at files node.file)) (named_nodes edit)) (list_any (λ (node : NodeId). not (is_open (slot_at files node.file))) (named_nodes edit)) (list_any (λ (node : NodeId). is_broken (slot_at files node.file)) (named_nodes edit))
        (none_of (λ k. is_gone (slot_at files k)) number (named_nodes edit) there s) (none_of (λ k. not (is_open (slot_at files k))) number (named_nodes edit) (ap not is_there) s) (none_of (λ k. is_broken (slot_at files k)) number (named_nodes edit) whole s)

    passed : (k : ℕ) (edit : Edit) → slice_get edits k ≡ Some edit → first_refusal (tests_of_files files (named_nodes edit)) ≡ None
    passed k edit is = pass edit (all_get (StandsIn number) edits k edit all is)

    done_here : (created : List NodeId) → DoneAnyway (standing_of (slot_at files number)) was edits device (standing_of slot) → ChangedAnyway files before edits (Ok created) now after
    done_here created h = record {
      leaves = elim h.may [
        | inl none ↦ record { one = None; own = tt; others = all_read (h.still none); placed = all_stay (still_placed none); standing = (stays h.stands).0 }
        | inr editing ↦ record { one = Some number; own = (editing, own_first number edits all); others = others; placed = others_placed; standing = (stays h.stands).0 }
      ];
      names = (stays h.stands).1;
      entry = record { passed = λ k edit less is. passed k edit is; index = tt; refused = tt };
      cause = tt;
      kind = tt;
    }

    -- what a refusal leaves and owes
    abbrev Owes : AdfError → Type 0
    Owes error = RefusalLeaves error files before edits now after × (names_there after ≡ names_there files) × HasCauseOf files before now error × ((linked : Bool) → ComesFromFiles files None linked error)

    owed : (error : AdfError) → RefusedAnyway (standing_of (slot_at files number)) was edits error device (standing_of slot) → NamesRule error → Owes error
    owed WriteFault h rule = (
      record {
        number = number;
        own = (h.may, own_first number edits all);
        others = others;
        placed = others_placed;
        failed = h.failed;
        standing = (fails h.stands).0;
      },
      (fails h.stands).1,
      refl,
      λ linked. tt,
    )
    owed ReadFault h rule = (((stays h.1.stands).0, all_read h.1.device, all_stay h.1.placed), (stays h.1.stands).1, (number, is_there, h.0), λ linked. tt)
    owed (Layout rule place) h is = (((stays h.1.stands).0, all_read h.1.device, all_stay h.1.placed), (stays h.1.stands).1, is, λ linked. tt)
    owed AdfError.Broken h rule = absurd h.0
    owed NoSuchFile h rule = absurd (not_true (sym h.0.1))
    owed NotOpen h rule = absurd (not_true (sym h.0.1))
    owed error h rule = (((stays h.1.stands).0, all_read h.1.device, all_stay h.1.placed), (stays h.1.stands).1, h.0.0, λ linked. tt)

    refused_here : (refusal : EditError) → IsIndex edits refusal.at refusal.error × RefusedAnyway (standing_of (slot_at files number)) was edits refusal.error device (standing_of slot) → IsOfKind edits refusal → ChangedAnyway {A = List NodeId} files before edits (Err refusal) now after
    refused_here refusal h kind =
        let o = owed refusal.error h.1 kind.rule in
        record {
          leaves = o.0;
          names = o.1;
          entry = record {
            passed = λ k edit less is. passed k edit is;
            index = h.0;
            refused = λ edit is. record {
              refused = subst (λ (first : Option AdfError). IsRefusedBy {A = Unit {0}} first (Err refusal.error)) (sym (passed refusal.at edit is)) tt;
              comes = subst (λ (first : Option AdfError). ComesFromFiles files first (is_some (followed edit)) refusal.error) (sym (passed refusal.at edit is)) (o.3 (is_some (followed edit)));
            };
          };
          cause = o.2;
          kind = kind.kind;
        }

    whole_here : (result : Result (List NodeId) EditError) → IsWhole (standing_of (slot_at files number)) was edits device (standing_of slot) result → IfErr result (IsOfKind edits) → ChangedAnyway files before edits result now after
    whole_here (Ok created) h kind = done_here created h
    whole_here (Err refusal) h kind = refused_here refusal h kind

  -- ---- a broken file

  module _ (broken : is_broken (slot_at files number) ≡ true) (left : LeavesStanding Failed was device (standing_of slot)) (failed : standing_of (slot_at files number) ≡ Failed) where
    stays_failed : (standings after ≡ standings files) × (names_there after ≡ names_there files)
    stays_failed = stays (left.stands ∙ sym failed)

    first_fails : (edit : Edit) → StandsIn number edit → first_refusal (tests_of_files files (named_nodes edit)) ≡ Some AdfError.Broken
    first_fails edit s = tests_broken (list_any (λ (node : NodeId). is_gone (slot_at files node.file)) (named_nodes edit)) (list_any (λ (node : NodeId). not (is_open (slot_at files node.file))) (named_nodes edit)) (list_any (λ (node : NodeId). is_broken (slot_at files node.file)) (named_nodes edit))
        (none_of (λ k. is_gone (slot_at files k)) number (named_nodes edit) there s) (none_of (λ k. not (is_open (slot_at files k))) number (named_nodes edit) (ap not is_there) s) (broken_nodes (λ k. is_broken (slot_at files k)) number edit broken s)

    -- nothing is passed before the first edit
    none_less : (k : ℕ) → k < 0 → ⊥
    none_less k less = omega (arith, less)

    some_edits : (edit : Edit) (edits : List Edit) → 0 < length (edit ∷ edits)
    some_edits edit edits = omega arith

    enters_first : (edit : Edit) (error : AdfError) → StandsIn number edit → IsMemoryOr AdfError.Broken error → ((linked : Bool) → ComesFromFiles files (Some AdfError.Broken) linked error) → EntersFiles {A = Unit {0}} files (named_nodes edit) (is_some (followed edit)) (Err error)
    enters_first edit error s is comes = record {
      refused = subst (λ (first : Option AdfError). IsRefusedBy {A = Unit {0}} first (Err error)) (sym (first_fails edit s)) is;
      comes = subst (λ (first : Option AdfError). ComesFromFiles files first (is_some (followed edit)) error) (sym (first_fails edit s)) (comes (is_some (followed edit)));
    }

    memory_first : (edit : Edit) (edits : List Edit) → StandsIn number edit → ChangedAnyway {A = List NodeId} files before (edit ∷ edits) (Err (record { at = 0; error = Memory })) now after
    memory_first edit edits s = record {
      leaves = (stays_failed.0, all_read left.device, all_stay left.placed);
      names = stays_failed.1;
      entry = record { passed = λ k other less is. absurd (none_less k less); index = some_edits edit edits; refused = λ other is. subst (λ (x : Edit). EntersFiles {A = Unit {0}} files (named_nodes x) (is_some (followed x)) (Err Memory)) (same_Some edit other is) (enters_first edit Memory s tt (λ linked. tt)) };
      cause = refl;
      kind = λ other is. refl;
    }

    broken_first : (edit : Edit) (edits : List Edit) → StandsIn number edit → ChangedAnyway {A = List NodeId} files before (edit ∷ edits) (Err (record { at = 0; error = AdfError.Broken })) now after
    broken_first edit edits s = record {
      leaves = (stays_failed.0, all_read left.device, all_stay left.placed);
      names = stays_failed.1;
      entry = record { passed = λ k other less is. absurd (none_less k less); index = some_edits edit edits; refused = λ other is. subst (λ (x : Edit). EntersFiles {A = Unit {0}} files (named_nodes x) (is_some (followed x)) (Err AdfError.Broken)) (same_Some edit other is) (enters_first edit AdfError.Broken s refl (λ linked. inl refl)) };
      cause = refl;
      kind = λ other is. refl;
    }

    no_edits : (created : List NodeId) → ChangedAnyway files before [] (Ok created) now after
    no_edits created = record {
      leaves = record { one = None; own = tt; others = all_read left.device; placed = all_stay left.placed; standing = stays_failed.0 };
      names = stays_failed.1;
      entry = record { passed = λ k other less is. absurd (none_less k less); index = tt; refused = tt };
      cause = tt;
      kind = tt;
    }

    memory_or : (error : AdfError) → IsMemoryOr AdfError.Broken error → (error ≡ Memory) ⊎ (error ≡ AdfError.Broken)
    memory_or Memory h = inl refl
    memory_or error h = inr h

    broken_here : (edits : List Edit) (result : Result (List NodeId) EditError) → AllByRecursion (StandsIn number) edits → IsBrokenGroup edits result → ChangedAnyway files before edits result now after
    broken_here [] result all h = subst (λ r. ChangedAnyway files before [] r now after) (sym h) (no_edits [])
    broken_here (edit ∷ edits) (Ok created) all h = absurd h
    broken_here (edit ∷ edits) (Err refusal) all h =
        subst (λ k. ChangedAnyway {A = List NodeId} files before (edit ∷ edits) (Err (record { at = k; error = refusal.error })) now after) (sym h.0) (elim (memory_or refusal.error h.1) [
          | inl is ↦ subst (λ x. ChangedAnyway {A = List NodeId} files before (edit ∷ edits) (Err (record { at = 0; error = x })) now after) (sym is) (memory_first edit edits all.0)
          | inr is ↦ subst (λ x. ChangedAnyway {A = List NodeId} files before (edit ∷ edits) (Err (record { at = 0; error = x })) now after) (sym is) (broken_first edit edits all.0)
        ])

pub file_anyway : (files : Files) (before now : Devices) (number : ℕ) (edits : List Edit) (result : Result (List NodeId) EditError) (slot : Slot) → is_open (slot_at files number) ≡ true → AllByRecursion (StandsIn number) edits → OthersOnlyRead (Some number) before now
    → OthersStayPlaced (Some number) before now → (edits ≡ [] → (device_at now number).placement ≡ (device_at before number).placement) → FileGroupAnyway (standing_of (slot_at files number)) (device_at before number) edits result (device_at now number) (standing_of slot) → IfErr result (IsOfKind edits)
    → ChangedAnyway files before edits result now (with_slot files number slot)
file_anyway files before now number edits result slot is_there all others placed still h kind =
    stands_open (λ standing. FileGroupAnyway standing (device_at before number) edits result (device_at now number) (standing_of slot) → ChangedAnyway files before edits result now (with_slot files number slot)) (slot_at files number) is_there
    (λ e whole h. whole_here files before now number slot is_there others placed edits all still whole result (whole_of Reading refl e result h) kind)
    (λ e whole h. whole_here files before now number slot is_there others placed edits all still whole result (whole_of Editing refl e result h) kind)
    (λ e broken h. broken_here files before now number slot is_there others placed broken h.1 e edits result all h.0)
    h
  where
    whole_of : (standing : Standing) → fails_not standing ≡ true → standing_of (slot_at files number) ≡ standing → (result : Result (List NodeId) EditError) → FileGroupAnyway standing (device_at before number) edits result (device_at now number) (standing_of slot)
        → IsWhole (standing_of (slot_at files number)) (device_at before number) edits (device_at now number) (standing_of slot) result
    whole_of Failed not e result h = absurd (not_true not)
    whole_of standing not e (Ok created) h = subst (λ s. IsWhole s (device_at before number) edits (device_at now number) (standing_of slot) (Ok created)) (sym e) h
    whole_of standing not e (Err refusal) h = subst (λ s. IsWhole s (device_at before number) edits (device_at now number) (standing_of slot) (Err refusal)) (sym e) h
