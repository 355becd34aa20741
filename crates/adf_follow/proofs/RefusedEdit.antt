-- One edit of a group: why it is refused, and what is done in any case.
use Rattle.std.proofs.Common.{◌≡◌, ◌≢◌, ◌⊎◌, inl, inr, ℕ, Bool, true, false, not, List, [], ◌∷◌, refl, sym, ◌∙◌, ap, subst}
use Rattle.std.specs.Prelude.{Option, Some, None, IsSome, IfSome, IsTrue, is_some, unwrap_or, Result, Ok, Err, ◌==◌, ◌||◌, ◌&&◌}
use Rattle.std.specs.List.{list_any}
use Rattle.adf_format.specs.Tree.{Tree}
use Rattle.adf_model.specs.declared.error.AdfError.{AdfError}
use Rattle.adf_model.specs.declared.error.AdfError.TheVariants.{Memory, ReadFault, NotOpen, NoSuchFile, NoSuchNode, ReadOnly, LinkMissing, LinkChain, Layout, OtherFile, Full}
use Rattle.adf_model.specs.declared.tree.Edit.{Edit}
use Rattle.adf_model.specs.declared.tree.Edit.TheVariants.{Create, Delete, Rename, Move, SetLabel, SetDims, PutAll, PutPart, Link}
use Rattle.adf_model.specs.declared.tree.NodeId.{NodeId}
use Rattle.adf_model.specs.Tests.{checked, and_then, if_there, first_refusal}
use Rattle.adf_model.specs.Edits.{apply, named_nodes, followed, with_followed, file_step}
use Rattle.adf_model.specs.Slots.{Open, Standing, standing_of, Files, Devices, AreTrees, slot_at, open_at, with_slot, device_at}
use Rattle.adf_model.specs.Follow.{reach}
use Rattle.adf_model.specs.OneFile.{StandsIn}
use Rattle.adf_model.specs.Calls.{Group, file_of, file_of_group, group_after, tests_at_entry, resolved, resolve, edit_reached, group_step}
use Rattle.adf_model.specs.Steps.{HasCauseOf, own_file, IsFileRefusal}
use Rattle.adf_model.specs.Causes.{OnlyAsks, ComesFromFiles, is_of_links, is_of_kind, may_refuse_edit}
use Rattle.adf_model.proofs.Basics.{not_true, same_Some}
use Rattle.adf_model.proofs.Following.OneFileLaws.{reached_as_many, in_its_file}
use Rattle.adf_follow.specs.Groups.{FileWork, Pending, at_rest, with_there, led_from, led_to, AreOpen, IsEditTold, IsToldBy, IsStepRefusal, IsEditRefusal, IsRefusedAnyway, LeavesUndone, IsDoneAnyway}
use Rattle.adf_follow.specs.Looking.{IsToldIn, IsWalked, HasStepCause, as_is}
use Rattle.adf_follow.proofs.Looks.{told_in_on, fault_before}
use Rattle.adf_follow.proofs.Entered.{Passed, Fails, is_entry_error, passes_refused, passes_checked, fails_checked, entry_error, refused_enters, passed_enters, files_pass}
use Rattle.adf_follow.proofs.DoneEdit.{all_there, first_of, first_has, leads_there, itself, told_there}

-- ---- where files are told

-- an edit of the very nodes that it names, which meets no link in its file
pub record IsOwnEdit (files : Files) (number : ℕ) (edit : Edit) (there : Option NodeId) : Type 0 where
  pub same : with_there edit there ≡ edit
  pub no_link : (opened : Open) → open_at files number ≡ Some opened → file_step opened.writable opened.tree edit ≢ Err LinkMissing

module _ (files : Files) (was : ℕ → FileWork) (group : Option ℕ) (edit : Edit) where
  -- a refusal of the trees is none of the others
  abbrev Refuses : AdfError → Type 0
  Refuses error = (g : Group) → g.files ≡ files → g.file ≡ group → group_step g edit ≡ Err error

  pub entry_refuses : (error : AdfError) → Fails (tests_at_entry files (named_nodes edit)) error → IsEditRefusal files was group edit error
  entry_refuses error e = by_error error (entry_error files (named_nodes edit) error e) steps
    where
      steps : Refuses error
      steps g same own = fails_checked (tests_at_entry g.files (named_nodes edit)) (and_then (resolve g.files edit) (λ reached. edit_reached g reached)) error (subst (λ (f : Files). Fails (tests_at_entry f (named_nodes edit)) error) (sym same) e)

      by_error : (x : AdfError) → is_entry_error x ≡ true → Refuses x → IsEditRefusal files was group edit x
      by_error Memory entry h = tt
      by_error ReadFault entry h = absurd (not_true entry)
      by_error (Full asked end) entry h = absurd (not_true entry)
      by_error x entry h = h

  -- behind the entry
  module _ (entry : Passed (tests_at_entry files (named_nodes edit))) where
    behind : (g : Group) → g.files ≡ files → group_step g edit ≡ and_then (resolve g.files edit) (λ reached. edit_reached g reached)
    behind g same = passes_checked (tests_at_entry g.files (named_nodes edit)) (and_then (resolve g.files edit) (λ reached. edit_reached g reached)) (subst (λ (f : Files). Passed (tests_at_entry f (named_nodes edit))) (sym same) entry)

    leads_to : (result : Result Edit AdfError) → resolve files edit ≡ result → (g : Group) → g.files ≡ files → group_step g edit ≡ and_then result (λ reached. edit_reached g reached)
    leads_to result e g same = behind g same ∙ ap (λ r. and_then r (λ reached. edit_reached g reached)) (ap (λ (f : Files). resolve f edit) same ∙ e)

    -- its links lead nowhere
    lost : (error : AdfError) → led_to files edit ≡ Err error → resolve files edit ≡ Err error
    lost error e = by_followed (followed edit) e
      where
        by_reach : (r : Result NodeId AdfError) → ◌≡◌ {A = Result (Option NodeId) AdfError} (and_then r (λ there. Ok (Some there))) (Err error) → and_then r (λ there. Ok (with_followed edit there)) ≡ Err error
        by_reach (Ok there) e = absurd (no_error (Some there) e)
          where
            no_error : (o : Option NodeId) → ◌≡◌ {A = Result (Option NodeId) AdfError} (Ok o) (Err error) → ⊥
            no_error o e = cc
        by_reach (Err x) e = ap Err (same_error x e)
          where
            same_error : (x : AdfError) → ◌≡◌ {A = Result (Option NodeId) AdfError} (Err x) (Err error) → x ≡ error
            same_error x e = cc

        by_followed : (o : Option NodeId) → led_from files o ≡ Err error → resolved files edit o ≡ Err error
        by_followed None e = absurd (no_error e)
          where
            no_error : ◌≡◌ {A = Result (Option NodeId) AdfError} (Ok None) (Err error) → ⊥
            no_error e = cc
        by_followed (Some node) e = by_reach (reach files node) e

    pub link_refuses : (told : Type 0) (before now : Devices) (error : AdfError) → IsWalked told LinkMissing files before now as_is (led_to files edit) (Err error) → told → IsEditRefusal files was group edit error
    link_refuses told before now Memory h t = tt
    link_refuses told before now ReadFault h t = passes_refused (tests_at_entry files (named_nodes edit)) entry
    link_refuses told before now (Full asked end) h t = absurd (not_full asked end h.0)
      where
        not_full : (asked end : ℕ) → Full asked end ≡ LinkMissing → ⊥
        not_full asked end e = cc
    link_refuses told before now error h t = λ g same own. leads_to (Err error) (lost error (h.1 t)) g same

    -- a node of another file
    module _ (there : Option NodeId) (number : ℕ) (led : led_to files edit ≡ Ok there) where
      abbrev reached : Edit
      reached = with_there edit there

      own_number : number ≡ unwrap_or group (file_of (named_nodes reached)) → (g : Group) → g.file ≡ group → file_of_group g reached ≡ number
      own_number is g own = ap (λ (o : Option ℕ). unwrap_or o (file_of (named_nodes reached))) own ∙ sym is

      -- an edit of these nodes in a group on this file
      abbrev in_file : Group → ℕ → Option Open → Result Group AdfError
      in_file g n o = if_there o NotOpen (λ opened. checked ((list_any (λ (node : NodeId). not (node.file == n)) (named_nodes reached), OtherFile) ∷ (not opened.writable, ReadOnly) ∷ []) (and_then (apply opened.tree reached) (λ tree. Ok (group_after g n opened reached tree))))

      pub other_refuses : number ≡ unwrap_or group (file_of (named_nodes reached)) → IsSome (open_at files number) → list_any (λ (node : NodeId). not (node.file == number)) (named_nodes reached) ≡ true → IsEditRefusal files was group edit OtherFile
      other_refuses is open_there elsewhere = λ g same own.
          leads_to (Ok reached) (leads_there files edit there led) g same
          ∙ ap (λ n. in_file g n (open_at g.files n)) (own_number is g own)
          ∙ ap (λ (f : Files). in_file g number (open_at f number)) same
          ∙ by_open g (open_at files number) open_there
        where
          by_open : (g : Group) (o : Option Open) → IsSome o → in_file g number o ≡ Err OtherFile
          by_open g None some = absurd (not_true some)
          by_open g (Some opened) some = ap (λ (b : Bool). checked ((b, OtherFile) ∷ (not opened.writable, ReadOnly) ∷ []) (and_then (apply opened.tree reached) (λ tree. Ok (group_after g number opened reached tree)))) elsewhere

      -- the file refuses the step
      pub step_refuses : (group ≡ None) ⊎ (group ≡ Some number) → StandsIn number reached → AreTrees files ⊎ IsOwnEdit files number edit there → (error : AdfError) → IsStepRefusal files was number reached error → IsEditRefusal files was group edit error
      step_refuses own stands trees error h = by_error error h.opened h.here h.why
        where
          -- the group does what the file does
          as_many : (g : Group) (opened : Open) → g.files ≡ files → g.file ≡ group → open_at files number ≡ Some opened
              → group_step g edit ≡ and_then (file_step opened.writable opened.tree reached) (λ tree. Ok (group_after g number opened reached tree))
          as_many g opened same of_group here =
              let there_open = subst (λ (f : Files). open_at f number ≡ Some opened) (sym same) here in
              let of_file : (g.file ≡ None) ⊎ (g.file ≡ Some number) = elim own [ inl none ↦ inl (of_group ∙ none) | inr some ↦ inr (of_group ∙ some) ] in
              elim trees [
                | inl all ↦ reached_as_many g number opened edit reached (subst AreTrees (sym same) all) (subst (λ (f : Files). first_refusal (tests_at_entry f (named_nodes edit)) ≡ None) (sym same) (passes_refused (tests_at_entry files (named_nodes edit)) entry))
                    (subst (λ (f : Files). resolve f edit ≡ Ok reached) (sym same) (leads_there files edit there led)) there_open of_file stands
                | inr is ↦ ap (group_step g) (sym is.same) ∙ in_its_file g number opened reached there_open of_file stands (λ e. is.no_link opened here (ap (file_step opened.writable opened.tree) (sym is.same) ∙ e))
              ]

          by_error : (x : AdfError) (opened : Open) → open_at files number ≡ Some opened → IsFileRefusal false opened.writable opened.limit opened.tree (was number).placement reached x → IsEditRefusal files was group edit x
          by_error Memory opened here why = tt
          by_error ReadFault opened here why = passes_refused (tests_at_entry files (named_nodes edit)) entry
          by_error (Full asked end) opened here why = record {
            number = number;
            reached = reached;
            opened = opened;
            tree = why.1.0;
            entered = passes_refused (tests_at_entry files (named_nodes edit)) entry;
            leads = leads_there files edit there led;
            own = own;
            stands = stands;
            here = here;
            made = why.1.1;
            over = why.1.2;
          }
          by_error x opened here why = λ g same of_group. as_many g opened same of_group here ∙ ap (λ r. and_then r (λ (tree : Tree). Ok (group_after g number opened reached tree))) why

-- where an edit is told, what is open are trees, or it is one of its own nodes
pub trees_or_own : (files : Files) (before : Devices) (edit : Edit) → Passed (tests_at_entry files (named_nodes edit)) → (there : Option NodeId) (number : ℕ) → led_to files edit ≡ Ok there → StandsIn number (with_there edit there) → IsToldBy files before edit
    → AreTrees files ⊎ IsOwnEdit files number edit there
trees_or_own files before edit entry there number led stands told = elim told [ inl all ↦ inl all.1 | inr one ↦ inr (own one) ]
  where
    own : IsEditTold files before edit → IsOwnEdit files number edit there
    own one = record {
      same = same;
      no_link = λ opened here e. one.no_link (ap (λ (o : Open). file_step o.writable o.tree edit) (same_Some one.opened opened (sym one.live ∙ ap (open_at files) at ∙ here)) ∙ e);
    }
      where
        same : with_there edit there ≡ edit
        same = itself files before edit entry one there led

        at : one.number ≡ number
        at = sym (first_has (λ (n : NodeId). n.file ≡ one.number) edit one.stands) ∙ first_has (λ (n : NodeId). n.file ≡ number) edit (subst (StandsIn number) same stands)

-- ---- the file of an edit

pub group_own : (group : Option ℕ) (first number : ℕ) → number ≡ unwrap_or group first → (group ≡ None) ⊎ (group ≡ Some number)
group_own None first number is = inl refl
group_own (Some n) first number is = inr (ap Some (sym is))

-- it is open
pub group_opens : (files : Files) (group : Option ℕ) (edit : Edit) (there : Option NodeId) (number : ℕ) → number ≡ unwrap_or group (file_of (named_nodes (with_there edit there))) → ((n : ℕ) → group ≡ Some n → IsSome (open_at files n))
    → AreOpen files (named_nodes (with_there edit there)) → IsSome (open_at files number)
group_opens files (Some n) edit there number is own all = subst (λ k. IsSome (open_at files k)) (sym is) (own n refl)
group_opens files None edit there number is own all = subst (λ k. IsSome (open_at files k)) (sym (is ∙ ap file_of (first_of (with_there edit there)).2)) (first_has (λ (n : NodeId). IsSome (open_at files n.file)) (with_there edit there) all)

-- ---- in any case

module _ (files : Files) (before now : Devices) (edit : Edit) where
  abbrev nodes : List NodeId
  nodes = named_nodes edit

  abbrev linked : Bool
  linked = is_some (followed edit)

  -- what a refusal behind the entry owes
  abbrev Owes : AdfError → Type 0
  Owes error = ComesFromFiles files None linked error × HasCauseOf files before now error × IsTrue (may_refuse_edit edit error)

  owed : (error : AdfError) → Passed (tests_at_entry files nodes) → Owes error → IsRefusedAnyway files before now edit error
  owed error e h = record { entry = passed_enters files nodes linked (Err error) e h.0; cause = h.1; kind = h.2 }

  pub entry_anyway : (error : AdfError) → Fails (tests_at_entry files nodes) error → IsRefusedAnyway files before now edit error
  entry_anyway error e = let why = by_error error (entry_error files nodes error e) in record { entry = refused_enters files nodes linked error e; cause = why.0; kind = why.1 }
    where
      by_error : (x : AdfError) → is_entry_error x ≡ true → HasCauseOf files before now x × IsTrue (may_refuse_edit edit x)
      by_error NoSuchFile entry = (refl, refl)
      by_error NotOpen entry = (refl, refl)
      by_error AdfError.Broken entry = (refl, refl)
      by_error NoSuchNode entry = (refl, refl)
      by_error x entry = absurd (not_true entry)

  pub link_anyway : (told : Type 0) (wanted : Result (Option NodeId) AdfError) (error : AdfError) → Passed (tests_at_entry files nodes) → linked ≡ true → IsWalked told LinkMissing files before now (as_is {A = Option NodeId}) wanted (Err error) → IsRefusedAnyway files before now edit error
  link_anyway told wanted error e follows h = owed error e (by_error error h)
    where
      of_links : (x : AdfError) → is_of_links x ≡ true → (b : Bool) → linked ≡ b → b ≡ true → (false || ((is_of_links x && linked) || is_of_kind edit x)) ≡ true
      of_links x links b is so = ap (λ (c : Bool). (c && linked) || is_of_kind edit x) links ∙ ap (λ (c : Bool). c || is_of_kind edit x) follows

      missing : Owes LinkMissing
      missing = (tt, refl, of_links LinkMissing refl true follows refl)

      by_error : (x : AdfError) → IsWalked told LinkMissing files before now (as_is {A = Option NodeId}) wanted (Err x) → Owes x
      by_error Memory h = (tt, refl, refl)
      by_error ReadFault h = (tt, h, refl)
      by_error (Layout rule place) h = (tt, h.0, refl)
      by_error AdfError.Broken h = (inr (follows, h.0), refl, refl)
      by_error LinkMissing h = missing
      by_error LinkChain h = (tt, refl, of_links LinkChain refl true follows refl)
      by_error x h = subst Owes (sym h.0) missing

  pub other_anyway : Passed (tests_at_entry files nodes) → IsRefusedAnyway files before now edit OtherFile
  other_anyway e = owed OtherFile e (tt, refl, refl)

  pub step_anyway : (mid : Files) (first : Devices) (number : ℕ) (error : AdfError) → OnlyAsks files before first mid → Passed (tests_at_entry files nodes) → HasStepCause mid edit number first now error → IsRefusedAnyway files before now edit error
  step_anyway mid first number error leaves e h = owed error e (by_error error h)
    where
      by_error : (x : AdfError) → HasStepCause mid edit number first now x → Owes x
      by_error Memory h = (tt, refl, refl)
      by_error ReadFault h = let fault = fault_before files mid before first now number leaves h in (tt, (number, fault.0, fault.1), refl)
      by_error (Layout rule place) h = (tt, h, refl)
      by_error AdfError.Broken h = absurd h
      by_error NotOpen h = absurd h
      by_error NoSuchFile h = absurd h
      by_error OtherFile h = absurd h
      by_error LinkChain h = absurd h
      by_error x h = (tt, h.0, h.1)

-- ---- what is left, and what is done

pub step_undone : (files mid after : Files) (was waiting pending : Pending) (now : Devices) (group : Option ℕ) (number : ℕ) → mid ≡ files → waiting ≡ was → (group ≡ None) ⊎ (group ≡ Some number)
    → (after ≡ with_slot mid number (slot_at waiting.kept number)) × (pending.work number ≡ at_rest (device_at now number)) → pending.kept ≡ waiting.kept → ((n : ℕ) → n ≢ number → pending.work n ≡ waiting.work n)
    → LeavesUndone group files was now pending after
step_undone files mid after was waiting pending now group number same still own undone kept others = inr (record {
  number = number;
  own = own;
  left = undone.0 ∙ ap (λ (f : Files). with_slot f number (slot_at waiting.kept number)) same ∙ ap (λ (p : Pending). with_slot files number (slot_at p.kept number)) still;
  kept = kept ∙ ap (λ (p : Pending). p.kept) still;
  rest = undone.1;
  others = λ n apart. others n apart ∙ ap (λ (p : Pending). p.work n) still;
})

-- a node that is named and not followed stays
named_file : (edit : Edit) (there : Option NodeId) (number : ℕ) → StandsIn number (with_there edit there) → IfSome (own_file (edit ∷ [])) (λ own. number ≡ own)
named_file (Delete n) None number s = sym s.0
named_file (Delete n) (Some there) number s = sym s.0
named_file (Rename n wanted) None number s = sym s.0
named_file (Rename n wanted) (Some there) number s = sym s.0
named_file (Move n to) None number s = sym s.0
named_file (Move n to) (Some there) number s = sym s.0
named_file (Create n wanted label) there number s = tt
named_file (SetLabel n label) there number s = tt
named_file (SetDims n shape) there number s = tt
named_file (PutAll n given) there number s = tt
named_file (PutPart n selection given) there number s = tt
named_file (Link n wanted file path) there number s = tt

pub done_anyway : (files mid after : Files) (was waiting : Pending) (work : ℕ → FileWork) (group : Option ℕ) (edit : Edit) (there : Option NodeId) (number : ℕ) → mid ≡ files → waiting ≡ was → Passed (tests_at_entry files (named_nodes edit)) → (group ≡ None) ⊎ (group ≡ Some number)
    → list_any (λ (node : NodeId). not (node.file == number)) (named_nodes (with_there edit there)) ≡ false → standing_of (slot_at mid number) ≡ Standing.Editing → after ≡ with_slot mid number (slot_at after number) → ((n : ℕ) → n ≢ number → work n ≡ waiting.work n)
    → IsDoneAnyway files after was.work work group edit number
done_anyway files mid after was waiting work group edit there number same still entry own near editing only others = record {
  entered = files_pass files (named_nodes edit) entry;
  own = own;
  editing = subst (λ (f : Files). standing_of (slot_at f number) ≡ Standing.Editing) same editing;
  named = named_file edit there number (all_there number (named_nodes (with_there edit there)) near);
  left = only ∙ ap (λ (f : Files). with_slot f number (slot_at after number)) same;
  others = λ n apart. others n apart ∙ ap (λ (p : Pending). p.work n) still;
}

-- a step of the file that was asked after its links
pub told_refusal : (files mid : Files) (before first : Devices) (was waiting : ℕ → FileWork) (edit : Edit) → Passed (tests_at_entry files (named_nodes edit)) → (there : Option NodeId) (number : ℕ) (error : AdfError) → OnlyAsks files before first mid → waiting ≡ was → led_to files edit ≡ Ok there
    → StandsIn number (with_there edit there) → (IsToldIn mid first number → IsStepRefusal mid waiting number (with_there edit there) error) → IsToldBy files before edit → IsStepRefusal files was number (with_there edit there) error
told_refusal files mid before first was waiting edit entry there number error leaves still led stands refused told =
    subst (λ w. IsStepRefusal files w number (with_there edit there) error) still (subst (λ f. IsStepRefusal f waiting number (with_there edit there) error) leaves.files_stay
    (refused (told_in_on files mid before first number leaves (told_there files before edit entry there number led stands told))))
