-- Whether a query enters its file is known of that file alone.
use Rattle.std.proofs.Common.{◌≡◌, ℕ, ◌≤◌, List, [], ◌∷◌, length, map, Bool, true, false, not, refl, sym, ◌∙◌, ap, arith}
use Rattle.std.proofs.lemmas.List.{length-map}
use Rattle.std.specs.Prelude.{◌||◌, is_some, Result, Ok, Err, if◌then◌else◌}
use Rattle.adf_format.specs.Tree.{is_live}
use Rattle.adf_library.specs.Calls.{entry_tests}
use Rattle.adf_library.specs.Places.{in_work, slot_as, file_of}
use Rattle.adf_library.specs.declared.places.Slot.{Slot}
use Rattle.adf_library.proofs.Among.{gone_past}
use Rattle.adf_library.proofs.Meaning.{live_by_rows}
use Rattle.adf_model.proofs.Basics.{not_true}
use Rattle.adf_model.specs.Calls.{tests_at_entry, is_live_in}
use Rattle.adf_model.specs.Slots.{Open, Files, slot_at, open_of, is_gone, is_open, is_broken}
use Rattle.adf_model.specs.Slots as model
use Rattle.adf_model.specs.Tests.{Test, checked}
use Rattle.adf_model.specs.declared.error.AdfError.{AdfError}
use Rattle.adf_model.specs.declared.error.AdfError.TheVariants.{NotOpen, NoSuchFile, NoSuchNode}
use Rattle.adf_model.specs.declared.tree.NodeId.{NodeId}
use Rattle.adf_tree.specs.Files.{FileState}
use Rattle.cg_io.specs.Device.{DeviceState}
use Rattle.tree_edits.specs.Rows.{row_of}

or_false : (b : Bool) → (b || false) ≡ b
or_false true = refl
or_false false = refl

abbrev pub four : Bool → Bool → Bool → Bool → List Test
four gone shut broken dead = (gone, NoSuchFile) ∷ (shut, NotOpen) ∷ (broken, AdfError.Broken) ∷ (dead, NoSuchNode) ∷ []

-- the tests of one node
pub same_tests : (files : Files) (node : NodeId) → tests_at_entry files (node ∷ []) ≡ entry_tests (slot_at files node.file) node.serial
same_tests files node =
    let own = slot_at files node.file in
    let dead = not (is_live_in (open_of own) node.serial) in
    ap (λ a. four a (not (is_open own) || false) (is_broken own || false) (dead || false)) (or_false (is_gone own))
    ∙ ap (λ b. four (is_gone own) b (is_broken own || false) (dead || false)) (or_false (not (is_open own)))
    ∙ ap (λ c. four (is_gone own) (not (is_open own)) c (dead || false)) (or_false (is_broken own))
    ∙ ap (λ d. four (is_gone own) (not (is_open own)) (is_broken own) d) (or_false dead)

abbrev pub entered : List Test → Result Unit AdfError
entered tests = checked tests (Ok tt)

pub enters_there : (files : Files) (node : NodeId) (own : model.Slot) (result : Result Unit AdfError) → slot_at files node.file ≡ own → result ≡ entered (entry_tests own node.serial) → result ≡ entered (tests_at_entry files (node ∷ []))
enters_there files node own result is e = e ∙ sym (ap entered (same_tests files node) ∙ ap (λ (s : model.Slot). entered (entry_tests s node.serial)) is)

-- a file that is not there
pub enters_none : (files : Files) (node : NodeId) → length files ≤ node.file → Err NoSuchFile ≡ entered (tests_at_entry files (node ∷ []))
enters_none files node past = enters_there files node model.Slot.Gone (Err NoSuchFile) (gone_past files node.file past) refl

-- ---- one file

broken_enters : (b : Bool) (opened : Open) (serial : ℕ) → b ≡ true → entered (entry_tests (if b then model.Slot.Broken else model.Slot.Live opened) serial) ≡ Err AdfError.Broken
broken_enters true opened serial is = refl
broken_enters false opened serial is = absurd (not_true is)

sound_enters : (b : Bool) (opened : Open) (serial : ℕ) → b ≡ false → entered (entry_tests (if b then model.Slot.Broken else model.Slot.Live opened) serial) ≡ (if is_live opened.tree serial then Ok tt else Err NoSuchNode)
sound_enters true opened serial is = absurd (not_true (sym is))
sound_enters false opened serial is = by_test (is_live opened.tree serial)
  where
    by_test : (live : Bool) → entered (four false false false (not live)) ≡ (if live then Ok tt else Err NoSuchNode)
    by_test true = refl
    by_test false = refl

pub enter_broken : (f : FileState) (serial : ℕ) → f.broken ≡ true → Err AdfError.Broken ≡ entered (entry_tests (slot_as in_work f) serial)
enter_broken f serial is = sym (broken_enters f.broken (in_work f) serial is)

pub enter_sound : (f : FileState) (serial : ℕ) (live : Bool) → f.broken ≡ false → live ≡ is_some (row_of f.core.rows.items serial) → (if live then Ok tt else Err NoSuchNode) ≡ entered (entry_tests (slot_as in_work f) serial)
enter_sound f serial live sound is =
    ap (λ (b : Bool). if b then Ok tt else Err NoSuchNode) (is ∙ sym (live_by_rows f.image f.core.rows.items serial)) ∙ sym (sound_enters f.broken (in_work f) serial sound)

-- ---- past the last file

pub none_open : {D : Type 0} (state : D → DeviceState) (slots : List (Slot D)) (n : ℕ) → length slots ≤ n → slot_at (map (file_of in_work state) slots) n ≡ model.Slot.Gone
none_open state slots n past = gone_past (map (file_of in_work state) slots) n (let l = length-map slots (file_of in_work state) in omega (arith, l, past))
