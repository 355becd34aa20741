-- What the words of a command over one file or more ask for.
use Rattle.std.proofs.Common.{◌≡◌, ◌≢◌, ℕ, cond, Bool, true, false, List, [], ◌∷◌, ◌++◌, refl, sym, subst}
use Rattle.std.specs.Prelude.{Option, Some, None, is_some, codes}
use Rattle.std.specs.List.{list_all}
use Rattle.std.specs.Option.{option_map, unwrap_or}
use Rattle.std.specs.Str.{bytes_eq}
use Rattle.adf_library.specs.Shelf.{SlotState, number_in}
use Rattle.adf_model.proofs.Basics.{and_parts, same_Some}
use Rattle.sids_readings.specs.declared.rule_sets.RuleSet.{RuleSet}
use Rattle.tool_commands.specs.Named.{has_number, named_behind, named_files, with_named}
use Rattle.tool_commands.specs.Tool.{IsOnShelf, MayLack, command_over, is_file_word, names_device, rules_named, wanted_over}
use Rattle.tool_commands.specs.declared.named_files.NamedFile.{NamedFile}
use Rattle.tool_commands.specs.declared.words.Wanted.{Wanted}
use Rattle.tool_commands.specs.declared.words.Wanted.TheVariants as asks

-- ---- the files that words name

one_behind : (files : List NamedFile) (file : NamedFile) → files ++ file ∷ [] ≢ []
one_behind [] file none = cc
one_behind (first ∷ files) file none = cc

with_some : (files : List NamedFile) (number : Option ℕ) (word : List ℕ) → files ≢ [] → with_named files number word ≢ []
with_some files None word some = some
with_some files (Some number) word some = by_test (has_number files number)
  where
    by_test : (b : Bool) → cond b files (files ++ record { number = number; word = word } ∷ []) ≢ []
    by_test true = some
    by_test false = one_behind files (record { number = number; word = word })

behind_some : (files : List NamedFile) (slots : List SlotState) (words : List (List ℕ)) → files ≢ [] → named_behind files slots words ≢ []
behind_some files slots [] some = some
behind_some files slots (word ∷ words) some = behind_some (with_named files (number_in slots word) word) slots words (with_some files (number_in slots word) word some)

first_some : (number : Option ℕ) (word : List ℕ) → is_some number ≡ true → with_named [] number word ≢ []
first_some None word there = absurd cc
first_some (Some number) word there = one_behind [] (record { number = number; word = word })

named_some : (slots : List SlotState) (word : List ℕ) (words : List (List ℕ)) → names_device slots word ≡ true → named_files slots (word ∷ words) ≢ []
named_some slots word words names =
    behind_some (with_named [] (number_in slots word) word) slots words (first_some (number_in slots word) word (and_parts (is_file_word word) (is_some (number_in slots word)) names).1)

-- ---- the command over them

command_stands : (command : List ℕ) (files : List NamedFile) (slots : List SlotState) (asked : Wanted) → files ≢ [] → command_over command files ≡ Some asked → IsOnShelf asked slots
command_stands command files slots asked some is = by_test (bytes_eq command (codes "session")) is
  where
    by_set : (set : Option RuleSet) → option_map (λ (rules : RuleSet). asks.Check rules files) set ≡ Some asked → IsOnShelf asked slots
    by_set None is = absurd cc
    by_set (Some set) is = subst (λ (w : Wanted). IsOnShelf w slots) (same_Some (asks.Check set files) asked is) some

    by_test : (b : Bool) → cond b (Some asks.Session) (option_map (λ (rules : RuleSet). asks.Check rules files) (rules_named command)) ≡ Some asked → IsOnShelf asked slots
    by_test true is = subst (λ (w : Wanted). IsOnShelf w slots) (same_Some asks.Session asked is) tt
    by_test false is = by_set (rules_named command) is

-- a check is of one file or more
pub over_stands : (words : List (List ℕ)) (slots : List SlotState) (asked : Wanted) → Some asked ≡ wanted_over words slots → IsOnShelf asked slots
over_stands [] slots asked is = absurd cc
over_stands (command ∷ []) slots asked is = absurd cc
over_stands (command ∷ file ∷ files) slots asked is = by_test (list_all (names_device slots) (file ∷ files)) refl is
  where
    by_test : (b : Bool) → list_all (names_device slots) (file ∷ files) ≡ b → Some asked ≡ cond b (command_over command (named_files slots (file ∷ files))) None → IsOnShelf asked slots
    by_test true all is =
        command_stands command (named_files slots (file ∷ files)) slots asked (named_some slots file files (and_parts (names_device slots file) (list_all (names_device slots) files) all).0) (sym is)
    by_test false all is = absurd cc

-- what lacks memory is a check
pub lacks_over : (asked : Option Wanted) (other : Wanted) → MayLack (unwrap_or asked asks.Nothing) → MayLack (unwrap_or asked other)
lacks_over None other may = absurd may
lacks_over (Some asked) other may = may
