-- Nodes and files kept in memory, by their numbers.
use Rattle.std.proofs.Common.{◌≡◌, ℕ, suc, ◌+◌, ◌<◌, true, false, List, [], ◌∷◌, map, drop, length, get_or, refl, sym, ◌∙◌, ap}
use Rattle.std.specs.Prelude.{Option, Some, None, slice_get, unwrap_or, is_some, option_map, bytes_eq, Result, if◌then◌else◌}
use Rattle.std.proofs.lemmas.Option.{slice_get-map, unwrap_or-slice_get, slice_get_read}
use Rattle.std.proofs.lemmas.List.{drop_more}
use Rattle.adf_format.specs.Tree.{node_at, is_live, name_of, name_at, children_of, children_at}
use Rattle.adf_model.specs.declared.error.AdfError.{AdfError}
use Rattle.adf_model.specs.declared.error.AdfError.TheVariants.{LinkMissing}
use Rattle.adf_model.specs.Slots as model
use Rattle.adf_model.specs.Causes.{OnlyAsks}
use Rattle.adf_model.proofs.Answering.AskLaws as asks
use Rattle.adf_model.specs.Slots.{File, Files, Devices, slot_at, number_from, number_of, is_gone}
use Rattle.adf_model.specs.Tests.{if_there}
use Rattle.adf_model.specs.Follow.{text_in, open_file}
use Rattle.follow_tests.specs.declared.kept.KeptNode.{KeptNode}
use Rattle.follow_tests.specs.declared.kept.KeptFile.{KeptFile}
use Rattle.follow_tests.specs.declared.kept.State.{State}
use Rattle.follow_tests.specs.declared.kept.State.TheVariants as state
use Rattle.follow_tests.specs.Kept.{node_of, tree_of, text_of, kind_of, slot_of, file_of, standing_file}

node_is : (nodes : List KeptNode) (serial : ℕ) (o : Option KeptNode) → slice_get nodes serial ≡ o → node_at (tree_of nodes) serial ≡ unwrap_or (option_map node_of o) None
node_is nodes serial o e = sym (unwrap_or-slice_get (map node_of nodes) serial None) ∙ ap (λ s. unwrap_or s None) (slice_get-map node_of nodes serial ∙ ap (option_map node_of) e)

pub node_there : (nodes : List KeptNode) (serial : ℕ) (node : KeptNode) → Some node ≡ slice_get nodes serial → is_live (tree_of nodes) serial ≡ true
node_there nodes serial node e = ap is_some (node_is nodes serial (Some node) (sym e))

pub no_node : (nodes : List KeptNode) (serial : ℕ) → None ≡ slice_get nodes serial → is_live (tree_of nodes) serial ≡ false
no_node nodes serial e = ap is_some (node_is nodes serial None (sym e))

text_here : (name : List ℕ) (text : Option (List ℕ)) (children : List ℕ) → text ≡ text_in (Some (record { name = name; label = []; kind = kind_of text; dims = []; bytes = text; children = children }))
text_here name None children = refl
text_here name (Some text) children = refl

pub text_there : (nodes : List KeptNode) (serial : ℕ) (node : KeptNode) → Some node ≡ slice_get nodes serial → node.text ≡ text_of nodes serial
text_there nodes serial node e = text_here node.name node.text node.children.items ∙ ap text_in (sym (node_is nodes serial (Some node) (sym e)))

pub no_text : (nodes : List KeptNode) (serial : ℕ) → None ≡ slice_get nodes serial → None ≡ text_of nodes serial
no_text nodes serial e = ap text_in (sym (node_is nodes serial None (sym e)))

pub name_there : (nodes : List KeptNode) (serial : ℕ) (node : KeptNode) → Some node ≡ slice_get nodes serial → node.name ≡ name_at (tree_of nodes) serial
name_there nodes serial node e = ap name_of (sym (node_is nodes serial (Some node) (sym e)))

pub no_name : (nodes : List KeptNode) (serial : ℕ) → None ≡ slice_get nodes serial → [] ≡ name_at (tree_of nodes) serial
no_name nodes serial e = ap name_of (sym (node_is nodes serial None (sym e)))

pub children_there : (nodes : List KeptNode) (serial : ℕ) (node : KeptNode) → Some node ≡ slice_get nodes serial → node.children.items ≡ children_at (tree_of nodes) serial
children_there nodes serial node e = ap children_of (sym (node_is nodes serial (Some node) (sym e)))

pub no_children : (nodes : List KeptNode) (serial : ℕ) → None ≡ slice_get nodes serial → [] ≡ children_at (tree_of nodes) serial
no_children nodes serial e = ap children_of (sym (node_is nodes serial None (sym e)))

-- ---- files by their numbers

file_is : (files : List KeptFile) (number : ℕ) (o : Option KeptFile) → slice_get files number ≡ o → slice_get (map file_of files) number ≡ option_map file_of o
file_is files number o e = slice_get-map file_of files number ∙ ap (option_map file_of) e

pub slot_there : (files : List KeptFile) (number : ℕ) (file : KeptFile) → slice_get files number ≡ Some file → slot_at (map file_of files) number ≡ slot_of file.state file.nodes.items
slot_there files number file e = ap model.slot_of (file_is files number (Some file) e)

pub no_slot : (files : List KeptFile) (number : ℕ) → slice_get files number ≡ None → slot_at (map file_of files) number ≡ model.Slot.Gone
no_slot files number e = ap model.slot_of (file_is files number None e)

there : (state : State) (nodes : List KeptNode) → is_gone (slot_of state nodes) ≡ false
there state.Closed nodes = refl
there state.Open nodes = refl
there state.Broken nodes = refl

-- a file that has not the name is passed
pub passed_by : (k : ℕ) (file : KeptFile) (files : List KeptFile) (wanted : List ℕ) → bytes_eq file.name wanted ≡ false → number_from k (map file_of (file ∷ files)) wanted ≡ number_from (suc k) (map file_of files) wanted
passed_by k file files wanted e =
    ap (λ t. if t then number_from (suc k) (map file_of files) wanted else if bytes_eq file.name wanted then Some k else number_from (suc k) (map file_of files) wanted) (there file.state file.nodes.items)
    ∙ ap (λ t. if t then Some k else number_from (suc k) (map file_of files) wanted) e

pub met : (k : ℕ) (file : KeptFile) (files : List KeptFile) (wanted : List ℕ) → bytes_eq file.name wanted ≡ true → number_from k (map file_of (file ∷ files)) wanted ≡ Some k
met k file files wanted e =
    ap (λ t. if t then number_from (suc k) (map file_of files) wanted else if bytes_eq file.name wanted then Some k else number_from (suc k) (map file_of files) wanted) (there file.state file.nodes.items)
    ∙ ap (λ t. if t then Some k else number_from (suc k) (map file_of files) wanted) e

pub standing_is : (state : State) (nodes : List KeptNode) (number : ℕ) → standing_file state number ≡ open_file (slot_of state nodes) number
standing_is state.Closed nodes number = refl
standing_is state.Open nodes number = refl
standing_is state.Broken nodes number = refl

pub linked_at : (files : List KeptFile) (wanted : List ℕ) (i : ℕ) (file : KeptFile) (result : Result ℕ AdfError) → i < length files → file ≡ get_or files i file
    → number_of (map file_of files) wanted ≡ number_from i (map file_of (drop i files)) wanted → bytes_eq file.name wanted ≡ true → result ≡ standing_file file.state i
    → result ≡ if_there (number_of (map file_of files) wanted) LinkMissing (λ number. open_file (slot_at (map file_of files) number) number)
linked_at files wanted i file result lt is so_far same opened =
    let here : number_of (map file_of files) wanted ≡ Some i =
    so_far ∙ ap (λ (l : List KeptFile). number_from i (map file_of l) wanted) (drop_more files i file lt ∙ ap (λ (f : KeptFile). f ∷ drop (i + 1) files) (sym is)) ∙ met i file (drop (i + 1) files) wanted same in
    opened ∙ standing_is file.state file.nodes.items i
    ∙ ap (λ s. open_file s i) (sym (slot_there files i file (slice_get_read files (length files) i file refl lt is)))
    ∙ ap (λ (o : Option ℕ). if_there o LinkMissing (λ number. open_file (slot_at (map file_of files) number) number)) (sym here)

-- ---- nothing is read

pub asks_none : (files : Files) (devices : Devices) → OnlyAsks files devices devices files
asks_none files devices = asks.asks_none files devices
