-- The children of a live node are live.
use Rattle.std.proofs.Common.{◌≡◌, ◌∙◌, sym, ap, subst, ℕ, Bool, true, ◌||◌, List, [], ◌∷◌}
use Rattle.std.specs.Prelude.{map, Option, Some, None, is_some, IsSome, IfOk, Result, Ok, Err, ◌==◌}
use Rattle.std.specs.List.{AllByRecursion}
use Rattle.adf_format.specs.Tree.{Node, IsAmong, is_among, node_at, children_of}
use Rattle.adf_model.specs.declared.error.AdfError.{AdfError}
use Rattle.adf_model.specs.declared.tree.Child.{Child}
use Rattle.adf_model.specs.declared.tree.NodeId.{NodeId}
use Rattle.adf_model.specs.Slots.{Files, AreTrees, open_at}
use Rattle.adf_model.specs.Calls.{is_live_in}
use Rattle.adf_model.proofs.Basics.{among_head, or_right}
use Rattle.sids_views.specs.Asks.{IsThere, IsPlain, IsValueOr}
use Rattle.sids_views.specs.Views.{entry_of, entries_there}
use Rattle.sids_views.proofs.Asked.{found, node_is}

each : (files : Files) (file : ℕ) (serials : List ℕ) → ((child : ℕ) → IsAmong serials child → IsThere files (record { file = file; serial = child }))
    → AllByRecursion (λ (entry : Child). IsThere files entry.node) (map (entry_of files file) serials)
each files file [] h = tt
each files file (serial ∷ serials) h = (h serial (among_head serial serials), each files file serials (λ child m. h child (or_right (serial == child) (is_among serials child) m)))

pub entries_live : (files : Files) → AreTrees files → (at : NodeId) → IsThere files at → AllByRecursion (λ (entry : Child). IsThere files entry.node) (entries_there files at)
entries_live files sound at there =
    let f = found files at there in
    let tree = sound at.file f.opened f.file in
    let children = ap children_of f.live ∙ ap (λ (n : Node). n.children) (sym (node_is files at f)) in
    each files at.file _ (λ child m.
    ap (λ o. is_live_in o child) f.file ∙ (tree.live at.serial child (subst (λ xs. IsAmong xs child) (sym children) m)).0)

pub answered_entries : (files : Files) → AreTrees files → (at : NodeId) → IsThere files at → (r : Result (List Child) AdfError) → IsValueOr (entries_there files at) r → IfOk r (AllByRecursion (λ (entry : Child). IsThere files entry.node))
answered_entries files sound at there (Ok entries) e = subst (AllByRecursion (λ (entry : Child). IsThere files entry.node)) (sym e) (entries_live files sound at there)
answered_entries files sound at there (Err e) h = tt
