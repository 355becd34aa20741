-- A followed node is a live node that is no link.
use Rattle.std.proofs.Common.{◌≡◌, ◌≢◌, ◌∙◌, sym, ap, subst, refl, ℕ, Bool, true, false}
use Rattle.std.specs.Prelude.{Option, Some, None, is_some, IfSome, IfOk, Result, Ok, Err, if◌then◌else◌}
use Rattle.adf_format.specs.Tree.{Node, IsNode, is_link}
use Rattle.adf_model.specs.declared.error.AdfError.{AdfError}
use Rattle.adf_model.specs.declared.tree.NodeId.{NodeId}
use Rattle.adf_model.specs.Tests.{and_then}
use Rattle.adf_model.specs.Slots.{Files, AreTrees, Devices, IsTold, slot_at, is_gone}
use Rattle.adf_model.specs.Follow.{Spot, follow, link_text_at, text_of_open, text_in}
use Rattle.adf_model.proofs.Basics.{not_there, not_true, same_Some}
use Rattle.adf_model.proofs.Following.ReachLemmas.{follow_well}
use Rattle.adf_format.specs.declared.types.DataType.{DataType}
use Rattle.adf_format.specs.declared.types.DataType.TheVariants.{Lk}
use Rattle.adf_format.specs.Names.{is_lk}
use Rattle.adf_model.specs.Causes.{OnlyAsks}
use Rattle.sids_views.specs.Asks.{IsThere, IsPlain, IsValueOr}
use Rattle.sids_views.specs.Views.{target_of, reached, is_link_there}
use Rattle.sids_views.proofs.Asked.{found, node_is}

reached_spot : (r : Result Spot AdfError) (at : NodeId) → reached (and_then r (λ spot. Ok spot.node)) ≡ Some at → (spot : Spot) × (r ≡ Ok spot) × (spot.node ≡ at)
reached_spot (Ok spot) at h = (spot, refl, same_Some spot.node at h)
reached_spot (Err e) at h = absurd (not_there at h)

is_lk_of : (kind : DataType) → is_lk kind ≡ true → kind ≡ Lk
is_lk_of Lk h = refl
is_lk_of other h = absurd (not_true h)

-- a node of a tree that shows no link text is no link
no_text : (wide : Bool) (node : Node) → IsNode wide node → text_in (Some node) ≡ None → (b : Bool) → is_link node ≡ b → is_link node ≡ false
no_text wide node sound text false e = e
no_text wide node sound text true e =
    let held = (sound.link (is_lk_of node.kind e)).held in
    absurd (not_there _ (sym text ∙ ap (λ b. if b then node.bytes else None) e ∙ held))

no_link : (files : Files) (sound : AreTrees files) (at : NodeId) (there : IsThere files at) → link_text_at files at ≡ None → is_link_there files at ≡ false
no_link files sound at there text =
    let f = found files at there in
    let tree = sound at.file f.opened f.file in
    ap is_link (node_is files at f)
    ∙ no_text f.opened.tree.wide f.node (tree.each at.serial f.node f.live)
    (ap text_in (sym f.live) ∙ ap (λ o. text_of_open o at.serial) (sym f.file) ∙ text) (is_link f.node) refl

pub target_plain : (files : Files) → AreTrees files → (node at : NodeId) → IsThere files node → target_of files node ≡ Some at → IsPlain files at
target_plain files sound node at here h =
    let spot = reached_spot (follow files node 100) at h in
    let well = follow_well files sound node 100 spot.0 here spot.1 in
    let there : IsThere files at = subst (IsThere files) spot.2 well.0 in
    record { there = there; no_link = no_link files sound at there (subst (λ n. link_text_at files n ≡ None) spot.2 well.1) }

if_plain : (files : Files) → AreTrees files → (node : NodeId) → IsThere files node → (o : Option NodeId) → o ≡ target_of files node → IfSome o (IsPlain files)
if_plain files sound node here None e = tt
if_plain files sound node here (Some at) e = target_plain files sound node at here (sym e)

-- what is answered as the followed node is a live node that is no link
pub answered_plain : (files : Files) → AreTrees files → (node : NodeId) → IsThere files node → (r : Result (Option NodeId) AdfError) → IsValueOr (target_of files node) r → IfOk r (λ o. IfSome o (IsPlain files))
answered_plain files sound node here (Ok o) e = if_plain files sound node here o e
answered_plain files sound node here (Err e) h = tt

not_None : (n : ℕ) → Some n ≢ None
not_None n e = cc

-- what devices tell after questions, they told before
pub told_before : (files after : Files) (before now : Devices) → OnlyAsks files before now after → IsTold after now → IsTold files before
told_before files after before now only told n h =
    ap is_some (sym (only.devices_stay.others n (λ e. not_None n e)).held) ∙ told n (ap (λ (fs : Files). is_gone (slot_at fs n)) only.files_stay ∙ h)

-- a node that is live and no link is so after questions
pub plain_after : (files after : Files) (before now : Devices) (at : NodeId) → OnlyAsks files before now after → (IsTold files before → IsPlain files at) → IsTold after now → IsPlain after at
plain_after files after before now at only plain told = subst (λ fs. IsPlain fs at) (sym only.files_stay) (plain (told_before files after before now only told))
