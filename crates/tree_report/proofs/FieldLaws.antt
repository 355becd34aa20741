-- What the question for the text of a link answers, and which nodes are links.
use Rattle.std.proofs.Common.{◌≡◌, ◌∙◌, sym, ap, refl, Bool, true, false, not, List, [], ◌∷◌, ℕ}
use Rattle.std.specs.Prelude.{if◌then◌else◌, map, Option, Some, None, option_map, IfOk, Result, Ok, Err}
use Rattle.adf_format.specs.declared.types.DataType.{DataType}
use Rattle.adf_format.specs.declared.types.DataType.TheVariants.{Lk}
use Rattle.adf_format.specs.Names.{is_lk}
use Rattle.adf_format.specs.Tree.{Node, IsNode, is_link}
use Rattle.adf_model.specs.declared.error.AdfError.{AdfError}
use Rattle.adf_model.specs.declared.error.AdfError.TheVariants.{ReadFault, NotALink, Layout}
use Rattle.adf_model.specs.declared.tree.NodeId.{NodeId}
use Rattle.adf_model.specs.declared.tree.Query.{Query}
use Rattle.adf_model.specs.declared.tree.Reply.{Reply}
use Rattle.adf_model.specs.Tests.{checked, if_there}
use Rattle.adf_model.specs.Slots.{Files, Devices, AreTrees}
use Rattle.adf_model.specs.Answers.{answer, text_reply}
use Rattle.adf_model.specs.Steps.{IsAnswer}
use Rattle.adf_model.proofs.Basics.{not_there, not_true}
use Rattle.sids_views.specs.Asks.{IsThere, IsPlain, IsValueOr, HasAskCause}
use Rattle.sids_views.specs.Views.{node_there, entry_of, entries_there}
use Rattle.sids_views.proofs.Asked.{found, node_is, own_answer, value_of_view}
use Rattle.tree_report.specs.declared.fields.Link.{Link}
use Rattle.tree_report.specs.Fields.{link_in, link_of, as_link, IsLinkReply}

link_reads : (b : Bool) (o : Option (List ℕ)) → as_link (checked ((not b, NotALink) ∷ []) (if_there o NotALink (λ text. Ok (text_reply text)))) ≡ Ok (if b then option_map link_in o else None)
link_reads false o = refl
link_reads true None = refl
link_reads true (Some text) = refl

-- the answer to the question tells where the node leads
pub link_value : (files : Files) (node : NodeId) → IsThere files node → (r : Result Reply AdfError) → IsAnswer files (Query.LinkText node) r → IsValueOr (link_of (node_there files node)) (as_link r)
link_value files node there r h =
    let query = Query.LinkText node in
    let p = own_answer files query refl refl there in
    value_of_view as_link refl refl _ (answer files query) (link_of (node_there files node))
    (ap as_link p.2 ∙ link_reads (is_link p.0.node) p.0.node.bytes ∙ ap (λ n. Ok (link_of n)) (sym p.1)) r h

is_lk_of : (kind : DataType) → is_lk kind ≡ true → kind ≡ Lk
is_lk_of Lk h = refl
is_lk_of other h = absurd (not_true h)

-- where a node would lead that is a link, or is none
abbrev led : Node → Bool → Option Link
led node b = if b then option_map link_in node.bytes else None

not_link : (wide : Bool) (node : Node) → IsNode wide node → link_of node ≡ None → (b : Bool) → is_link node ≡ b → is_link node ≡ false
not_link wide node sound none false e = e
not_link wide node sound none true e =
    absurd (not_there _ (sym none ∙ ap (led node) e ∙ ap (option_map link_in) (sound.link (is_lk_of node.kind e)).held))

no_children : (wide : Bool) (node : Node) → IsNode wide node → (link : Link) → link_of node ≡ Some link → (b : Bool) → is_link node ≡ b → node.children ≡ []
no_children wide node sound link leads false e = absurd (not_there link (sym (ap (led node) e) ∙ leads))
no_children wide node sound link leads true e = (sound.link (is_lk_of node.kind e)).childless

module _ (files : Files) (sound : AreTrees files) (at : NodeId) (there : IsThere files at) where
  -- a live node that leads nowhere is no link
  pub plain_is : link_of (node_there files at) ≡ None → IsPlain files at
  plain_is none =
      let f = found files at there in
      let is = node_is files at f in
      let tree = sound at.file f.opened f.file in
      record {
        there = there;
        no_link = ap is_link is ∙ not_link f.opened.tree.wide f.node (tree.each at.serial f.node f.live) (ap link_of (sym is) ∙ none) (is_link f.node) refl;
      }

  -- a link has no children
  pub link_alone : (link : Link) → link_of (node_there files at) ≡ Some link → entries_there files at ≡ []
  link_alone link leads =
      let f = found files at there in
      let is = node_is files at f in
      let tree = sound at.file f.opened f.file in
      let none : f.node.children ≡ [] = no_children f.opened.tree.wide f.node (tree.each at.serial f.node f.live) link (ap link_of (sym is) ∙ leads) (is_link f.node) refl in
      ap (λ (n : Node). map (entry_of files at.file) n.children) is ∙ ap (map (entry_of files at.file)) none

-- the cause of a refused question
pub link_cause : (files : Files) (before now : Devices) (r : Result Reply AdfError) → IfOk r IsLinkReply → HasAskCause files before now r → HasAskCause files before now (as_link r)
link_cause files before now (Ok (Reply.LinkText file path)) kind h = tt
link_cause files before now (Ok other) kind h = absurd kind
link_cause files before now (Err NotALink) kind h = tt
link_cause files before now (Err ReadFault) kind h = h
link_cause files before now (Err (Layout rule place)) kind h = h
link_cause files before now (Err error) kind h = h
