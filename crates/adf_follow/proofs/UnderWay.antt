-- A group under way, one edit further.
use Rattle.std.proofs.Common.{◌≡◌, ◌⊎◌, inl, inr, ℕ, suc, ◌+◌, List, [], ◌∷◌, ◌++◌, take, refl, sym, ◌∙◌, ap, subst, arith}
use Rattle.std.specs.Prelude.{Option, Some, None, slice_get, Ok}
use Rattle.adf_format.specs.Tree.{Tree}
use Rattle.adf_format.specs.HeapRule.{place_edit, ◌>>=◌}
use Rattle.adf_format.specs.Placement.{Placement}
use Rattle.adf_model.specs.declared.tree.Edit.{Edit}
use Rattle.adf_model.specs.declared.tree.NodeId.{NodeId}
use Rattle.adf_model.specs.Tests.{first_refusal, and_then}
use Rattle.adf_model.specs.Edits.{IsReached, apply, named_nodes, created_by}
use Rattle.adf_model.specs.Need.{need, cost}
use Rattle.adf_model.specs.OneFile.{StandsIn}
use Rattle.adf_model.specs.Placing.{placed_as, chunk_number}
use Rattle.adf_model.specs.Slots.{Open, Files, Devices, AreTrees, open_at, with_slot, device_at}
use Rattle.adf_model.specs.Slots.Slot.{Live}
use Rattle.adf_model.specs.Calls.{tests_at_entry, resolve, edit_group, group_after, group_step}
use Rattle.adf_model.proofs.Basics.{not_there, same_Some, not_Err}
use Rattle.adf_model.proofs.Following.OneFileLaws.{reached_as_many, in_its_file, opened_now}
use Rattle.tree_laws.specs.Groups.{tree_left}
use Rattle.tree_laws.proofs.Groups.GroupsGrow.{step_reaches, are_done_grow, need_grows, tree_grows, placement_grows, placement_is_left, cost_grows}
use Rattle.tree_laws.proofs.Groups.FileLoop.{files_go_on}
use Rattle.adf_follow.specs.Groups.{FileWork, HasCome, IsUnderWay, IsStep}

module _ (files now after : Files) (before : Devices) (edits : List Edit) (i n : ℕ) (number : Option ℕ) (created : List NodeId) (was work : ℕ → FileWork) (edit reached : Edit) (opened : Open) (tree : Tree)
    (way : IsUnderWay files before edits i number created was now) (trees : AreTrees now ⊎ (reached ≡ edit)) (is : slice_get edits i ≡ Some edit) (entered : first_refusal (tests_at_entry now (named_nodes edit)) ≡ None) (leads : resolve now edit ≡ Ok reached)
    (here : open_at now n ≡ Some opened) (own : (number ≡ None) ⊎ (number ≡ Some n)) (stands : StandsIn n reached) (step : IsStep opened reached tree (was n) (work n)) (left : after ≡ with_slot now n (Live (record opened { tree = tree }))) where
  abbrev e : Edit × Tree
  e = (reached, tree)

  own_group : (way.group.file ≡ None) ⊎ (way.group.file ≡ Some n)
  own_group = elim own [ inl h ↦ inl (way.file ∙ h) | inr h ↦ inr (way.file ∙ h) ]

  stepped : group_step way.group edit ≡ Ok (group_after way.group n opened reached tree)
  stepped = elim trees [
    | inl all ↦ reached_as_many way.group n opened edit reached (subst AreTrees way.trees all) (subst (λ f. first_refusal (tests_at_entry f (named_nodes edit)) ≡ None) way.trees entered)
        (subst (λ f. resolve f edit ≡ Ok reached) way.trees leads) (subst (λ f. open_at f n ≡ Some opened) way.trees here) own_group stands
    | inr is ↦ ap (group_step way.group) (sym is) ∙ in_its_file way.group n opened reached (subst (λ f. open_at f n ≡ Some opened) way.trees here) own_group stands (λ e. not_Err (sym e ∙ step.made))
  ]
      ∙ ap (λ r. and_then r (λ (t : Tree). Ok (group_after way.group n opened reached t))) step.made

  further : HasCome files before (group_after way.group n opened reached tree) n (record opened { tree = tree }) (work n)
  further =
      let come = way.come n opened own here in
      let p = (device_at before n).placement in
      let limit : opened.limit ≡ come.was.limit = ap (λ (o : Open). o.limit) come.same in
      let at : opened.tree ≡ tree_left come.was.tree way.group.done = ap (λ (o : Open). o.tree) come.same in
      record {
        was = come.was;
        there = come.there;
        same = ap (λ (o : Open). record o { tree = tree }) come.same ∙ ap (λ t. record come.was { tree = t }) (sym (tree_grows come.was.tree way.group.done e));
        steps = (
            let reaches = step_reaches opened.writable opened.tree tree reached step.made in
            are_done_grow come.was.tree way.group.done e come.steps (subst (λ t. IsReached t reached) at reaches.0) (subst (λ t. apply t reached ≡ Ok tree) at reaches.1));
        needed = (
            let more = need_grows come.was.tree way.group.done e in
            let this = ap (λ t. need t reached) at in
            let so_far = come.needed in
            omega (arith, more, this, so_far));
        waits = step.done ∙ ap (λ d. d ++ e ∷ []) come.waits;
        placed = placement_grows come.was.limit come.was.tree p way.group.done e
            ∙ ap (λ r. r >>= λ (q : Placement). place_edit come.was.limit (tree_left come.was.tree way.group.done) tree (placed_as reached) q) come.placed
            ∙ ap (λ l. place_edit l (tree_left come.was.tree way.group.done) tree (placed_as reached) (was n).placement) (sym limit)
            ∙ ap (λ t. place_edit opened.limit t tree (placed_as reached) (was n).placement) (sym at)
            ∙ step.placed;
        cost =
            let more = cost_grows come.was.limit come.was.tree p way.group.done e in
            let there = ap (λ q. cost (tree_left come.was.tree way.group.done) (chunk_number q) reached) (placement_is_left come.was.limit come.was.tree p (was n).placement way.group.done come.placed) in
            let this = ap (λ t. cost t (chunk_number (was n).placement) reached) at in
            omega (arith, more, there, this, step.cost, come.cost);
      }

  pub goes_further : IsUnderWay files before edits (i + 1) (Some n) (created ++ created_by opened.tree reached) work after
  goes_further = record {
    group = group_after way.group n opened reached tree;
    through = let one : i + 1 ≡ suc i = omega arith in ap (λ k. edit_group files (take k edits)) one ∙ files_go_on files edits i edit way.group (group_after way.group n opened reached tree) is way.through stepped;
    trees = left ∙ ap (λ f. with_slot f n (Live (record opened { tree = tree }))) way.trees;
    file = refl;
    made = ap (λ c. c ++ created_by opened.tree reached) way.made;
    come = λ m o of found. elim of [
      | inl h ↦ absurd (not_there n (sym h))
      | inr h ↦
          let at : n ≡ m = same_Some n m h in
          let this : record opened { tree = tree } ≡ o = same_Some (record opened { tree = tree }) o (sym (opened_now now n opened (record opened { tree = tree }) here) ∙ ap (λ f. open_at f n) (sym left) ∙ ap (λ k. open_at after k) at ∙ found) in
          subst (λ k. HasCome files before (group_after way.group n opened reached tree) k o (work k)) at (subst (λ o. HasCome files before (group_after way.group n opened reached tree) n o (work n)) this further)
    ];
  }
