-- Steps of a walk, by the looks that take them.
use Rattle.std.proofs.Common.{◌≡◌, ◌⊎◌, inl, inr, ℕ, ◌+◌, ◌-◌, ◌<◌, ◌≤◌, List, ◌∷◌, length, map, drop, get_or, sym, ◌∙◌, ap, subst}
use Rattle.std.specs.Prelude.{Option, Some, None, IsSome, IfOk, Result, Ok, Err}
use Rattle.adf_format.specs.Links.{file_part, path_part, components}
use Rattle.adf_model.specs.declared.error.AdfError.{AdfError}
use Rattle.adf_model.specs.declared.error.AdfError.TheVariants.{LinkMissing, NotFound}
use Rattle.adf_model.specs.declared.tree.NodeId.{NodeId}
use Rattle.adf_model.specs.Slots.{Files, Devices, IsTold, open_at}
use Rattle.adf_model.specs.Follow.{Spot, walk, as_child, child_in, linked_file, follow, reach, link_text_at}
use Rattle.adf_model.specs.Tests.{and_then}
use Rattle.adf_model.specs.Causes.{OnlyAsks}
use Rattle.adf_model.proofs.Basics.{same_Ok, not_there}
use Rattle.adf_model.proofs.Answering.AskLaws.{asks_more}
use Rattle.adf_follow.specs.Looking.{IsToldIn, IsToldFrom, IsSeen, IsWalked, HasLookCause, HasWalkCause, as_is, spot_of}
use Rattle.std.proofs.lemmas.List.{drop_more}
use Rattle.adf_model.specs.declared.lists.PathRange.{PathRange}
use Rattle.adf_links.specs.Components.{text_at}
use Rattle.adf_follow.specs.declared.walks.Reached.{Reached}
use Rattle.adf_follow.proofs.Looks.{told_on, look_walks, links_walk, walk_before, passed_on, goes_on}
use Rattle.adf_follow.proofs.Steps.{at_node, at_path, at_last, no_path, no_file, unlinked, broken_link, link_opens, one_name, no_name, no_follow}

-- ---- a node is followed

module _ (files : Files) (before : Devices) (node : NodeId) (left : ℕ) (few : left ≤ 100) where
  -- its own file tells in any case
  own_told : IsToldFrom files before node → IsToldIn files before node.file
  own_told told = elim told [ inl all ↦ all node.file | inr own ↦ own.0 ]

  pub text_fails : (first : Devices) (error : AdfError) → IsSeen files before node.file first as_is (Ok (link_text_at files node)) (Err error) → IsWalked (IsToldFrom files before node) LinkMissing files before first spot_of (follow files node left) (Err error)
  text_fails first error h = passed_on (IsToldFrom files before node) (IsToldIn files before node.file) (HasLookCause files node.file before first) (HasWalkCause LinkMissing files before first) as_is spot_of
      (Ok (link_text_at files node)) (follow files node left) error (look_walks LinkMissing files node.file before first error) own_told (λ told e. absurd (not_both (link_text_at files node) error e)) h
    where
      not_both : (o : Option (List ℕ)) (e : AdfError) → ◌≡◌ {A = Result (Option (List ℕ)) AdfError} (Ok o) (Err e) → ⊥
      not_both o e h = cc

  pub no_link : (IsToldIn files before node.file → ◌≡◌ {A = Result (Option (List ℕ)) AdfError} (Ok (link_text_at files node)) (Ok None)) → (reached : Reached) → reached ≡ record { node = node; left = left } → IsToldFrom files before node → follow files node left ≡ Ok (spot_of reached)
  no_link found reached is told = at_node files node left few (same_Ok (found (own_told told))) ∙ ap (λ (r : Reached). Ok (spot_of r)) (sym is)

  -- a link was read: what comes of it
  module _ (first : Devices) (mid : Files) (leaves : OnlyAsks files before first mid) (number : ℕ) (text wanted path : List ℕ)
      (found : IsSeen files before node.file first as_is (Ok (link_text_at files node)) (Ok (Some text))) (is_file : wanted ≡ file_part text) (is_path : path ≡ path_part text) where
    is_text : IsToldFrom files before node → link_text_at files node ≡ Some text
    is_text told = same_Ok (found (own_told told))

    -- so all files tell
    all_told : IsToldFrom files before node → IsTold files before
    all_told told = elim told [ inl all ↦ all | inr own ↦ absurd (not_there text (sym own.1 ∙ same_Ok (found own.0))) ]

    pub too_many : left ≡ 0 → IsWalked (IsToldFrom files before node) LinkMissing files before first spot_of (follow files node left) (Err AdfError.LinkChain)
    too_many none = (tt, λ told. at_last files node left text none (is_text told))

    module _ (some : 0 < left) where
      abbrev start : Spot
      start = record { node = record { file = number; serial = 0 }; left = left - 1 }

      abbrev along_mid : Result Spot AdfError
      along_mid = walk (follow mid) (child_in mid) LinkMissing (components path) start

      there : (r : Result ℕ AdfError) → r ≡ linked_file mid node.file wanted → r ≡ linked_file files node.file (file_part text)
      there r e = e ∙ ap (λ f. linked_file f node.file wanted) leaves.files_stay ∙ ap (linked_file files node.file) is_file

      along_here : (r : Result Spot AdfError) → along_mid ≡ r → walk (follow files) (child_in files) LinkMissing (components (path_part text)) start ≡ r
      along_here r e = sym (ap (λ f. walk (follow f) (child_in f) LinkMissing (components path) start) leaves.files_stay ∙ ap (λ p. walk (follow files) (child_in files) LinkMissing (components p) start) is_path) ∙ e

      pub file_fails : (error : AdfError) → Err error ≡ linked_file mid node.file wanted → IsWalked (IsToldFrom files before node) LinkMissing files before first spot_of (follow files node left) (Err error)
      file_fails error e = by_error (unlinked files node.file (file_part text) error (there (Err error) e))
        where
          Fails : AdfError → Type 0
          Fails x = IsWalked (IsToldFrom files before node) LinkMissing files before first spot_of (follow files node left) (Err x)

          gone : IsToldFrom files before node → follow files node left ≡ Err error
          gone told = no_file files node left text error few some (is_text told) (there (Err error) e)

          by_error : (error ≡ LinkMissing) ⊎ (error ≡ AdfError.Broken) → Fails error
          by_error (inl is) = subst Fails (sym is) (tt, λ told. gone told ∙ ap Err is)
          by_error (inr is) = subst Fails (sym is) (broken_link files node.file (file_part text) (ap Err (sym is) ∙ there (Err error) e), λ told. gone told ∙ ap Err is)

      module _ (link : Ok number ≡ linked_file mid node.file wanted) where
        pub path_fails : (now : Devices) (error : AdfError) → IsWalked (IsTold mid first) LinkMissing mid first now spot_of along_mid (Err error)
            → IsWalked (IsToldFrom files before node) LinkMissing files before now spot_of (follow files node left) (Err error)
        path_fails now error h =
            passed_on (IsToldFrom files before node) (IsTold mid first) (HasWalkCause LinkMissing mid first now) (HasWalkCause LinkMissing files before now) spot_of spot_of along_mid (follow files node left) error
            (walk_before LinkMissing files mid before first now error leaves) (λ told. told_on files mid before first leaves (all_told told))
            (λ told e. no_path files node left number text error few some (is_text told) (there (Ok number) link) (along_here (Err error) e)) h

        pub path_leads : (last : Reached) (after : Files) (second now : Devices) (result : Result Reached AdfError) → OnlyAsks mid first second after
            → (IsTold mid first → along_mid ≡ Ok (spot_of last))
            → IsWalked (IsToldFrom after second last.node) LinkMissing after second now spot_of (follow after last.node last.left) result
            → IsWalked (IsToldFrom files before node) LinkMissing files before now spot_of (follow files node left) result
        path_leads last after second now result later walked h =
            let both = asks_more files mid after before first second leaves later in
            goes_on (IsToldFrom files before node) (IsToldFrom after second last.node) (HasWalkCause LinkMissing after second now) (HasWalkCause LinkMissing files before now) spot_of (follow after last.node last.left) (follow files node left) result
            (λ error. walk_before LinkMissing files after before second now error both)
            (λ told. inl (told_on files after before second both (all_told told)))
            (λ told. at_path files node left number text (spot_of last) few some (is_text told) (there (Ok number) link) (along_here (Ok (spot_of last)) (walked (told_on files mid before first leaves (all_told told))))
            ∙ ap (λ f. follow f last.node last.left) (sym both.files_stay)) h

-- ---- a name of a path is taken

module _ (files reached : Files) (before first : Devices) (leaves : OnlyAsks files before first reached) (missing : AdfError) (whole : Result Spot AdfError) (path : List ℕ) (ranges : List PathRange) (i : ℕ) (d : PathRange) (within : i < length ranges) (spot : Reached)
    (so_far : IsTold files before → whole ≡ walk (follow files) (child_in files) missing (map (text_at path) (drop i ranges)) (spot_of spot)) where
  abbrev wanted : List ℕ
  wanted = text_at path (get_or ranges i d)

  abbrev names : List (List ℕ)
  names = map (text_at path) (drop (i + 1) ranges)

  same : reached ≡ files
  same = leaves.files_stay

  one_on : IsTold files before → whole ≡ walk (follow files) (child_in files) missing (wanted ∷ names) (spot_of spot)
  one_on told = so_far told ∙ ap (λ l. walk (follow files) (child_in files) missing (map (text_at path) l) (spot_of spot)) (drop_more ranges i d within)

  on : IsTold files before → IsTold reached first
  on = told_on files reached before first leaves

  pub follow_fails : (second : Devices) (error : AdfError) → IsWalked (IsToldFrom reached first spot.node) LinkMissing reached first second spot_of (follow reached spot.node spot.left) (Err error)
      → IsWalked (IsTold files before) missing files before second spot_of whole (Err error)
  follow_fails second error h =
      passed_on (IsTold files before) (IsToldFrom reached first spot.node) (HasWalkCause LinkMissing reached first second) (HasWalkCause missing files before second) spot_of spot_of (follow reached spot.node spot.left) whole error
      (λ cause. walk_before missing files reached before first second error leaves (links_walk missing reached first second error cause)) (λ told. inl (on told))
      (λ told e. one_on told ∙ no_follow files missing wanted names (spot_of spot) error (ap (λ f. follow f spot.node spot.left) (sym same) ∙ e)) h

  module _ (here : Reached) (mid : Files) (second : Devices) (later : OnlyAsks reached first second mid) (is_here : IsToldFrom reached first spot.node → follow reached spot.node spot.left ≡ Ok (spot_of here)) where
    both : OnlyAsks files before second mid
    both = asks_more files reached mid before first second leaves later

    at_here : IsTold files before → follow files spot.node spot.left ≡ Ok (spot_of here)
    at_here told = ap (λ f. follow f spot.node spot.left) (sym same) ∙ is_here (inl (on told))

    off : IsTold files before → IsToldIn mid second here.node.file
    off told = told_on files mid before second both told here.node.file

    looked_up : (o : Option NodeId) → ◌≡◌ {A = Result (Option NodeId) AdfError} (Ok (child_in mid here.node wanted)) (Ok o) → child_in files here.node wanted ≡ o
    looked_up o e = ap (λ f. child_in f here.node wanted) (sym both.files_stay) ∙ same_Ok e

    pub child_fails : (third : Devices) (error : AdfError) → IsSeen mid second here.node.file third (as_child here.node.file) (Ok (child_in mid here.node wanted)) (Err error)
        → IsWalked (IsTold files before) missing files before third spot_of whole (Err error)
    child_fails third error h =
        passed_on (IsTold files before) (IsToldIn mid second here.node.file) (HasLookCause mid here.node.file second third) (HasWalkCause missing files before third) (as_child here.node.file) spot_of (Ok (child_in mid here.node wanted)) whole error
        (λ cause. walk_before missing files mid before second third error both (look_walks missing mid here.node.file second third error cause)) off
        (λ told e. absurd (not_both (child_in mid here.node wanted) error e)) h
      where
        not_both : (o : Option NodeId) (e : AdfError) → ◌≡◌ {A = Result (Option NodeId) AdfError} (Ok o) (Err e) → ⊥
        not_both o e h = cc

    pub child_missing : (third : Devices) → (missing ≡ LinkMissing) ⊎ (missing ≡ NotFound) → IsSeen mid second here.node.file third (as_child here.node.file) (Ok (child_in mid here.node wanted)) (Ok None)
        → IsWalked (IsTold files before) missing files before third spot_of whole (Err missing)
    child_missing third is h = by_error is
      where
        Fails : AdfError → Type 0
        Fails x = IsWalked (IsTold files before) missing files before third spot_of whole (Err x)

        gone : IsTold files before → whole ≡ Err missing
        gone told = one_on told ∙ no_name files missing wanted names (spot_of spot) (spot_of here) (at_here told) (looked_up None (h (off told)))

        by_error : (missing ≡ LinkMissing) ⊎ (missing ≡ NotFound) → Fails missing
        by_error (inl e) = subst Fails (sym e) (tt, λ told. gone told ∙ ap Err e)
        by_error (inr e) = subst Fails (sym e) (sym e, λ told. gone told ∙ ap Err e)

    pub child_taken : (serial : ℕ) → (IsToldIn mid second here.node.file → ◌≡◌ {A = Result (Option NodeId) AdfError} (Ok (child_in mid here.node wanted)) (Ok (Some (record { file = here.node.file; serial = serial })))) → IsTold files before
        → whole ≡ walk (follow files) (child_in files) missing (map (text_at path) (drop (i + 1) ranges)) (record { node = record { file = here.node.file; serial = serial }; left = here.left })
    child_taken serial h told = one_on told ∙ one_name files missing wanted names (spot_of spot) (spot_of here) (record { file = here.node.file; serial = serial }) (at_here told) (looked_up (Some (record { file = here.node.file; serial = serial })) (h (off told)))

-- ---- where walks stand

-- a walk that begins in an open file stands in one
pub opened_on : (files mid after : Files) (before first second : Devices) (node : NodeId) (number : ℕ) (wanted : List ℕ) (last : Reached) (result : Result Reached AdfError) → OnlyAsks files before first mid → OnlyAsks mid first second after
    → Ok number ≡ linked_file mid node.file wanted → (IsSome (open_at mid number) → IsSome (open_at mid last.node.file))
    → (IsSome (open_at after last.node.file) → IfOk result (λ (reached : Reached). IsSome (open_at after reached.node.file)))
    → IsSome (open_at files node.file) → IfOk result (λ (reached : Reached). IsSome (open_at files reached.node.file))
opened_on files mid after before first second node number wanted last result leaves later link walked followed there =
    let here : IsSome (open_at mid node.file) = subst (λ (f : Files). IsSome (open_at f node.file)) (sym leaves.files_stay) there in
    let last_there : IsSome (open_at mid last.node.file) = walked (link_opens mid node.file number wanted link here) in
    subst (λ (f : Files). IfOk result (λ (reached : Reached). IsSome (open_at f reached.node.file))) (later.files_stay ∙ leaves.files_stay)
    (followed (subst (λ (f : Files). IsSome (open_at f last.node.file)) (sym later.files_stay) last_there))

-- the node alone, where it is not reached
pub reach_fails : (files : Files) (before now : Devices) (node : NodeId) (error : AdfError) → IsWalked (IsToldFrom files before node) LinkMissing files before now spot_of (follow files node 100) (Err error)
    → IsWalked (IsToldFrom files before node) LinkMissing files before now as_is (reach files node) (Err error)
reach_fails files before now node error h = passed_on (IsToldFrom files before node) (IsToldFrom files before node) (HasWalkCause LinkMissing files before now) (HasWalkCause LinkMissing files before now) spot_of as_is (follow files node 100) (reach files node) error
    (λ cause. cause) (λ told. told) (λ told e. ap (λ r. and_then r (λ (spot : Spot). Ok spot.node)) e) h
