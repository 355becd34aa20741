-- Where no link is met, a query about a node of one open file is answered among many files as on its tree.
use Rattle.std.proofs.Common.{◌≡◌, ◌≢◌, ℕ, ◌≤◌, arith, Bool, true, false, not, List, [], ◌∷◌, refl, ◌∙◌, ap}
use Rattle.std.specs.Prelude.{Option, Some, None, ◌||◌, if◌then◌else◌, Result, Ok, Err}
use Rattle.adf_model.specs.declared.error.AdfError.{AdfError}
use Rattle.adf_model.specs.declared.error.AdfError.TheVariants.{NoSuchNode, NotFound, LinkMissing}
use Rattle.adf_model.specs.declared.tree.NodeId.{NodeId}
use Rattle.adf_model.specs.declared.tree.Query.{Query}
use Rattle.adf_model.specs.declared.tree.Reply.{Reply}
use Rattle.adf_format.specs.Tree.{node_at, is_live, child_named, is_link_in}
use Rattle.adf_format.specs.Links.{components, is_absolute}
use Rattle.adf_model.specs.Tests.{checked, and_then, if_there}
use Rattle.adf_model.specs.Slots.{Open, Files, open_at}
use Rattle.adf_model.specs.Follow.{Spot, as_child, child_of_open, child_in, walk, follow, follow_text, text_of_open, reach_by, stay, child_within, start_of}
use Rattle.adf_model.specs.Answers.{asked_node, is_followed, searched, field_within, field_at, reply_by, file_answer, answer}
use Rattle.adf_model.proofs.Following.FollowLaws.{follow-step}
use Rattle.adf_model.proofs.Following.OneFileLaws.{no_text, opened_at, entry_tests, reach_plain}

module _ (files : Files) (number : ℕ) (opened : Open) (here : open_at files number ≡ Some opened) where
  -- a node that is no link is itself
  follow_plain : (node : NodeId) (left : ℕ) → node.file ≡ number → left ≤ 100 → is_link_in (node_at opened.tree node.serial) ≡ false → follow files node left ≡ Ok (record { node = node; left = left })
  follow_plain node left file few plain =
      follow-step files node left few
      ∙ ap (λ t. follow_text (follow files) files node t node left) (ap (λ o. text_of_open o node.serial) (opened_at files number opened here node file) ∙ no_text (node_at opened.tree node.serial) plain)

  child_here : (node : NodeId) (wanted : List ℕ) → node.file ≡ number → child_in files node wanted ≡ child_within opened.tree node wanted
  child_here node wanted file = ap (λ o. child_of_open o node wanted) (opened_at files number opened here node file)

  abbrev walked : AdfError → List (List ℕ) → Spot → Result Spot AdfError
  walked missing names spot = walk (stay opened.tree) (child_within opened.tree) missing names spot

  abbrev next_walked : AdfError → List (List ℕ) → ℕ → Option NodeId → Result Spot AdfError
  next_walked missing names left o = if_there o missing (λ next. walked missing names (record { node = next; left = left }))

  abbrev next_among : AdfError → List (List ℕ) → ℕ → Option NodeId → Result Spot AdfError
  next_among missing names left o = if_there o missing (λ next. walk (follow files) (child_in files) missing names (record { node = next; left = left }))

  walk_alike : (missing : AdfError) (names : List (List ℕ)) (spot : Spot) → spot.node.file ≡ number → spot.left ≤ 100 → walked missing names spot ≢ Err LinkMissing
      → walk (follow files) (child_in files) missing names spot ≡ walked missing names spot
  walk_alike missing [] spot file few no_link = refl
  walk_alike missing (wanted ∷ names) spot file few no_link =
      by_link (λ next f n. walk_alike missing names (record { node = next; left = spot.left }) f few n) (is_link_in (node_at opened.tree spot.node.serial)) refl no_link
    where
      by_child : ((next : NodeId) → next.file ≡ number → walked missing names (record { node = next; left = spot.left }) ≢ Err LinkMissing
          → walk (follow files) (child_in files) missing names (record { node = next; left = spot.left }) ≡ walked missing names (record { node = next; left = spot.left }))
          → (o : Option ℕ) → next_walked missing names spot.left (as_child spot.node.file o) ≢ Err LinkMissing
          → next_among missing names spot.left (as_child spot.node.file o) ≡ next_walked missing names spot.left (as_child spot.node.file o)
      by_child later None no_link = refl
      by_child later (Some serial) no_link = later (record { file = spot.node.file; serial = serial }) file no_link

      by_link : ((next : NodeId) → next.file ≡ number → walked missing names (record { node = next; left = spot.left }) ≢ Err LinkMissing
          → walk (follow files) (child_in files) missing names (record { node = next; left = spot.left }) ≡ walked missing names (record { node = next; left = spot.left }))
          → (b : Bool) → is_link_in (node_at opened.tree spot.node.serial) ≡ b
          → and_then {A = Spot} (if b then Err LinkMissing else Ok (record { node = spot.node; left = spot.left })) (λ (at : Spot). next_walked missing names at.left (child_within opened.tree at.node wanted)) ≢ Err LinkMissing
          → walk (follow files) (child_in files) missing (wanted ∷ names) spot
          ≡ and_then {A = Spot} (if b then Err LinkMissing else Ok (record { node = spot.node; left = spot.left })) (λ (at : Spot). next_walked missing names at.left (child_within opened.tree at.node wanted))
      by_link later true e no_link = absurd (no_link refl)
      by_link later false e no_link =
          ap (λ r. and_then r (λ (at : Spot). next_among missing names at.left (child_in files at.node wanted))) (follow_plain spot.node spot.left file few e)
          ∙ ap (next_among missing names spot.left) (child_here spot.node wanted file)
          ∙ by_child later (child_named opened.tree spot.node.serial wanted) no_link

  -- where a search begins it is in the same file
  start_file : (node : NodeId) (path : List ℕ) → (start_of node path).file ≡ node.file
  start_file node path = by_test (is_absolute path)
    where
      by_test : (b : Bool) → (if b then record { file = node.file; serial = 0 } else node).file ≡ node.file
      by_test true = refl
      by_test false = refl

  hundred : (n : ℕ) → n ≤ n
  hundred n = omega arith

  field_here : (at : NodeId) (query : Query) → at.file ≡ number → field_at files at query ≡ field_within opened.tree at query
  field_here at query file = ap (λ o. if_there o AdfError.NotOpen (λ (there : Open). field_within there.tree at query)) (opened_at files number opened here at file)

  abbrev stays : NodeId → Bool → Result NodeId AdfError
  stays at link = and_then {A = Spot} (if link then Err LinkMissing else Ok (record { node = at; left = 100 })) (λ spot. Ok spot.node)

  same_reply : (query : Query) (path : Option (List ℕ)) → (asked_node query).file ≡ number → reply_by (stay opened.tree) (child_within opened.tree) (field_within opened.tree) query path ≢ Err LinkMissing
      → reply_by (follow files) (child_in files) (field_at files) query path ≡ reply_by (stay opened.tree) (child_within opened.tree) (field_within opened.tree) query path
  same_reply query (Some path) file no_link =
      let begins : Spot = record { node = start_of (asked_node query) path; left = 100 } in
      ap (λ r. and_then (and_then r (λ spot. Ok spot.node)) (λ found. Ok (Reply.Node found)))
      (walk_alike NotFound (components path) begins (start_file (asked_node query) path ∙ file) (hundred 100)
      (λ e. no_link (ap (λ r. and_then (and_then r (λ spot. Ok spot.node)) (λ found. Ok (Reply.Node found))) e)))
  same_reply query None file no_link = by_followed (is_followed query) (is_link_in (node_at opened.tree (asked_node query).serial)) refl no_link
    where
      of_node : field_at files (asked_node query) query ≡ field_within opened.tree (asked_node query) query
      of_node = field_here (asked_node query) query file

      by_followed : (b link : Bool) → is_link_in (node_at opened.tree (asked_node query).serial) ≡ link
          → and_then (if b then stays (asked_node query) link else Ok (asked_node query)) (λ there. field_within opened.tree there query) ≢ Err LinkMissing
          → and_then (if b then reach_by (follow files) (asked_node query) else Ok (asked_node query)) (λ there. field_at files there query) ≡ and_then (if b then stays (asked_node query) link else Ok (asked_node query)) (λ there. field_within opened.tree there query)
      by_followed false link e no_link = of_node
      by_followed true true e no_link = absurd (no_link refl)
      by_followed true false e no_link = ap (λ r. and_then r (λ there. field_at files there query)) (reach_plain files number opened here (asked_node query) file e) ∙ of_node

  entered : (query : Query) (b : Bool) → (asked_node query).file ≡ number
      → checked ((b, NoSuchNode) ∷ []) (reply_by (stay opened.tree) (child_within opened.tree) (field_within opened.tree) query (searched query)) ≢ Err LinkMissing
      → checked ((b, NoSuchNode) ∷ []) (reply_by (follow files) (child_in files) (field_at files) query (searched query))
      ≡ checked ((b, NoSuchNode) ∷ []) (reply_by (stay opened.tree) (child_within opened.tree) (field_within opened.tree) query (searched query))
  entered query true file no_link = refl
  entered query false file no_link = same_reply query (searched query) file no_link

  pub query_as_many : (query : Query) → (asked_node query).file ≡ number → file_answer opened.tree query ≢ Err LinkMissing → answer files query ≡ file_answer opened.tree query
  query_as_many query file no_link =
      entry_tests files number opened here (asked_node query ∷ []) (file, tt) (reply_by (follow files) (child_in files) (field_at files) query (searched query))
      ∙ entered query (not (is_live opened.tree (asked_node query).serial) || false) file no_link
