-- A path along nodes that are no links, and the answer to a query.
use Rattle.std.proofs.Common.{◌≡◌, ℕ, ◌+◌, ◌<◌, refl, sym, ◌∙◌, ap, subst, List, [], ◌∷◌, map, drop, get_or, length, Bool, true, false, ◌||◌, not}
use Rattle.std.proofs.lemmas.List.{drop_more}
use Rattle.std.specs.Prelude.{Option, Some, None, if◌then◌else◌, is_some, Result, Ok, Err}
use Rattle.adf_format.specs.Links.{components}
use Rattle.adf_format.specs.Tree.{Tree, Node, child_named, is_link_in, node_at}
use Rattle.adf_links.specs.Components.{text_at}
use Rattle.adf_model.proofs.Basics.{same_Ok}
use Rattle.adf_model.specs.Answers.{answering_by, asked_node, field_within, file_reply, is_followed, searched}
use Rattle.adf_model.specs.Follow.{Spot, as_child, child_within, search_path, start_of, stay, walk}
use Rattle.adf_model.specs.Steps.{IsFileAnswer}
use Rattle.adf_model.specs.Tests.{and_then, if_there}
use Rattle.adf_model.specs.declared.error.AdfError.{AdfError}
use Rattle.adf_model.specs.declared.error.AdfError.TheVariants as error
use Rattle.adf_model.specs.declared.lists.PathRange.{PathRange}
use Rattle.adf_model.specs.declared.tree.NodeId.{NodeId}
use Rattle.adf_model.specs.declared.tree.Query.{Query}
use Rattle.adf_model.specs.declared.tree.Query.TheVariants.{Find}
use Rattle.adf_model.specs.declared.tree.Reply.{Reply}
use Rattle.tree_asks.specs.Told.{IsWanted, OfEach, Tells}
use Rattle.tree_edits.proofs.Nodes.{no_node, the_node}
use Rattle.tree_edits.specs.Edits.{memory_of}
use Rattle.tree_edits.specs.Rows.{row_of}
use Rattle.tree_edits.specs.declared.memory.Core.{Core}
use Rattle.tree_edits.specs.declared.rows.Row.{Row}
use Rattle.adf_tree.proofs.AskLooks.{tells_on}
use Rattle.adf_tree.specs.Asks.{enters_at, next_along, stays_at, stays_if}

-- ---- a node that stays

abbrev spot_at : NodeId → Spot
spot_at node = record { node = node; left = 100 }

abbrev stay_if : Bool → NodeId → Result Spot AdfError
stay_if link node = if link then Err error.LinkMissing else Ok (spot_at node)

stays_on : {A : Type 0} (b : Bool) (node : NodeId) (next : Spot → Result A AdfError) → stays_if b ≡ Ok tt → and_then (stay_if b node) next ≡ next (spot_at node)
stays_on true node next h = cc
stays_on false node next h = refl

stops_on : {A : Type 0} (b : Bool) (node : NodeId) (next : Spot → Result A AdfError) (e : AdfError) → stays_if b ≡ Err e → and_then (stay_if b node) next ≡ Err e
stops_on true node next e h = let same : error.LinkMissing ≡ e = cc in ap (λ (x : AdfError). Err x) same
stops_on false node next e h = cc

-- ---- one name

pub along_stops : (node : NodeId) (wanted : List ℕ) (e : AdfError) (tree : Tree) → stays_at tree node.serial ≡ Err e → next_along tree node wanted ≡ Err e
along_stops node wanted e tree h = stops_on (is_link_in (node_at tree node.serial)) node (λ (here : Spot). if_there (child_within tree here.node wanted) error.NotFound (λ (next : NodeId). Ok next)) e h

along_goes : (node : NodeId) (wanted : List ℕ) (tree : Tree) → stays_at tree node.serial ≡ Ok tt → next_along tree node wanted ≡ if_there (child_within tree node wanted) error.NotFound (λ (next : NodeId). Ok next)
along_goes node wanted tree h = stays_on (is_link_in (node_at tree node.serial)) node (λ (here : Spot). if_there (child_within tree here.node wanted) error.NotFound (λ (next : NodeId). Ok next)) h

abbrev pub child_or : Tree → NodeId → List ℕ → Result NodeId AdfError
child_or tree node wanted = if_there (child_within tree node wanted) error.NotFound (λ (next : NodeId). Ok next)

abbrev pub found_or : NodeId → Option ℕ → Result NodeId AdfError
found_or node found = if_there (as_child node.file found) error.NotFound (λ (next : NodeId). Ok next)

module _ (core : Core) (node : NodeId) (wanted : List ℕ) where
  pub child_found : (held : Option (List ℕ)) (found : Option ℕ) → Tells core held (λ tree. Ok (child_named tree node.serial wanted)) (Ok found) → Tells core held (λ tree. child_or tree node wanted) (found_or node found)
  child_found None None t = tt
  child_found None (Some serial) t = tt
  child_found (Some image) None t = λ tree p m. ap (found_or node) (same_Ok (t tree p m))
  child_found (Some image) (Some serial) t = λ tree p m. ap (found_or node) (same_Ok (t tree p m))

  pub goes_along : (held : Option (List ℕ)) (result : Result NodeId AdfError) → Tells core held (λ tree. stays_at tree node.serial) (Ok tt) → Tells core held (λ tree. child_or tree node wanted) result
      → Tells core held (λ tree. next_along tree node wanted) result
  goes_along None result s t = tt
  goes_along (Some image) result s t = λ tree p m. subst (λ (w : Result NodeId AdfError). IsWanted w result) (sym (along_goes node wanted tree (s tree p m))) (t tree p m)

-- a value that is there is refused by nothing
pub never_refused : {A B : Type 0} (a : A) (b : Result B AdfError) (e : AdfError) → ◌≡◌ {A = Result A AdfError} (Ok a) (Err e) → b ≡ Err e
never_refused a b e h = cc

-- ---- a path

abbrev whole_walk : Tree → NodeId → List ℕ → Result Spot AdfError
whole_walk tree node path = walk (stay tree) (child_within tree) error.NotFound (components path) (spot_at (start_of node path))

-- so far the names lead there
abbrev pub IsAlong : Core → Option (List ℕ) → NodeId → List ℕ → List PathRange → ℕ → NodeId → Type 0
IsAlong core held node path ranges i at =
    OfEach core held (λ image tree p. whole_walk tree node path ≡ walk (stay tree) (child_within tree) error.NotFound (map (text_at path) (drop i ranges)) (spot_at at))

one_more : {A : Type 0} (o : Option NodeId) (next : NodeId) (f : NodeId → Result A AdfError) → ◌≡◌ {A = Result NodeId AdfError} (if_there o error.NotFound (λ (n : NodeId). Ok n)) (Ok next) → if_there o error.NotFound f ≡ f next
one_more None next f h = cc
one_more (Some n) next f h = ap f (same_Ok h)

no_more : {A : Type 0} (o : Option NodeId) (e : AdfError) (f : NodeId → Result A AdfError) → ◌≡◌ {A = Result NodeId AdfError} (if_there o error.NotFound (λ (n : NodeId). Ok n)) (Err e) → if_there o error.NotFound f ≡ Err e
no_more None e f h = let same : error.NotFound ≡ e = cc in ap (λ (x : AdfError). Err x) same
no_more (Some n) e f h = cc

-- a step by whether the node is a link
step_on : {A : Type 0} (b : Bool) (node next : NodeId) (c : NodeId → Option NodeId) (f : Spot → NodeId → Result A AdfError)
    → ◌≡◌ {A = Result NodeId AdfError} (and_then (stay_if b node) (λ (here : Spot). if_there (c here.node) error.NotFound (λ (n : NodeId). Ok n))) (Ok next)
    → and_then (stay_if b node) (λ (here : Spot). if_there (c here.node) error.NotFound (f here)) ≡ f (spot_at node) next
step_on true node next c f h = cc
step_on false node next c f h = one_more (c node) next (f (spot_at node)) h

step_off : {A : Type 0} (b : Bool) (node : NodeId) (e : AdfError) (c : NodeId → Option NodeId) (f : Spot → NodeId → Result A AdfError)
    → ◌≡◌ {A = Result NodeId AdfError} (and_then (stay_if b node) (λ (here : Spot). if_there (c here.node) error.NotFound (λ (n : NodeId). Ok n))) (Err e)
    → and_then (stay_if b node) (λ (here : Spot). if_there (c here.node) error.NotFound (f here)) ≡ Err e
step_off true node e c f h = let same : error.LinkMissing ≡ e = cc in ap (λ (x : AdfError). Err x) same
step_off false node e c f h = no_more (c node) e (f (spot_at node)) h

module _ (core : Core) (held : Option (List ℕ)) (node : NodeId) (path : List ℕ) (ranges : List PathRange) where
  pub walk_begins : map (text_at path) ranges ≡ components path → IsAlong core held node path ranges 0 (start_of node path)
  walk_begins texts = by_held held
    where
      drop_none : (xs : List PathRange) → drop 0 xs ≡ xs
      drop_none [] = refl
      drop_none (x ∷ xs) = refl

      by_held : (h : Option (List ℕ)) → IsAlong core h node path ranges 0 (start_of node path)
      by_held None = tt
      by_held (Some image) = λ tree p m.
          ap (λ (names : List (List ℕ)). walk (stay tree) (child_within tree) error.NotFound names (spot_at (start_of node path))) (sym texts ∙ ap (map (text_at path)) (sym (drop_none ranges)))

  module _ (i : ℕ) (d : PathRange) (at : NodeId) where
    abbrev wanted : List ℕ
    wanted = text_at path (get_or ranges i d)

    abbrev rest : Tree → Spot → NodeId → Result Spot AdfError
    rest tree here next = walk (stay tree) (child_within tree) error.NotFound (map (text_at path) (drop (i + 1) ranges)) (record { node = next; left = here.left })

    first : (tree : Tree) → i < length ranges → walk (stay tree) (child_within tree) error.NotFound (map (text_at path) (drop i ranges)) (spot_at at)
        ≡ walk (stay tree) (child_within tree) error.NotFound (wanted ∷ map (text_at path) (drop (i + 1) ranges)) (spot_at at)
    first tree within = ap (λ (l : List PathRange). walk (stay tree) (child_within tree) error.NotFound (map (text_at path) l) (spot_at at)) (drop_more ranges i d within)

    pub walk_goes_on : (now : Option (List ℕ)) (next : NodeId) → now ≡ held → i < length ranges → IsAlong core held node path ranges i at → Tells core now (λ tree. next_along tree at wanted) (Ok next)
        → IsAlong core held node path ranges (i + 1) next
    walk_goes_on now next same within along t = by_held held along (subst (λ (h : Option (List ℕ)). Tells core h (λ tree. next_along tree at wanted) (Ok next)) same t)
      where
        by_held : (h : Option (List ℕ)) → IsAlong core h node path ranges i at → Tells core h (λ tree. next_along tree at wanted) (Ok next) → IsAlong core h node path ranges (i + 1) next
        by_held None a t = tt
        by_held (Some image) a t = λ tree p m.
            a tree p m ∙ first tree within
            ∙ step_on (is_link_in (node_at tree at.serial)) at next (λ (n : NodeId). child_within tree n wanted) (rest tree) (t tree p m)

    pub walk_stops : (now : Option (List ℕ)) (e : AdfError) → now ≡ held → i < length ranges → IsAlong core held node path ranges i at → Tells core now (λ tree. next_along tree at wanted) (Err e)
        → Tells core held (λ tree. search_path (stay tree) (child_within tree) error.NotFound node path) (Err e)
    walk_stops now e same within along t = by_held held along (subst (λ (h : Option (List ℕ)). Tells core h (λ tree. next_along tree at wanted) (Err e)) same t)
      where
        by_error : (tree : Tree) (x : AdfError) → whole_walk tree node path ≡ walk (stay tree) (child_within tree) error.NotFound (map (text_at path) (drop i ranges)) (spot_at at) → IsWanted (next_along tree at wanted) (Err x)
            → IsWanted (search_path (stay tree) (child_within tree) error.NotFound node path) (Err x)
        by_error tree error.Memory a w = tt
        by_error tree error.ReadFault a w = tt
        by_error tree x a w = ap (λ (r : Result Spot AdfError). and_then r (λ (spot : Spot). Ok spot.node))
            (a ∙ first tree within ∙ step_off (is_link_in (node_at tree at.serial)) at x (λ (n : NodeId). child_within tree n wanted) (rest tree) w)

        by_held : (h : Option (List ℕ)) → IsAlong core h node path ranges i at → Tells core h (λ tree. next_along tree at wanted) (Err e)
            → Tells core h (λ tree. search_path (stay tree) (child_within tree) error.NotFound node path) (Err e)
        by_held None a t = tt
        by_held (Some image) a t = λ tree p m. by_error tree e (a tree p m) (t tree p m)

    -- all names are taken
    pub walk_ends : drop i ranges ≡ [] → IsAlong core held node path ranges i at → Tells core held (λ tree. search_path (stay tree) (child_within tree) error.NotFound node path) (Ok at)
    walk_ends none along = by_held held along
      where
        by_held : (h : Option (List ℕ)) → IsAlong core h node path ranges i at → Tells core h (λ tree. search_path (stay tree) (child_within tree) error.NotFound node path) (Ok at)
        by_held None a = tt
        by_held (Some image) a = λ tree p m.
            ap (λ (r : Result Spot AdfError). and_then r (λ (spot : Spot). Ok spot.node))
            (a tree p m ∙ ap (λ (l : List PathRange). walk (stay tree) (child_within tree) error.NotFound (map (text_at path) l) (spot_at at)) none)

pub all_dropped : (xs : List PathRange) (i : ℕ) → i ≡ length xs → drop i xs ≡ []
all_dropped xs i e = ap (λ (k : ℕ). drop k xs) e ∙ whole xs
  where
    whole : (ys : List PathRange) → drop (length ys) ys ≡ []
    whole [] = refl
    whole (y ∷ ys) = whole ys

-- ---- queries

abbrev reached : Tree → Query → Result NodeId AdfError
reached tree query = answering_by (stay tree) query

abbrev entered_if : Bool → Bool → Result (Unit {0}) AdfError
entered_if through link = if through then stays_if link else Ok tt

abbrev reached_if : Bool → Bool → NodeId → Result NodeId AdfError
reached_if through link node = if through then and_then (stay_if link node) (λ (spot : Spot). Ok spot.node) else Ok node

enters : (through link : Bool) (node : NodeId) → entered_if through link ≡ Ok tt → reached_if through link node ≡ Ok node
enters true true node h = cc
enters true false node h = refl
enters false link node h = refl

refuses : (through link : Bool) (node : NodeId) (e : AdfError) → entered_if through link ≡ Err e → reached_if through link node ≡ Err e
refuses true true node e h = let same : error.LinkMissing ≡ e = cc in ap (λ (x : AdfError). Err x) same
refuses true false node e h = cc
refuses false link node e h = cc

module _ (core : Core) (query : Query) (at : NodeId) (through : Bool) (is_at : at ≡ asked_node query) (is_through : through ≡ is_followed query) (held : Option (List ℕ)) where
  -- the tests of the very node that the query names
  asked_enters : (result : Result (Unit {0}) AdfError) → Tells core held (λ tree. enters_at through tree at.serial) result → Tells core held (λ tree. enters_at (is_followed query) tree (asked_node query).serial) result
  asked_enters result t =
      subst (λ (b : Bool). Tells core held (λ tree. enters_at b tree (asked_node query).serial) result) is_through
      (subst (λ (n : NodeId). Tells core held (λ tree. enters_at through tree n.serial) result) is_at t)

  pub node_refused : (e : AdfError) → Tells core held (λ tree. enters_at through tree at.serial) (Err e) → Tells core held (λ tree. and_then (reached tree query) (λ (n : NodeId). field_within tree n query)) (Err e)
  node_refused e t = tells_on core held _ _ e (λ tree h. ap (λ (r : Result NodeId AdfError). and_then r (λ (n : NodeId). field_within tree n query)) (refuses (is_followed query) (is_link_in (node_at tree (asked_node query).serial)) (asked_node query) e h)) (asked_enters (Err e) t)

  pub node_answered : (result : Result Reply AdfError) → Tells core held (λ tree. enters_at through tree at.serial) (Ok tt) → Tells core held (λ tree. field_within tree at query) result
      → Tells core held (λ tree. and_then (reached tree query) (λ (n : NodeId). field_within tree n query)) result
  node_answered result e t = by_held held (asked_enters (Ok tt) e) (subst (λ (n : NodeId). Tells core held (λ tree. field_within tree n query) result) is_at t)
    where
      by_held : (h : Option (List ℕ)) → Tells core h (λ tree. enters_at (is_followed query) tree (asked_node query).serial) (Ok tt) → Tells core h (λ tree. field_within tree (asked_node query) query) result
          → Tells core h (λ tree. and_then (reached tree query) (λ (n : NodeId). field_within tree n query)) result
      by_held None e t = tt
      by_held (Some image) e t = λ tree p m.
          subst (λ (wanted : Result Reply AdfError). IsWanted wanted result)
          (sym (ap (λ (r : Result NodeId AdfError). and_then r (λ (n : NodeId). field_within tree n query)) (enters (is_followed query) (is_link_in (node_at tree (asked_node query).serial)) (asked_node query) (e tree p m)))) (t tree p m)

-- ---- the answer of the model

-- the node is there, so nothing is refused before it is looked at
abbrev file_answers : Bool → Result Reply AdfError → Result Reply AdfError → Type 0
file_answers gone answer (Err error.Memory) = Unit {0}
file_answers gone answer (Err error.ReadFault) = ◌≡◌ {A = Option AdfError} (if gone then Some error.NoSuchNode else None) None
file_answers gone answer result = result ≡ (if gone then Err error.NoSuchNode else answer)

answers_there : (gone : Bool) (answer result : Result Reply AdfError) → gone ≡ false → IsWanted answer result → file_answers gone answer result
answers_there gone answer (Ok reply) is w = sym w ∙ ap (λ (b : Bool). if b then Err error.NoSuchNode else answer) (sym is)
answers_there gone answer (Err error.Memory) is w = tt
answers_there gone answer (Err error.ReadFault) is w = ap (λ (b : Bool). if b then Some error.NoSuchNode else None) is
answers_there gone answer (Err e) is w = sym w ∙ ap (λ (b : Bool). if b then Err error.NoSuchNode else answer) (sym is)

module _ (core : Core) (query : Query) where
  pub answers_gone : (held : Option (List ℕ)) → row_of core.rows.items (asked_node query).serial ≡ None → OfEach core held (λ image tree p. IsFileAnswer false tree query (Err error.NoSuchNode))
  answers_gone None none = tt
  answers_gone (Some image) none = λ tree p m.
      ap (λ (o : Option Node). if not (is_some o) || false then Err error.NoSuchNode else file_reply tree query (searched query)) (sym (no_node image (memory_of core) (asked_node query).serial none tree p m))

  pub answers_found : (row : Row) → row_of core.rows.items (asked_node query).serial ≡ Some row → (held : Option (List ℕ)) (result : Result Reply AdfError)
      → Tells core held (λ tree. file_reply tree query (searched query)) result → OfEach core held (λ image tree p. IsFileAnswer false tree query result)
  answers_found row found None result t = tt
  answers_found row found (Some image) result t = λ tree p m.
      let n = the_node image (memory_of core) (asked_node query).serial row found tree p m in
      answers_there (not (is_some (node_at tree (asked_node query).serial)) || false) (file_reply tree query (searched query)) result (ap (λ (o : Option Node). not (is_some o) || false) n.is.live) (t tree p m)

-- ---- what the model answers to a query, by its parts

pub found_node : (core : Core) (held : Option (List ℕ)) (node found : NodeId) (path : List ℕ) → Tells core held (λ tree. search_path (stay tree) (child_within tree) error.NotFound node path) (Ok found)
    → Tells core held (λ tree. and_then (search_path (stay tree) (child_within tree) error.NotFound node path) (λ (n : NodeId). Ok (Reply.Node n))) (Ok (Reply.Node found))
found_node core None node found path t = tt
found_node core (Some image) node found path t = λ tree p m. ap (λ (r : Result NodeId AdfError). and_then r (λ (n : NodeId). Ok (Reply.Node n))) (t tree p m)

pub not_found : (node : NodeId) (path : List ℕ) (e : AdfError) (tree : Tree) → search_path (stay tree) (child_within tree) error.NotFound node path ≡ Err e
    → and_then (search_path (stay tree) (child_within tree) error.NotFound node path) (λ (n : NodeId). Ok (Reply.Node n)) ≡ Err e
not_found node path e tree h = ap (λ (r : Result NodeId AdfError). and_then r (λ (n : NodeId). Ok (Reply.Node n))) h

not_searched : (query : Query) → ((node : NodeId) (path : List ℕ) → query ≡ Find node path → ⊥) → searched query ≡ None
not_searched (Find node path) plain = absurd (plain node path refl)
not_searched query plain = refl

module _ (core : Core) (query : Query) (held : Option (List ℕ)) (result : Result Reply AdfError) where
  -- of a query that searches no path
  pub plain_told : ((node : NodeId) (path : List ℕ) → query ≡ Find node path → ⊥) → Tells core held (λ tree. file_reply tree query None) result → Tells core held (λ tree. file_reply tree query (searched query)) result
  plain_told plain t = subst (λ (o : Option (List ℕ)). Tells core held (λ tree. file_reply tree query o) result) (sym (not_searched query plain)) t

  -- and of one that does
  pub search_told : (node : NodeId) (path given : List ℕ) → query ≡ Find node path → given ≡ path → Tells core held (λ tree. file_reply tree (Find node given) (Some given)) result → Tells core held (λ tree. file_reply tree query (searched query)) result
  search_told node path given is same t = subst (λ (q : Query). Tells core held (λ tree. file_reply tree q (searched q)) result) (ap (Find node) same ∙ sym is) t
