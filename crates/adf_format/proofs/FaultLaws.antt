-- Every image has a first fault, and one alone, or none.
use Rattle.std.proofs.Common.{add_assoc, ◌≡◌, ◌⊎◌, inl, inr, ℕ, zero, suc, refl, sym, ◌∙◌, ap, subst, arith, List, [], ◌∷◌, ◌++◌, map, ◌+◌, ◌-◌, ◌<◌, ◌≤◌, Bool, true, false}
use Rattle.std.proofs.lemmas.Bool.Decides.{nat_tests, leb_tells}
use Rattle.std.specs.Prelude.{Option, Some, None, Ok, Err, Result, ◌&&◌, nat_le}
use Rattle.std.specs.List.{AllByRecursion}
use Rattle.adf_format.specs.Fields.{field}
use Rattle.adf_format.specs.Pointer.{place_of}
use Rattle.adf_format.specs.Tiles.{total_length}
use Rattle.adf_format.specs.Checks.{Row, Fault, first_broken, Walk, finished, stopped, passed}
use Rattle.adf_format.specs.FirstFault.{Visit, FreeVisit, free_rows, next_free, free_extent, first_frees, chunk_length, FreeWalk, NodeWalk, is_wide, end_in, found_extents, FirstFault, in_head, at_node, in_list, in_tiling, HasNoFault, head_rows, is_misplaced, extents_found, IsLeastMisplaced, free_rows_at}
use Rattle.adf_format.proofs.WalkLaws.{all_kept, node_walk_ends, room_tells}
use Rattle.adf_format.proofs.CheckLaws.{one_outcome}

both_kept : (a b : Bool) → (a && b) ≡ true → (a ≡ true) × (b ≡ true)
both_kept true b e = (refl, e)
both_kept false b e = cc

free_total : (image : List ℕ) (seen : List FreeVisit) (v : FreeVisit) → total_length (map (free_extent image) (seen ++ v ∷ [])) ≡ total_length (map (free_extent image) seen) + chunk_length image v.place
free_total image [] v = omega arith
free_total image (w ∷ seen) v = rw (free_total image seen v) (sym (add_assoc (chunk_length image w.place) (total_length (map (free_extent image) seen)) (chunk_length image v.place)))

-- a free chunk that breaks no rule has room, and is not empty
free_roomy : (image : List ℕ) (end nodes : ℕ) (seen : List FreeVisit) (v : FreeVisit) → first_broken (free_rows image end nodes seen v) ≡ None
    → (266 + nodes + total_length (map (free_extent image) seen) + chunk_length image v.place ≤ end + 1) × (0 < chunk_length image v.place)
unfolding free_rows_at
free_roomy image end nodes seen v e =
    let kept : AllByRecursion (λ (r : Row). r.kept ≡ true) (free_rows image end nodes seen v) = all_kept (free_rows image end nodes seen v) e in
    let tail : nat_le (v.place + 32) (place_of (field image (v.place + 4) 12) + 4) ≡ true = (both_kept _ _ (both_kept _ _ kept.1.0).0).1 in
    (room_tells end (266 + nodes + total_length (map (free_extent image) seen)) (chunk_length image v.place) kept.1.1.1.1.0, positive v.place (place_of (field image (v.place + 4) 12)) tail)
  where
    positive : (f tail : ℕ) → nat_le (f + 32) (tail + 4) ≡ true → 0 < tail + 4 - f
    positive f tail e = grind (arith, nat_tests)

abbrev Ends : List ℕ → ℕ → ℕ → List FreeVisit → List FreeVisit → Type 0
Ends image end nodes todo seen = (outcome : Result (List FreeVisit) Fault) × Walk (free_rows image end nodes) (next_free image) todo seen outcome

step : (image : List ℕ) (end nodes : ℕ) (v : FreeVisit) (rest seen : List FreeVisit) (o : Option Fault) → first_broken (free_rows image end nodes seen v) ≡ o
    → (o ≡ None → Ends image end nodes (next_free image v ++ rest) (seen ++ v ∷ [])) → Ends image end nodes (v ∷ rest) seen
step image end nodes v rest seen (Some fault) e further = (Err fault, stopped e)
step image end nodes v rest seen None e further = let w : Ends image end nodes (next_free image v ++ rest) (seen ++ v ∷ []) = further refl in (w.0, passed e w.1)

plain : (end n m a c d : ℕ) → end + 2 ≤ suc n + (266 + m + a) → d ≡ a + c → 0 < c → end + 2 ≤ n + (266 + m + d)
plain end n m a c d h k p = omega arith

full : (end m a c : ℕ) → end + 2 ≤ 0 + (266 + m + a) → 266 + m + a + c ≤ end + 1 → 0 < c → ⊥
full end m a c h k p = omega arith

ends : (image : List ℕ) (end nodes n : ℕ) (todo seen : List FreeVisit) → end + 2 ≤ n + (266 + nodes + total_length (map (free_extent image) seen)) → Ends image end nodes todo seen
ends image end nodes n [] seen h = (Ok seen, finished)
ends image end nodes zero (v ∷ rest) seen h =
    step image end nodes v rest seen (first_broken (free_rows image end nodes seen v)) refl
    (λ e. let r : (266 + nodes + total_length (map (free_extent image) seen) + chunk_length image v.place ≤ end + 1) × (0 < chunk_length image v.place) = free_roomy image end nodes seen v e in
    absurd (full end nodes (total_length (map (free_extent image) seen)) (chunk_length image v.place) h r.0 r.1))
ends image end nodes (suc n) (v ∷ rest) seen h =
    step image end nodes v rest seen (first_broken (free_rows image end nodes seen v)) refl
    (λ e. ends image end nodes n (next_free image v ++ rest) (seen ++ v ∷ [])
    (plain end n nodes (total_length (map (free_extent image) seen)) (chunk_length image v.place) (total_length (map (free_extent image) (seen ++ v ∷ []))) h (free_total image seen v) (free_roomy image end nodes seen v e).1))

pub free_walk_ends : (image : List ℕ) (nodes : List Visit) → (outcome : Result (List FreeVisit) Fault) × FreeWalk image nodes outcome
free_walk_ends image nodes =
    ends image (end_in image) (total_length (found_extents image (is_wide image) nodes)) (end_in image + 2) (first_frees image) [] (omega arith)

abbrev LeastBelow : (ℕ → Bool) → ℕ → Type 0
LeastBelow test n = (b : ℕ) × (b < n) × (test b ≡ true) × ((c : ℕ) → c < b → test c ≡ false)

abbrev NoneBelow : (ℕ → Bool) → ℕ → Type 0
NoneBelow test n = (c : ℕ) → c < n → test c ≡ false

below_suc : (c n : ℕ) → c < suc n → (c < n) ⊎ (c ≡ n)
below_suc c n h = elim (leb_tells (suc c) n) [ inl k ↦ inl k.1 | inr k ↦ inr (omega (arith, h, k.1)) ]

none_more : (test : ℕ → Bool) (n c : ℕ) → NoneBelow test n → test n ≡ false → (c < n) ⊎ (c ≡ n) → test c ≡ false
none_more test n c g e (inl h) = g c h
none_more test n c g e (inr h) = ap test h ∙ e

least_step : (test : ℕ → Bool) (n : ℕ) → LeastBelow test n ⊎ NoneBelow test n → (t : Bool) → test n ≡ t → LeastBelow test (suc n) ⊎ NoneBelow test (suc n)
least_step test n (inl found) t e = inl (found.0, omega (arith, found.1), found.2, found.3)
least_step test n (inr none) true e = inl (n, omega arith, e, none)
least_step test n (inr none) false e = inr (λ c h. none_more test n c none e (below_suc c n h))

-- the least number below a bound that passes a test, or none
least_below : (test : ℕ → Bool) (n : ℕ) → LeastBelow test n ⊎ NoneBelow test n
least_below test zero = inr (λ c h. absurd (none c h))
  where
    none : (c : ℕ) → c < 0 → ⊥
    none c h = omega (arith, h)
least_below test (suc n) = least_step test n (least_below test n) (test n) refl

-- every image has a first fault or none
abbrev FaultOrNone : List ℕ → Type 0
FaultOrNone image = ((fault : Fault) × FirstFault image fault) ⊎ ((nodes : List Visit) × (frees : List FreeVisit) × HasNoFault image nodes frees)

abbrev found_by : List ℕ → List Visit → List FreeVisit → ℕ → Bool
found_by image nodes frees b = is_misplaced image (extents_found image nodes frees) b

in_tiles : (image : List ℕ) (nodes : List Visit) (frees : List FreeVisit) → first_broken (head_rows image) ≡ None → NodeWalk image (Ok nodes) → FreeWalk image nodes (Ok frees)
    → LeastBelow (found_by image nodes frees) (end_in image + 1) ⊎ NoneBelow (found_by image nodes frees) (end_in image + 1) → FaultOrNone image
in_tiles image nodes frees e w v (inl found) =
    inl (record { rule = 30; place = found.0 }, in_tiling e w v (record { inside = omega (arith, found.1); misplaced = found.2; least = found.3 }))
in_tiles image nodes frees e w v (inr none) = inr (nodes, frees, record { head = e; node_walk = w; free_walk = v; tiled = λ b h. none b (omega (arith, h)) })

in_frees : (image : List ℕ) (nodes : List Visit) → first_broken (head_rows image) ≡ None → NodeWalk image (Ok nodes) → (outcome : Result (List FreeVisit) Fault) → FreeWalk image nodes outcome → FaultOrNone image
in_frees image nodes e w (Err fault) v = inl (fault, in_list e w v)
in_frees image nodes e w (Ok frees) v = in_tiles image nodes frees e w v (least_below (found_by image nodes frees) (end_in image + 1))

in_nodes : (image : List ℕ) → first_broken (head_rows image) ≡ None → (outcome : Result (List Visit) Fault) → NodeWalk image outcome → FaultOrNone image
in_nodes image e (Err fault) w = inl (fault, at_node e w)
in_nodes image e (Ok nodes) w = let v : (outcome : Result (List FreeVisit) Fault) × FreeWalk image nodes outcome = free_walk_ends image nodes in in_frees image nodes e w v.0 v.1

in_heads : (image : List ℕ) (o : Option Fault) → first_broken (head_rows image) ≡ o → FaultOrNone image
in_heads image (Some fault) e = inl (fault, in_head e)
in_heads image None e = let w : (outcome : Result (List Visit) Fault) × NodeWalk image outcome = node_walk_ends image in in_nodes image e w.0 w.1

pub fault_or_none : (image : List ℕ) → FaultOrNone image
fault_or_none image = in_heads image (first_broken (head_rows image)) refl

-- no image has a fault and none
ok_not_err : {A B : Type 0} (a : A) (f : Fault) → ◌≡◌ {A = Result A Fault} (Ok a) (Err f) → B
ok_not_err a f e = cc

some_none : {A B : Type 0} (o : Option A) (x : A) → o ≡ Some x → o ≡ None → B
some_none o x p q = cc

same_ok : {A : Type 0} (a b : A) → ◌≡◌ {A = Result A Fault} (Ok a) (Ok b) → a ≡ b
same_ok a b e = cc

pub not_both : (image : List ℕ) (nodes : List Visit) (frees : List FreeVisit) (fault : Fault) → HasNoFault image nodes frees → FirstFault image fault → ⊥
not_both image nodes frees fault h (in_head e) = some_none (first_broken (head_rows image)) fault e h.head
not_both image nodes frees fault h (at_node e w) = ok_not_err nodes fault (one_outcome h.node_walk w)
not_both image nodes frees fault h (in_list {nodes = nodes'} e w v) =
    let same : nodes ≡ nodes' = same_ok nodes nodes' (one_outcome h.node_walk w) in
    let v' : FreeWalk image nodes' (Ok frees) = subst (λ (n : List Visit). FreeWalk image n (Ok frees)) same h.free_walk in
    ok_not_err frees fault (one_outcome v' v)
not_both image nodes frees fault h (in_tiling {nodes = nodes'} {frees = frees'} {byte = b} e w v l) =
    let same : nodes ≡ nodes' = same_ok nodes nodes' (one_outcome h.node_walk w) in
    let v' : FreeWalk image nodes' (Ok frees) = subst (λ (n : List Visit). FreeWalk image n (Ok frees)) same h.free_walk in
    let same' : frees ≡ frees' = same_ok frees frees' (one_outcome v' v) in
    let one : is_misplaced image (extents_found image nodes frees) b ≡ false = h.tiled b l.inside in
    let two : is_misplaced image (extents_found image nodes' frees) b ≡ false = subst (λ (n : List Visit). is_misplaced image (extents_found image n frees) b ≡ false) same one in
    let three : is_misplaced image (extents_found image nodes' frees') b ≡ false = subst (λ (n : List FreeVisit). is_misplaced image (extents_found image nodes' n) b ≡ false) same' two in
    true_false (is_misplaced image (extents_found image nodes' frees') b) l.misplaced three
  where
    true_false : (t : Bool) → t ≡ true → t ≡ false → ⊥
    true_false t p q = cc

-- ---- an image has one first fault

same_err : {A : Type 0} (f g : Fault) → ◌≡◌ {A = Result A Fault} (Err f) (Err g) → f ≡ g
same_err f g e = cc

same_some : (f g : Fault) (o : Option Fault) → o ≡ Some f → o ≡ Some g → f ≡ g
same_some f g o p q = cc

head_then : (image : List ℕ) (f g : Fault) → first_broken (head_rows image) ≡ Some f → FirstFault image g → f ≡ g
head_then image f g p (in_head e) = same_some f g (first_broken (head_rows image)) p e
head_then image f g p (at_node e w) = some_none (first_broken (head_rows image)) f p e
head_then image f g p (in_list e w v) = some_none (first_broken (head_rows image)) f p e
head_then image f g p (in_tiling e w v l) = some_none (first_broken (head_rows image)) f p e

node_then : (image : List ℕ) (f g : Fault) → first_broken (head_rows image) ≡ None → NodeWalk image (Err f) → FirstFault image g → f ≡ g
node_then image f g p u (in_head e) = some_none (first_broken (head_rows image)) g e p
node_then image f g p u (at_node e w) = same_err f g (one_outcome u w)
node_then image f g p u (in_list {nodes = nodes} e w v) = ok_not_err nodes f (one_outcome w u)
node_then image f g p u (in_tiling {nodes = nodes} e w v l) = ok_not_err nodes f (one_outcome w u)

moved : (image : List ℕ) (nodes nodes' : List Visit) (outcome : Result (List FreeVisit) Fault) → NodeWalk image (Ok nodes) → NodeWalk image (Ok nodes') → FreeWalk image nodes outcome → FreeWalk image nodes' outcome
moved image nodes nodes' outcome u w v = subst (λ (n : List Visit). FreeWalk image n outcome) (same_ok nodes nodes' (one_outcome u w)) v

list_then : (image : List ℕ) (nodes : List Visit) (f g : Fault) → first_broken (head_rows image) ≡ None → NodeWalk image (Ok nodes) → FreeWalk image nodes (Err f) → FirstFault image g → f ≡ g
list_then image nodes f g p u x (in_head e) = some_none (first_broken (head_rows image)) g e p
list_then image nodes f g p u x (at_node e w) = ok_not_err nodes g (one_outcome u w)
list_then image nodes f g p u x (in_list {nodes = nodes'} e w v) = same_err f g (one_outcome (moved image nodes nodes' (Err f) u w x) v)
list_then image nodes f g p u x (in_tiling {nodes = nodes'} {frees = frees} e w v l) = ok_not_err frees f (one_outcome v (moved image nodes nodes' (Err f) u w x))

-- two least numbers that pass a test are one
same_least : (test : ℕ → Bool) (a b : ℕ) → test a ≡ true → test b ≡ true → ((c : ℕ) → c < a → test c ≡ false) → ((c : ℕ) → c < b → test c ≡ false) → a ≡ b
same_least test a b p q h k = elim (leb_tells (suc a) b) [ inl lt ↦ clash (test a) p (k a lt.1) | inr ge ↦ elim (leb_tells (suc b) a) [ inl lt ↦ clash (test b) q (h b lt.1) | inr ge' ↦ omega (arith, ge.1, ge'.1) ] ]
  where
    clash : (t : Bool) → t ≡ true → t ≡ false → a ≡ b
    clash t p q = cc

tiling_then : (image : List ℕ) (nodes : List Visit) (frees : List FreeVisit) (byte : ℕ) (g : Fault) → first_broken (head_rows image) ≡ None → NodeWalk image (Ok nodes) → FreeWalk image nodes (Ok frees)
    → IsLeastMisplaced image (extents_found image nodes frees) (end_in image) byte → FirstFault image g → ◌≡◌ {A = Fault} (record { rule = 30; place = byte }) g
tiling_then image nodes frees byte g p u x m (in_head e) = some_none (first_broken (head_rows image)) g e p
tiling_then image nodes frees byte g p u x m (at_node e w) = ok_not_err nodes g (one_outcome u w)
tiling_then image nodes frees byte g p u x m (in_list {nodes = nodes'} e w v) = ok_not_err frees g (one_outcome (moved image nodes nodes' (Ok frees) u w x) v)
tiling_then image nodes frees byte g p u x m (in_tiling {nodes = nodes'} {frees = frees'} {byte = b} e w v l) =
    let n : nodes ≡ nodes' = same_ok nodes nodes' (one_outcome u w) in
    let f : frees ≡ frees' = same_ok frees frees' (one_outcome (moved image nodes nodes' (Ok frees) u w x) v) in
    let m' : IsLeastMisplaced image (extents_found image nodes' frees) (end_in image) byte = subst (λ (k : List Visit). IsLeastMisplaced image (extents_found image k frees) (end_in image) byte) n m in
    let m'' : IsLeastMisplaced image (extents_found image nodes' frees') (end_in image) byte = subst (λ (k : List FreeVisit). IsLeastMisplaced image (extents_found image nodes' k) (end_in image) byte) f m' in
    ap {B = Fault} (λ k. record { rule = 30; place = k }) (same_least (λ k. is_misplaced image (extents_found image nodes' frees') k) byte b m''.misplaced l.misplaced m''.least l.least)

pub one_fault : (image : List ℕ) (f g : Fault) → FirstFault image f → FirstFault image g → f ≡ g
one_fault image f g (in_head e) h = head_then image f g e h
one_fault image f g (at_node e w) h = node_then image f g e w h
one_fault image f g (in_list {nodes = nodes} e w v) h = list_then image nodes f g e w v h
one_fault image f g (in_tiling {nodes = nodes} {frees = frees} {byte = byte} e w v l) h = tiling_then image nodes frees byte g e w v l h
