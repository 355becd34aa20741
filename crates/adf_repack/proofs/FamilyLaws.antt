-- Children that are put into linked lists, from the last node to the first.
use Rattle.std.proofs.Common.{◌≡◌, ◌≢◌, ℕ, zero, suc, ◌+◌, ◌-◌, ◌<◌, ◌≤◌, ◌==◌, Bool, true, false, List, ◌∷◌, length, get_or, set, refl, sym, subst, ◌∙◌, ap, arith, Some}
use Rattle.std.specs.Prelude.{cond, filter, slice_get}
use Rattle.std.specs.List.{range_with_len}
use Rattle.std.proofs.lemmas.List.{get_or-set_other, get_or-set_same, get_or_default}
use Rattle.layout_lint.specs.declared.verdict.NodePlace.{NodePlace}
use Rattle.std.proofs.lemmas.Option.{slice_get-get_or}
use Rattle.adf_repack.specs.Families.{AreParents, IsChain, children_from, is_under}

-- ---- the links

kept_behind : (links : List ℕ) (k v start from : ℕ) (ks : List ℕ) (b : Bool) → k < from → ((s : ℕ) → IsChain links s ks → IsChain (set links k v) s ks)
    → IsChain links start (cond b (from ∷ ks) ks) → IsChain (set links k v) start (cond b (from ∷ ks) ks)
kept_behind links k v start from ks true lt kept (is, some, chain) =
    (is, some, subst (λ (s : ℕ). IsChain (set links k v) s ks) (sym (get_or-set_other links k from v 0 (omega arith))) (kept (get_or links from 0) chain))
kept_behind links k v start from ks false lt kept chain = kept start chain

-- a link that is set before all numbers of a list leaves the list
pub chain_kept : (links : List ℕ) (k v start from n : ℕ) (test : ℕ → Bool) → k < from → IsChain links start (filter test (range_with_len from n))
    → IsChain (set links k v) start (filter test (range_with_len from n))
chain_kept links k v start from zero test lt chain = chain
chain_kept links k v start from (suc n) test lt chain =
    kept_behind links k v start from (filter test (range_with_len (from + 1) n)) (test from) lt (λ s c. chain_kept links k v s (from + 1) n test (omega arith) c) chain

-- ---- one node more

-- the children from one number on, and the node of that number before them if it is one
pub one_more : (m : ℕ) (nodes : List NodePlace) (parent : ℕ) (node : NodePlace) → m < length nodes → slice_get nodes m ≡ Some node
    → children_from m nodes parent ≡ cond (node.parent == parent) (m ∷ children_from (m + 1) nodes parent) (children_from (m + 1) nodes parent)
one_more m nodes parent node lt at =
    let e : length nodes - m ≡ suc (length nodes - (m + 1)) = omega (arith, lt) in
    rw (e, at) refl

put_one : (links firsts ks : List ℕ) (m p own : ℕ) (b : Bool) → (own == p) ≡ b → 0 < m → m < length links → own < length firsts
    → IsChain (set links m (get_or firsts own 0)) (get_or firsts p 0) ks
    → IsChain (set links m (get_or firsts own 0)) (get_or (set firsts own m) p 0) (cond b (m ∷ ks) ks)
put_one links firsts ks m p own true is some within owned chain =
    let same : own ≡ p = grind (arith, is) in (
      ap (λ q. get_or (set firsts own m) q 0) (sym same) ∙ get_or-set_same firsts own m 0 owned,
      some,
      subst (λ (s : ℕ). IsChain (set links m (get_or firsts own 0)) s ks) (ap (λ q. get_or firsts q 0) (sym same) ∙ sym (get_or-set_same links m (get_or firsts own 0) 0 within)) chain,
    )
put_one links firsts ks m p own false is some within owned chain =
    let other : p ≢ own = grind (arith, is) in
    subst (λ (s : ℕ). IsChain (set links m (get_or firsts own 0)) s ks) (sym (get_or-set_other firsts own p m 0 other)) chain

-- a node that is put before the others of its parent
pub put_child : (links firsts : List ℕ) (nodes : List NodePlace) (m p : ℕ) (node : NodePlace) → m < length nodes → slice_get nodes m ≡ Some node → 0 < m
    → length links ≡ length nodes → length firsts ≡ length nodes → node.parent < length nodes
    → IsChain links (get_or firsts p 0) (children_from (m + 1) nodes p)
    → IsChain (set links m (get_or firsts node.parent 0)) (get_or (set firsts node.parent m) p 0) (children_from m nodes p)
put_child links firsts nodes m p node lt at some long wide own chain =
    rw (one_more m nodes p node lt at)
    (put_one links firsts (children_from (m + 1) nodes p) m p node.parent (node.parent == p) refl some (omega (arith, lt, long)) (omega (arith, own, wide))
    (chain_kept links m (get_or firsts node.parent 0) (get_or firsts p 0) (m + 1) (length nodes - (m + 1)) (λ k. is_under p (slice_get nodes k)) (omega arith) chain))

-- ---- the counts

count_one : (counts ks : List ℕ) (m p own : ℕ) (b : Bool) → (own == p) ≡ b → own < length counts → get_or counts p 0 ≡ length ks
    → get_or (set counts own (get_or counts own 0 + 1)) p 0 ≡ length (cond b (m ∷ ks) ks)
count_one counts ks m p own true is owned count =
    let same : own ≡ p = grind (arith, is) in
    ap (λ q. get_or (set counts own (get_or counts own 0 + 1)) q 0) (sym same) ∙ get_or-set_same counts own (get_or counts own 0 + 1) 0 owned
    ∙ ap (λ q. get_or counts q 0 + 1) same ∙ ap (λ n. n + 1) count ∙ omega arith
count_one counts ks m p own false is owned count =
    let other : p ≢ own = grind (arith, is) in
    get_or-set_other counts own p (get_or counts own 0 + 1) 0 other ∙ count

pub count_child : (counts : List ℕ) (nodes : List NodePlace) (m p : ℕ) (node : NodePlace) → m < length nodes → slice_get nodes m ≡ Some node
    → length counts ≡ length nodes → node.parent < length nodes → get_or counts p 0 ≡ length (children_from (m + 1) nodes p)
    → get_or (set counts node.parent (get_or counts node.parent 0 + 1)) p 0 ≡ length (children_from m nodes p)
count_child counts nodes m p node lt at long own count =
    rw (one_more m nodes p node lt at) (count_one counts (children_from (m + 1) nodes p) m p node.parent (node.parent == p) refl (omega (arith, own, long)) count)

-- there are not more of them than nodes from that number on
few_behind : (test : ℕ → Bool) (from n : ℕ) → length (filter test (range_with_len from n)) ≤ n
few_behind test from zero = omega arith
few_behind test from (suc n) = few_cond (test from) (few_behind test (from + 1) n)
  where
    few_cond : (b : Bool) → length (filter test (range_with_len (from + 1) n)) ≤ n → length (cond b (from ∷ filter test (range_with_len (from + 1) n)) (filter test (range_with_len (from + 1) n))) ≤ suc n
    few_cond true le = omega (arith, le)
    few_cond false le = omega (arith, le)

-- ---- as the code has it

module _ (nodes : List NodePlace) (n : ℕ) (d : NodePlace) (some : 1 < n) (within : n ≤ length nodes) (parents : AreParents nodes) where
  abbrev node : NodePlace
  node = get_or nodes (n - 1) d

  at : slice_get nodes (n - 1) ≡ Some node
  at = slice_get-get_or nodes (n - 1) d (omega (arith, some, within))

  pub own : node.parent < length nodes
  own = parents (n - 1) node at

  before : n ≡ n - 1 + 1
  before = omega (arith, some)

  pub put_at : (links firsts : List ℕ) (p v : ℕ) → length links ≡ length nodes → length firsts ≡ length nodes → v ≡ get_or firsts node.parent v
      → IsChain links (get_or firsts p 0) (children_from n nodes p) → IsChain (set links (n - 1) v) (get_or (set firsts node.parent (n - 1)) p 0) (children_from (n - 1) nodes p)
  put_at links firsts p v long wide is chain =
      subst (λ (x : ℕ). IsChain (set links (n - 1) x) (get_or (set firsts node.parent (n - 1)) p 0) (children_from (n - 1) nodes p))
      (sym (is ∙ get_or_default firsts node.parent v 0 (omega (arith, own, wide))))
      (put_child links firsts nodes (n - 1) p node (omega (arith, some, within)) at (omega (arith, some)) long wide own
      (subst (λ (m : ℕ). IsChain links (get_or firsts p 0) (children_from m nodes p)) before chain))

  pub count_at : (counts : List ℕ) (p v : ℕ) → length counts ≡ length nodes → v ≡ get_or counts node.parent v
      → get_or counts p 0 ≡ length (children_from n nodes p) → get_or (set counts node.parent (v + 1)) p 0 ≡ length (children_from (n - 1) nodes p)
  count_at counts p v long is count =
      subst (λ (x : ℕ). get_or (set counts node.parent (x + 1)) p 0 ≡ length (children_from (n - 1) nodes p))
      (sym (is ∙ get_or_default counts node.parent v 0 (omega (arith, own, long))))
      (count_child counts nodes (n - 1) p node (omega (arith, some, within)) at long own (count ∙ ap (λ (m : ℕ). length (children_from m nodes p)) before))

  -- a count is small
  pub few_at : (counts : List ℕ) (v : ℕ) → length counts ≡ length nodes → v ≡ get_or counts node.parent v
      → get_or counts node.parent 0 ≡ length (children_from n nodes node.parent) → v ≤ length nodes - n
  few_at counts v long is count =
      let same : v ≡ length (children_from n nodes node.parent) = is ∙ get_or_default counts node.parent v 0 (omega (arith, own, long)) ∙ count in
      omega (arith, same, few_behind (λ k. is_under node.parent (slice_get nodes k)) n (length nodes - n))
