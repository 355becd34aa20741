-- Laws of rows of rules and of walks.
use Rattle.std.proofs.Common.{map, arith, ◌+◌, ◌-◌, ◌<◌, ◌≤◌, ◌≡◌, ℕ, zero, suc, refl, sym, ◌∙◌, ap, List, [], ◌∷◌, ◌++◌, Bool, true, false, cond}
use Rattle.std.specs.Prelude.{Option, Some, None, Ok, Err, Result}
use Rattle.std.specs.Option.{option_or}
use Rattle.std.specs.List.{range_with_len}
use Rattle.adf_format.specs.Checks.{Row, Fault, first_broken, Walk, finished, stopped, passed}

-- the first broken rule of two groups is that of the first, or else that of the second
broken_step : (kept : Bool) (f : Fault) (a b : Option Fault) (c : Option Fault) → a ≡ option_or b c → cond kept a (Some f) ≡ option_or (cond kept b (Some f)) c
broken_step true f a b c e = e
broken_step false f a b c e = refl

pub first_broken-append : (xs ys : List Row) → first_broken (xs ++ ys) ≡ option_or (first_broken xs) (first_broken ys)
first_broken-append [] ys = refl
first_broken-append (r ∷ rows) ys = broken_step r.kept r.fault (first_broken (rows ++ ys)) (first_broken rows) (first_broken ys) (first_broken-append rows ys)

none_or_some : {A B : Type 0} (o : Option A) (x : A) → o ≡ Some x → o ≡ None → B
none_or_some o x p q = cc

some_injective : {A : Type 0} (x y : A) → Some x ≡ Some y → x ≡ y
some_injective x y e = cc

same_some : {A : Type 0} (o : Option A) (x y : A) → o ≡ Some x → o ≡ Some y → x ≡ y
same_some o x y p q = some_injective x y (sym p ∙ q)

-- a walk has one outcome
module _ {Item : Type 0} {rules : List Item → Item → List Row} {leads_to : Item → List Item} where
  at_end : {seen : List Item} {y : Result (List Item) Fault} → Walk rules leads_to [] seen y → Ok seen ≡ y
  at_end finished = refl

  after_stop : {item : Item} {rest seen : List Item} {fault : Fault} {y : Result (List Item) Fault} → first_broken (rules seen item) ≡ Some fault → Walk rules leads_to (item ∷ rest) seen y → Err fault ≡ y
  after_stop {item = item} {seen = seen} {fault = f} p (stopped {fault = g} q) = ap Err (same_some (first_broken (rules seen item)) f g p q)
  after_stop {item = item} {seen = seen} {fault = f} p (passed q w) = none_or_some (first_broken (rules seen item)) f p q

  after_pass : {item : Item} {rest seen : List Item} {y : Result (List Item) Fault} → first_broken (rules seen item) ≡ None → Walk rules leads_to (item ∷ rest) seen y → Walk rules leads_to (leads_to item ++ rest) (seen ++ item ∷ []) y
  after_pass {item = item} {seen = seen} p (stopped {fault = f} q) = none_or_some (first_broken (rules seen item)) f q p
  after_pass p (passed q w) = w

  pub one_outcome : {todo seen : List Item} {x y : Result (List Item) Fault} → Walk rules leads_to todo seen x → Walk rules leads_to todo seen y → x ≡ y
  one_outcome finished w = at_end w
  one_outcome (stopped p) w = after_stop p w
  one_outcome (passed p v) w = one_outcome v (after_pass p w)

-- a plain walk of at most so many steps; none where they do not suffice
abbrev pub walk_within : {Item : Type 0} → (List Item → Item → List Row) → (Item → List Item) → ℕ → List Item → List Item → Option (Result (List Item) Fault)
walk_within rules leads_to zero todo seen = None
walk_within rules leads_to (suc n) [] seen = Some (Ok seen)
walk_within rules leads_to (suc n) (item ∷ rest) seen =
    elim (first_broken (rules seen item)) [ None ↦ walk_within rules leads_to n (leads_to item ++ rest) (seen ++ item ∷ []) | Some fault ↦ Some (Err fault) ]

-- rows for the numbers from k up to n: the row of k, and those after it
pub first_broken-next : (f : ℕ → Row) (k n : ℕ) → k < n → first_broken (map f (range_with_len k (n - k))) ≡ cond (f k).kept (first_broken (map f (range_with_len (k + 1) (n - (k + 1))))) (Some (f k).fault)
first_broken-next f k n h = let e : n - k ≡ suc (n - (k + 1)) = omega (arith, h) in ap (λ m. first_broken (map f (range_with_len k m))) e

pub first_broken-last : (f : ℕ → Row) (k n : ℕ) → n ≤ k → first_broken (map f (range_with_len k (n - k))) ≡ None
first_broken-last f k n h = let e : n - k ≡ 0 = omega (arith, h) in ap (λ m. first_broken (map f (range_with_len k m))) e
