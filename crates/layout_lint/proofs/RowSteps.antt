-- Rules looked at group by group.
use Rattle.std.proofs.Common.{◌≡◌, sym, subst, ℕ, ◌+◌, ◌-◌, ◌<◌, List, ◌++◌, [], ◌∷◌, map, refl, ◌∙◌, ap, Bool, true, false, cond}
use Rattle.std.specs.Prelude.{Option, Some, None, Result, Ok, Err, IfErr, IsErrAnd}
use Rattle.std.specs.Option.{option_or}
use Rattle.std.specs.List.{range_with_len}
use Rattle.adf_format.specs.Checks.{Row, row, Fault, first_broken}
use Rattle.adf_format.proofs.CheckLaws.{first_broken-append, first_broken-next}
use Rattle.layout_lint.specs.declared.verdict.Halt.{Halt}
use Rattle.layout_lint.specs.declared.verdict.Halt.TheVariants as halt
use Rattle.layout_lint.specs.Halts.{Breaks, Finds, fault}

-- the first group is kept, so the second decides
pub kept_then : (xs ys : List Row) (o : Option Fault) → first_broken xs ≡ None → first_broken ys ≡ o → first_broken (xs ++ ys) ≡ o
kept_then xs ys o kept then = first_broken-append xs ys ∙ ap (λ p. option_or p (first_broken ys)) kept ∙ then

-- the first group is broken
pub broken_first : (xs ys : List Row) (f : Fault) → first_broken xs ≡ Some f → first_broken (xs ++ ys) ≡ Some f
broken_first xs ys f broken = first_broken-append xs ys ∙ ap (λ p. option_or p (first_broken ys)) broken

pub breaks_first : (xs ys : List Row) (h : Halt) → Breaks xs h → Breaks (xs ++ ys) h
breaks_first xs ys (halt.Broken b) h = broken_first xs ys (fault b) h
breaks_first xs ys halt.Memory h = tt
breaks_first xs ys halt.Read h = tt

pub breaks_then : (xs ys : List Row) (h : Halt) → first_broken xs ≡ None → Breaks ys h → Breaks (xs ++ ys) h
breaks_then xs ys (halt.Broken b) kept h = kept_then xs ys (Some (fault b)) kept h
breaks_then xs ys halt.Memory kept h = tt
breaks_then xs ys halt.Read kept h = tt

pub finds_then : {T : Type 0} (xs ys : List Row) (r : Result T Halt) → first_broken xs ≡ None → Finds ys r → Finds (xs ++ ys) r
finds_then xs ys (Ok x) kept f = kept_then xs ys None kept f
finds_then xs ys (Err h) kept f = breaks_then xs ys h kept f

-- what ended a call ends its caller, by a `?`
pub refused : {T E : Type 0} (P : E → Type 0) (r : Result T E) (h : E) → IsErrAnd r (λ e. e ≡ h) → P h → IfErr r P
refused P (Ok x) h is p = absurd is
refused P (Err e) h is p = subst P (sym is) p

pub ended_by : {T E : Type 0} (r : Result T E) (h : E) → IsErrAnd r (λ e. e ≡ h) → r ≡ Err h
ended_by (Ok x) h is = absurd is
ended_by (Err e) h is = ap Err is

-- one rule
pub row_kept : (rule place : ℕ) (k : Bool) → k ≡ true → first_broken (row rule place k ∷ []) ≡ None
row_kept rule place true e = refl
row_kept rule place false e = cc

pub row_broken : (rule place : ℕ) (k : Bool) → k ≡ false → first_broken (row rule place k ∷ []) ≡ Some (record { rule = rule; place = place })
row_broken rule place true e = cc
row_broken rule place false e = refl

-- two, three or four groups
pub breaks_2 : (ws xs ys : List Row) (h : Halt) → first_broken ws ≡ None → Breaks xs h → Breaks (ws ++ (xs ++ ys)) h
breaks_2 ws xs ys h w b = breaks_then ws (xs ++ ys) h w (breaks_first xs ys h b)

pub breaks_3 : (vs ws xs ys : List Row) (h : Halt) → first_broken vs ≡ None → first_broken ws ≡ None → Breaks xs h → Breaks (vs ++ (ws ++ (xs ++ ys))) h
breaks_3 vs ws xs ys h v w b = breaks_then vs (ws ++ (xs ++ ys)) h v (breaks_2 ws xs ys h w b)

pub breaks_4 : (us vs ws xs ys : List Row) (h : Halt) → first_broken us ≡ None → first_broken vs ≡ None → first_broken ws ≡ None → Breaks xs h → Breaks (us ++ (vs ++ (ws ++ (xs ++ ys)))) h
breaks_4 us vs ws xs ys h u v w b = breaks_then us (vs ++ (ws ++ (xs ++ ys))) h u (breaks_3 vs ws xs ys h v w b)

pub kept_2 : (xs ys : List Row) → first_broken xs ≡ None → first_broken ys ≡ None → first_broken (xs ++ ys) ≡ None
kept_2 xs ys x y = kept_then xs ys None x y

pub row_breaks : (rule place : ℕ) (k : Bool) → k ≡ false → Breaks (row rule place k ∷ []) (halt.Broken (record { rule = rule; place = place }))
row_breaks rule place k e = row_broken rule place k e

-- ---- rows by a count

kept_one : (k : Bool) (f : Fault) → cond k None (Some f) ≡ None → k ≡ true
kept_one true f e = refl
kept_one false f e = cc

-- a rule alone is kept
pub one_kept : (r : Row) → first_broken (r ∷ []) ≡ None → r.kept ≡ true
one_kept r e = kept_one r.kept r.fault e

front_broken : (k : Bool) (f g : Fault) (later : Option Fault) → cond k None (Some f) ≡ Some g → cond k later (Some f) ≡ Some g
front_broken true f g later e = cc
front_broken false f g later e = e

-- the rule of one number is broken, and those before it are not
pub this_breaks : (f : ℕ → Row) (i n : ℕ) (rows : List Row) (h : Halt) → i < n → first_broken rows ≡ first_broken (map f (range_with_len i (n - i))) → Breaks (f i ∷ []) h → Breaks rows h
this_breaks f i n rows (halt.Broken b) lt rest e = rest ∙ first_broken-next f i n lt ∙ front_broken (f i).kept (f i).fault (fault b) _ e
this_breaks f i n rows halt.Memory lt rest e = tt
this_breaks f i n rows halt.Read lt rest e = tt

-- it is kept too
pub this_kept : (f : ℕ → Row) (i n : ℕ) (o : Option Fault) → i < n → o ≡ first_broken (map f (range_with_len i (n - i))) → first_broken (f i ∷ []) ≡ None → o ≡ first_broken (map f (range_with_len (i + 1) (n - (i + 1))))
this_kept f i n o lt rest e = rest ∙ first_broken-next f i n lt ∙ ap (λ k. cond k (first_broken (map f (range_with_len (i + 1) (n - (i + 1))))) (Some (f i).fault)) (one_kept (f i) e)

-- ---- values that are there where a test is met

pub no_value : {A : Type 0} (k : Bool) (x : A) (o : Option A) → o ≡ cond k (Some x) None → o ≡ None → k ≡ false
no_value true x o e none = cc
no_value false x o e none = refl

pub some_value : {A : Type 0} (k : Bool) (x y : A) (o : Option A) → o ≡ cond k (Some x) None → o ≡ Some y → (k ≡ true) × (y ≡ x)
some_value true x y o e some = (refl, cc)
some_value false x y o e some = cc
