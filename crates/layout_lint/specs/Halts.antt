-- What ends the work of the linter before its end.
use Rattle.std.specs.Prelude.{◌≡◌, ℕ, List, Some, None, Result, Ok, Err}
use Rattle.adf_format.specs.RuleNumbers.{IsRule}
use Rattle.adf_format.specs.Checks.{Row, Fault, first_broken}
use Rattle.cg_io.specs.Cause.{Rose}
use Rattle.layout_lint.specs.declared.verdict.Broken.{Broken}
use Rattle.layout_lint.specs.declared.verdict.Halt.{Halt}
use Rattle.layout_lint.specs.declared.verdict.Halt.TheVariants as halt

-- a broken rule, and where
abbrev pub fault : Broken → Fault
fault b = record { rule = b.rule; place = b.place }

-- a fault is the first of these rules that is broken; want of memory and a failed read say nothing of them
abbrev pub Breaks : List Row → Halt → Type 0
Breaks rows (halt.Broken b) = first_broken rows ≡ Some (fault b)
Breaks rows halt.Memory = Unit {0}
Breaks rows halt.Read = Unit {0}

-- an answer goes with these rules: none of them is broken, or what ends the work is the first that is
abbrev pub Finds : {T : Type 0} → List Row → Result T Halt → Type 0
Finds rows (Ok x) = first_broken rows ≡ None
Finds rows (Err h) = Breaks rows h

-- what ends a call that takes no memory: a broken rule, which is one of a layout, or a failed read where the count of faults rose
abbrev pub HasCount : ℕ → ℕ → Halt → Type 0
HasCount before now (halt.Broken b) = IsRule b.rule
HasCount before now halt.Memory = ⊥
HasCount before now halt.Read = Rose before now

-- the same of a call that takes memory
abbrev pub MayLackMemory : ℕ → ℕ → Halt → Type 0
MayLackMemory before now (halt.Broken b) = IsRule b.rule
MayLackMemory before now halt.Memory = Unit {0}
MayLackMemory before now halt.Read = Rose before now

-- no rule is broken
abbrev pub IsNoFault : Halt → Type 0
IsNoFault (halt.Broken b) = ⊥
IsNoFault halt.Memory = Unit {0}
IsNoFault halt.Read = Unit {0}

-- want of memory
abbrev pub IsWant : Halt → Type 0
IsWant (halt.Broken b) = ⊥
IsWant halt.Memory = Unit {0}
IsWant halt.Read = ⊥
