-- Reads one after another, and why calls are refused.
use Rattle.std.proofs.Common.{ℕ, ◌+◌, ◌≤◌, refl, ◌∙◌, arith}
use Rattle.std.specs.Prelude.{Result, Ok, Err, IfErr}
use Rattle.adf_model.specs.declared.error.AdfError.{AdfError}
use Rattle.adf_model.specs.declared.error.AdfError.TheVariants as error
use Rattle.cg_io.specs.Device.{DeviceState}
use Rattle.cg_io.specs.Cause.{Rose}
use Rattle.cg_io.specs.Blocks.{ReadsFew}
use Rattle.cg_io.specs.Answers.{OnlyReads, IsRefusal}

pub reads_then : (n m k : ℕ) (a b z : DeviceState) → ReadsFew n a b → ReadsFew m b z → n + m ≤ k → ReadsFew k a z
reads_then n m k a b z first then fits = record {
  held = then.held ∙ first.held;
  lost = then.lost ∙ first.lost;
  writes = then.writes ∙ first.writes;
  reads = let one = first.reads in let two = then.reads in omega arith;
  few = let one = first.few in let two = then.few in omega arith;
  faults = let one = first.faults in let two = then.faults in omega arith;
}

pub reads_more : (n k : ℕ) (a b : DeviceState) → ReadsFew n a b → n ≤ k → ReadsFew k a b
reads_more n k a b first fits = record {
  held = first.held;
  lost = first.lost;
  writes = first.writes;
  reads = first.reads;
  few = let one = first.few in omega arith;
  faults = first.faults;
}

pub reads_none : (k : ℕ) (a : DeviceState) → ReadsFew k a a
reads_none k a = record { held = refl; lost = refl; writes = refl; reads = omega arith; few = omega arith; faults = omega arith }

-- the same without their number
pub few_only : (n : ℕ) (a b : DeviceState) → ReadsFew n a b → OnlyReads a b
few_only n a b few = record { held = few.held; lost = few.lost; writes = few.writes; reads = few.reads; faults = few.faults }

pub only_then : (a b c : DeviceState) → OnlyReads a b → OnlyReads b c → OnlyReads a c
only_then a b c v w = record {
  held = w.held ∙ v.held;
  lost = w.lost ∙ v.lost;
  writes = w.writes ∙ v.writes;
  reads = (let p : a.reads ≤ b.reads = v.reads in let q : b.reads ≤ c.reads = w.reads in omega (arith, p, q));
  faults = (let p : a.faults ≤ b.faults = v.faults in let q : b.faults ≤ c.faults = w.faults in omega (arith, p, q));
}

pub only_none : (a : DeviceState) → OnlyReads a a
only_none a = record { held = refl; lost = refl; writes = refl; reads = omega arith; faults = omega arith }

-- ---- causes

pub rose_later : (a b c : ℕ) → a ≤ b → Rose b c → Rose a c
rose_later a b c le rose = omega arith

pub refused_for : (P Q : Type 0) (a b : ℕ) (e : AdfError) → (P → Q) → IsRefusal P a b e → IsRefusal Q a b e
refused_for P Q a b error.Memory f h = h
refused_for P Q a b error.ReadFault f h = h
refused_for P Q a b (error.Layout rule place) f h = (h.0, f h.1)
refused_for P Q a b other f h = h

pub all_refused_for : {T : Type 0} (P Q : Type 0) (a b : ℕ) (r : Result T AdfError) → (P → Q) → IfErr r (IsRefusal P a b) → IfErr r (IsRefusal Q a b)
all_refused_for P Q a b (Ok x) f h = h
all_refused_for P Q a b (Err e) f h = refused_for P Q a b e f h

-- a cause of a later call is one of both
pub refused_later : (P Q : Type 0) (a b c : ℕ) (e : AdfError) → a ≤ b → (P → Q) → IsRefusal P b c e → IsRefusal Q a c e
refused_later P Q a b c error.Memory le f h = h
refused_later P Q a b c error.ReadFault le f h = rose_later a b c le h
refused_later P Q a b c (error.Layout rule place) le f h = (h.0, f h.1)
refused_later P Q a b c other le f h = h

pub all_refused_later : {T : Type 0} (P Q : Type 0) (a b c : ℕ) (r : Result T AdfError) → a ≤ b → (P → Q) → IfErr r (IsRefusal P b c) → IfErr r (IsRefusal Q a c)
all_refused_later P Q a b c (Ok x) le f h = h
all_refused_later P Q a b c (Err e) le f h = refused_later P Q a b c e le f h
