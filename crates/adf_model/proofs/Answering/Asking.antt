-- Several calls that only read, one after another.
use Rattle.std.proofs.Common.{◌≢◌, ℕ, ◌≤◌, ◌∙◌, ap, arith}
use Rattle.std.specs.Prelude.{Some, None, Result, Ok, Err, is_some}
use Rattle.adf_model.specs.declared.error.AdfError.{AdfError}
use Rattle.adf_model.specs.declared.error.AdfError.TheVariants.{ReadFault}
use Rattle.adf_model.specs.Slots.{Files, Devices, IsTold}
use Rattle.adf_model.specs.Counts.{Rose}
use Rattle.adf_model.specs.Steps.{OthersOnlyRead, HasReadCause}

rose_later : (a b c : ℕ) → a ≤ b → Rose b c → Rose a c
rose_later a b c le h = omega arith

not_None : (n : ℕ) → Some n ≢ None
not_None n e = cc

module _ (a b c : Devices) where
  -- two calls that only read are as one
  pub stays-trans : OthersOnlyRead None a b → OthersOnlyRead None b c → OthersOnlyRead None a c
  stays-trans p q = record {
    count = q.count ∙ p.count;
    others = λ n h. let x = p.others n h in let y = q.others n h in record {
      held = y.held ∙ x.held;
      faults = omega (arith, x.faults, y.faults);
      lost = y.lost ∙ x.lost;
      reads = omega (arith, x.reads, y.reads);
      writes = y.writes ∙ x.writes;
    };
    counts = λ n. let x = p.counts n in let y = q.counts n in record {
      faults = omega (arith, x.faults, y.faults);
      lost = omega (arith, x.lost, y.lost);
      reads = omega (arith, x.reads, y.reads);
      writes = omega (arith, x.writes, y.writes);
    };
  }

  -- a fault of the later call is one of both
  pub cause-later : {A : Type 0} (r : Result A AdfError) → OthersOnlyRead None a b → HasReadCause b c r → HasReadCause a c r
  cause-later (Ok value) p h = tt
  cause-later (Err ReadFault) p h = (h.0, rose_later _ _ _ (p.counts h.0).faults h.1)
  cause-later (Err error) p h = h

-- what devices tell stays told
pub told-stays : (files : Files) (a b : Devices) → IsTold files a → OthersOnlyRead None a b → IsTold files b
told-stays files a b told p n h = ap is_some (p.others n (λ e. not_None n e)).held ∙ told n h
