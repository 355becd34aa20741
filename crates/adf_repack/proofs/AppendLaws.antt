-- Bytes that are appended behind others.
use Rattle.std.proofs.Common.{ℕ, ◌∙◌, ap, arith, ◌+◌, ◌≤◌, List, ◌++◌, length, length-append, Result, Ok, Err}
use Rattle.cg_io.specs.Device.{DeviceState}
use Rattle.adf_model.specs.declared.error.AdfError.{AdfError}
use Rattle.adf_repack.specs.declared.writer.BlockWriter.{BlockWriter}
use Rattle.adf_repack.specs.Writers.{with_more, blocks_in, state_under, appended_in, OnlyWrites}
use Rattle.adf_repack.specs.Copies.{Appends, IsUnwritten}
use Rattle.adf_repack.proofs.WriterLaws.{more_then, writes_then}

pub only_then : (s t u : DeviceState) → OnlyWrites s t → OnlyWrites t u → OnlyWrites s u
only_then s t u first then = record { reads = then.reads ∙ first.reads; writes = omega (arith, first.writes, then.writes) }

pub unwritten_then : (s t u : DeviceState) (e : AdfError) → s.faults ≤ t.faults → s.lost ≤ t.lost → IsUnwritten t u e → IsUnwritten s u e
unwritten_then s t u e faults lost h = record { is = h.is; faults = omega (arith, faults, h.faults); lost = omega (arith, lost, h.lost) }

module _ {E : Type 0} (state : E → DeviceState) (a b : List ℕ) (s t u : BlockWriter E) where
  -- more bytes behind some that were appended
  pub appends_then : (x : Unit) (r : Result Unit AdfError) → Appends state a s t (Ok x) → Appends state b t u r → Appends state (a ++ b) s u r
  appends_then x (Ok y) first then = record {
    sound = then.sound;
    appended = then.appended ∙ ap (λ o. with_more o b) first.appended ∙ more_then (appended_in state s) a b;
    count = then.count ∙ ap (λ n. n + length b) first.count ∙ (let long = length-append a b in omega (arith, long));
    wrote = writes_then (blocks_in s) (blocks_in t) (blocks_in u) (state_under state s) (state_under state t) (state_under state u) first.wrote then.wrote;
    effect = only_then (state_under state s) (state_under state t) (state_under state u) first.effect then.effect;
    later = omega (arith, first.later, then.later);
    lost = omega (arith, first.lost, then.lost);
    cause = tt;
  }
  appends_then x (Err e) first then = record {
    sound = tt;
    appended = tt;
    count = tt;
    wrote = tt;
    effect = only_then (state_under state s) (state_under state t) (state_under state u) first.effect then.effect;
    later = omega (arith, first.later, then.later);
    lost = omega (arith, first.lost, then.lost);
    cause = unwritten_then (state_under state s) (state_under state t) (state_under state u) e first.later first.lost then.cause;
  }

  -- a failed write of the first bytes
  pub appends_failed : (e : AdfError) → Appends state a s t (Err e) → Appends state (a ++ b) s t (Err e)
  appends_failed e first = record { sound = tt; appended = tt; count = tt; wrote = tt; effect = first.effect; later = first.later; lost = first.lost; cause = first.cause }
