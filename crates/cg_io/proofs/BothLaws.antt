-- Relations of bytes that are told before and after.
use Rattle.std.proofs.Common.{ℕ, List, length, Option, None, Some}
use Rattle.cg_io.specs.Blocks.{Both, Wrote, KeepsOutside}
use Rattle.cg_io.specs.Answers.{Then}

pub both_map : (R S : List ℕ → List ℕ → Type 0) (a b : Option (List ℕ)) → ((old new : List ℕ) → R old new → S old new) → Both R a b → Both S a b
both_map R S None None f both = both
both_map R S None (Some new) f both = both
both_map R S (Some old) None f both = both
both_map R S (Some old) (Some new) f both = f old new both

pub both_then : (R S : List ℕ → List ℕ → Type 0) (a b c : Option (List ℕ)) → Both R a b → Both S b c → Both (Then R S) a c
both_then R S None None None first then = tt
both_then R S None None (Some new) first then = then
both_then R S None (Some middle) c first then = absurd first
both_then R S (Some old) None c first then = absurd first
both_then R S (Some old) (Some middle) None first then = then
both_then R S (Some old) (Some middle) (Some new) first then = (middle, first, then)

-- what was written left the bytes outside its range
pub wrote_outside : (place : ℕ) (from : List ℕ) (a b : Option (List ℕ)) → Both (Wrote place from) a b → Both (KeepsOutside place (length from)) a b
wrote_outside place from a b both = both_map (Wrote place from) (KeepsOutside place (length from)) a b (λ old new w. record { longer = w.longer; outside = w.outside; grows = w.grows }) both
