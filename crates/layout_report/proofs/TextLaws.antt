-- What a formatted text says.
use Rattle.std.proofs.Common.{◌≡◌, ◌<◌, ◌≤◌, Bool, List, [], ◌∷◌, ◌++◌, ℕ, Result, IfOk, string_bytes, nat_lt, true, false, length, subst, ap, sym, append_assoc}
use Rattle.std.specs.Prelude.{String, codes, decimal}
use Rattle.std.proofs.lemmas.Bool.{lt-ltb, le-ltb}
use Rattle.adf_format.specs.declared.types.Extent.{Extent}
use Rattle.adf_format.specs.declared.types.Format.{Format}
use Rattle.layout_lint.specs.declared.verdict.NodePlace.{NodePlace}
use Rattle.layout_lint.specs.declared.verdict.Verdict.{Verdict}
use Rattle.layout_lint.specs.declared.verdict.Verdict.TheVariants as says
use Rattle.layout_report.specs.Lines.{fault_line, verdict_line}

pub text_is : {A E : Type 0} (result : Result (String A) E) (bytes line : List ℕ) → IfOk result (λ s. string_bytes s ≡ bytes) → bytes ≡ line → IfOk result (λ s. string_bytes s ≡ line)
text_is result bytes line is same = subst (λ (b : List ℕ). IfOk result (λ s. string_bytes s ≡ b)) same is

pub short_rule : (rule place : ℕ) → rule < 10 → 76 ∷ (48 ∷ (decimal rule ++ (32 ∷ (decimal place ++ 10 ∷ [])))) ≡ fault_line rule place
short_rule rule place less = let short : nat_lt rule 10 ≡ true = lt-ltb rule 10 less in rw short (ap (λ (l : List ℕ). 76 ∷ (48 ∷ l)) (sym (append_assoc (decimal rule) (32 ∷ decimal place) (10 ∷ []))))

pub long_rule : (rule place : ℕ) → 10 ≤ rule → 76 ∷ (decimal rule ++ (32 ∷ (decimal place ++ 10 ∷ []))) ≡ fault_line rule place
long_rule rule place less = let long : nat_lt rule 10 ≡ false = le-ltb rule 10 less in rw long (ap (λ (l : List ℕ). 76 ∷ l) (sym (append_assoc (decimal rule) (32 ∷ decimal place) (10 ∷ []))))

pub sound_text : (verdict : Verdict) (nodes ns : List NodePlace) (gaps gs : List Extent) (end : ℕ) (format : Format) (wide : Bool) → verdict ≡ says.Sound nodes gaps end format wide → ns ≡ nodes → gs ≡ gaps
    → codes "sound nodes " ++ (decimal (length ns) ++ (codes " gaps " ++ (decimal (length gs) ++ (codes " end " ++ (decimal end ++ 10 ∷ []))))) ≡ verdict_line verdict
sound_text verdict nodes ns gaps gs end format wide is n g = rw (is, n, g) (simp append_assoc)
