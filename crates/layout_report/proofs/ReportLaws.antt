-- How the ends of a report follow from what its lines were made of and what the sink took.
use Rattle.std.proofs.Common.{◌≡◌, ◌⊎◌, inl, inr, ℕ, ◌+◌, ◌≤◌, List, [], ◌∷◌, ◌++◌, length, take, Option, suc, refl, sym, ap, subst, arith, length-append}
use Rattle.std.specs.Prelude.{⊤}
use Rattle.std.specs.Io.KnownBytes.{Appends}
use Rattle.std.proofs.KnownBytes.{Appends-nil, Appends-trans}
use Rattle.cg_io.specs.Cause.{Rose}
use Rattle.session.specs.Printed.{AppendsPart}
use Rattle.adf_format.specs.RuleNumbers.{IsRule}
use Rattle.adf_model.specs.declared.error.AdfError.{AdfError}
use Rattle.adf_model.specs.declared.error.AdfError.TheVariants as error
use Rattle.cg_io.specs.Answers.{IsRefusal}
use Rattle.layout_lint.specs.Owners.{IsNoLayout}
use Rattle.layout_lint.specs.Verdicts.{MayFail}
use Rattle.layout_report.specs.Lines.{fault_line}
use Rattle.layout_report.specs.Reports.{Ends, Says, Refuses, read_fault_line}
use Rattle.layout_report.specs.Reports.Says.{whole, torn}
use Rattle.layout_report.specs.declared.Report.{Report}
use Rattle.layout_report.specs.declared.Report.TheVariants as ended

-- a whole text and some first bytes of a line behind it are some first bytes of both
take_behind : (lines line : List ℕ) (n : ℕ) → take (length lines + n) (lines ++ line) ≡ lines ++ take n line
take_behind [] line n = let same : length {A = ℕ} [] + n ≡ n = omega arith in rw same
take_behind (b ∷ lines) line n = let more : length (b ∷ lines) + n ≡ suc (length lines + n) = omega arith in rw more (ap (λ (l : List ℕ). b ∷ l) (take_behind lines line n))

pub part_behind : (start taken now : Option (List ℕ)) (lines line : List ℕ) → Appends start taken lines → AppendsPart taken now line → AppendsPart start now (lines ++ line)
part_behind start taken now lines line front part =
    let n = part.0 in
    let short : n ≤ length line = part.1 in
    (length lines + n, omega (arith, length-append lines line), subst (Appends start now) (sym (take_behind lines line n)) (Appends-trans start taken now lines (take n line) front part.2))

-- a line that ends a report, behind those that were taken before
pub ends_behind : (said : Report → List ℕ → Type 0) (wanted : Report) (lines line : List ℕ) (result : Report) (start taken now : Option (List ℕ)) (first faults later : ℕ)
    → said wanted (lines ++ line) → Appends start taken lines → first ≤ faults → Ends wanted line result taken now faults later → Says said start now first later result
ends_behind said wanted lines line result start taken now first faults later is front rises ends =
    elim ends.1 [
      | inl all ↦ subst (λ (r : Report). Says said start now first later r) (sym all.0) (whole (lines ++ line) is (Appends-trans start taken now lines line front all.1))
      | inr cut ↦ let rose : Rose first later = omega (arith, cut.1) in
          subst (λ (r : Report). Says said start now first later r) (sym cut.0) (torn wanted (lines ++ line) is rose (part_behind start taken now lines line front cut.2))
    ]

-- a line that is the whole of a report
pub ends_alone : (said : Report → List ℕ → Type 0) (wanted : Report) (line : List ℕ) (result : Report) (taken now : Option (List ℕ)) (faults later : ℕ)
    → said wanted line → Ends wanted line result taken now faults later → Says said taken now faults later result
ends_alone said wanted line result taken now faults later is ends = ends_behind said wanted [] line result taken taken now faults faults later is (Appends-nil taken) (omega arith) ends

-- nothing more is said
pub ends_silent : (said : Report → List ℕ → Type 0) (wanted : Report) (lines : List ℕ) (result : Report) (start taken now : Option (List ℕ)) (first later : ℕ)
    → said wanted lines → Appends start taken lines → now ≡ taken → result ≡ wanted → Says said start now first later result
ends_silent said wanted lines result start taken now first later is front same ends = subst (λ (r : Report). Says said start now first later r) (sym ends) (whole lines is (subst (λ (t : Option (List ℕ)). Appends start t lines) (sym same) front))

-- what is said of one report is said of another that it implies
pub said_as : (said other : Report → List ℕ → Type 0) (taken now : Option (List ℕ)) (faults later : ℕ) (result : Report)
    → ((report : Report) (text : List ℕ) → said report text → other report text) → Says said taken now faults later result → Says other taken now faults later result
said_as said other taken now faults later result implies (whole text is all) = whole text (implies result text is) all
said_as said other taken now faults later _ implies (torn report text is rose part) = torn report text (implies report text is) rose part

-- what is said of a refusal, behind the lines that were taken before
pub refuses_behind : (said : Report → List ℕ → Type 0) (O : Type 0) (takes : O → Option (List ℕ)) (counts : O → ℕ) (given : AdfError) (lines : List ℕ) (result : Report) (start : Option (List ℕ)) (first : ℕ) (old new : O) (before after : ℕ)
    → ((rule place : ℕ) → IsRule rule → given ≡ error.Layout rule place → said ended.Broken (lines ++ fault_line rule place))
    → (Rose before after → said ended.DeviceFault (lines ++ read_fault_line)) → said ended.Memory lines
    → IsRefusal ⊤ before after given → Appends start (takes old) lines → first ≤ counts old
    → Refuses given result (takes old) (takes new) (counts old) (counts new) ⊎ ((result ≡ ended.Memory) × (new ≡ old))
    → Says said start (takes new) first (counts new) result
refuses_behind said O takes counts given lines result start first old new before after broken failed lacking cause front rises (inr silent) = ends_silent said ended.Memory lines result start (takes old) (takes new) first (counts new) lacking front (ap takes silent.1) silent.0
refuses_behind said O takes counts (error.Layout rule place) lines result start first old new before after broken failed lacking cause front rises (inl told) = ends_behind said ended.Broken lines (fault_line rule place) result start (takes old) (takes new) first (counts old) (counts new) (broken rule place cause.0 refl) front rises told
refuses_behind said O takes counts error.Memory lines result start first old new before after broken failed lacking cause front rises (inl told) = absurd told
refuses_behind said O takes counts error.ReadFault lines result start first old new before after broken failed lacking cause front rises (inl told) = ends_behind said ended.DeviceFault lines read_fault_line result start (takes old) (takes new) first (counts old) (counts new) (failed cause) front rises told
refuses_behind said O takes counts _ lines result start first old new before after broken failed lacking cause front rises (inl told) = absurd cause

-- a line that ends a report, or nothing for want of memory
pub ends_or_lacks : (said : Report → List ℕ → Type 0) (O : Type 0) (takes : O → Option (List ℕ)) (counts : O → ℕ) (wanted : Report) (line : List ℕ) (result : Report) (old new : O)
    → said wanted line → said ended.Memory []
    → Ends wanted line result (takes old) (takes new) (counts old) (counts new) ⊎ ((result ≡ ended.Memory) × (new ≡ old))
    → Says said (takes old) (takes new) (counts old) (counts new) result
ends_or_lacks said O takes counts wanted line result old new is lacking (inl ends) = ends_alone said wanted line result (takes old) (takes new) (counts old) (counts new) is ends
ends_or_lacks said O takes counts wanted line result old new is lacking (inr silent) = ends_silent said ended.Memory [] result (takes old) (takes old) (takes new) (counts old) (counts new) lacking (Appends-nil (takes old)) (ap takes silent.1) silent.0

-- a failure of the linter is no broken rule
pub failure_refuses : (before after : ℕ) (failure : AdfError) → MayFail before after failure → IsRefusal ⊤ before after failure
failure_refuses before after error.Memory may = tt
failure_refuses before after error.ReadFault may = may
failure_refuses before after _ may = absurd may

pub failure_breaks_none : (before after : ℕ) (failure : AdfError) → MayFail before after failure → IsNoLayout failure
failure_breaks_none before after (error.Layout rule place) may = absurd may
failure_breaks_none before after _ may = tt
