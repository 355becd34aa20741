-- What is found of links is what the rule tells.
use Rattle.std.proofs.Common.{◌≡◌, ◌∙◌, sym, subst, refl, cond, ℕ, List, []}
use Rattle.std.specs.Prelude.{map, Option, Some, None, is_none, Result, Ok, Err, IfOk, IfErr}
use Rattle.adf_model.specs.declared.error.AdfError.{AdfError}
use Rattle.adf_model.specs.declared.error.AdfError.TheVariants.{Memory}
use Rattle.adf_model.specs.declared.tree.NodeId.{NodeId}
use Rattle.adf_model.specs.Slots.{Files, Devices}
use Rattle.sids_views.specs.Asks.{IsValueOr, HasAskCause}
use Rattle.sids_rules.specs.declared.seen.Seen.{Seen}
use Rattle.sids_rules.specs.Rules.{Rule, broken_numbers, check_rules}
use Rattle.sids_rules.specs.OffsetRules.{offset_rules}
use Rattle.cgns_check.specs.Words.{AreWorded}
use Rattle.checker_tests.specs.LinkRules.{link_rules, link_numbers}

link_is : (o : Option NodeId) → link_numbers o ≡ map (λ (r : Rule). r.number) (cond (is_none o) link_rules [])
link_is None = refl
link_is (Some at) = refl

pub links_found : (files : Files) (seen : Seen) (r : Result (List ℕ) AdfError) → IfOk r (λ numbers. numbers ≡ link_numbers seen.target) → IfErr r (λ e. e ≡ Memory) → IsValueOr (broken_numbers link_rules files seen) r
links_found files seen (Ok numbers) is want = is ∙ link_is seen.target
links_found files seen (Err e) is want = subst (λ e. IsValueOr {A = List ℕ} [] (Err e)) (sym want) tt

pub links_cause : (files : Files) (before now : Devices) (r : Result (List ℕ) AdfError) → IfErr r (λ e. e ≡ Memory) → HasAskCause files before now r
links_cause files before now (Ok numbers) want = tt
links_cause files before now (Err e) want = subst (λ e. HasAskCause {A = List ℕ} files before now (Err e)) (sym want) refl

pub links_worded : AreWorded link_rules
unfolding check_rules offset_rules
links_worded = (refl, tt)
