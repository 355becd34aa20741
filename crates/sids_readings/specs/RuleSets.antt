-- Which rules are tested.
use Rattle.std.specs.Prelude.{List}
use Rattle.sids_rules.specs.Rules.{Rule, check_rules}
use Rattle.sids_rules.specs.OffsetRules.{check4_rules}
use Rattle.sids_readings.specs.declared.rule_sets.RuleSet.{RuleSet}
use Rattle.sids_readings.specs.declared.rule_sets.RuleSet.TheVariants as set

abbrev pub rules_of : RuleSet → List Rule
rules_of set.Check = check_rules
rules_of set.Check4 = check4_rules
