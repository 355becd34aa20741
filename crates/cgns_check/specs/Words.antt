-- The words of rules.
use Rattle.std.specs.Prelude.{◌≡◌, ℕ, List, [], ◌∷◌, map, slice_get, Option, Some, None}
use Rattle.std.specs.List.{AllByRecursion}
use Rattle.sids_rules.specs.Rules.{Rule}
use Rattle.sids_rules.specs.OffsetRules.{check4_rules}

-- the words by the numbers of their rules, of which there is none of number 0
abbrev pub rule_words : List (List ℕ)
rule_words = [] ∷ map (λ (r : Rule). r.word) check4_rules

abbrev pub word_or_none : Option (List ℕ) → List ℕ
word_or_none None = []
word_or_none (Some word) = word

-- the word of a rule by its number; none where there is no such rule
abbrev pub word_of : ℕ → List ℕ
word_of number = word_or_none (slice_get rule_words number)

-- each of some rules has the word of its number
abbrev pub AreWorded : List Rule → Type 0
AreWorded rules = AllByRecursion (λ (r : Rule). word_of r.number ≡ r.word) rules
