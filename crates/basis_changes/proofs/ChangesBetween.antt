-- Changes of a component by a rule, between two bases that are told by equations.
use Rattle.std.proofs.Common.{◌≡◌, ℕ, Result, IfOk, sym, ◌∙◌, ap, subst, min}
use Rattle.std.proofs.lemmas.Result.{IfOk-weaker}
use Rattle.basis_names.specs.declared.bases.BasisId.{BasisId}
use Rattle.index_rules.specs.Changes.{change_facts}
use Rattle.index_rules.specs.Lifts.{CanLift, IsLift}
use Rattle.index_rules.specs.Rules.{RuleFacts}
use Rattle.index_rules.specs.Spaces.{limit_for}
use Rattle.realisations.specs.Combinations.{Combination}

-- the change of a basis to another one as a rule
abbrev pub change_of : BasisId → BasisId → ℕ → RuleFacts
change_of from to growth = change_facts from to (min (limit_for from) (limit_for to)) growth

-- a rule that states the change of a basis to another one states that of the bases which are these
between : (facts : RuleFacts) (from to a b : BasisId) (growth : ℕ) → a ≡ from → b ≡ to → facts ≡ change_of from to growth → change_of a b growth ≡ facts
between facts from to a b growth left right states = ap (λ x. change_of x b growth) left ∙ ap (λ y. change_of from y growth) right ∙ sym states

-- what can be changed between two bases, whatever the growth, can be changed by such a rule
pub can_change : (facts : RuleFacts) (from to a b : BasisId) (growth n : ℕ) (old : Combination) → a ≡ from → b ≡ to → facts ≡ change_of from to growth
    → ((g : ℕ) → CanLift (change_of a b g) n old) → CanLift facts n old
can_change facts from to a b growth n old left right states h = subst (λ f. CanLift f n old) (between facts from to a b growth left right states) (h growth)

-- a lift of such a rule is a change between the two bases
pub some_change : {E : Type 0} (facts : RuleFacts) (from to a b : BasisId) (growth n : ℕ) (old : Combination) (r : Result Combination E) → a ≡ from → b ≡ to → facts ≡ change_of from to growth
    → IfOk r (IsLift facts n old) → IfOk r (λ new. (g : ℕ) × IsLift (change_of a b g) n old new)
some_change facts from to a b growth n old r left right states h =
    IfOk-weaker r (IsLift facts n old) (λ new. (g : ℕ) × IsLift (change_of a b g) n old new)
    (λ new lifted. (growth, subst (λ f. IsLift f n old new) (sym (between facts from to a b growth left right states)) lifted)) h
