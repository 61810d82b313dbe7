-- Laws of meanings.
use Rattle.std.specs.Prelude.{◌≡◌, Bool, Ok, map}
use Rattle.realisations.specs.Bases.{kind_of}
use Rattle.realisations.specs.Points.{ArePoints, Points}
use Rattle.realisations.specs.Readings.{Reading, AgreeAt}
use Rattle.hopf_laws.specs.Values.{Expansion}
use Rattle.session_grammar.specs.declared.expression.Expr.{Expr}
use Rattle.session_evaluation.specs.Built.{IsBuilt}
use Rattle.session_evaluation.specs.Evaluation.{Evaluates, Compares}
use Rattle.session_evaluation.specs.Meaning.{Means, IsMeant, TellsSame}
use Rattle.session_evaluation.specs.Names.{Names, AreValues}

-- an expression means at most one reading
abbrev pub OneMeaning : Type 0
OneMeaning = (names : Names) (x : Expr) (r s : Reading) → Means names x r → Means names x s → r ≡ s

-- an expression that comes to a value means one, over a positive denominator, and the value reads so
abbrev pub SomeMeaning : Type 0
SomeMeaning = (names : Names) (x : Expr) (v : Expansion) → AreValues names → Evaluates names x (Ok v) → IsMeant names x v

-- expressions that mean the same, and have values over the same bases, have the same value, whatever bases their parts were entered in
abbrev pub SameMeaning : Type 0
SameMeaning = (names names' : Names) (x y : Expr) (v w : Expansion) (r s : Reading) → AreValues names → AreValues names' → IsBuilt x → IsBuilt y
    → Evaluates names x (Ok v) → Evaluates names' y (Ok w) → Means names x r → Means names' y s
    → v.bases ≡ w.bases → ((ps : Points) → ArePoints (map kind_of v.bases) ps → AgreeAt r s ps) → v ≡ w

-- an equality that is not refused tells whether its expressions mean the same, whatever bases their parts were entered in
abbrev pub EqualityMeaning : Type 0
EqualityMeaning = (names : Names) (x y : Expr) (answer : Bool) → AreValues names → Compares names x y (Ok answer) → TellsSame names x y answer
