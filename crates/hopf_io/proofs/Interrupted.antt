-- What a call that was interrupted before says of known bytes.
use Rattle.std.proofs.Common.{ℕ, List, [], ◌++◌, Option, None, Some, sym, ◌∙◌, ap, append-nil}
use Rattle.std.specs.Io.KnownBytes.{Keeps, Consumes, Appends}

pub Keeps-Consumes : (a b c : Option (List ℕ)) (bs : List ℕ) → Keeps a b → Consumes b c bs → Consumes a c bs
Keeps-Consumes None b c bs p q = tt
Keeps-Consumes (Some x) None c bs p q = absurd p
Keeps-Consumes (Some x) (Some y) None bs p q = absurd q
Keeps-Consumes (Some x) (Some y) (Some z) bs p q = sym p ∙ q

pub Keeps-Appends : (a b c : Option (List ℕ)) (bs : List ℕ) → Keeps a b → Appends b c bs → Appends a c bs
Keeps-Appends None b c bs p q = tt
Keeps-Appends (Some x) None c bs p q = absurd p
Keeps-Appends (Some x) (Some y) None bs p q = absurd q
Keeps-Appends (Some x) (Some y) (Some z) bs p q = q ∙ ap (λ l. l ++ bs) p

-- nothing was taken
pub Appends-none : (a b : Option (List ℕ)) → Appends a b [] → Keeps a b
Appends-none None b p = tt
Appends-none (Some x) None p = absurd p
Appends-none (Some x) (Some y) p = p ∙ append-nil x
