-- Names: what a map from bytes holds, and what they stand for.
use Rattle.std.proofs.Common.{◌≡◌, ℕ, List, [], ◌∷◌, Bool, true, false, cond, map, Option, Some, Result, Ok, Err, OnOk, OnErr, refl, sym, ◌∙◌, ap, subst}
use Rattle.std.specs.Str.{bytes_eq}
use Rattle.std.specs.Map.{lookup}
use Rattle.std.proofs.lemmas.List.Elements.{All-cons, All-head, All-tail}
use Rattle.indexmap.specs.IndexMap.{insert_entry}
use Rattle.hopf_laws.specs.Values.{Expansion, IsValue}
use Rattle.session_evaluation.specs.Names.{Names, value_of, with_value, AreValues}

module _ {K : Type 0} (bytes : K → List ℕ) where
  -- the entries of a map, by the bytes of their keys
  abbrev pub names_of : List (K × Expansion) → Names
  names_of entries = map (λ (entry : K × Expansion). (bytes entry.0, entry.1)) entries

  -- a look-up by bytes finds the value of the name
  pub lookup-names : (name : List ℕ) (entries : List (K × Expansion)) → lookup (λ k. bytes_eq name (bytes k)) entries ≡ value_of (names_of entries) name
  lookup-names name [] = refl
  lookup-names name (entry ∷ entries) = ap (λ (rest : Option Expansion). cond (bytes_eq name (bytes entry.0)) (Some entry.1) rest) (lookup-names name entries)

  insert-by : (k : K) (v : Expansion) (entry : K × Expansion) (entries rest : List (K × Expansion)) (same : Bool) → names_of rest ≡ with_value (names_of entries) (bytes k) v
      → names_of (cond same ((entry.0, v) ∷ entries) (entry ∷ rest)) ≡ cond same ((bytes entry.0, v) ∷ names_of entries) ((bytes entry.0, entry.1) ∷ with_value (names_of entries) (bytes k) v)
  insert-by k v entry entries rest true h = refl
  insert-by k v entry entries rest false h = ap (λ (names : Names). (bytes entry.0, entry.1) ∷ names) h

  -- an entry that is inserted gives the name its value
  pub insert-names : (eq : K → K → Bool) → ((k l : K) → eq k l ≡ bytes_eq (bytes k) (bytes l)) → (k : K) (v : Expansion) (entries : List (K × Expansion))
      → names_of (insert_entry eq entries k v) ≡ with_value (names_of entries) (bytes k) v
  insert-names eq same k v [] = refl
  insert-names eq same k v (entry ∷ entries) =
      ap (λ (b : Bool). names_of (cond b ((entry.0, v) ∷ entries) (entry ∷ insert_entry eq entries k v))) (same k entry.0)
      ∙ insert-by k v entry entries (insert_entry eq entries k v) (bytes_eq (bytes k) (bytes entry.0)) (insert-names eq same k v entries)

values-by : (names rest : Names) (name : List ℕ) (entry : List ℕ × Expansion) (v : Expansion) (same : Bool) → IsValue entry.1 → IsValue v → AreValues names → AreValues rest
    → AreValues (cond same ((entry.0, v) ∷ names) (entry ∷ rest))
values-by names rest name entry v true old new are later = All-cons (λ (e : List ℕ × Expansion). IsValue e.1) (entry.0, v) names new are
values-by names rest name entry v false old new are later = All-cons (λ (e : List ℕ × Expansion). IsValue e.1) entry rest old later

-- names stand for values still, once one of them has another value
pub values-with_value : (names : Names) (name : List ℕ) (v : Expansion) → AreValues names → IsValue v → AreValues (with_value names name v)
values-with_value [] name v are is = All-cons (λ (e : List ℕ × Expansion). IsValue e.1) (name, v) [] is are
values-with_value (entry ∷ names) name v are is =
    let P = λ (e : List ℕ × Expansion). IsValue e.1 in
    values-by names (with_value names name v) name entry v (bytes_eq name entry.0) (All-head P entry names are) is (All-tail P entry names are)
    (values-with_value names name v (All-tail P entry names are) is)

known_by : (found : Bool) (w v : Expansion) (later : Option Expansion) → IsValue w → (later ≡ Some v → IsValue v) → cond found (Some w) later ≡ Some v → IsValue v
known_by true w v later here there is = let same : w ≡ v = cc in subst IsValue same here
known_by false w v later here there is = there is

-- what a name stands for is a value
pub known_value : (names : Names) (name : List ℕ) (v : Expansion) → AreValues names → value_of names name ≡ Some v → IsValue v
known_value [] name v are is = absurd (cc)
known_value (entry ∷ names) name v are is =
    let P = λ (e : List ℕ × Expansion). IsValue e.1 in
    known_by (bytes_eq name entry.0) entry.1 v (value_of names name) (All-head P entry names are) (known_value names name v (All-tail P entry names are)) is

-- what a map holds after a key was inserted, or could not be, are values
pub values-inserted : {K A B : Type 0} (bytes : K → List ℕ) (eq : K → K → Bool) → ((k l : K) → eq k l ≡ bytes_eq (bytes k) (bytes l)) → (result : Result A B) (k : K) (v : Expansion) (old new : List (K × Expansion))
    → AreValues (names_of bytes old) → IsValue v → OnOk result (new ≡ insert_entry eq old k v) → OnErr result (new ≡ old) → AreValues (names_of bytes new)
values-inserted bytes eq same (Ok a) k v old new are is inserted kept =
    subst (λ (names : Names). AreValues names) (sym (ap (names_of bytes) inserted ∙ insert-names bytes eq same k v old)) (values-with_value (names_of bytes old) (bytes k) v are is)
values-inserted bytes eq same (Err b) k v old new are is inserted kept = subst (λ (names : Names). AreValues names) (sym (ap (names_of bytes) kept)) are
