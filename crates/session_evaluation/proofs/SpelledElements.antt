-- Basis elements as they are spelled: each is one element, and its index is within the limit.
use Rattle.std.proofs.Common.{◌≡◌, ℕ, List, Some, sym, ◌∙◌}
use Rattle.basis_names.specs.declared.bases.BasisId.{BasisId}
use Rattle.session_tokens.specs.declared.lexeme.Lexeme.{Lexeme}
use Rattle.index_spellings.proofs.ReadBack.{spellings}
use Rattle.basis_routes.specs.Rules.{IsIndexWithin}
use Rattle.session_evaluation.specs.Elements.{Spells}

-- A list spells one index.
pub spells_once : (basis : BasisId) (items : List Lexeme) (code code' : List ℕ) → Spells basis items code → Spells basis items code' → code ≡ code'
spells_once basis items code code' h h' =
    let codes : Some code ≡ Some code' = sym h.spelled ∙ h'.spelled in
    cc

-- The index that is spelled is one of a built basis, within the limit of its algebra.
pub spelled_within : (basis : BasisId) (items : List Lexeme) (code : List ℕ) → Spells basis items code → IsIndexWithin basis code
spelled_within basis items code h =
    let within = spellings.index basis items code h.spelled in
    record { built = h.built; index = within.0; degree = within.1 }
