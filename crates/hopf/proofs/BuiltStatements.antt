-- A statement of the grammar in which nothing is refused is built.
use Rattle.std.proofs.Common.{◌≡◌, ℕ, suc, Bool, true, false, ◌||◌, List, [], ◌∷◌, Option, Some, None, refl, arith}
use Rattle.std.specs.Prelude.{not}
use Rattle.std.proofs.lemmas.Bool.{leb-false}
use Rattle.basis_names.specs.declared.bases.BasisId.{BasisId}
use Rattle.built_bases.specs.Table.{is_built as is_built_basis}
use Rattle.session_tokens.specs.declared.lexeme.Lexeme.{Lexeme}
use Rattle.session_grammar.specs.declared.expression.Expr.{Expr}
use Rattle.session_grammar.specs.declared.expression.Factor.{Factor}
use Rattle.session_grammar.specs.declared.expression.Signed.{Signed}
use Rattle.session_grammar.specs.declared.expression.Statement.{Statement}
use Rattle.session_grammar.specs.Grammar.{IsList, empty_list, full_list, AreItems, last_item, one_item, IsItem, number_item, list_item, inside, factor, signed, product_of, tensor_of, sum_of_one, sum_of, Ending, bare, numbered, Atom, number, named, element, convert, apply, pair, along, group, Factors, no_factors, times, over, Product, product, Products, no_products, hash, Tensor, tensor, Tensors, no_tensors, plus, minus, Sum, sum, negative, IsStatement, nothing as empty, assign, print, equal}
use Rattle.built_forms.specs.Forms.{is_built_map, begins_unbuilt}
use Rattle.index_spellings.specs.Indices.{index_in, is_nothing, begins_bad_list}
use Rattle.session_reading.specs.Faults.{begins_large, IsUnseen}
use Rattle.session_reading.specs.Parses.{IsSound}
use Rattle.session_evaluation.specs.Built.{IsBuilt, built_number, built_element, built_name, built_conversion, built_function, built_sum, built_tensor, built_product, AreBuilt, no_steps, built_step, IsBuiltStatement, nothing, printed, assigned, compared}
use Rattle.session_evaluation.specs.Evaluation.{steps_of_sum, steps_of_tensor, steps_of_product}
use Rattle.session_grammar.specs.declared.expression.Expr.TheVariants as e

-- Nothing is seen in lexemes that are refused for nothing, nor in what is left of them.
abbrev pub IsClean : List Lexeme → Type 0
IsClean [] = Unit {0}
IsClean (t ∷ ts) = (begins_large (t ∷ ts) ≡ false) × (begins_unbuilt (t ∷ ts) ≡ false) × (begins_bad_list (t ∷ ts) ≡ false) × IsClean ts

unseen_clean : (ls : List Lexeme) → IsUnseen begins_large ls → IsUnseen begins_unbuilt ls → IsUnseen begins_bad_list ls → IsClean ls
unseen_clean [] small built indices = tt
unseen_clean (t ∷ ts) small built indices = (
  small 0 (omega arith),
  built 0 (omega arith),
  indices 0 (omega arith),
  unseen_clean ts (λ j less. small (suc j) (omega (arith, less))) (λ j less. built (suc j) (omega (arith, less))) (λ j less. indices (suc j) (omega (arith, less))),
)

-- What is seen is not unseen.
seen_unseen : true ≡ false → ⊥
seen_unseen h = absurd (cc)

-- Lists.
mutual
  list_rest : {ts r : List Lexeme} → IsList ts r → IsClean ts → IsClean r
  list_rest empty_list clean = clean.3
  list_rest (full_list h) clean = items_rest h clean

  items_rest : {ts r : List Lexeme} → AreItems ts r → IsClean ts → IsClean r
  items_rest (last_item h) clean = (item_rest h clean).3
  items_rest (one_item h more) clean = items_rest more (item_rest h clean).3

  item_rest : {ts r : List Lexeme} → IsItem ts r → IsClean ts → IsClean r
  item_rest number_item clean = clean.3
  item_rest (list_item h) clean = list_rest h clean.3

-- A basis that is not seen as one that is not built is built.
seen_built : (built : Bool) → not built ≡ false → built ≡ true
seen_built true seen = refl
seen_built false seen = absurd (seen_unseen seen)

-- A list that is not bad spells an index.
spelled_index : (index : Option (List ℕ)) → is_nothing index ≡ false → (code : List ℕ) × (index ≡ Some code)
spelled_index (Some code) seen = (code, refl)
spelled_index None seen = absurd (seen_unseen seen)

element_built : (basis : BasisId) (items : List Lexeme) → not (is_built_basis basis) ≡ false → is_nothing (index_in basis items) ≡ false → IsBuilt (e.Element basis items)
element_built basis items built indexed =
    let code = spelled_index (index_in basis items) indexed in
    built_element {code = code.0} (record { built = seen_built (is_built_basis basis) built; spelled = code.1 })

-- So is one that is not seen as that of a conversion that is not built.
seen_conversion : (built : Bool) → (not built || false) ≡ false → built ≡ true
seen_conversion true seen = refl
seen_conversion false seen = absurd (seen_unseen seen)

-- The number of a component, and the end.
ending_rest : {ts r : List Lexeme} {k : Option ℕ} → Ending ts r k → IsClean ts → IsClean r
ending_rest bare clean = clean.3
ending_rest numbered clean = clean.3.3.3

-- Expressions of one part, and of more.
product_built : (f : Factor) (fs : List Factor) → IsBuilt f.value → AreBuilt (steps_of_product fs) → IsBuilt (product_of (f ∷ fs))
product_built f [] h more = h
product_built f (g ∷ fs) h more = built_product f (g ∷ fs) h more

tensor_built : (x : Expr) (es : List Expr) → IsBuilt x → AreBuilt (steps_of_tensor es) → IsBuilt (tensor_of (x ∷ es))
tensor_built x [] h more = h
tensor_built x (y ∷ es) h more = built_tensor x (y ∷ es) h more

one_built : (m : Bool) (p : Signed) → IsBuilt p.value → IsBuilt (sum_of_one m p)
one_built true p h = built_sum p [] h no_steps
one_built false p h = h

parts_built : (p : Signed) (ps : List Signed) → IsBuilt p.value → AreBuilt (steps_of_sum ps) → IsBuilt (sum_of (p ∷ ps))
parts_built p [] h more = one_built p.minus p h
parts_built p (q ∷ ps) h more = built_sum p (q ∷ ps) h more

-- What is read from lexemes in which nothing is seen is built, and nothing is seen in what is left.
mutual
  atom_read : {ts r : List Lexeme} {x : Expr} → Atom ts r x → IsClean ts → IsBuilt x × IsClean r
  atom_read number clean = (built_number (leb-false _ _ clean.0), clean.3)
  atom_read named clean = (built_name, clean.3)
  atom_read (element {b = b} {ts = ts} here) clean = (element_built b (inside 0 ts) clean.1 clean.2, list_rest here clean.3.3)
  atom_read (convert {b = b} h ending) clean =
      let inner = sum_read h clean.3.3 in (built_conversion (seen_conversion (is_built_basis b) clean.1) inner.0, ending_rest ending inner.1)
  atom_read (apply {f = f} h ending) clean =
      let inner = sum_read h clean.3.3 in (built_function (seen_built (is_built_map f) clean.1) inner.0, ending_rest ending inner.1)
  atom_read (pair h k) clean = absurd (seen_unseen clean.1)
  atom_read (along h through) clean = absurd (seen_unseen clean.1)
  atom_read (group h) clean = let inner = sum_read h clean.3 in (inner.0, inner.1.3)

  factors_read : {ts r : List Lexeme} {fs : List Factor} → Factors ts r fs → IsClean ts → AreBuilt (steps_of_product fs) × IsClean r
  factors_read no_factors clean = (no_steps, clean)
  factors_read (times h more) clean = let first = atom_read h clean.3 in let rest = factors_read more first.1 in (built_step first.0 rest.0, rest.1)
  factors_read (over h more) clean = let first = atom_read h clean.3 in let rest = factors_read more first.1 in (built_step first.0 rest.0, rest.1)

  product_read : {ts r : List Lexeme} {x : Expr} → Product ts r x → IsClean ts → IsBuilt x × IsClean r
  product_read (product {x = x} {fs = fs} h more) clean =
      let first = atom_read h clean in let rest = factors_read more first.1 in (product_built (factor false x) fs first.0 rest.0, rest.1)

  products_read : {ts r : List Lexeme} {es : List Expr} → Products ts r es → IsClean ts → AreBuilt (steps_of_tensor es) × IsClean r
  products_read no_products clean = (no_steps, clean)
  products_read (hash h more) clean = let first = product_read h clean.3 in let rest = products_read more first.1 in (built_step first.0 rest.0, rest.1)

  tensor_read : {ts r : List Lexeme} {x : Expr} → Tensor ts r x → IsClean ts → IsBuilt x × IsClean r
  tensor_read (tensor {x = x} {es = es} h more) clean =
      let first = product_read h clean in let rest = products_read more first.1 in (tensor_built x es first.0 rest.0, rest.1)

  tensors_read : {ts r : List Lexeme} {ps : List Signed} → Tensors ts r ps → IsClean ts → AreBuilt (steps_of_sum ps) × IsClean r
  tensors_read no_tensors clean = (no_steps, clean)
  tensors_read (plus h more) clean = let first = tensor_read h clean.3 in let rest = tensors_read more first.1 in (built_step first.0 rest.0, rest.1)
  tensors_read (minus h more) clean = let first = tensor_read h clean.3 in let rest = tensors_read more first.1 in (built_step first.0 rest.0, rest.1)

  sum_read : {ts r : List Lexeme} {x : Expr} → Sum ts r x → IsClean ts → IsBuilt x × IsClean r
  sum_read (sum {x = x} {ps = ps} h more) clean =
      let first = tensor_read h clean in let rest = tensors_read more first.1 in (parts_built (signed false x) ps first.0 rest.0, rest.1)
  sum_read (negative {x = x} {ps = ps} h more) clean =
      let first = tensor_read h clean.3 in let rest = tensors_read more first.1 in (parts_built (signed true x) ps first.0 rest.0, rest.1)

statement_read : {ls : List Lexeme} {st : Statement} → IsStatement ls st → IsClean ls → IsBuiltStatement st
statement_read empty clean = nothing
statement_read (assign is h) clean = assigned (sum_read h clean.3.3).0
statement_read (print h) clean = printed (sum_read h clean).0
statement_read (equal h more) clean = let first = sum_read h clean in compared first.0 (sum_read more first.1.3).0

pub sound_built : (ls : List Lexeme) (st : Statement) → IsSound ls st → IsBuiltStatement st
sound_built ls st h = statement_read h.statement.is (unseen_clean ls h.flawless.small h.flawless.built h.flawless.indices)
