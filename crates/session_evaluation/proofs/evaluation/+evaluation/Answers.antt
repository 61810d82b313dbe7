use Rattle.std.proofs.Common.{◌≡◌, ◌+◌, List, [], Ok, Err, drop, subst, arith}
use Rattle.std.proofs.lemmas.List.{nil_from_length, length-drop}
use Rattle.std.proofs.lemmas.Result.{err_from_is_err_and}
use Rattle.session_tokens.specs.declared.lexeme.Lexeme.{Lexeme}
use Rattle.hopf_laws.specs.Values.{Expansion}
use Rattle.basis_routes.specs.Conversions.{ConversionRow}
use Rattle.session_grammar.specs.declared.expression.Expr.{Expr}
use Rattle.session_evaluation.specs.Evaluation.{OrMemory, Allows, Evaluates}
use Rattle.session_evaluation.specs.Functions.{place_of, LinearRow}
use Rattle.session_evaluation.specs.EvaluationSteps.{IsElement, held, answer_of, steps_of}
use Rattle.session_evaluation.proofs.EvaluationSteps.{renamed, number_evaluates, element_evaluates, conversion_evaluates, conversion_refused, function_evaluates, function_refused, kept, takes_step, refused_step, Remains, remains_built, remains_step, remains_refused, remains_done, Begun, begins, begun_built, begun_refused, sign_refused, begun_remains}
use Rattle.session_grammar.specs.declared.expression.Expr.TheVariants as e
use Rattle.session_evaluation.proofs.evaluation.+evaluation.Goals as goal

pub operand_of-returns-in-Named : goal.operand_of-returns-in-Named
operand_of-returns-in-Named t c = renamed c.args.names.now c.args.x.now (e.Named c.in-Named.name) (answer_of c.named.result) c.in-Named.is c.named.ensures

pub value_of-returns-in-Number : goal.value_of-returns-in-Number
value_of-returns-in-Number t c =
    renamed c.args.names.now c.args.x.now (e.Number c.in-Number.number) c.value_of_number.result c.in-Number.is
    (number_evaluates c.args.names.now c.in-Number.number c.value_of_number.result c.value_of_number.ensures)

pub value_of-returns-in-Element : goal.value_of-returns-in-Element
value_of-returns-in-Element t c =
    renamed c.args.names.now c.args.x.now (e.Element c.in-Element.basis c.in-Element.items) c.value_of_element.result c.in-Element.is
    (element_evaluates c.args.names.now c.in-Element.basis c.in-Element.items c.value_of_element.result
    (subst (λ (items : List Lexeme). OrMemory (IsElement c.in-Element.basis items) c.value_of_element.result) c.as_slice.ensures c.value_of_element.ensures))

pub value_of_operation-operand_of-requires : goal.value_of_operation-operand_of-requires
value_of_operation-operand_of-requires t c =
    let begun = subst (Begun c.args.names.now c.args.x.now) c.step_at-sign.ensures.step (begins c.args.names.now c.args.x.now c.requires.built c.requires.some) in
    (omega (arith, c.step_at-sign.ensures.smaller), begun_built c.args.names.now c.args.x.now c.step_at-sign.result.0 c.step_at-sign.result.1.now (drop 1 (steps_of c.args.x.now)) begun)

pub value_of_operation-returns-in_err-first : goal.value_of_operation-returns-in_err-first
value_of_operation-returns-in_err-first t c =
    let begun = subst (Begun c.args.names.now c.args.x.now) c.step_at-sign.ensures.step (begins c.args.names.now c.args.x.now c.requires.built c.requires.some) in
    let p = err_from_is_err_and c.from_residual.result c.from_residual.ensures.1 in
    rw (p.1, p.2) (begun_refused c.args.names.now c.args.x.now c.step_at-sign.result.0 c.step_at-sign.result.1.now (drop 1 (steps_of c.args.x.now)) c.in_err-first.field-0.0 begun c.in_err-first.ensures)

pub value_of_operation-returns-in_err-value : goal.value_of_operation-returns-in_err-value
value_of_operation-returns-in_err-value t c =
    let begun = subst (Begun c.args.names.now c.args.x.now) c.step_at-sign.ensures.step (begins c.args.names.now c.args.x.now c.requires.built c.requires.some) in
    let p = err_from_is_err_and c.from_residual-in_err-value.result c.from_residual-in_err-value.ensures.1 in
    rw (p.1, p.2) (sign_refused c.args.names.now c.args.x.now c.step_at-sign.result.0 c.step_at-sign.result.1.now (drop 1 (steps_of c.args.x.now)) (held c.in_ok-first.first) c.in_err-value.field-0.0 begun c.in_ok-first.ensures c.in_err-value.ensures)

pub value_of_operation-loop-i-init : goal.value_of_operation-loop-i-init
value_of_operation-loop-i-init t c =
    let begun = subst (Begun c.args.names.now c.args.x.now) c.step_at-sign.ensures.step (begins c.args.names.now c.args.x.now c.requires.built c.requires.some) in
    begun_remains c.args.names.now c.args.x.now c.step_at-sign.result.0 c.step_at-sign.result.1.now (drop 1 (steps_of c.args.x.now)) (held c.in_ok-first.first) (held c.in_ok-value.value) begun c.in_ok-first.ensures c.in_ok-value.ensures

pub value_of_operation-operand_of-requires-in-loop-i : goal.value_of_operation-operand_of-requires-in-loop-i
value_of_operation-operand_of-requires-in-loop-i t c =
    let remains = subst (Remains c.args.names.now c.args.x.now (held c.loop-i.value)) c.step_at-operator.ensures.step c.loop-i.invariant in
    (omega (arith, c.step_at-operator.ensures.smaller), remains_built c.args.names.now c.args.x.now (held c.loop-i.value) c.step_at-operator.result.0 c.step_at-operator.result.1.now (drop (c.loop-i.i + 1) (steps_of c.args.x.now)) remains)

pub value_of_operation-returns-in_err-next : goal.value_of_operation-returns-in_err-next
value_of_operation-returns-in_err-next t c =
    let remains = subst (Remains c.args.names.now c.args.x.now (held c.loop-i.value)) c.step_at-operator.ensures.step c.loop-i.invariant in
    let p = err_from_is_err_and c.from_residual-in_err-next.result c.from_residual-in_err-next.ensures.1 in
    rw (p.1, p.2) (remains_refused c.args.names.now c.args.x.now (held c.loop-i.value) c.step_at-operator.result.0 c.step_at-operator.result.1.now (drop (c.loop-i.i + 1) (steps_of c.args.x.now)) c.in_err-next.field-0.0 remains (refused_step c.args.names.now c.step_at-operator.result.0 (held c.loop-i.value) c.step_at-operator.result.1.now c.in_err-next.field-0.0 c.in_err-next.ensures))

pub value_of_operation-returns-in_err-operate : goal.value_of_operation-returns-in_err-operate
value_of_operation-returns-in_err-operate t c =
    let remains = subst (Remains c.args.names.now c.args.x.now (held c.loop-i.value)) c.step_at-operator.ensures.step c.loop-i.invariant in
    let p = err_from_is_err_and c.from_residual-in_err-operate.result c.from_residual-in_err-operate.ensures.1 in
    rw (p.1, p.2) (remains_refused c.args.names.now c.args.x.now (held c.loop-i.value) c.step_at-operator.result.0 c.step_at-operator.result.1.now (drop (c.loop-i.i + 1) (steps_of c.args.x.now)) c.in_err-operate.field-0.0 remains
    (takes_step c.args.names.now c.step_at-operator.result.0 (held c.loop-i.value) (held c.in_ok-next.next) c.step_at-operator.result.1.now (Err c.in_err-operate.field-0.0) c.in_ok-next.ensures c.in_err-operate.ensures))

pub value_of_operation-loop-i-preserved : goal.value_of_operation-loop-i-preserved
value_of_operation-loop-i-preserved t c =
    let remains = subst (Remains c.args.names.now c.args.x.now (held c.loop-i.value)) c.step_at-operator.ensures.step c.loop-i.invariant in
    remains_step c.args.names.now c.args.x.now (held c.loop-i.value) c.in_ok-operate.field-0 c.step_at-operator.result.0 c.step_at-operator.result.1.now (drop (c.loop-i.i + 1) (steps_of c.args.x.now)) remains
    (takes_step c.args.names.now c.step_at-operator.result.0 (held c.loop-i.value) (held c.in_ok-next.next) c.step_at-operator.result.1.now (Ok c.in_ok-operate.field-0) c.in_ok-next.ensures c.in_ok-operate.ensures)

pub value_of_operation-returns : goal.value_of_operation-returns
value_of_operation-returns t c =
    let none : drop c.loop-i.i (steps_of c.args.x.now) ≡ [] = nil_from_length (drop c.loop-i.i (steps_of c.args.x.now)) (omega (arith, length-drop c.loop-i.i (steps_of c.args.x.now), c.count_of_steps-i-end.ensures, c.loop-i-test.false)) in
    kept (Evaluates c.args.names.now c.args.x.now) (held c.loop-i.value) c.owned.result (remains_done c.args.names.now c.args.x.now (held c.loop-i.value) (subst (Remains c.args.names.now c.args.x.now (held c.loop-i.value)) none c.loop-i.invariant)) c.owned.ensures

pub value_of_conversion-returns-in_err-operand : goal.value_of_conversion-returns-in_err-operand
value_of_conversion-returns-in_err-operand t c =
    let p = err_from_is_err_and c.from_residual.result c.from_residual.ensures.1 in
    rw (p.1, p.2) (conversion_refused c.args.names.now c.args.to c.args.x.now c.args.at c.in_err-operand.field-0.0 c.in_err-operand.ensures)

pub value_of_conversion-returns : goal.value_of_conversion-returns
value_of_conversion-returns t c =
    conversion_evaluates c.args.names.now c.args.to c.args.x.now c.args.at (held c.in_ok-operand.operand) c.converted.result c.in_ok-operand.ensures
    (subst (λ (a : Expansion). OrMemory (Allows (ConversionRow (place_of c.args.at) c.args.to a)) c.converted.result) c.value.ensures c.converted.ensures)

pub value_of_function-returns-in_err-operand : goal.value_of_function-returns-in_err-operand
value_of_function-returns-in_err-operand t c =
    let p = err_from_is_err_and c.from_residual.result c.from_residual.ensures.1 in
    rw (p.1, p.2) (function_refused c.args.names.now c.args.map c.args.x.now c.args.at c.in_err-operand.field-0.0 c.in_err-operand.ensures)

pub value_of_function-returns : goal.value_of_function-returns
value_of_function-returns t c =
    function_evaluates c.args.names.now c.args.map c.args.x.now c.args.at (held c.in_ok-operand.operand) c.mapped.result c.in_ok-operand.ensures
    (subst (λ (a : Expansion). OrMemory (Allows (LinearRow c.args.map (place_of c.args.at) a)) c.mapped.result) c.value.ensures c.mapped.ensures)

pub value_of-returns-in-Convert : goal.value_of-returns-in-Convert
value_of-returns-in-Convert t c =
    renamed c.args.names.now c.args.x.now (e.Convert c.in-Convert.to c.in-Convert.value c.in-Convert.at) c.value_of_conversion.result c.in-Convert.is
    (subst (λ (y : Expr). OrMemory (Evaluates c.args.names.now (e.Convert c.in-Convert.to y c.in-Convert.at)) c.value_of_conversion.result) c.get.ensures c.value_of_conversion.ensures)

pub value_of-returns-in-Apply : goal.value_of-returns-in-Apply
value_of-returns-in-Apply t c =
    renamed c.args.names.now c.args.x.now (e.Apply c.in-Apply.map c.in-Apply.value c.in-Apply.at) c.value_of_function.result c.in-Apply.is
    (subst (λ (y : Expr). OrMemory (Evaluates c.args.names.now (e.Apply c.in-Apply.map y c.in-Apply.at)) c.value_of_function.result) c.get-in-Apply.ensures c.value_of_function.ensures)
