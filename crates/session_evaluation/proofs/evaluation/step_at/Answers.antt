use Rattle.std.proofs.Common.{if◌then◌else◌, refl, ◌∙◌, ap}
use Rattle.session_grammar.specs.declared.expression.Expr.{Expr}
use Rattle.session_grammar.specs.declared.expression.Factor.{Factor}
use Rattle.session_grammar.specs.declared.expression.Signed.{Signed}
use Rattle.hopf_ops.specs.declared.operator.Operator.TheVariants.{Plus, Minus, Hash, Times, Over}
use Rattle.session_evaluation.specs.EvaluationSteps.{steps_in, steps_of}
use Rattle.session_grammar.proofs.expression.Expr.TheLaws.{the_size}
use Rattle.session_grammar.proofs.expression.Factor.TheLaws.{the_size as factor_size}
use Rattle.session_grammar.proofs.expression.Signed.TheLaws.{the_size as signed_size}
use Rattle.session_evaluation.proofs.BuiltForms.{out-sum, out-tensor, out-product}
use Rattle.session_evaluation.proofs.StepReads.{step_read, read_at_most, sum_smaller, tensor_smaller, product_smaller}
use Rattle.session_evaluation.proofs.evaluation.step_at.Goals as goal

pub returns-in-Sum-clause-step : goal.returns-in-Sum-clause-step
returns-in-Sum-clause-step c =
    let are = ap steps_of c.in-Sum.is ∙ ap steps_in (out-sum c.in-Sum.parts) in
    step_read (λ (p : Signed). (if p.minus then Minus else Plus, p.value)) c.args.x.now c.in-Sum.parts c.as_slice.result.now c.args.i c.index-as_slice-i.result c.step_of_part.result.0 c.step_of_part.result.1.now are c.as_slice.ensures c.requires c.index-as_slice-i.is (λ k. (c.step_of_part.ensures.operator k, c.step_of_part.ensures.operand k))

pub returns-in-Sum-clause-smaller : goal.returns-in-Sum-clause-smaller
returns-in-Sum-clause-smaller c =
    let are = ap steps_of c.in-Sum.is ∙ ap steps_in (out-sum c.in-Sum.parts) in
    let deep = read_at_most (λ (p : Signed). signed_size p) (λ (p : Signed). (if p.minus then Minus else Plus, p.value)) c.args.x.now c.in-Sum.parts c.as_slice.result.now c.args.i c.index-as_slice-i.result are c.as_slice.ensures c.requires c.index-as_slice-i.is in
    sum_smaller c.args.x.now c.step_of_part.result.1.now c.in-Sum.parts c.index-as_slice-i.result c.in-Sum.is deep c.step_of_part.ensures.operand

pub returns-in-Tensor-clause-step : goal.returns-in-Tensor-clause-step
returns-in-Tensor-clause-step c =
    let are = ap steps_of c.in-Tensor.is ∙ ap steps_in (out-tensor c.in-Tensor.parts) in
    step_read (λ (p : Expr). (Hash, p)) c.args.x.now c.in-Tensor.parts c.as_slice-in-Tensor.result.now c.args.i c.index-as_slice-i-in-Tensor.result Hash c.index-as_slice-i-in-Tensor.result are c.as_slice-in-Tensor.ensures c.requires c.index-as_slice-i-in-Tensor.is refl

pub returns-in-Tensor-clause-smaller : goal.returns-in-Tensor-clause-smaller
returns-in-Tensor-clause-smaller c =
    let are = ap steps_of c.in-Tensor.is ∙ ap steps_in (out-tensor c.in-Tensor.parts) in
    let deep = read_at_most (λ (p : Expr). the_size p) (λ (p : Expr). (Hash, p)) c.args.x.now c.in-Tensor.parts c.as_slice-in-Tensor.result.now c.args.i c.index-as_slice-i-in-Tensor.result are c.as_slice-in-Tensor.ensures c.requires c.index-as_slice-i-in-Tensor.is in
    tensor_smaller c.args.x.now c.index-as_slice-i-in-Tensor.result c.in-Tensor.parts c.in-Tensor.is deep

pub returns-in-Product-clause-step : goal.returns-in-Product-clause-step
returns-in-Product-clause-step c =
    let are = ap steps_of c.in-Product.is ∙ ap steps_in (out-product c.in-Product.parts) in
    step_read (λ (p : Factor). (if p.divides then Over else Times, p.value)) c.args.x.now c.in-Product.parts c.as_slice-in-Product.result.now c.args.i c.index-as_slice-i-in-Product.result c.step_of_factor.result.0 c.step_of_factor.result.1.now are c.as_slice-in-Product.ensures c.requires c.index-as_slice-i-in-Product.is (λ k. (c.step_of_factor.ensures.operator k, c.step_of_factor.ensures.operand k))

pub returns-in-Product-clause-smaller : goal.returns-in-Product-clause-smaller
returns-in-Product-clause-smaller c =
    let are = ap steps_of c.in-Product.is ∙ ap steps_in (out-product c.in-Product.parts) in
    let deep = read_at_most (λ (p : Factor). factor_size p) (λ (p : Factor). (if p.divides then Over else Times, p.value)) c.args.x.now c.in-Product.parts c.as_slice-in-Product.result.now c.args.i c.index-as_slice-i-in-Product.result are c.as_slice-in-Product.ensures c.requires c.index-as_slice-i-in-Product.is in
    product_smaller c.args.x.now c.step_of_factor.result.1.now c.in-Product.parts c.index-as_slice-i-in-Product.result c.in-Product.is deep c.step_of_factor.ensures.operand
