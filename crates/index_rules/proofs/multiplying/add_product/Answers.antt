use Rattle.std.proofs.Common.{◌≡◌, ◌+◌, ◌-◌, ◌≤◌, suc, [], ◌∷◌, length, subst, ◌∙◌, ap, arith, ℕ}
use mir.Syntax.{w128}
use Rattle.std.proofs.lemmas.Int.{to_z-of_z}
use Rattle.std.proofs.lemmas.Result.{on_ok_weaker}
use Rattle.basis_names.specs.declared.bases.BasisId.{BasisId}
use Rattle.change_laws.specs.Lifts.{code_at, replaced}
use Rattle.index_rules.specs.Lifts.{two_codes}
use Rattle.index_rules.specs.Rules.{IsAnswerWithin}
use Rattle.index_rules.proofs.ReplacedKeys.{code_at-read}
use Rattle.index_rules.proofs.LiftedAnswers.{AnswersKey, answer_room, answer_lifted}
use Rattle.realisations.specs.Codes.{Code, Key}
use Rattle.realisations.specs.Combinations.{term_at}
use Rattle.realisations.specs.Indices.{degree_of}
use Rattle.realisations.specs.Readings.{product, element}
use Rattle.index_rules.proofs.multiplying.add_product.Goals as goal

pub add_replaced-requires-clause-room : goal.add_replaced-requires-clause-room
add_replaced-requires-clause-room g c =
    let basis : BasisId = g.A.Space.basis in
    let k : ℕ = c.args.component - 1 in
    let key : Key = (term_at c.args.value.now.terms c.args.at).1 in
    let ranks = ap (λ (v : Key). length v) c.key_at-key.ensures ∙ c.requires.canonical.ordered.ranks c.args.at c.requires.in_range in
    let one_more : c.args.component + 1 - 1 ≡ suc k = omega (arith, c.requires.first) in
    let last : c.args.component + 1 ≤ length c.key_at-key.result.now = omega (arith, ranks, c.requires.can.here, c.requires.first) in
    let first : c.code.result.now ≡ code_at k key =
    code_at-read c.args.component c.key_at-key.result.now c.code.result.now c.requires.first (omega (arith, last)) c.code.ensures ∙ ap (code_at k) c.key_at-key.ensures in
    let second : c.code-2.result.now ≡ code_at (suc k) key =
    code_at-read (c.args.component + 1) c.key_at-key.result.now c.code-2.result.now (omega arith) last c.code-2.ensures ∙ ap (code_at (c.args.component + 1 - 1)) c.key_at-key.ensures ∙ ap (λ n. code_at n key) one_more in
    let is : AnswersKey (two_codes basis g.A.Algebra.product_growth k) key c.in_ok-answer.answer =
    subst (λ (v : Code × Code). IsAnswerWithin g.A.Algebra.product_growth (basis ∷ []) (degree_of basis v.0 + degree_of basis v.1) (product (element basis v.0) (element basis v.1)) c.in_ok-answer.answer)
    (λ i. (first i, second i)) c.in_ok-answer.ensures in
    let num = to_z-of_z w128 c.num_at.result (record { sfits = c.num_at.type_inv }) ∙ c.num_at.ensures.value in
    rw num (answer_room (two_codes basis g.A.Algebra.product_growth k) k (c.args.value.now.rank - 1) c.args.value.now.terms c.args.at c.requires.in_range c.args.out.now c.requires.lifted c.in_ok-answer.answer is c.requires.can.room)

pub returns : goal.returns
returns g c =
    let basis : BasisId = g.A.Space.basis in
    let k : ℕ = c.args.component - 1 in
    let key : Key = (term_at c.args.value.now.terms c.args.at).1 in
    let ranks = ap (λ (v : Key). length v) c.key_at-key.ensures ∙ c.requires.canonical.ordered.ranks c.args.at c.requires.in_range in
    let one_more : c.args.component + 1 - 1 ≡ suc k = omega (arith, c.requires.first) in
    let last : c.args.component + 1 ≤ length c.key_at-key.result.now = omega (arith, ranks, c.requires.can.here, c.requires.first) in
    let first : c.code.result.now ≡ code_at k key =
    code_at-read c.args.component c.key_at-key.result.now c.code.result.now c.requires.first (omega (arith, last)) c.code.ensures ∙ ap (code_at k) c.key_at-key.ensures in
    let second : c.code-2.result.now ≡ code_at (suc k) key =
    code_at-read (c.args.component + 1) c.key_at-key.result.now c.code-2.result.now (omega arith) last c.code-2.ensures ∙ ap (code_at (c.args.component + 1 - 1)) c.key_at-key.ensures ∙ ap (λ n. code_at n key) one_more in
    let is : AnswersKey (two_codes basis g.A.Algebra.product_growth k) key c.in_ok-answer.answer =
    subst (λ (v : Code × Code). IsAnswerWithin g.A.Algebra.product_growth (basis ∷ []) (degree_of basis v.0 + degree_of basis v.1) (product (element basis v.0) (element basis v.1)) c.in_ok-answer.answer)
    (λ i. (first i, second i)) c.in_ok-answer.ensures in
    let num = to_z-of_z w128 c.num_at.result (record { sfits = c.num_at.type_inv }) ∙ c.num_at.ensures.value in
    let shorter : c.replaced-shorter.result ≡ replaced (suc k) [] key =
    c.replaced-shorter.ensures ∙ (λ i. replaced (one_more i) (c.none.ensures i) (c.key_at-key.ensures i)) in
    on_ok_weaker _
    (λ adds. answer_lifted (two_codes basis g.A.Algebra.product_growth k) k (c.args.value.now.rank - 1) c.args.value.now.terms c.args.at c.requires.in_range c.args.out.now c.requires.lifted c.in_ok-answer.answer is c.add_replaced.new.out
    (rw (num, shorter) at adds))
    c.add_replaced.ensures
