use Rattle.std.proofs.Common.{◌≡◌, ◌≢◌, ◌+◌, ◌-◌, ◌≤◌, [], length, sym, ◌∙◌, ap, arith, unsigned_abs}
use mir.Syntax.{w128}
use Rattle.std.proofs.lemmas.Int.{to_z-of_z}
use Rattle.std.proofs.lemmas.Result.{on_ok_weaker}
use Rattle.change_laws.specs.Lifts.{code_at, replaced}
use Rattle.index_rules.proofs.ReplacedKeys.{code_at-read}
use Rattle.linear_combos.proofs.Weights.{norm-part}
use Rattle.realisations.specs.Codes.{Key}
use Rattle.realisations.specs.Combinations.{term_at}
use Rattle.basis_routes.proofs.KeptTerms.{term_left_out, term_room, term_kept, empty_code}
use Rattle.basis_routes.proofs.components.keep_term.Goals as goal

pub returns-then-len-ne0 : goal.returns-then-len-ne0
returns-then-len-ne0 c =
    let n = c.args.component - 1 in
    let old = c.args.value.now in
    let ranks = ap (λ (k : Key). length k) c.key_at-key.ensures ∙ c.requires.canonical.ordered.ranks c.args.at c.requires.in_range in
    let last : c.args.component ≤ length c.key_at-key.result.now = omega (arith, ranks, c.requires.last) in
    let code : c.code.result.now ≡ code_at n (term_at old.terms c.args.at).1 =
    code_at-read c.args.component c.key_at-key.result.now c.code.result.now c.requires.first last c.code.ensures ∙ ap (code_at n) c.key_at-key.ensures in
    let other : length (code_at n (term_at old.terms c.args.at).1) ≢ 0 = λ none. c.if-len-ne0.true (c.len.ensures.value ∙ ap (λ k. length k) code ∙ none) in
    term_left_out n old c.args.at c.requires.in_range c.args.out.now c.requires.kept other

pub replaced-others-requires-clause-most : goal.replaced-others-requires-clause-most
replaced-others-requires-clause-most c =
    let ranks = ap (λ (k : Key). length k) c.key_at-key.ensures ∙ c.requires.canonical.ordered.ranks c.args.at c.requires.in_range in
    omega (arith, ap (λ (k : Key). length k) c.none-none.ensures, ranks, c.requires.most)

pub push-requires-clause-room : goal.push-requires-clause-room
push-requires-clause-room c =
    let old = c.args.value.now in
    let num = to_z-of_z w128 c.num_at.result (record { sfits = c.num_at.type_inv }) ∙ c.num_at.ensures.value in
    omega (
      arith,
      ap (λ z. unsigned_abs z) num,
      term_room (c.args.component - 1) old c.args.at c.requires.in_range c.args.out.now c.requires.kept,
      norm-part old.terms (c.args.at + 1),
      c.requires.canonical.ordered.small,
    )

pub returns : goal.returns
returns c =
    let n = c.args.component - 1 in
    let old = c.args.value.now in
    let ranks = ap (λ (k : Key). length k) c.key_at-key.ensures ∙ c.requires.canonical.ordered.ranks c.args.at c.requires.in_range in
    let last : c.args.component ≤ length c.key_at-key.result.now = omega (arith, ranks, c.requires.last) in
    let code : c.code.result.now ≡ code_at n (term_at old.terms c.args.at).1 =
    code_at-read c.args.component c.key_at-key.result.now c.code.result.now c.requires.first last c.code.ensures ∙ ap (code_at n) c.key_at-key.ensures in
    let empty : code_at n (term_at old.terms c.args.at).1 ≡ [] = sym code ∙ empty_code c.code.result.now (sym c.len.ensures.value ∙ c.if-len-ne0.false) in
    let num = to_z-of_z w128 c.num_at.result (record { sfits = c.num_at.type_inv }) ∙ c.num_at.ensures.value in
    let key : c.replaced-others.result ≡ replaced n [] (term_at old.terms c.args.at).1 = c.replaced-others.ensures ∙ (λ i. replaced n (c.none-none.ensures i) (c.key_at-key.ensures i)) in
    on_ok_weaker _
    (λ adds. term_kept n old c.args.at c.requires.in_range c.args.out.now c.requires.kept c.push.new.self _ c.replaced-others.result num key empty adds c.push.ensures.norm c.push.ensures.same_rank c.push.ensures.same_den)
    c.push.ensures.adds
