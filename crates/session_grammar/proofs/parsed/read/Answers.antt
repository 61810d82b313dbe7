use Rattle.std.proofs.Common.{◌≡◌, ◌<◌, ◌∙◌, sym, ap, subst, take, length, ℕ, arith, slice_index_or}
use Rattle.std.proofs.lemmas.List.{length-set}
use Rattle.session_tokens.specs.declared.lexeme.Lexeme.{Lexeme}
use Rattle.session_grammar.specs.ParserSteps.{state_with}
use Rattle.session_grammar.proofs.ReachedStates.{IsReached, stops-at, goes-on, ends-short, ends-whole, left-first, left-rest}
use Rattle.session_grammar.proofs.parsed.read.Goals as goal

pub returns-in-None : goal.returns-in-None
returns-in-None c =
    let short : c.loop-place.place < length c.args.lexemes.items = omega (arith, c.len-count.ensures, c.loop-place-test.true) in
    let found : c.replace-lexeme.result ≡ slice_index_or c.loop-place.lexemes.items c.loop-place.place c.replace-lexeme.result = c.replace-lexeme.ensures.value ∙ c.index_mut.ensures.value ∙ ap (λ (d : Lexeme). slice_index_or c.loop-place.lexemes.items c.loop-place.place d) (sym c.replace-lexeme.ensures.value) in
    let here = left-first c.loop-place.lexemes.items c.args.lexemes.items c.loop-place.place c.replace-lexeme.result short c.loop-place.invariant.1 c.loop-place.invariant.2 found in
    stops-at c.args.lexemes.items c.loop-place.place c.replace-lexeme.result (state_with c.loop-place.stack c.loop-place.mode) c.step.new.self c.in_ok-step.field-0 short here c.loop-place.invariant.0 c.in_ok-step.ensures c.in-None.is

pub loop-place-preserved : goal.loop-place-preserved
loop-place-preserved c =
    let short : c.loop-place.place < length c.args.lexemes.items = omega (arith, c.len-count.ensures, c.loop-place-test.true) in
    let found : c.replace-lexeme.result ≡ slice_index_or c.loop-place.lexemes.items c.loop-place.place c.replace-lexeme.result = c.replace-lexeme.ensures.value ∙ c.index_mut.ensures.value ∙ ap (λ (d : Lexeme). slice_index_or c.loop-place.lexemes.items c.loop-place.place d) (sym c.replace-lexeme.ensures.value) in
    let here = left-first c.loop-place.lexemes.items c.args.lexemes.items c.loop-place.place c.replace-lexeme.result short c.loop-place.invariant.1 c.loop-place.invariant.2 found in (
      goes-on c.args.lexemes.items c.loop-place.place c.replace-lexeme.result (state_with c.loop-place.stack c.loop-place.mode) c.step.new.self c.in-Some.next c.in_ok-step.field-0 short here c.loop-place.invariant.0 c.in_ok-step.ensures c.in-Some.is,
      left-rest c.loop-place.lexemes.items c.args.lexemes.items c.loop-place.place _ short c.loop-place.invariant.1 c.loop-place.invariant.2,
      length-set c.loop-place.lexemes.items c.loop-place.place _ ∙ c.loop-place.invariant.2,
    )

pub returns-in-None-2 : goal.returns-in-None-2
returns-in-None-2 c =
    let all : c.len-count.result ≡ length c.args.lexemes.items = omega (arith, c.len-count.ensures) in
    let at : c.loop-place.place ≡ c.len-count.result = omega (arith, c.loop-place.auto.place-end, c.loop-place-test.false) in
    ends-short c.args.lexemes.items c.len-count.result (state_with c.loop-place.stack c.loop-place.mode) c.in_ok-finish.field-0 all
    (subst (λ (i : ℕ). IsReached (take i c.args.lexemes.items) (state_with c.loop-place.stack c.loop-place.mode)) at c.loop-place.invariant.0) c.in_ok-finish.ensures c.in-None-2.is

pub returns : goal.returns
returns c =
    let all : c.len-count.result ≡ length c.args.lexemes.items = omega (arith, c.len-count.ensures) in
    let at : c.loop-place.place ≡ c.len-count.result = omega (arith, c.loop-place.auto.place-end, c.loop-place-test.false) in
    ends-whole c.args.lexemes.items c.len-count.result (state_with c.loop-place.stack c.loop-place.mode) c.in-Some-2.statement c.in_ok-finish.field-0 all
    (subst (λ (i : ℕ). IsReached (take i c.args.lexemes.items) (state_with c.loop-place.stack c.loop-place.mode)) at c.loop-place.invariant.0) c.in_ok-finish.ensures c.in-Some-2.is
