use Rattle.std.proofs.Common.{◌≡◌, ◌<◌, ◌∷◌, [], ◌++◌, List, ℕ, length, subst, sym, ◌∙◌, ap, arith, get_or, refl}
use mir.Syntax.{w128}
use Rattle.std.proofs.lemmas.Int.{to_z-of_z}
use Rattle.realisations.specs.Codes.{Key}
use Rattle.realisations.specs.Combinations.{term_at}
use Rattle.linear_combos.specs.Codes.{IsCode}
use Rattle.compositions.specs.QuasiShuffles.{behind}
use Rattle.compositions.proofs.Rows.{behind_more, behind_room}
use Rattle.compositions.proofs.products.add_behind.Goals as goal

pub with-front-requires : goal.with-front-requires
with-front-requires c = rw c.empty-none.ensures c.requires.letter

pub code-requires-clause-last : goal.code-requires-clause-last
code-requires-clause-last c =
    let here : c.loop-at.at < length c.args.rest.now.terms = omega (arith, c.len-at-end.ensures.value, c.loop-at-test.true) in
    let (code, is, fits) = c.requires.codes (term_at c.args.rest.now.terms c.loop-at.at).1 (c.loop-at.at, here, refl) in
    rw (c.key_at.ensures, is) (omega arith)

pub followed_by-code-requires : goal.followed_by-code-requires
followed_by-code-requires c =
    let here : c.loop-at.at < length c.args.rest.now.terms = omega (arith, c.len-at-end.ensures.value, c.loop-at-test.true) in
    let (code, is, fits) = c.requires.codes (term_at c.args.rest.now.terms c.loop-at.at).1 (c.loop-at.at, here, refl) in
    let front : c.with-front.result ≡ c.args.first ∷ [] = c.with-front.ensures ∙ ap (λ (l : List ℕ). l ++ c.args.first ∷ []) c.empty-none.ensures in
    let read : c.code.result.now ≡ code = c.code.ensures ∙ ap (λ (k : Key). get_or k 0 c.code.result.now) (c.key_at.ensures ∙ is) in
    subst (λ (l : List ℕ). IsCode (l ++ c.code.result.now)) (sym front) (subst (λ (l : List ℕ). IsCode (c.args.first ∷ l)) (sym read) fits)

pub push-requires-clause-room : goal.push-requires-clause-room
push-requires-clause-room c =
    let ts = c.args.rest.now.terms in
    let here : c.loop-at.at < length ts = omega (arith, c.len-at-end.ensures.value, c.loop-at-test.true) in
    let num = to_z-of_z w128 c.num_at.result (record { sfits = c.num_at.type_inv }) ∙ c.num_at.ensures.value in
    rw num (behind_room c.args.first ts c.loop-at.at c.args.out.now c.loop-at.out here c.loop-at.invariant c.requires.room)

pub loop-at-preserved : goal.loop-at-preserved
loop-at-preserved c =
    let ts = c.args.rest.now.terms in
    let here : c.loop-at.at < length ts = omega (arith, c.len-at-end.ensures.value, c.loop-at-test.true) in
    let (code, is, fits) = c.requires.codes (term_at ts c.loop-at.at).1 (c.loop-at.at, here, refl) in
    let num = to_z-of_z w128 c.num_at.result (record { sfits = c.num_at.type_inv }) ∙ c.num_at.ensures.value in
    let front : c.with-front.result ≡ c.args.first ∷ [] = c.with-front.ensures ∙ ap (λ (l : List ℕ). l ++ c.args.first ∷ []) c.empty-none.ensures in
    let read : c.code.result.now ≡ code = c.code.ensures ∙ ap (λ (k : Key). get_or k 0 c.code.result.now) (c.key_at.ensures ∙ is) in
    let word : c.followed_by-code.result ≡ c.args.first ∷ code = c.followed_by-code.ensures ∙ (λ i. front i ++ read i) in
    let key : c.one.result ≡ behind c.args.first (term_at ts c.loop-at.at).1 = c.one.ensures ∙ ap (λ (l : List ℕ). l ∷ []) word ∙ ap (behind c.args.first) (sym is) in
    behind_more c.args.first ts c.loop-at.at c.args.out.now c.loop-at.out c.push.new.self _ c.one.result here c.loop-at.invariant num key c.in_ok-push.ensures.same_rank c.in_ok-push.ensures.adds c.in_ok-push.ensures.norm
