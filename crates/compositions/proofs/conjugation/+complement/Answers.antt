use Rattle.std.proofs.Common.{◌≡◌, ◌-◌, ◌≤◌, ◌++◌, List, ℕ, length, drop, get_or, replicate, sym, ◌∙◌, ap, subst, arith, length-drop}
use Rattle.linear_combos.specs.Codes.{IsCode}
use Rattle.linear_combos.proofs.Words.{IsCode-right}
use Rattle.realisations.specs.Descents.{complement, longer_first}
use Rattle.compositions.specs.Sizes.{IsSmallComposition}
use Rattle.compositions.proofs.SmallCodes.{complement-last, complement-more, complement-some, small-complement, small-rest, small_code}
use Rattle.compositions.proofs.conjugation.+complement.Goals as goal

-- the complement of a composition with two parts or more, in its two pieces, is a code
pieces : (parts : List ℕ) → IsCode (complement parts) → 2 ≤ length parts → IsCode (replicate (get_or parts 0 0 - 1) 1 ++ longer_first (complement (drop 1 parts)))
pieces parts h le = subst IsCode (complement-more parts le) h

pub first_longer-rest-requires-clause-some : goal.first_longer-rest-requires-clause-some
first_longer-rest-requires-clause-some t c =
    let parts : List ℕ = c.args.parts.now in
    let behind : c.suffix-behind.result ≡ drop 1 parts = c.suffix-behind.ensures in
    subst (λ ps. 1 ≤ length ps) (sym (c.complement.ensures.value ∙ ap complement behind))
    (complement-some (drop 1 parts) (small-rest parts c.requires) (subst (λ ps. 1 ≤ length ps) behind (omega arith)))

pub first_longer-rest-requires-clause-longer : goal.first_longer-rest-requires-clause-longer
first_longer-rest-requires-clause-longer t c =
    let parts : List ℕ = c.args.parts.now in
    let behind : c.suffix-behind.result ≡ drop 1 parts = c.suffix-behind.ensures in
    subst (λ ps. IsCode (longer_first ps)) (sym (c.complement.ensures.value ∙ ap complement behind))
    (IsCode-right (replicate (get_or parts 0 0 - 1) 1) (longer_first (complement (drop 1 parts)))
    (pieces parts (small_code (complement parts) (small-complement parts c.requires)) (omega (arith, ap length behind, length-drop 1 parts))))

pub followed_by-requires : goal.followed_by-requires
followed_by-requires t c =
    let parts : List ℕ = c.args.parts.now in
    let behind : c.suffix-behind.result ≡ drop 1 parts = c.suffix-behind.ensures in
    let front : c.ones-front.result ≡ replicate (get_or parts 0 0 - 1) 1 = c.ones-front.ensures ∙ ap (λ k. replicate (k - 1) 1) (c.from-first.ensures ∙ c.letter.ensures) in
    let back : c.first_longer-rest.result ≡ longer_first (complement (drop 1 parts)) = c.first_longer-rest.ensures ∙ ap longer_first (c.complement.ensures.value ∙ ap complement behind) in
    subst IsCode (λ i. (sym front) i ++ (sym back) i) (pieces parts (small_code (complement parts) (small-complement parts c.requires)) (omega (arith, ap length behind, length-drop 1 parts)))

pub returns-then-len-eq0-2-clause-small : goal.returns-then-len-eq0-2-clause-small
returns-then-len-eq0-2-clause-small t c =
    let parts : List ℕ = c.args.parts.now in
    let behind : c.suffix-behind.result ≡ drop 1 parts = c.suffix-behind.ensures in
    subst IsSmallComposition (sym (c.ones.ensures ∙ ap (λ k. replicate k 1) (c.from-first.ensures ∙ c.letter.ensures) ∙ sym (complement-last parts (omega (arith, ap length behind, length-drop 1 parts)))))
    (small-complement parts c.requires)

pub returns-clause-small : goal.returns-clause-small
returns-clause-small t c =
    let parts : List ℕ = c.args.parts.now in
    let behind : c.suffix-behind.result ≡ drop 1 parts = c.suffix-behind.ensures in
    let front : c.ones-front.result ≡ replicate (get_or parts 0 0 - 1) 1 = c.ones-front.ensures ∙ ap (λ k. replicate (k - 1) 1) (c.from-first.ensures ∙ c.letter.ensures) in
    let back : c.first_longer-rest.result ≡ longer_first (complement (drop 1 parts)) = c.first_longer-rest.ensures ∙ ap longer_first (c.complement.ensures.value ∙ ap complement behind) in
    subst IsSmallComposition (sym (c.followed_by.ensures ∙ (λ i. front i ++ back i) ∙ sym (complement-more parts (omega (arith, ap length behind, length-drop 1 parts))))) (small-complement parts c.requires)
