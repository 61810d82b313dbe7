use Rattle.std.proofs.Common.{◌≡◌, List, ℕ, length, ◌∙◌, ap, arith}
use Rattle.std.proofs.lemmas.Result.{IfOk-weaker}
use Rattle.realisations.specs.Words.{raise, shuffles, shifted_shuffles}
use Rattle.permutation_words.proofs.ShuffledCodes.{raised_letters, shifted_by_size}
use Rattle.permutation_words.proofs.interleaving.shifted_shuffle.Goals as goal

pub raised-high-requires : goal.raised-high-requires
raised-high-requires c =
    rw (c.len.ensures.value, c.code.ensures.value, c.code-2.ensures.value) (raised_letters (length c.args.a.now) c.args.b.now c.code-2.ensures.small.permutation (omega (arith, c.requires)))

pub returns : goal.returns
returns c =
    let a = c.args.a.now in
    let b = c.args.b.now in
    let size : c.len.result ≡ length a = c.len.ensures.value ∙ ap (λ (w : List ℕ). length w) c.code.ensures.value in
    let high : c.raised-high.result ≡ raise c.len.result b = c.raised-high.ensures ∙ ap (raise c.len.result) c.code-2.ensures.value in
    let is : shuffles c.code-3.result.now c.raised-high.result ≡ shifted_shuffles a b =
    ap (λ w. shuffles w c.raised-high.result) c.code-3.ensures.value ∙ shifted_by_size a b c.raised-high.result c.len.result c.code.ensures.small.permutation size high in
    IfOk-weaker c.shuffles.result (λ codes. codes ≡ shuffles c.code-3.result.now c.raised-high.result) (λ codes. codes ≡ shifted_shuffles a b) (λ codes h. h ∙ is) c.shuffles.ensures
