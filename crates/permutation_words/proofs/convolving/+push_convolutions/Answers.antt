use Rattle.std.proofs.Common.{◌≡◌, ◌<◌, ◌≤◌, ◌⊎◌, ◌∷◌, [], ◌++◌, ◌∙◌, ap, sym, subst, arith, inl, inr}
use Rattle.std.proofs.lemmas.Result.{on_ok_weaker}
use Rattle.realisations.specs.Words.{greatest}
use Rattle.word_laws.specs.AddedCodes.{AddsEach}
use Rattle.word_laws.specs.Merges.{IsConvolutionPast}
use Rattle.word_laws.proofs.Convolutions.{convolution_end}
use Rattle.permutation_words.proofs.ConvolvedCodes.{convolved, greatest_later, greatest_more, joined_code, later_front, more_front, raised_back_code, raised_front_code}
use Rattle.permutation_words.proofs.convolving.+push_convolutions.Goals as goal
use Rattle.permutation_words.proofs.convolving.+push_convolutions.Goals.{then-greatest_letter-n-via-then-greatest_letter-n, then-greatest_letter-n-via-else-greatest_letter-n+then-greatest_letter-n-2}

pub followed_by-requires : goal.followed_by-requires
followed_by-requires t c =
    joined_code c.args.n c.args.u.now c.args.v.now c.requires
    (elim c.then-greatest_letter-n.branch [
      | then-greatest_letter-n-via-then-greatest_letter-n w ↦ inl (omega arith)
      | then-greatest_letter-n-via-else-greatest_letter-n+then-greatest_letter-n-2 w ↦ inr (omega arith)
    ])

pub returns-then-greatest_letter-n : goal.returns-then-greatest_letter-n
returns-then-greatest_letter-n t c =
    let low : (greatest c.args.u.now ≤ c.args.n) ⊎ (greatest c.args.v.now ≤ c.args.n) = elim c.then-greatest_letter-n.branch [
      | then-greatest_letter-n-via-then-greatest_letter-n w ↦ inl (omega arith)
      | then-greatest_letter-n-via-else-greatest_letter-n+then-greatest_letter-n-2 w ↦ inr (omega arith)
    ] in
    on_ok_weaker
    {P = c.push.new.self ≡ c.args.out.now ++ c.followed_by.result ∷ []}
    {Q = AddsEach (IsConvolutionPast c.args.n c.args.u.now c.args.v.now) c.args.out.now c.push.new.self}
    c.push.result
    (λ h. subst (AddsEach (IsConvolutionPast c.args.n c.args.u.now c.args.v.now) c.args.out.now) (sym (h ∙ ap (λ w. c.args.out.now ++ w ∷ []) c.followed_by.ensures))
    (convolution_end c.args.n c.args.u.now c.args.v.now c.requires c.args.out.now low))
    c.push.ensures.ok

pub raise_letters_past-later-requires : goal.raise_letters_past-later-requires
raise_letters_past-later-requires t c = raised_back_code c.args.n c.args.u.now c.args.v.now c.requires (omega arith) (omega arith)

pub push_convolutions-requires : goal.push_convolutions-requires
push_convolutions-requires t c =
    let past_u : c.args.n < greatest c.args.u.now = omega arith in
    let past_v : c.args.n < greatest c.args.v.now = omega arith in
    let is = c.raise_letters_past-later.ensures in (
      omega (arith, greatest_later c.args.n c.args.u.now c.args.v.now c.requires past_u past_v c.raise_letters_past-later.result is),
      later_front c.args.n c.args.u.now c.args.v.now c.requires past_u past_v c.raise_letters_past-later.result is,
    )

pub raise_letters_past-more-requires : goal.raise_letters_past-more-requires
raise_letters_past-more-requires t c = raised_front_code c.args.n c.args.u.now c.args.v.now c.requires (omega arith) (omega arith)

pub push_convolutions-requires-2 : goal.push_convolutions-requires-2
push_convolutions-requires-2 t c =
    let past_u : c.args.n < greatest c.args.u.now = omega arith in
    let past_v : c.args.n < greatest c.args.v.now = omega arith in
    let is = c.raise_letters_past-more.ensures in (
      omega (arith, greatest_more c.args.n c.args.u.now c.args.v.now c.requires past_u past_v c.raise_letters_past-more.result is),
      more_front c.args.n c.args.u.now c.args.v.now c.requires past_u past_v c.raise_letters_past-more.result is,
    )

pub returns : goal.returns
returns t c =
    on_ok_weaker _
    (λ h. convolved c.args.n c.args.u.now c.args.v.now c.requires (omega arith) (omega arith) c.args.out.now c.push_convolutions.new.out c.push_convolutions-2.new.out
    c.raise_letters_past-later.result c.raise_letters_past-more.result c.raise_letters_past-later.ensures c.raise_letters_past-more.ensures c.in_ok-push_convolutions.ensures h)
    c.push_convolutions-2.ensures
