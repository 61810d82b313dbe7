use Rattle.std.proofs.Common.{◌+◌, get_or, length, subst, sym, ap, arith}
use Rattle.realisations.specs.Combinations.{Combination, norm_of}
use Rattle.compositions.specs.QuasiShuffles.{CanStandBehind, AddsBoth, AddsBehind}
use Rattle.compositions.proofs.Rows.{room, first_stands, second_stands, both_stand, product_made}
use Rattle.compositions.proofs.products.product_of.Goals as goal

pub add_both-requires-clause-room : goal.add_both-requires-clause-room
add_both-requires-clause-room c =
    let enough = room c.args.a.now c.args.b.now c.requires.some c.requires.others c.requires.factors c.args.without_first.now c.args.without_second.now c.args.without_both.now c.requires.first c.requires.second c.requires.both in
    rw c.new-out.ensures (omega (arith, enough))

pub add_both-requires-clause-first_codes : goal.add_both-requires-clause-first_codes
add_both-requires-clause-first_codes c =
    subst (λ n. CanStandBehind n c.args.without_first.now.terms) (sym c.letter-first.ensures)
    (first_stands c.args.a.now c.args.b.now c.requires.some c.requires.others c.requires.factors c.args.without_first.now c.requires.first)

pub add_both-requires-clause-second_codes : goal.add_both-requires-clause-second_codes
add_both-requires-clause-second_codes c =
    subst (λ n. CanStandBehind n c.args.without_second.now.terms) (sym c.letter-second.ensures)
    (second_stands c.args.a.now c.args.b.now c.requires.some c.requires.others c.requires.factors c.args.without_second.now c.requires.second)

pub add_behind-requires-clause-room : goal.add_behind-requires-clause-room
add_behind-requires-clause-room c =
    let enough = room c.args.a.now c.args.b.now c.requires.some c.requires.others c.requires.factors c.args.without_first.now c.args.without_second.now c.args.without_both.now c.requires.first c.requires.second c.requires.both in
    omega (arith, c.in_ok-add_both.ensures.norm, ap (λ (s : Combination). norm_of s.terms) c.new-out.ensures, enough)

pub add_behind-requires-clause-codes : goal.add_behind-requires-clause-codes
add_behind-requires-clause-codes c =
    subst (λ n. CanStandBehind n c.args.without_both.now.terms) (λ i. sym c.letter-first.ensures i + sym c.letter-second.ensures i)
    (both_stand c.args.a.now c.args.b.now c.requires.some c.requires.others c.requires.factors c.args.without_both.now c.requires.both)

pub returns : goal.returns
returns c =
    let x = get_or c.args.a.now 0 0 in
    let y = get_or c.args.b.now 0 0 in
    let ts = c.args.without_first.now.terms in
    let us = c.args.without_second.now.terms in
    let vs = c.args.without_both.now.terms in
    let both : AddsBoth x ts y us c.new-out.result c.add_both.new.out =
    subst (λ n. AddsBoth n ts y us c.new-out.result c.add_both.new.out) c.letter-first.ensures
    (subst (λ n. AddsBoth c.letter-first.result ts n us c.new-out.result c.add_both.new.out) c.letter-second.ensures c.in_ok-add_both.ensures) in
    let last : AddsBehind (x + y) vs (length vs) c.add_both.new.out c.add_behind.new.out =
    subst (λ n. AddsBehind n vs (length vs) c.add_both.new.out c.add_behind.new.out) (λ i. c.letter-first.ensures i + c.letter-second.ensures i) c.in_ok-add_behind.ensures in
    product_made c.args.a.now c.args.b.now c.requires.some c.requires.others c.requires.factors c.args.without_first.now c.args.without_second.now c.args.without_both.now c.requires.first c.requires.second c.requires.both
    c.new-out.result c.add_both.new.out c.add_behind.new.out c.finish.result (ap (λ (s : Combination). s.terms) c.new-out.ensures) (ap (λ (s : Combination). s.rank) c.new-out.ensures) both last c.finish.ensures
