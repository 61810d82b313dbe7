use Rattle.std.proofs.Common.{◌≡◌, ◌+◌, ◌^◌, ◌<◌, [], ◌∷◌, ◌++◌, length, unsigned_abs, subst, sym, ◌∙◌, ap}
use Rattle.std.specs.Int.{IsGcd}
use Rattle.std.proofs.lemmas.Int.{to_z-of_z}
use Rattle.realisations.specs.Combinations.{norm_of}
use Rattle.linear_combos.specs.Combos.{IsGapFor}
use Rattle.linear_combos.proofs.LowestCombos.{IsUnreduced-push}
use mir.Syntax.{w128}
use Rattle.linear_combos.proofs.unreduced.Unreduced.put_last.Goals as goal

pub invariant_of-self-2 : goal.invariant_of-self-2
invariant_of-self-2 c =
    let value = to_z-of_z w128 c.args.num c.ranges.num in
    let terms : c.self.inside.terms.items ≡ c.args.self.now.terms = ap (λ s. s.terms) c.self.view_is in
    let rank : c.args.self.now.rank ≡ c.self.inside.rank = ap (λ s. s.rank) (sym c.self.view_is) in
    let gap : IsGapFor c.self.inside.terms.items c.args.key (length c.self.inside.terms.items) = rw terms c.requires.last in
    let room : norm_of c.self.inside.terms.items + unsigned_abs c.args.num < 2 ^ 127 = rw terms c.requires.room in
    let items : c.push.new.self.items ≡ c.self.inside.terms.items ++ (c.args.num, c.args.key) ∷ [] =
    c.in_ok-push.ensures.items ∙ ap (λ n. c.self.inside.terms.items ++ (n, c.args.key) ∷ []) value in
    let size : c.unsigned_abs.result ≡ unsigned_abs c.args.num = c.unsigned_abs.ensures.value ∙ ap unsigned_abs value in
    let size-2 : c.unsigned_abs-2.result ≡ unsigned_abs c.args.num = c.unsigned_abs-2.ensures.value ∙ ap unsigned_abs value in
    let common : IsGcd (unsigned_abs c.args.num) c.self.inside.common c.gcd-self-inside.result = subst (λ n. IsGcd n c.self.inside.common c.gcd-self-inside.result) size-2 c.gcd-self-inside.ensures in
    rw (items, size)
    (IsUnreduced-push c.self.inside.rank c.self.inside.den c.self.inside.terms.items c.self.inside.norm c.self.inside.common c.gcd-self-inside.result c.args.num c.args.key
    c.self.invariant gap c.requires.nonzero (c.requires.rank ∙ rank) room common)
