use Rattle.std.proofs.Common.{◌≡◌, negsuc, subst, sym, ◌∙◌}
use Rattle.hopf_num.specs.Fractions.{Ratio}
use Rattle.linear_combos.specs.Combos.{IsMultiple}
use Rattle.hopf_laws.specs.Values.{Expands, reading_of}
use Rattle.hopf_ops.specs.ReadingOperations.{negative}
use Rattle.hopf_ops.proofs.MultiplesOfValues.{multiple_value, multiple_reads}
use Rattle.hopf_ops.proofs.multiples.negated.Goals as goal

-- the fraction -1
abbrev sign : Ratio
sign = record { num = negsuc 0; den = 1 }

pub over-requires : goal.over-requires
over-requires c =
    let multiple : IsMultiple c.args.a.combination sign c.scaled_with_room-combo.result = rw (← c.into_parts-bases.ensures.combination, ← c.minus_one.ensures) c.scaled_with_room-combo.ensures.multiple in
    rw c.into_parts-bases.ensures.bases (multiple_value c.args.a sign c.scaled_with_room-combo.result c.into_parts-bases.ensures.value multiple c.scaled_with_room-combo.ensures.canonical)

pub returns : goal.returns
returns c =
    let multiple : IsMultiple c.args.a.combination sign c.scaled_with_room-combo.result = rw (← c.into_parts-bases.ensures.combination, ← c.minus_one.ensures) c.scaled_with_room-combo.ensures.multiple in
    let value = multiple_value c.args.a sign c.scaled_with_room-combo.result c.into_parts-bases.ensures.value multiple c.scaled_with_room-combo.ensures.canonical in
    let made : c.over.result ≡ record { bases = c.args.a.bases; combination = c.scaled_with_room-combo.result } = c.over.ensures ∙ (λ i. record { bases = c.into_parts-bases.ensures.bases i; combination = c.scaled_with_room-combo.result }) in
    let expands : Expands c.args.a.bases (negative (reading_of c.args.a)) (record { bases = c.args.a.bases; combination = c.scaled_with_room-combo.result }) =
    record { value = value; over = λ i. c.args.a.bases; reads = λ ps points. multiple_reads c.args.a sign c.scaled_with_room-combo.result multiple ps } in
    subst (Expands c.args.a.bases (negative (reading_of c.args.a))) (sym made) expands
