-- The test of room by a power of 2.
use Rattle.std.proofs.Common.{◌≡◌, ℕ, ◌+◌, ◌-◌, ◌*◌, ◌%◌, ◌^◌, ◌<◌, ◌≤◌, ◌↔◌, IsTrue, nat_lt, sym, ◌∙◌, ap, arith}
use Rattle.std.proofs.Math.Nat.{mod-eq_of_lt, mul-lt-mul_of_pos_right, lt_of_mul-lt-mul_right}
use Rattle.std.proofs.lemmas.Bool.{ltb-true, lt-ltb}
use Rattle.std.proofs.lemmas.Nat.{pow-add, pow_pos, pow_below}

-- what `1 << (127 - shift)` computes to
pub shifted_one : (shift : ℕ) → shift ≤ 120 → 1 * 2 ^ (127 - shift) % 2 ^ 128 ≡ 2 ^ (127 - shift)
shifted_one shift small =
    let e : 1 * 2 ^ (127 - shift) ≡ 2 ^ (127 - shift) = omega arith in
    let below : 2 ^ (127 - shift) < 2 ^ 128 = pow_below (127 - shift) 128 (omega arith) in
    ap (λ n. n % 2 ^ 128) e ∙ mod-eq_of_lt below

-- a product is below the rest of the powers of 2 exactly where it is below 2 ^ 127 with its shift
pub lt-shifted : (product shift : ℕ) → shift ≤ 120 →
    IsTrue (nat_lt product (1 * 2 ^ (127 - shift) % 2 ^ 128)) ↔ (product * 2 ^ shift < 2 ^ 127)
lt-shifted product shift small =
    let whole : 2 ^ (127 - shift) * 2 ^ shift ≡ 2 ^ 127 =
    sym (pow-add 2 (127 - shift) shift) ∙ (let e : 127 - shift + shift ≡ 127 = omega arith in ap (λ n. 2 ^ n) e) in
    rw (shifted_one shift small) (
      λ test. let less : product < 2 ^ (127 - shift) = ltb-true _ _ test in
          let scaled : product * 2 ^ shift < 2 ^ (127 - shift) * 2 ^ shift = mul-lt-mul_of_pos_right less (pow_pos shift) in
          rw whole at scaled,
      λ less. let scaled : product * 2 ^ shift < 2 ^ (127 - shift) * 2 ^ shift = rw whole less in
          lt-ltb _ _ (lt_of_mul-lt-mul_right (2 ^ shift) scaled),
    )
