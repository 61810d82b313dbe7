-- The root of a tree in its code, place by place.
use Rattle.std.proofs.Common.{◌≡◌, ℕ, zero, suc, ◌+◌, ◌-◌, ◌<◌, ◌≤◌, true, false, List, [], ◌∷◌, ◌++◌, length, take, drop, get_or, refl, sym, ◌∙◌, ap, arith}
use Rattle.std.specs.Prelude.{nat_eq, if◌then◌else◌}
use Rattle.std.proofs.lemmas.Bool.Decides.{nat_tests}
use Rattle.std.proofs.lemmas.List.{length-drop, append-nil}
use Rattle.std.proofs.Math.Seq.{drop-cons, take-suc}
use Rattle.std.proofs.lemmas.List.{append_assoc}
use Rattle.realisations.specs.Trees.{before_root, after_root}

-- the root is not among the first letters
pub record IsPast (code : List ℕ) (at : ℕ) : Type 0 where
  pub before : before_root code ≡ take at code ++ before_root (drop at code)
  pub after : after_root code ≡ after_root (drop at code)

-- the first letters are cut off by the root
pub record IsCutAt (code : List ℕ) (at : ℕ) : Type 0 where
  pub before : before_root code ≡ take at code
  pub after : after_root code ≡ drop (suc at) code

-- one more
pub one_more : (n : ℕ) → suc n ≡ n + 1
one_more n = omega arith

-- at first none was passed
pub past_none : (code : List ℕ) → IsPast code 0
past_none code = record { before = refl; after = refl }

-- a letter that is no root is passed
pub past_more : (code : List ℕ) (at : ℕ) → at < length code → (get_or code at 0 ≡ length code - at → ⊥) → IsPast code at → IsPast code (suc at)
past_more code at h other p =
    let cut : drop at code ≡ get_or code at 0 ∷ drop (suc at) code = drop-cons code at 0 h in
    let size : length (drop (suc at) code) ≡ length code - suc at = length-drop (suc at) code in
    let no : nat_eq (get_or code at 0) (suc (length (drop (suc at) code))) ≡ false = grind (arith, nat_tests, size, h, other) in
    record {
      before = p.before ∙ ap (λ v. take at code ++ before_root v) cut
          ∙ ap (λ b. take at code ++ (if b then [] else get_or code at 0 ∷ before_root (drop (suc at) code))) no
          ∙ sym (append_assoc (take at code) (get_or code at 0 ∷ []) (before_root (drop (suc at) code)))
          ∙ ap (λ v. v ++ before_root (drop (suc at) code)) (sym (take-suc code at 0 h));
      after = p.after ∙ ap after_root cut ∙ ap (λ b. if b then drop (suc at) code else after_root (drop (suc at) code)) no;
    }

-- a letter that is the number of letters from it on is the root
pub cut_here : (code : List ℕ) (at : ℕ) → at < length code → get_or code at 0 ≡ length code - at → IsPast code at → IsCutAt code at
cut_here code at h same p =
    let cut : drop at code ≡ get_or code at 0 ∷ drop (suc at) code = drop-cons code at 0 h in
    let size : length (drop (suc at) code) ≡ length code - suc at = length-drop (suc at) code in
    let yes : nat_eq (get_or code at 0) (suc (length (drop (suc at) code))) ≡ true = grind (arith, nat_tests, size, h, same) in
    record {
      before = p.before ∙ ap (λ v. take at code ++ before_root v) cut
          ∙ ap (λ b. take at code ++ (if b then [] else get_or code at 0 ∷ before_root (drop (suc at) code))) yes
          ∙ append-nil (take at code);
      after = p.after ∙ ap after_root cut ∙ ap (λ b. if b then drop (suc at) code else after_root (drop (suc at) code)) yes;
    }

-- where all letters were passed there is no root
pub past_all : (code : List ℕ) (at : ℕ) → length code ≤ at → IsPast code at → before_root code ≡ code
past_all code at h p = p.before ∙ all at code h
  where
    all : (n : ℕ) (xs : List ℕ) → length xs ≤ n → take n xs ++ before_root (drop n xs) ≡ xs
    all zero [] h = refl
    all zero (x ∷ xs) h = absurd (omega arith)
    all (suc n) [] h = refl
    all (suc n) (x ∷ xs) h = ap (λ v. x ∷ v) (all n xs (omega (arith, h)))

-- what stands after a letter
pub after_letter : (code rest : List ℕ) (at : ℕ) → rest ≡ drop (at + 1) code → rest ≡ drop (suc at) code
after_letter code rest at e = e ∙ ap (λ n. drop n code) (sym (one_more at))
