use Rattle.std.proofs.Common.{◌≡◌, ℕ, List, ◌++◌, ap, sym, ◌∙◌, append_assoc}
use Rattle.std.proofs.lemmas.Result.{on_ok_weaker}
use Rattle.basis_names.specs.Bases.{name_of_algebra}
use Rattle.hopf.proofs.refusal.push_algebras.Goals as goal

-- two texts behind two others
both : (out a b c d : List ℕ) → (out ++ (a ++ b)) ++ (c ++ d) ≡ out ++ (a ++ b ++ c ++ d)
both out a b c d = append_assoc out (a ++ b) (c ++ d) ∙ ap (λ (text : List ℕ). out ++ text) (sym (append_assoc (a ++ b) c d))

pub returns : goal.returns
returns c =
    let before : List ℕ = c.args.before.now in
    let between : List ℕ = c.args.between.now in
    on_ok_weaker {P = c.push_both-2.new.out ≡ c.push_both.new.out ++ (between ++ c.algebra_name-2.result.now)} {Q = c.push_both-2.new.out ≡ c.args.out.now ++ (before ++ name_of_algebra c.args.a ++ between ++ name_of_algebra c.args.b)} c.push_both-2.result
    (λ e.
    e
    ∙ ap (λ (text : List ℕ). text ++ (between ++ c.algebra_name-2.result.now)) c.in_ok-push_both.ensures
    ∙ ap (λ (name : List ℕ). (c.args.out.now ++ (before ++ name)) ++ (between ++ c.algebra_name-2.result.now)) c.algebra_name.ensures
    ∙ ap (λ (name : List ℕ). (c.args.out.now ++ (before ++ name_of_algebra c.args.a)) ++ (between ++ name)) c.algebra_name-2.ensures
    ∙ both c.args.out.now before (name_of_algebra c.args.a) between (name_of_algebra c.args.b))
    c.push_both-2.ensures
