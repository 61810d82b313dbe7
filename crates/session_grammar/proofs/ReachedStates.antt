-- What was read, followed by what the state still reads, is a statement, and nothing else is.
use Rattle.std.proofs.Common.{◌≡◌, ℕ, List, [], ◌∷◌, ◌++◌, Option, Some, None, refl, sym, ◌∙◌, ap, subst, append_assoc, ◌↔◌, ◌<◌, ◌+◌, length, take, slice_get, get_or, arith, drop, set, drop-cons, add-one}
use Rattle.std.proofs.lemmas.List.{append-nil, take_more, drop-set-lt}
use Rattle.std.proofs.lemmas.Option.{slice_get-get_or, slice_get_past}
use Rattle.std.proofs.Math.Seq.{take-length}
use Rattle.session_grammar.specs.declared.expression.Statement.{Statement}
use Rattle.session_tokens.specs.declared.lexeme.Lexeme.{Lexeme}
use Rattle.session_grammar.specs.declared.state.Mode.{Mode}
use Rattle.session_grammar.specs.declared.state.Stack.{Stack}
use Rattle.session_grammar.specs.Grammar.{IsStatement}
use Rattle.session_grammar.specs.ParserSteps.{State, state_with, goes, first_state, step, finish}
use Rattle.session_grammar.specs.Parses.{IsOnlyStatement, Begins, BeginsNone, IsFirstBad}
use Rattle.session_grammar.proofs.FineSteps.{IsFine, AllFine, step-fine}
use Rattle.session_grammar.proofs.StatementSteps.{Reads, ReadsOn, EndsIn, alive, step-exact, finish-exact}

-- behind these lexemes the parser is in this state
pub record IsReached (front : List Lexeme) (q : State) : Type 0 where
  pub reads : (ts : List Lexeme) (out : Statement) → IsStatement (front ++ ts) out ↔ Reads q ts out
  pub fine : IsFine q.mode

pub reached-first : IsReached [] first_state
reached-first = record { reads = λ ts out. (λ h. h, λ h. h); fine = tt }

reached-with : (front : List Lexeme) (q : State) (t : Lexeme) (new : State) (o : Option State) → o ≡ Some new → IsReached front q → AllFine o → ReadsOn (λ ts out. Reads q (t ∷ ts) out) o → IsReached (front ++ t ∷ []) new
reached-with front q t new None is r all h = absurd (cc)
reached-with front q t new (Some other) is r all h =
    let same : other ≡ new = cc in
    record {
      reads = λ ts out. (
        (λ w. subst (λ (z : State). Reads z ts out) same ((h ts out).0 ((r.reads (t ∷ ts) out).0 (rw append_assoc at w)))),
        (λ w. rw append_assoc ((r.reads (t ∷ ts) out).1 ((h ts out).1 (subst (λ (z : State). Reads z ts out) (sym same) w)))),
      );
      fine = subst (λ (z : State). IsFine z.mode) same all;
    }

-- One more lexeme is read, and the parser is in the next state.
pub reached-step : (front : List Lexeme) (q : State) (t : Lexeme) (new : State) → step q t ≡ Some new → IsReached front q → IsReached (front ++ t ∷ []) new
reached-step front q t new is r = reached-with front q t new (step q t) is r (step-fine q t) (step-exact q t r.fine)

-- Some statement begins with the lexemes that were read.
pub reached-begins : (front : List Lexeme) (q : State) → IsReached front q → Begins front
reached-begins front q r = let more = alive q.base q.mode r.fine q.below q.level in (more.0, more.1, (r.reads more.0 more.1).1 more.2)

dead-with : (front : List Lexeme) (q : State) (t : Lexeme) (o : Option State) → o ≡ None → IsReached front q → ReadsOn (λ ts out. Reads q (t ∷ ts) out) o → Begins (front ++ t ∷ []) → ⊥
dead-with front q t None is r h (more, x, w) = h more x ((r.reads (t ∷ more) x).0 (rw append_assoc at w))
dead-with front q t (Some other) is r h w = absurd (cc)

-- No statement begins with them and with the lexeme at which the parser stops.
pub reached-dead : (front : List Lexeme) (q : State) (t : Lexeme) → step q t ≡ None → IsReached front q → Begins (front ++ t ∷ []) → ⊥
reached-dead front q t is r = dead-with front q t (step q t) is r (step-exact q t r.fine)

-- Where the parser ends with a statement, the lexemes are this one alone.
pub done-with : (ls : List Lexeme) (q : State) (x : Statement) (o : Option Statement) → o ≡ Some x → IsReached ls q → EndsIn (λ out. Reads q [] out) o → IsOnlyStatement ls x
done-with ls q x None is r h = absurd (cc)
done-with ls q x (Some z) is r h =
    let same : z ≡ x = cc in
    record {
      is = subst (λ (w : Statement). IsStatement ls w) same (subst (λ (us : List Lexeme). IsStatement us z) (append-nil ls) ((r.reads [] z).1 h.0));
      only = λ y w. sym same ∙ h.1 y ((r.reads [] y).0 (subst (λ (us : List Lexeme). IsStatement us y) (sym (append-nil ls)) w));
    }

-- Where the parser ends with none, they are no statement.
pub short-with : (ls : List Lexeme) (q : State) (o : Option Statement) → o ≡ None → IsReached ls q → EndsIn (λ out. Reads q [] out) o → (y : Statement) → IsStatement ls y → ⊥
short-with ls q None is r h = λ y w. h y ((r.reads [] y).0 (subst (λ (us : List Lexeme). IsStatement us y) (sym (append-nil ls)) w))
short-with ls q (Some x) is r h = absurd (cc)

-- The parser stops at a lexeme, or goes on.
pub stops-at : (ls : List Lexeme) (i : ℕ) (t : Lexeme) (q : State) (s : Stack) (o : Option Mode) → i < length ls → t ≡ get_or ls i t → IsReached (take i ls) q
    → goes s o ≡ step q t → o ≡ None → IsFirstBad ls i
stops-at ls i t q s None short here r e is =
    let at : slice_get ls i ≡ Some t = slice_get-get_or ls i t short ∙ ap (λ (k : Lexeme). Some k) (sym here) in
    let dead : BeginsNone ls (take i ls) (Some t) = reached-dead (take i ls) q t (sym e) r in
    record {
      within = omega (arith, short);
      before = reached-begins (take i ls) q r;
      with_it = subst (λ (k : Option Lexeme). BeginsNone ls (take i ls) k) (sym at) dead;
    }
stops-at ls i t q s (Some next) short here r e is = absurd (cc)

pub goes-on : (ls : List Lexeme) (i : ℕ) (t : Lexeme) (q : State) (s : Stack) (next : Mode) (o : Option Mode) → i < length ls → t ≡ get_or ls i t → IsReached (take i ls) q
    → goes s o ≡ step q t → o ≡ Some next → IsReached (take (i + 1) ls) (state_with s next)
goes-on ls i t q s next None short here r e is = absurd (cc)
goes-on ls i t q s next (Some other) short here r e is =
    let same : other ≡ next = cc in
    let more : take (i + 1) ls ≡ take i ls ++ t ∷ [] = take_more ls i t short ∙ ap (λ (k : Lexeme). take i ls ++ k ∷ []) (sym here) in
    subst (λ (front : List Lexeme). IsReached front (state_with s next)) (sym more)
    (reached-step (take i ls) q t (state_with s next) (sym e ∙ ap (λ (z : Mode). Some (state_with s z)) same) r)

reached-all : (ls : List Lexeme) (i : ℕ) (q : State) → i ≡ length ls → IsReached (take i ls) q → IsReached ls q
reached-all ls i q is r =
    let all : take i ls ≡ ls = ap (λ (n : ℕ). take n ls) is ∙ take-length ls in
    subst (λ (front : List Lexeme). IsReached front q) all r

-- The text ends.
pub ends-short : (ls : List Lexeme) (i : ℕ) (q : State) (o : Option Statement) → i ≡ length ls → IsReached (take i ls) q → o ≡ finish q → o ≡ None → IsFirstBad ls i
ends-short ls i q o is r e none =
    let all : IsReached ls q = reached-all ls i q is r in
    let past : slice_get ls i ≡ None = slice_get_past ls i (omega (arith, is)) in
    let dead : BeginsNone ls (take i ls) None = short-with ls q (finish q) (sym e ∙ none) all (finish-exact q all.fine) in
    record {
      within = omega (arith, is);
      before = reached-begins (take i ls) q r;
      with_it = subst (λ (k : Option Lexeme). BeginsNone ls (take i ls) k) (sym past) dead;
    }

pub ends-whole : (ls : List Lexeme) (i : ℕ) (q : State) (x : Statement) (o : Option Statement) → i ≡ length ls → IsReached (take i ls) q → o ≡ finish q → o ≡ Some x → IsOnlyStatement ls x
ends-whole ls i q x o is r e some =
    let all : IsReached ls q = reached-all ls i q is r in
    done-with ls q x (finish q) (sym e ∙ some) all (finish-exact q all.fine)

-- Lexemes are taken one by one; those that are left stay as they were.
left : (ls : List Lexeme) (i : ℕ) (t : Lexeme) → i < length ls → drop i ls ≡ get_or ls i t ∷ drop (i + 1) ls
left ls i t short = rw (add-one, drop-cons ls i t) refl

pub left-first : (now ls : List Lexeme) (i : ℕ) (t : Lexeme) → i < length ls → drop i now ≡ drop i ls → length now ≡ length ls → t ≡ get_or now i t → t ≡ get_or ls i t
left-first now ls i t short same size here =
    let both : get_or now i t ∷ drop (i + 1) now ≡ get_or ls i t ∷ drop (i + 1) ls = sym (left now i t (omega (arith, short, size))) ∙ same ∙ left ls i t short in
    let heads : get_or now i t ≡ get_or ls i t = cc in
    here ∙ heads

pub left-rest : (now ls : List Lexeme) (i : ℕ) (t : Lexeme) → i < length ls → drop i now ≡ drop i ls → length now ≡ length ls → drop (i + 1) (set now i t) ≡ drop (i + 1) ls
left-rest now ls i t short same size =
    let both : get_or now i t ∷ drop (i + 1) now ≡ get_or ls i t ∷ drop (i + 1) ls = sym (left now i t (omega (arith, short, size))) ∙ same ∙ left ls i t short in
    let tails : drop (i + 1) now ≡ drop (i + 1) ls = cc in
    drop-set-lt (i + 1) now i t (omega arith) ∙ tails
